-- Set after set, the parts add up. Assumes nothing.
use mathlib.Core.Path.{sym, ◌∙◌}
use native.Mathlib.Omega.{arith}
use Rattle.games.specs.internal.Actions.{actions_of}
use Rattle.games.proofs.Totals.{total_none}
use Rattle.games.proofs.Counts.{actions-counted}
use Rattle.tree_refusals.proofs.Parts.{rest_all, rest_none, part_inside, next_part, sum_differs, sum_agrees}
use Rattle.games.specs.internal.Numbered.{numbered}
use Rattle.tree_refusals.proofs.checks.adds_up.Goals as goal

pub loop-set-init : goal.loop-set-init
loop-set-init c = let g = numbered c.args.game in (total_none (actions_of g), rest_all c.args.d (actions_of g) c.args.table.now)

pub overflow_add-end : goal.overflow_add-end
overflow_add-end c = let h = part_inside (numbered c.args.game) c.args.table.now c.loop-set.set c.loop-set.at c.actions.result c.requires (omega (arith, c.sets-set-end.ensures))
    c.loop-set.invariant.0 c.actions.ensures.0 in omega arith

pub slice_bounds-part_sum-end : goal.slice_bounds-part_sum-end
slice_bounds-part_sum-end c = part_inside (numbered c.args.game) c.args.table.now c.loop-set.set c.loop-set.at c.actions.result c.requires (omega (arith, c.sets-set-end.ensures))
    c.loop-set.invariant.0 c.actions.ensures.0

pub returns-then-part_sum-d : goal.returns-then-part_sum-d
returns-then-part_sum-d c = sum_differs (numbered c.args.game) c.args.table.now c.loop-set.set c.loop-set.at c.actions.result c.requires (omega (arith, c.sets-set-end.ensures))
    c.loop-set.invariant.0 c.actions.ensures.0 _ _ c.loop-set.invariant.1 c.part_sum.ensures c.if-part_sum-d.true

pub loop-set-preserved : goal.loop-set-preserved
loop-set-preserved c = let g = numbered c.args.game in (
  next_part g c.args.table.now c.loop-set.set c.loop-set.at c.actions.result c.requires (omega (arith, c.sets-set-end.ensures))
      c.loop-set.invariant.0 c.actions.ensures.0,
  sum_agrees g c.args.table.now c.loop-set.set c.loop-set.at c.actions.result c.requires (omega (arith, c.sets-set-end.ensures))
      c.loop-set.invariant.0 c.actions.ensures.0 _ _ c.loop-set.invariant.1 c.part_sum.ensures c.if-part_sum-d.false,
)

pub returns : goal.returns
returns c = let g = numbered c.args.game in
    sym (c.loop-set.invariant.1 ∙ rest_none c.args.d (actions_of g) c.args.table.now c.loop-set.set
    (rw (actions-counted g) (omega (arith, c.sets-set-end.ensures))))

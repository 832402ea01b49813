-- Units, then the root's value, less what was lifted. Assumes nothing.
use mir.Val.{to_z, of_z}
use mir.Syntax.{w64}
use mathlib.Core.Path.{◌≡◌, ◌∙◌}
use borrow.Author.Rules.{rules}
use Rattle.games.specs.internal.Numbered.{numbered}
use Rattle.units_best.proofs.Staging as staging
use Rattle.units_best.proofs.best_value.Goals as goal

pub value-sum-requires : goal.value-sum-requires
value-sum-requires c =
    let t = c.args.table.now in
    staging.walks (numbered t.tree.game) t.parts c.args.seat t.entries.now t.accepted c.requires.1 _ c.search_of-search.ensures.seat

pub lowered-requires : goal.lowered-requires
lowered-requires c =
    let t = c.args.table.now in let u = c.root_units-u.ensures in let s = c.search_of-search.ensures in
    let o = rw (s.others, s.seat, s.reach, c.shares_of.ensures.0, c.shares_of.ensures.1) at c.collect.ensures in
    let r = rw s.kept at c.clear.ensures in
    let v = rw (s.seat, s.heads, s.reach, s.kept) at c.value-sum.ensures in (
      u.1,
      staging.few_sum (numbered t.tree.game) t.parts c.args.seat t.entries.now t.accepted c.requires.1 _ u _ c.entries.ensures _ _ _ _
          c.requires.0.0 c.requires.0.1 o r _ v,
    )

pub returns : goal.returns
returns c =
    let t = c.args.table.now in let g = numbered t.tree.game in let D = t.parts in let i = c.args.seat in let a = t.accepted in let l = c.requires.1 in
    let u = c.root_units-u.ensures in let s = c.search_of-search.ensures in
    let E = c.entries.ensures in
    let o = rw (s.others, s.seat, s.reach, c.shares_of.ensures.0, c.shares_of.ensures.1) at c.collect.ensures in
    let r = rw s.kept at c.clear.ensures in
    let v = rw (s.seat, s.heads, s.reach, s.kept) at c.value-sum.ensures in
    let whole : to_z w64 (of_z w64 c.lowered.result) ≡ c.lowered.result = search rules in
    let best = staging.is_best g D i t.entries.now a l _ u _ E _ _ _ _ c.requires.0.0 c.requires.0.1 o r _ v _ (whole ∙ c.lowered.ensures) in (
      best,
      staging.unbeaten g D i t.entries.now a l _ best,
      staging.is_staged g D i t.entries.now a l _ u _ E _ _ _ _ c.requires.0.0 c.requires.0.1 o r _ v,
      staging.is_stored g D i t.entries.now a l _ u _ E _ _ _ _ c.requires.0.0 c.requires.0.1 o r _ v,
    )

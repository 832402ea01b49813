-- The tree, then the output. Assumes nothing.
use mathlib.Core.Path.{refl}
use Rattle.refusals.proofs.Order.{settled_so, settled-behind}
use Rattle.tree_refusals.proofs.Exits.{settled_exit}
use mathlib.Core.Path.{sym, ◌∙◌}
use native.Mathlib.Omega.{arith}
use Rattle.games.specs.internal.Numbered.{numbered}
use Rattle.games.proofs.Numbered.{has-seats}
use Rattle.games.proofs.Facts.{counted_games}
use Rattle.games.proofs.Counts.{sets-bounded}
use Rattle.tree_refusals.proofs.check_listing.Goals as goal

pub returns-in_err-tree-clause-refused : goal.returns-in_err-tree-clause-refused
returns-in_err-tree-clause-refused c = settled_exit _ _ _ _ c.from_residual.ensures.1 c.in_err-tree.ensures.refused

pub overflow_mul-sets : goal.overflow_mul-sets
overflow_mul-sets c = let v = c.in_ok-tree.tree.game in omega (arith, c.sets.ensures, sets-bounded (numbered v) (has-seats v))

pub returns-in_err-check_output-clause-refused : goal.returns-in_err-check_output-clause-refused
returns-in_err-check_output-clause-refused c = let v = c.in_ok-tree.tree.game in
    let n = c.sets.ensures ∙ sym (counted_games (numbered v) (has-seats v)).1 in
    settled_exit _ _ _ _ c.from_residual-in_err-check_output.ensures.1
    (settled-behind _ _ tt c.in_ok-tree.ensures.refused refl (rw c.in_ok-tree.ensures.made at (rw n at c.in_err-check_output.ensures)))

pub returns-clause-refused : goal.returns-clause-refused
returns-clause-refused c = let v = c.in_ok-tree.tree.game in
    let n = c.sets.ensures ∙ sym (counted_games (numbered v) (has-seats v)).1 in
    settled_so (λ p. (p.0.0, p.1))
    (settled-behind _ _ tt c.in_ok-tree.ensures.refused refl (rw c.in_ok-tree.ensures.made at (rw n at c.in_ok-check_output.ensures)))

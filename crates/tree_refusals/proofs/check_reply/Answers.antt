-- The tree, the seat, the table, the output. Assumes nothing.
use mathlib.Core.Path.{refl, sym, ◌∙◌}
use Rattle.refusals.proofs.Order.{settled_so, settled-behind}
use Rattle.games.specs.internal.Numbered.{numbered}
use Rattle.games.proofs.Numbered.{has-seats}
use Rattle.games.proofs.Facts.{entries_are}
use Rattle.tree_refusals.proofs.Exits.{settled_exit}
use Rattle.tree_refusals.proofs.check_reply.Goals as goal

pub returns-in_err-tree-clause-refused : goal.returns-in_err-tree-clause-refused
returns-in_err-tree-clause-refused c = settled_exit _ _ _ _ c.from_residual.ensures.1 c.in_err-tree.ensures.refused

pub returns-in_err-table-clause-refused : goal.returns-in_err-table-clause-refused
returns-in_err-table-clause-refused c = let q = c.in_ok-tree.ensures.made in
    settled_exit _ _ _ _ c.from_residual-in_err-table.ensures.1
    (settled-behind _ _ tt c.in_ok-tree.ensures.refused refl
    (settled-behind _ _ tt (rw q at c.in_ok-check_seat.ensures) refl (rw q at c.in_err-table.ensures.refused)))

pub returns-in_err-check_output-clause-refused : goal.returns-in_err-check_output-clause-refused
returns-in_err-check_output-clause-refused c = let q = c.in_ok-tree.ensures.made in let v = c.in_ok-tree.tree.game in
    let n = c.entries.ensures ∙ sym (entries_are (numbered v) (has-seats v)) in
    settled_exit _ _ _ _ c.from_residual-in_err-check_output.ensures.1
    (settled-behind _ _ tt c.in_ok-tree.ensures.refused refl (settled-behind _ _ tt (rw q at c.in_ok-check_seat.ensures) refl
    (settled-behind _ _ tt (rw q at c.in_ok-table.ensures.refused) refl (rw q at (rw n at c.in_err-check_output.ensures)))))

pub returns-clause-refused : goal.returns-clause-refused
returns-clause-refused c = let q = c.in_ok-tree.ensures.made in let v = c.in_ok-tree.tree.game in
    let n = c.entries.ensures ∙ sym (entries_are (numbered v) (has-seats v)) in
    settled_so (λ p. (p.1.1.0, p.0.1, p.1.0, p.1.1.1))
    (settled-behind _ _ tt c.in_ok-tree.ensures.refused refl (settled-behind _ _ tt (rw q at c.in_ok-check_seat.ensures) refl
    (settled-behind _ _ tt (rw q at c.in_ok-table.ensures.refused) refl (rw q at (rw n at c.in_ok-check_output.ensures)))))

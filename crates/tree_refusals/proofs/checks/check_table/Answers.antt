-- The parts, then the entries of a table. Assumes nothing.
use mathlib.Core.Path.{refl}
use Rattle.refusals.proofs.Order.{settled-behind}
use Rattle.tree_refusals.proofs.Exits.{settled_exit}
use Rattle.tree_refusals.proofs.checks.check_table.Goals as goal

pub returns-in_err-check_parts-clause-refused : goal.returns-in_err-check_parts-clause-refused
returns-in_err-check_parts-clause-refused c = settled_exit _ _ _ _ c.from_residual.ensures.1 c.in_err-check_parts.ensures

pub returns-in_err-check_entries-clause-refused : goal.returns-in_err-check_entries-clause-refused
returns-in_err-check_entries-clause-refused c = settled_exit _ _ _ _ c.from_residual-in_err-check_entries.ensures.1
    (settled-behind _ _ tt c.in_ok-check_parts.ensures refl c.in_err-check_entries.ensures)

pub invariant_of-result : goal.invariant_of-result
invariant_of-result c =
    let l = c.in_ok-check_parts.ensures.passed refl in
    record { accepted = record { game = c.args.tree.known; least = l.0; most = l.1; valid = c.in_ok-check_entries.ensures.passed refl } }

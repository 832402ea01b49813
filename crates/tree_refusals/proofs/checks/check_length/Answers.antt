-- The length of a table or a profile. Assumes nothing.
use mathlib.Core.Path.{ap, sym, ◌∙◌}
use mathlib.Core.Bool.{not}
use borrow.Author.Tests.{eq-eqb, ne_eqb}
use Rattle.refusals.proofs.Order.{one_refuses, one_passes}
use Rattle.games.proofs.Facts.{entries_are}
use Rattle.games.specs.internal.Numbered.{numbered}
use Rattle.games.proofs.Numbered.{has-seats}
use Rattle.tree_refusals.proofs.checks.check_length.Goals as goal

pub returns-then-n-entries : goal.returns-then-n-entries
returns-then-n-entries c = let e = c.entries.ensures ∙ sym (entries_are (numbered c.args.game) (has-seats c.args.game)) in
    one_refuses (ap not (ne_eqb _ _ (λ q. c.if-n-entries.true (q ∙ sym e))))

pub returns : goal.returns
returns c = let e = c.if-n-entries.false ∙ c.entries.ensures ∙ sym (entries_are (numbered c.args.game) (has-seats c.args.game)) in
    one_passes (ap not (eq-eqb _ _ e)) e

-- Whether a seat has folded in a round. Assumes nothing.
use mathlib.Core.Path.{sym}
use native.Mathlib.Omega.{arith}
use borrow.Author.Tests.{eq-eqb}
use Rattle.prelude.proofs.Tests.{both, some_here}
use Rattle.leduc_rules.specs.Rules.{folds}
use Rattle.leduc_money.proofs.folded_by.Goals as goal

pub returns-then-a-eq-FOLD : goal.returns-then-a-eq-FOLD
unfolding folds
returns-then-a-eq-FOLD c = sym (some_here _ _ c.loop-i.i (omega arith) (both (eq-eqb _ _ c.if-i-seat.true) (eq-eqb _ _ c.if-a-eq-FOLD.true)))

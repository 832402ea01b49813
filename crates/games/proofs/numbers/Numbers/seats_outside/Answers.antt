-- The range of the seat count. Assumes nothing.
use mathlib.Core.Path.{sym, ◌∙◌}
use lib.Dec.{ltb}
use borrow.Author.Tests.{lt-ltb, le-ltb}
use Rattle.prelude.proofs.Tests.{or_left, or_rest}
use native.Mathlib.Omega.{arith}
use Rattle.games.proofs.numbers.Numbers.seats_outside.Goals as goal

pub returns-in-0-2-to-10 : goal.returns-in-0-2-to-10
returns-in-0-2-to-10 c = rw (c.in-0-2-to-10.is-0, sym (or_rest _ (le-ltb c.args.self.seats 2 (omega arith)) ∙ le-ltb 10 c.args.self.seats (omega arith)))

pub returns-in-0-default : goal.returns-in-0-default
returns-in-0-default c = rw (c.in-0-default.is-0, sym (or_left (ltb 10 c.args.self.seats) (lt-ltb c.args.self.seats 2 (omega arith))))

pub returns-in-0-default-2 : goal.returns-in-0-default-2
returns-in-0-default-2 c = rw (c.in-0-default.is-0, sym (or_rest _ (le-ltb c.args.self.seats 2 (omega arith)) ∙ lt-ltb 10 c.args.self.seats (omega arith)))

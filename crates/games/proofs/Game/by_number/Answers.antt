-- The checks of a number and a seat count. Assumes nothing.
use borrow.Author.Tests.{lt-ltb, le-ltb}
use Rattle.prelude.proofs.Tests.{or_left, or_rest}
use mathlib.Core.Path.{◌∙◌}
use native.Mathlib.Omega.{arith}
use Rattle.games.proofs.Game.by_number.Goals as goal

pub returns-in-0-2-to-10-clause-refused : goal.returns-in-0-2-to-10-clause-refused
returns-in-0-2-to-10-clause-refused c = rw (c.in-0-2-to-10.is-0, or_rest _ (le-ltb c.args.seats 2 (omega arith)) ∙ le-ltb 10 c.args.seats (omega arith))

pub returns-in-0-default-clause-refused : goal.returns-in-0-default-clause-refused
returns-in-0-default-clause-refused c = rw (c.in-0-default.is-0, or_left _ (lt-ltb c.args.seats 2 (omega arith)))

pub returns-in-0-default-2-clause-refused : goal.returns-in-0-default-2-clause-refused
returns-in-0-default-2-clause-refused c = rw (c.in-0-default.is-0, or_rest _ (le-ltb c.args.seats 2 (omega arith)) ∙ lt-ltb 10 c.args.seats (omega arith))

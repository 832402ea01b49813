-- The actions of a set. Assumes nothing.
use mathlib.Core.Path.{◌∙◌}
use native.Mathlib.Omega.{arith}
use Rattle.games.specs.Games.{game_of}
use Rattle.games.proofs.Counts.{kuhn-actions, leduc-actions}
use Rattle.games.proofs.numbers.Numbers.actions.Goals as goal

pub returns-in-0 : goal.returns-in-0
returns-in-0 c = (kuhn-actions (game_of c.args.self.number c.args.self.seats) c.in-0.is c.args.set c.requires, omega arith)

pub returns-in_default : goal.returns-in_default
returns-in_default c = (c.actions.ensures.0 ∙ leduc-actions (game_of c.args.self.number c.args.self.seats) (λ e. omega arith) c.args.set, c.actions.ensures.1)

-- The actions of a set. Assumes nothing.
use mathlib.Core.Path.{ap, ◌∙◌}
use native.Mathlib.Omega.{arith}
use Rattle.games.specs.internal.Numbered.{numbered}
use Rattle.games.proofs.Counts.{kuhn-actions, leduc-actions}
use Rattle.games.proofs.Game.actions.Goals as goal

pub returns-in-Kuhn : goal.returns-in-Kuhn
returns-in-Kuhn c = (kuhn-actions (numbered c.args.self) (ap (λ g. (numbered g).number) c.in-Kuhn.is) c.args.set c.requires, omega arith)

pub returns-in-Leduc : goal.returns-in-Leduc
returns-in-Leduc c = (c.actions.ensures.0 ∙ leduc-actions (numbered c.args.self) (rw c.in-Leduc.is (λ e. omega arith)) c.args.set, c.actions.ensures.1)

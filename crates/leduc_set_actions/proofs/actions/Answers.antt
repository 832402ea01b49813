-- A set's bit. Assumes nothing.
use native.Mathlib.Omega.{arith}
use Rattle.leduc_set_actions.proofs.Facts.{threes, actions_at_lem}
use Rattle.leduc_set_actions.proofs.actions.Goals as goal

pub returns : goal.returns
unfolding threes
returns c = (actions_at_lem c.args.set c.requires, omega arith)

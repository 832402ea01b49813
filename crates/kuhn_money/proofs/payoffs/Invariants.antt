-- The payoffs of the seats passed; 0 past them. Assumes nothing.
use mathlib.Core.Path.{◌≡◌}
use lib.ListN.{length}
use Rattle.kuhn_rules.proofs.Winner.{paid_up_to}
use Rattle.kuhn_money.proofs.payoffs.Given as goal

abbrev pub invariant-loop-player : goal.invariant-loop-player
invariant-loop-player l = l.out ≡ paid_up_to (length l.cards) l.cards l.history l.player

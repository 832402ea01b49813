-- The highest card among the seats passed that stand. Assumes nothing.
use lib.ListN.{length}
use Rattle.kuhn_rules.specs.internal.Highest.{Highest}
use Rattle.kuhn_money.proofs.highest.Given as goal

abbrev pub invariant-loop-player : goal.invariant-loop-player
invariant-loop-player l = Highest (length l.cards) l.history l.cards l.player l.top

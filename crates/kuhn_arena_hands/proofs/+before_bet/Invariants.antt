-- A hand without a bet. The measure is the seats to act. Assumes nothing.
use Rattle.std.proofs.Common.{◌-◌, length}
use Rattle.kuhn_arena_hands.proofs.+before_bet.Given as goal

abbrev pub decreases-before_bet : goal.decreases-before_bet
decreases-before_bet l = length l.cards.now - l.seat

-- A hand with a bet. The measure is the actions to come. Assumes nothing.
use Rattle.kuhn_arena_bets.proofs.+after_bet.Given as goal

abbrev pub decreases-after_bet : goal.decreases-after_bet
decreases-after_bet l = l.left

-- FOLD, CALL and RAISE after a raise. The measure is how many raises may still come. Assumes nothing.
use Rattle.leduc_arena_rounds.proofs.+after_raise.Given as goal

abbrev pub decreases-after_raise : goal.decreases-after_raise
decreases-after_raise g l = l.raised.left

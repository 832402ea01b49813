-- The seat counts that a game has (document 01, number 2).
use Rattle.std.specs.Prelude.{Bool, not, cond, eqb, ltb}
use Rattle.prelude.specs.Finite.{◌or◌}
use Rattle.games.specs.Games.{Game, is_kuhn}

-- the seat count is outside 2 to 10 for Kuhn, or not 2 for Leduc
abbrev pub seats-out : Game → Bool
seats-out g = cond (is_kuhn g) (ltb g.seats 2 or ltb 10 g.seats) (not (eqb g.seats 2))

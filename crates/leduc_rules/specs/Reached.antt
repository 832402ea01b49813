-- The positions that can be reached from the start by legal moves (number 19), as a test that can be computed; Moves has them
-- by moves.
use Rattle.std.specs.Prelude.{Bool, not, List, [], ℕ, eqb, leb, length, Option}
use Rattle.prelude.specs.Finite.{◌and◌, ◌or◌}
use Rattle.leduc_betting.specs.Betting.{closes, played}
use Rattle.leduc_betting.specs.Cards.{hidden, seen, strange, twice}

-- the cards are of the deck and differ; no seat has acted before both have a card; both rounds were played by the rules;
-- the public card lies there only once round 1 has closed, and no action of round 2 without it
unfoldable pub possible : List ℕ → Option ℕ → List ℕ → List ℕ → Bool
possible cs p h₁ h₂ =
    leb (length cs) 2
    and (not (strange (seen cs p))
    and (not (twice (seen cs p))
    and ((eqb (length cs) 2 or eqb (length h₁) 0)
    and (played [] h₁
    and (played [] h₂
    and ((hidden p or closes h₁)
    and (not (hidden p) or eqb (length h₂) 0)))))))

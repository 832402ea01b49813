-- The positions that can be reached from the start by legal moves (document 01, number 19), as a test that can be computed; Moves has them
-- by moves.
use Rattle.std.specs.Prelude.{Bool, not, List, ℕ, eqb, leb, ltb, length, get_or, take}
use Rattle.prelude.specs.Finite.{◌and◌, ◌or◌, some, has}
use Rattle.kuhn_rules.specs.Rules.{BET, overrun}

-- some card is not in the deck
unfoldable pub strange : ℕ → List ℕ → Bool
strange n cs = some (length cs) (λ i. ltb n (get_or cs i 0))

-- some card appears twice
unfoldable pub twice : List ℕ → Bool
twice cs = some (length cs) (λ i. has (get_or cs i 0) (take i cs))

-- some action is neither a pass nor a bet
unfoldable pub unknown : List ℕ → Bool
unknown h = some (length h) (λ i. ltb BET (get_or h i 0))

-- the cards are at most one a seat, of the deck, and differ
unfoldable pub fair : ℕ → List ℕ → Bool
fair n cs = leb (length cs) n and (not (strange n cs) and not (twice cs))

-- the actions are known, and none stands after the end
unfoldable pub played : ℕ → List ℕ → Bool
played n h = not (unknown h) and not (overrun n h)

-- a fair deal, actions only once every seat has its card, and these played by the rules
unfoldable pub possible : ℕ → List ℕ → List ℕ → Bool
possible n cs h = fair n cs and ((eqb (length h) 0 or eqb (length cs) n) and played n h)

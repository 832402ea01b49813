-- Leduc's cards: 0 to 5, two of each rank; one for each seat, then a public one.
use Rattle.std.specs.Prelude.{Bool, not, List, [], ◌∷◌, ◌++◌, ℕ, ◌/◌, leb, ltb, length, get_or, take, Option, None, Some, is_none}
use Rattle.prelude.specs.Finite.{◌and◌, some, those, has}

-- rank = card / 2 rounded down
abbrev pub rank : ℕ → ℕ
rank c = c / 2

-- no public card lies there
abbrev pub hidden : Option ℕ → Bool
hidden p = is_none p

-- the cards dealt: the seats' and the public one
abbrev pub seen : List ℕ → Option ℕ → List ℕ
seen cs None = cs
seen cs (Some c) = cs ++ (c ∷ [])

-- card c is left once the cards cs are dealt
unfoldable pub left : List ℕ → ℕ → Bool
left cs c = ltb c 6 and not (has c cs)

-- the cards left, in ascending order
unfoldable pub remaining : List ℕ → List ℕ
remaining cs = those 6 (left cs)

-- some card is not in the deck
unfoldable pub strange : List ℕ → Bool
strange cs = some (length cs) (λ i. leb 6 (get_or cs i 0))

-- some card appears twice
unfoldable pub twice : List ℕ → Bool
twice cs = some (length cs) (λ i. has (get_or cs i 0) (take i cs))

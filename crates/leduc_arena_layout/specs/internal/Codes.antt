-- The code of a set, from its key. Definitions only; nothing is assumed.
use Rattle.std.specs.Prelude.{cond, List, [], ◌∷◌, ℕ, ◌+◌, ◌*◌, ltb, get_or, take, drop}
use Rattle.game_tree.specs.Tree.{Key}

-- a history as a number, behind a number c: no two histories of calls and raises share one
unfoldable pub number_from : ℕ → List ℕ → ℕ
number_from c [] = c
number_from c (a ∷ h) = number_from (2 * c + a) h

-- what a key shows of the public card as a number below 7: 6 for none
abbrev pub public_number : ℕ → ℕ
public_number p = cond (ltb p 6) p 6

-- the code of a seat's card, of what is shown of the public card, and of the two rounds
unfoldable pub code_from : (c p : ℕ) (h₁ h₂ : List ℕ) → ℕ
unfolding number_from
code_from c p h₁ h₂ = ((number_from 0 h₁ * 11 + number_from 0 h₂) * 7 + public_number p) * 6 + c

-- the code of a key: its card, its public card, and its two histories
unfoldable pub code_of : ℕ → Key → ℕ
unfolding code_from
code_of j k = code_from (get_or k 1 0) (get_or k 2 0) (take (get_or k 3 0) (drop 4 k)) (drop (5 + get_or k 3 0) k)

-- all codes are below it: histories of a first round below 22,
-- of a second round in play below 11, the public card below 7, the own card below 6
abbrev pub codes : ℕ
codes = 10164

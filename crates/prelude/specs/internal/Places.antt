-- What stands at a place of a list.
use Rattle.std.specs.Prelude.{List, [], ◌∷◌, ℕ, zero, suc, Option, Some, None}

-- the number at a place, if the list is so long
abbrev pub at_place : List ℕ → ℕ → Option ℕ
at_place [] k = None
at_place (x ∷ xs) zero = Some x
at_place (x ∷ xs) (suc k) = at_place xs k

-- Tests, sums and lists over the numbers below a bound.
use Rattle.std.specs.Prelude.{Bool, true, false, List, [], ◌∷◌, ◌++◌, ℕ, zero, suc, ◌+◌, eqb, ℤ, pos, ◌+ℤ◌}

infixl 35 ◌and◌
infixl 30 ◌or◌
unfoldable pub ◌and◌ : Bool → Bool → Bool
true and b = b
false and b = false

unfoldable pub ◌or◌ : Bool → Bool → Bool
true or b = true
false or b = b

-- p holds of some number below n
unfoldable pub some : ℕ → (ℕ → Bool) → Bool
some zero p = false
some (suc n) p = some n p or p n

-- p holds of every number below n
unfoldable pub every : ℕ → (ℕ → Bool) → Bool
every zero p = true
every (suc n) p = every n p and p n

-- the sum of f over the numbers below n
unfoldable pub sum : ℕ → (ℕ → ℕ) → ℕ
sum zero f = 0
sum (suc n) f = sum n f + f n

-- the same, of whole numbers
unfoldable pub sumℤ : ℕ → (ℕ → ℤ) → ℤ
sumℤ zero f = pos 0
sumℤ (suc n) f = sumℤ n f +ℤ f n

-- the numbers below n of which p holds, in ascending order
unfoldable pub those : ℕ → (ℕ → Bool) → List ℕ
those zero p = []
those (suc n) p = those n p ++ keep (p n) n
  where
    keep : Bool → ℕ → List ℕ
    keep true x = x ∷ []
    keep false x = []

-- x stands in the list
unfoldable pub has : ℕ → List ℕ → Bool
has x [] = false
has x (y ∷ ys) = eqb y x or has x ys

-- f at each of the numbers below n, in ascending order
unfoldable pub places : {A : Type 0} → ℕ → (ℕ → A) → List A
places zero f = []
places (suc n) f = places n f ++ (f n ∷ [])

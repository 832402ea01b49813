-- Multiples and sums of whole numbers. Definitions only; nothing is assumed.
use Rattle.std.specs.Prelude.{List, [], ◌∷◌, ℕ, zero, suc, ◌+◌, ℤ, pos, ◌+ℤ◌, ◌*ℤ◌}

infixl 7 ◌·◌
-- n times z
unfoldable pub ◌·◌ : ℕ → ℤ → ℤ
n · z = pos n *ℤ z

-- the sum of h over a list
unfoldable pub sum : {A : Type 0} → (A → ℤ) → List A → ℤ
sum h [] = pos 0
sum h (x ∷ xs) = h x +ℤ sum h xs

-- the same, of natural numbers
unfoldable pub sumℕ : {A : Type 0} → (A → ℕ) → List A → ℕ
sumℕ h [] = 0
sumℕ h (x ∷ xs) = h x + sumℕ h xs

-- the parts of n actions, together: p 0 + ... + p (n - 1)
unfoldable pub parts : ℕ → (ℕ → ℕ) → ℕ
parts zero p = 0
parts (suc n) p = p 0 + parts n (λ a. p (suc a))

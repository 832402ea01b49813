-- Laws of sums over lists and over the numbers below a bound. Nothing is assumed.
use mathlib.Core.Path.{◌≡◌, refl, sym, ap, ap₂, ◌∙◌}
use mathlib.Core.List.{List, [], ◌∷◌, ◌++◌}
use Prim.Native.Nat.{ℕ, zero, suc, ◌+◌, ◌≤◌, ◌<◌, zero-le, suc-le-suc}
use native.Mathlib.Nat as NatL
use native.Mathlib.Omega.{arith}
use lib.IntN.{ℤ, pos, ◌+ℤ◌, +ℤ_idl, +ℤ_assoc}
use lib.Signed.{◌≤ℤ◌, ≤ℤ_refl}
use lib.ListN.{take}
use Rattle.game_tree.specs.Sums.{◌·◌, sum, sumℕ, parts}
use Rattle.game_tree.proofs.Integers.{·-none, ·-zero, ·-sum, ·-plus, ·-mono, +ℤ-mono, +ℤ-four}

-- ---- over a list
pub sum_append : {A : Type 0} (h : A → ℤ) (xs ys : List A) → sum h (xs ++ ys) ≡ sum h xs +ℤ sum h ys
unfolding sum
sum_append h [] ys = sym (+ℤ_idl (sum h ys))
sum_append h (x ∷ xs) ys = ap (λ z. h x +ℤ z) (sum_append h xs ys) ∙ sym (+ℤ_assoc (h x) (sum h xs) (sum h ys))

pub sum_scale : {A : Type 0} (n : ℕ) (h : A → ℤ) (xs : List A) → sum (λ x. n · h x) xs ≡ n · sum h xs
unfolding sum
sum_scale n h [] = sym (·-zero n)
sum_scale n h (x ∷ xs) = ap (λ z. n · h x +ℤ z) (sum_scale n h xs) ∙ sym (·-sum n (h x) (sum h xs))

pub sumℕ_append : {A : Type 0} (h : A → ℕ) (xs ys : List A) → sumℕ h (xs ++ ys) ≡ sumℕ h xs + sumℕ h ys
unfolding sumℕ
sumℕ_append h [] ys = sym (NatL.zero-add (sumℕ h ys))
sumℕ_append h (x ∷ xs) ys = ap (λ n. h x + n) (sumℕ_append h xs ys) ∙ sym (NatL.add_assoc (h x) (sumℕ h xs) (sumℕ h ys))

pub sumℕ-take : {A : Type 0} (h : A → ℕ) (n : ℕ) (xs : List A) → sumℕ h (take n xs) ≤ sumℕ h xs
unfolding sumℕ
sumℕ-take h zero xs = zero-le
sumℕ-take h (suc n) [] = zero-le
sumℕ-take h (suc n) (x ∷ xs) = omega (arith, sumℕ-take h n xs)

-- ---- over the numbers below a bound
unfoldable pub upto : ℕ → (ℕ → ℤ) → ℤ
upto zero h = pos 0
upto (suc n) h = h 0 +ℤ upto n (λ a. h (suc a))

pub upto_ext : (n : ℕ) (h g : ℕ → ℤ) → ((a : ℕ) → h a ≡ g a) → upto n h ≡ upto n g
unfolding upto
upto_ext zero h g e = refl
upto_ext (suc n) h g e = ap₂ ◌+ℤ◌ (e 0) (upto_ext n (λ a. h (suc a)) (λ a. g (suc a)) (λ a. e (suc a)))

upto_zero : (n : ℕ) (p : ℕ → ℕ) → upto n (λ a. p a · pos 0) ≡ pos 0
unfolding upto
upto_zero zero p = refl
upto_zero (suc n) p = ap₂ ◌+ℤ◌ (·-zero (p 0)) (upto_zero n (λ a. p (suc a))) ∙ +ℤ_idl (pos 0)

upto_sum : (n : ℕ) (p : ℕ → ℕ) (h g : ℕ → ℤ) → upto n (λ a. p a · (h a +ℤ g a)) ≡ upto n (λ a. p a · h a) +ℤ upto n (λ a. p a · g a)
unfolding upto
upto_sum zero p h g = refl
upto_sum (suc n) p h g =
    ap₂ ◌+ℤ◌ (·-sum (p 0) (h 0) (g 0)) (upto_sum n (λ a. p (suc a)) (λ a. h (suc a)) (λ a. g (suc a)))
    ∙ +ℤ-four (p 0 · h 0) (p 0 · g 0) (upto n (λ a. p (suc a) · h (suc a))) (upto n (λ a. p (suc a) · g (suc a)))

-- a mean is at most the greatest
pub upto_mono : (n : ℕ) (p : ℕ → ℕ) (h : ℕ → ℤ) (z : ℤ) → ((a : ℕ) → a < n → h a ≤ℤ z) → upto n (λ a. p a · h a) ≤ℤ (parts n p · z)
unfolding upto parts
upto_mono zero p h z e = rw (·-none z) (≤ℤ_refl (pos 0))
upto_mono (suc n) p h z e = rw (·-plus (p 0) (parts n (λ a. p (suc a))) z)
    (+ℤ-mono (p 0 · h 0) (p 0 · z) (upto n (λ a. p (suc a) · h (suc a))) (parts n (λ a. p (suc a)) · z)
    (·-mono (p 0) (h 0) z (e 0 (suc-le-suc zero-le)))
    (upto_mono n (λ a. p (suc a)) (λ a. h (suc a)) z (λ a l. e (suc a) (suc-le-suc l))))

-- two sums change places
pub sum_upto : {A : Type 0} (n : ℕ) (p : ℕ → ℕ) (h : A → ℕ → ℤ) (xs : List A)
    → sum (λ x. upto n (λ a. p a · h x a)) xs ≡ upto n (λ a. p a · sum (λ x. h x a) xs)
unfolding sum
sum_upto n p h [] = sym (upto_zero n p)
sum_upto n p h (x ∷ xs) = ap (λ z. upto n (λ a. p a · h x a) +ℤ z) (sum_upto n p h xs) ∙ sym (upto_sum n p (h x) (λ a. sum (λ y. h y a) xs))

-- ---- of parts
parts_none : (n : ℕ) (p : ℕ → ℕ) → ((a : ℕ) → p a ≡ 0) → parts n p ≡ 0
unfolding parts
parts_none zero p h = refl
parts_none (suc n) p h = ap₂ ◌+◌ (h 0) (parts_none n (λ a. p (suc a)) (λ a. h (suc a)))

-- where all other parts are 0
pub parts_one : (n x : ℕ) (p : ℕ → ℕ) → x < n → ((a : ℕ) → (a ≡ x → ⊥) → p a ≡ 0) → parts n p ≡ p x
unfolding parts
parts_one zero x p l h = absurd (NatL.not-suc-le-zero l)
parts_one (suc n) zero p l h = ap (λ y. p 0 + y) (parts_none n (λ a. p (suc a)) (λ a. h (suc a) (λ e. omega arith))) ∙ NatL.add-zero (p 0)
parts_one (suc n) (suc x) p l h = ap₂ ◌+◌ (h 0 (λ e. omega arith))
    (parts_one n x (λ a. p (suc a)) (NatL.le_of_suc-le-suc l) (λ a e. h (suc a) (λ q. e (omega arith)))) ∙ NatL.zero-add (p (suc x))

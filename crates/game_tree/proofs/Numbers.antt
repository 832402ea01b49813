-- The numbers below a bound of which a test holds: which stand in their list, and that none stands twice. Nothing is assumed.
use mathlib.Core.Path.{◌≡◌, sym, ap, ◌∙◌}
use mathlib.Core.Logic.{◌⊎◌, inl, inr}
use mathlib.Core.Bool.{Bool, true}
use mathlib.Core.List.{[], ◌∷◌}
use Prim.Native.Nat.{ℕ, zero, suc, ◌<◌}
use native.Mathlib.Omega.{arith}
use lib.Dec.{eqb}
use borrow.Author.Tests.{eqb-true, eqb-false}
use Rattle.prelude.specs.Finite.{those}
use Rattle.prelude.proofs.Tests.{Tested, holds, fails, tested, true≢false}
use Rattle.prelude.proofs.Lists.{those_kept, those_passed}
use Rattle.game_tree.proofs.Counting.{In, in_left, in_right, in_append, Once, once_append}

module _ (p : ℕ → Bool) where
  pub in_those : (n x : ℕ) → In x (those n p) → (x < n) × (p x ≡ true)
  unfolding those In
  in_those zero x m = absurd m
  in_those (suc n) x m = at (tested (p n)) (λ w. in_those n x w)
    where
      last : In x (those n p) ⊎ In x (n ∷ []) → (In x (those n p) → (x < n) × (p x ≡ true)) → p n ≡ true → (x < suc n) × (p x ≡ true)
      last (inl w) f e = (let (a, b) = f w in omega arith, (f w).1)
      last (inr (inl q)) f e = (omega arith, ap p (sym q) ∙ e)
      last (inr (inr w)) f e = absurd w

      at : Tested (p n) → (In x (those n p) → (x < n) × (p x ≡ true)) → (x < suc n) × (p x ≡ true)
      at (holds e) f = last (in_append x (those n p) (n ∷ []) (rw (those_kept p n e) at m)) f e
      at (fails e) f = let w = f (rw (those_passed p n e) at m) in (let q : x < n = w.0 in omega arith, w.1)

  pub those_in : (n x : ℕ) → x < n → p x ≡ true → In x (those n p)
  unfolding In
  those_in zero x l e = absurd (omega arith)
  those_in (suc n) x l e = at (tested (p n)) (tested (eqb x n)) (λ w. those_in n x w e)
    where
      at : Tested (p n) → Tested (eqb x n) → (x < n → In x (those n p)) → In x (those (suc n) p)
      at (holds q) (holds w) f = rw (those_kept p n q) (in_right x (those n p) (n ∷ []) (inl (sym (eqb-true x n w))))
      at (holds q) (fails w) f = rw (those_kept p n q) (in_left x (those n p) (n ∷ []) (f (let v : x ≡ n → ⊥ = eqb-false x n w in omega arith)))
      at (fails q) (holds w) f = true≢false (p n) (ap p (sym (eqb-true x n w)) ∙ e) q
      at (fails q) (fails w) f = rw (those_passed p n q) (f (let v : x ≡ n → ⊥ = eqb-false x n w in omega arith))

  pub those_once : (n : ℕ) → Once (those n p)
  unfolding those Once In
  those_once zero = tt
  those_once (suc n) = at (tested (p n)) (those_once n)
    where
      apart : (x : ℕ) → In x (those n p) → In x (n ∷ []) → ⊥
      apart x w (inl e) = let (l, q) = in_those n x w in omega arith
      apart x w (inr v) = absurd v

      at : Tested (p n) → Once (those n p) → Once (those (suc n) p)
      at (holds e) h = rw (those_kept p n e) (once_append (those n p) (n ∷ []) h ((λ m. absurd m), tt) apart)
      at (fails e) h = rw (those_passed p n e) h

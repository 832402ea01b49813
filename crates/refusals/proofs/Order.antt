-- Laws of the order of checks. Assumes nothing.
use mathlib.Core.Path.{◌≡◌, refl, sym, ◌∙◌}
use mathlib.Core.Bool.{Bool, true, false}
use mathlib.Core.List.{List, [], ◌∷◌, ◌++◌}
use Prim.Native.Nat.{ℕ, zero, suc}
use native.Mathlib.Omega.{arith}
use Rattle.refusals.specs.Refusals.{Check, ◌refuses◌, first}
use Rattle.refusals.specs.Facts.{Numbered}
use Rattle.refusals.specs.internal.Settled.{Settled}

-- a test that holds gives its number
pub refused : {b : Bool} (k : ℕ) (cs : List Check) → b ≡ true → first ((b refuses k) ∷ cs) ≡ k
refused k cs e = rw e

-- a test that fails leaves it to the checks behind
pub passed : {b : Bool} (k : ℕ) (cs : List Check) → b ≡ false → first ((b refuses k) ∷ cs) ≡ first cs
passed k cs e = rw e

-- of an accepted call every test fails
pub fails_first : (b : Bool) (k : ℕ) (cs : List Check) → first ((b refuses suc k) ∷ cs) ≡ 0 → b ≡ false
fails_first true k cs e = absurd (omega arith)
fails_first false k cs e = refl

pub fails_rest : (b : Bool) (k : ℕ) (cs : List Check) → first ((b refuses suc k) ∷ cs) ≡ 0 → first cs ≡ 0
fails_rest true k cs e = absurd (omega arith)
fails_rest false k cs e = e

-- ---- lists one behind the other
-- checks that refuse decide
pub first_refused : (xs ys : List Check) → (first xs ≡ 0 → ⊥) → first xs ≡ first (xs ++ ys)
first_refused [] ys f = absurd (f refl)
first_refused ((true refuses k) ∷ xs) ys f = refl
first_refused ((false refuses k) ∷ xs) ys f = first_refused xs ys f

-- checks that pass leave it to those behind
pub first_passed : (xs ys : List Check) → Numbered xs → first xs ≡ 0 → first (xs ++ ys) ≡ first ys
first_passed [] ys n e = refl
first_passed ((b refuses zero) ∷ xs) ys n e = absurd n
first_passed ((true refuses suc k) ∷ xs) ys n e = absurd (omega arith)
first_passed ((false refuses suc k) ∷ xs) ys n e = first_passed xs ys n e

-- ---- what is settled
-- one check
pub one_refuses : {b : Bool} {k : ℕ} {P : Type 0} → b ≡ true → Settled ((b refuses suc k) ∷ []) P (suc k)
one_refuses {k = k} e = record { number = sym (refused (suc k) [] e); passed = λ z. absurd (omega arith) }

pub one_passes : {b : Bool} {k : ℕ} {P : Type 0} → b ≡ false → P → Settled ((b refuses suc k) ∷ []) P 0
one_passes {k = k} e p = record { number = sym (passed (suc k) [] e); passed = λ z. p }

-- what follows from what was asked
pub settled_so : {cs : List Check} {P Q : Type 0} {r : ℕ} → (P → Q) → Settled cs P r → Settled cs Q r
settled_so f s = record { number = s.number; passed = λ z. f (s.passed z) }

module _ (xs ys : List Check) {P Q : Type 0} {a : ℕ} where
  -- checks that refuse, and others behind them
  pub settled_first : Settled xs P a → (a ≡ 0 → ⊥) → Settled (xs ++ ys) Q a
  settled_first s f = record { number = s.number ∙ first_refused xs ys (λ z. f (s.number ∙ z)); passed = λ z. absurd (f z) }

  -- checks that pass, and others behind them
  pub settled-behind : {b : ℕ} → Numbered xs → Settled xs P a → a ≡ 0 → Settled ys Q b → Settled (xs ++ ys) (P × Q) b
  settled-behind n s z t = record { number = t.number ∙ sym (first_passed xs ys n (sym s.number ∙ z)); passed = λ w. (s.passed z, t.passed w) }

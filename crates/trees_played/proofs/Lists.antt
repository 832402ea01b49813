-- What stands at the front of the rest of a list. Assumes nothing.
use mathlib.Core.Path.{◌≡◌}
use mathlib.Core.List.{List, [], ◌∷◌}
use Prim.Native.Nat.{ℕ, zero, suc, ◌≤◌, ◌<◌, zero-le, suc-le-suc}
use native.Mathlib.Omega.{arith}
use lib.ListN.{length, get_or, drop}

pub rest_none : (xs : List ℕ) (k : ℕ) → drop k xs ≡ [] → length xs ≤ k
rest_none [] k e = zero-le
rest_none (x ∷ xs) zero e = let z : ◌≡◌ {A = ℕ} 0 1 = cc in absurd (omega arith)
rest_none (x ∷ xs) (suc k) e = suc-le-suc (rest_none xs k e)

pub rest-head : (xs : List ℕ) (k c : ℕ) (l : List ℕ) → drop k xs ≡ c ∷ l → (k < length xs) × (get_or xs k 0 ≡ c) × (drop (suc k) xs ≡ l)
rest-head [] zero c l e = let z : ◌≡◌ {A = ℕ} 0 1 = cc in absurd (omega arith)
rest-head [] (suc k) c l e = let z : ◌≡◌ {A = ℕ} 0 1 = cc in absurd (omega arith)
rest-head (x ∷ xs) zero c l e = (suc-le-suc zero-le, cc, cc)
rest-head (x ∷ xs) (suc k) c l e = let (a, b, d) = rest-head xs k c l e in (suc-le-suc a, b, d)

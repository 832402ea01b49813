-- The entries of the first sets. Assumes nothing.
use mathlib.Core.Path.{◌≡◌, refl, sym, ap, ◌∙◌}
use mathlib.Core.List.{List, [], ◌∷◌}
use Prim.Native.Nat.{ℕ, zero, suc, ◌+◌, ◌*◌, ◌≤◌, ◌<◌}
use native.Mathlib.Nat as NatL
use native.Mathlib.Numerals.{add-one}
use native.Mathlib.Omega.{arith}
use lib.ListN.{length, get_or, take, replicate}

unfoldable pub total : List ℕ → ℕ
total [] = 0
total (n ∷ ns) = n + total ns

total-suc : (ns : List ℕ) (i : ℕ) → i < length ns → total (take (suc i) ns) ≡ total (take i ns) + get_or ns i 0
unfolding total
total-suc [] i h = absurd (omega arith)
total-suc (n ∷ ns) zero h = omega arith
total-suc (n ∷ ns) (suc i) h = let e = total-suc ns i (omega arith) in omega arith

pub total_more : (ns : List ℕ) (i : ℕ) → i < length ns → total (take i ns) + get_or ns i 0 ≡ total (take (i + 1) ns)
total_more ns i h = rw add-one (sym (total-suc ns i h))

pub total_most : (ns : List ℕ) (i : ℕ) → total (take i ns) ≤ total ns
unfolding total
total_most [] zero = omega arith
total_most [] (suc i) = omega arith
total_most (n ∷ ns) zero = omega arith
total_most (n ∷ ns) (suc i) = let e = total_most ns i in omega arith

pub total_none : (ns : List ℕ) → 0 ≡ total (take 0 ns)
unfolding total
total_none ns = refl

pub total_same : (k n : ℕ) → total (replicate k n) ≡ k * n
unfolding total
total_same zero n = sym (NatL.zero-mul n)
total_same (suc k) n = ap (λ i. n + i) (total_same k n) ∙ (NatL.add_comm n (k * n) ∙ sym (NatL.suc-mul k n))

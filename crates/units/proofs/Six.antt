-- Six sums modulo 2^64. Assumes nothing.
use Rattle.std.proofs.Common.{◌≡◌, ℕ, ◌+◌, ◌*◌, ◌%◌, ◌^◌, ◌<◌, ◌≤◌, List, get_or, set, replicate, cond, ltb, lt-ltb, sym, ap, ◌∙◌, arith, w64, Fits}
use native.Mathlib.Nat as NatL
use Rattle.prelude.specs.Finite.{places}
use Rattle.prelude.proofs.Lists.{get_d_places, places_same, filled_none, filled_more}
use Rattle.units.specs.internal.Sums.{wrapped}
use Rattle.units.specs.internal.Readable.{UNITS}

-- ---- six sums made one after the other: the first k of them
abbrev pub Filled : (f : ℕ → ℕ) (k : ℕ) (l : List ℕ) → Type 0
Filled f k l = l ≡ places 6 (λ i. cond (ltb i k) (f i % 2 ^ 64) 0)

pub filled-start : (f : ℕ → ℕ) → Filled f 0 (replicate 6 0)
filled-start f = filled_none 6 (λ i. f i % 2 ^ 64) 0

pub filled_next : (f : ℕ → ℕ) (k x : ℕ) (l : List ℕ) → k < 6 → x ≡ f k % 2 ^ 64 → Filled f k l → Filled f (k + 1) (set l k x)
filled_next f k x l h e g = rw (g, e) (filled_more 6 (λ i. f i % 2 ^ 64) 0 k h)

pub filled_all : (f : ℕ → ℕ) (k : ℕ) (l : List ℕ) → 6 ≤ k → Filled f k l → l ≡ wrapped f
unfolding wrapped
filled_all f k l h g = g ∙ places_same 6 _ _ (λ i w. ap (λ b. cond b (f i % 2 ^ 64) 0) (lt-ltb i k (omega arith)))

pub wrapped_at : (f : ℕ → ℕ) (i : ℕ) → i < 6 → get_or (wrapped f) i 0 ≡ f i % 2 ^ 64
unfolding wrapped
wrapped_at f i h = get_d_places 6 (λ j. f j % 2 ^ 64) i 0 h

-- u units times a lifted payoff
pub times-few : (u r : ℕ) → u < UNITS → r < 128 → u * r < 2 ^ 64
times-few u r h g = let e : u * r ≤ u * 127 = NatL.mul-le-mul_left {m = r} {n = 127} u (omega arith) in omega arith

pub times_fits : (u r : ℕ) → u < UNITS → r < 128 → Fits w64 (u * r)
times_fits u r h g = record { fits = times-few u r h g }

pub product : (u r x : ℕ) → u < UNITS → (r ≡ x) × (r < 128) → u * r ≡ u * x % 2 ^ 64
product u r x h g = let e : u * r ≡ u * x = ap (λ y. u * y) g.0 in e ∙ sym (NatL.mod-eq_of_lt (rw (← e) (times-few u r h g.1)))

-- ---- sums modulo 2^64
pub sum_wraps : (a b x y : ℕ) → a ≡ x % 2 ^ 64 → b ≡ y % 2 ^ 64 → (a + b) % 2 ^ 64 ≡ (x + y) % 2 ^ 64
sum_wraps a b x y p q = omega arith

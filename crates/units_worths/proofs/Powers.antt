-- A product with a power, factor by factor. Assumes nothing.
use mathlib.Core.Path.{◌≡◌, sym, ap, ◌∙◌}
use Prim.Native.Nat.{ℕ, ◌+◌, ◌*◌, ◌^◌, ◌≤◌, ◌<◌}
use native.Mathlib.Nat as NatL
use native.Mathlib.Numerals.{add-one}
use native.Mathlib.Omega.{arith}
use mir.Syntax.{w64}
use mir.Val.{Fits}
use Rattle.units.specs.internal.Readable.{UNITS}

module _ (c d : ℕ) where
  pub no_power : c ≡ c * d ^ 0
  no_power = sym (ap (λ x. c * x) (NatL.pow-zero d) ∙ NatL.mul-one c)

  pub one_power_more : (x i : ℕ) → x ≡ c * d ^ i → x * d ≡ c * d ^ (i + 1)
  one_power_more x i e = ap (λ y. y * d) e ∙ NatL.mul_assoc c (d ^ i) d ∙ ap (λ y. c * y) (sym (NatL.pow-suc d i)) ∙ ap (λ j. c * d ^ j) (sym (add-one i))

  -- no product on the way is more than the last
  pub partial_few : (i m N : ℕ) → 1 ≤ d → i ≤ m → c * d ^ m < N → c * d ^ i < N
  partial_few i m N l w h = NatL.lt_of_le_of_lt (NatL.mul-le-mul_left c (NatL.pow-le-pow_right l w)) h

  pub partial_fits : (x i m : ℕ) → x ≡ c * d ^ i → 1 ≤ d → i < m → c * d ^ m < UNITS → Fits w64 (x * d)
  partial_fits x i m e l w h = let f : x * d < UNITS = rw (one_power_more x i e) (partial_few (i + 1) m UNITS l (omega arith) h) in record { fits = omega arith }

  pub all_powers : (x i m : ℕ) → i ≤ m → m ≤ i → x ≡ c * d ^ i → x ≡ c * d ^ m
  all_powers x i m a b e = let q : i ≡ m = omega arith in e ∙ ap (λ j. c * d ^ j) q

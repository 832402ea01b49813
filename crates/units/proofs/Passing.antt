-- What a walk passes on: units, and a set's own part of the table. Assumes nothing.
use Rattle.std.proofs.Common.{◌≡◌, ℕ, ◌*◌, ◌/◌, ◌^◌, ◌<◌, ◌≤◌, sym, ap, ◌∙◌, arith}
use native.Mathlib.Nat as NatL
use Rattle.units.specs.internal.Readable.{Walkable, UNITS}

-- ---- units
pub share-few : (u p d : ℕ) → p ≤ d → u * p / d ≤ u
share-few u p d h = NatL.div-le_of_le-mul d {m = u * p} {n = u} (rw (NatL.mul_comm d u) (NatL.mul-le-mul_left {m = p} {n = d} u h))

pub product-few : (u p d : ℕ) → u < UNITS → p ≤ d → d ≤ 64 → u * p < 2 ^ 64
product-few u p d h g m = let e : u * p ≤ u * 64 = NatL.mul-le-mul_left {m = p} {n = 64} u (omega arith) in omega arith

pub quotient_few : (u c : ℕ) → u < UNITS → u / c < UNITS
quotient_few u c h = omega (arith, NatL.div-le_self u c)

-- ---- one step along
pub walk-along : (a b u v d : ℕ) → Walkable a u d → b < 4194304 → v < UNITS → Walkable b v d
walk-along a b u v d h l g = record { place = omega (arith, h.shallow); shallow = h.shallow; units = g }

-- ---- units that divide evenly
-- p parts of d of u units, where u is d times q
pub even-share : (u q p d : ℕ) → 1 ≤ d → q * d ≡ u → q * p ≡ u * p / d
even-share u q p d l e = sym (ap (λ x. x * p / d) (sym e ∙ NatL.mul_comm q d) ∙ ap (λ x. x / d) (NatL.mul_assoc d q p) ∙ NatL.mul-div_cancel_left (q * p) l)

-- a quotient times its divisor is no more than the dividend
pub even-few : (u q d : ℕ) → u < UNITS → q ≡ u / d → q * d ≤ u
even-few u q d h e = rw e (NatL.div-mul-le_self u d)

pub even_part : (u q p d : ℕ) → u < UNITS → p ≤ d → q * d ≡ u → q * p < UNITS
even_part u q p d h l e = let m : q * p ≤ q * d = NatL.mul-le-mul_left {m = p} {n = d} q l in omega arith

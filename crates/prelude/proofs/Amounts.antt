-- Amounts of chips as signed numbers: all that are below half the range. Assumes nothing.
use mathlib.Core.Path.{◌≡◌, ap, ◌∙◌}
use Prim.Native.Nat.{ℕ, zero, suc, ◌^◌, ◌<◌}
use native.Mathlib.Omega.{arith}
use borrow.Author.Tests.{lt-ltb}
use lib.IntN.{pos, neg_ℤ, ◌-ℤ◌, +ℤ_idl}
use mir.Syntax.{w64}
use mir.Val.{SFits, to_z, of_z}
use mir.ValLaws.{to_z-of_z}

pub amount : (x : ℕ) → x < 2 ^ 63 → to_z w64 x ≡ pos x
amount x h = rw (lt-ltb x (2 ^ 63) h)

owed : (x : ℕ) → x < 2 ^ 63 → pos 0 -ℤ to_z w64 x ≡ neg_ℤ (pos x)
owed x h = ap (λ z. pos 0 -ℤ z) (amount x h) ∙ +ℤ_idl (neg_ℤ (pos x))

pub owed_fits : (x : ℕ) → x < 2 ^ 63 → SFits w64 (neg_ℤ (pos x))
owed_fits zero h = record { sfits = omega arith }
owed_fits (suc x) h = record { sfits = omega arith }

pub debt_fits : (x : ℕ) → x < 2 ^ 63 → SFits w64 (pos 0 -ℤ to_z w64 x)
debt_fits x h = rw (owed x h) (owed_fits x h)

pub debt : (x : ℕ) → x < 2 ^ 63 → to_z w64 (of_z w64 (pos 0 -ℤ to_z w64 x)) ≡ neg_ℤ (pos x)
debt x h = rw (owed x h) (to_z-of_z w64 (neg_ℤ (pos x)) (owed_fits x h))

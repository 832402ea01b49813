-- Patterns and NaN; whole numbers that a float holds. Assumes nothing.
use mathlib.Core.Path.{◌≡◌, refl, sym, ap, ◌∙◌, subst}
use mathlib.Core.Bool.{true, false, not}
use Prim.Native.Nat.{ℕ, ◌%◌, ◌<◌, ◌≤◌}
use native.Mathlib.Nat as NatL
use native.Mathlib.Omega.{arith}
use lib.Dec.{T}
use borrow.Author.Tests.{lt-ltb, le-ltb}
use mir.Syntax.{w64}
use mir.Val.{to_z, of_z}
use lib.IntN.{pos, ◌-ℤ◌}
use lib.Ieee.{Float, nan, inf, fin, binary64, is_nan, nan_bits, to_bits, of_bits, in_float}
use lib.Ieee.Bits.{nan_bits_is, nan_bits_above}
use Rattle.prelude.specs.Finite.{◌and◌, every}
use Rattle.prelude.proofs.Tests.{every_at}
use Rattle.prelude.proofs.Amounts.{amount}
use Rattle.arena.specs.internal.Words.{byte_of, payoff_of}
use Rattle.arena.proofs.Bytes.{lowered}

-- the pattern of a NaN
is_nan_lem : (x : Float) → is_nan x ≡ true → x ≡ nan
unfolding is_nan
is_nan_lem nan e = refl
is_nan_lem (inf s) e = let z : true ≡ false = sym e in absurd (subst T z tt)
is_nan_lem (fin s m k) e = let z : true ≡ false = sym e in absurd (subst T z tt)

pub mark : (x : Float) → is_nan x ≡ true → 9221120237041090560 ≡ to_bits binary64 x
unfolding to_bits
mark x e = rw (is_nan_lem x e) refl

pub no_nan : (x : Float) → is_nan x ≡ false → T (not (is_nan x))
no_nan x e = rw e tt

-- patterns above that of infinity are a NaN's, the others are not
pub above : (x : ℕ) → 9218868437227405312 < x % 9223372036854775808 → nan ≡ of_bits binary64 x
above x h = sym (is_nan_lem (of_bits binary64 x) (sym (nan_bits_is binary64 x) ∙ nan_bits_above binary64 x ∙ lt-ltb 9218868437227405312 (x % 9223372036854775808) h))

pub within : (x : ℕ) → x % 9223372036854775808 ≤ 9218868437227405312 → T (not (nan_bits binary64 x))
within x h = rw (nan_bits_above binary64 x, le-ltb 9218868437227405312 (x % 9223372036854775808) h) tt

pub nan-bits : of_bits binary64 9221120237041090560 ≡ nan
unfolding of_bits
nan-bits = refl

-- ---- payoffs
-- a payoff in a word is a whole number that a float holds
held-payoffs : every 128 (λ b. in_float binary64 (pos b -ℤ pos 64)) ≡ true
unfolding every ◌and◌ in_float
held-payoffs = refl

pub payoff-held : (x i : ℕ) → T (in_float binary64 (payoff_of x i))
payoff-held x i = subst T (sym (every_at 128 (λ b. in_float binary64 (pos b -ℤ pos 64)) held-payoffs (byte_of x i) (NatL.mod-lt _ (omega arith)))) tt

-- as a local holds it, in bits
pub payoff_back : (x i : ℕ) → to_z w64 (of_z w64 (payoff_of x i)) ≡ payoff_of x i
payoff_back x i = let l : byte_of x i < 128 = NatL.mod-lt _ (omega arith) in ap (λ z. to_z w64 (of_z w64 (z -ℤ pos 64))) (sym (amount (byte_of x i) (omega arith))) ∙ lowered (byte_of x i) l

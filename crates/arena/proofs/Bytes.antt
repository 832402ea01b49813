-- A payoff as a byte: 64 is 0. Assumes nothing.
use mathlib.Core.Path.{◌≡◌, ap, ◌∙◌}
use Prim.Native.Nat.{ℕ, ◌+◌, ◌*◌, ◌<◌}
use native.Mathlib.Omega.{arith}
use lib.IntN.{pos, ◌-ℤ◌}
use mir.Syntax.{w64}
use lib.Dec.{ltb}
use mir.Val.{SFits, to_z, of_z}
use Rattle.prelude.proofs.Amounts.{amount}
use Rattle.prelude.proofs.Tests.{Tested, holds, fails, tested}
use mir.ValLaws.{to_z-of_z}
use Rattle.arena.specs.internal.Words.{byte_of}

-- a byte read back
pub lowered_fits : (r : ℕ) → r < 128 → SFits w64 (to_z w64 r -ℤ pos 64)
lowered_fits r h = rw (amount r (omega arith)) (at (tested (ltb r 64)))
  where
    at : Tested (ltb r 64) → SFits w64 (pos r -ℤ pos 64)
    at (holds e) = rw e (record { sfits = omega arith })
    at (fails e) = rw e (record { sfits = omega arith })

pub lowered : (r : ℕ) → r < 128 → to_z w64 (of_z w64 (to_z w64 r -ℤ pos 64)) ≡ pos r -ℤ pos 64
lowered r h = to_z-of_z w64 (to_z w64 r -ℤ pos 64) (lowered_fits r h) ∙ ap (λ z. z -ℤ pos 64) (amount r (omega arith))

-- ---- six bytes in a word
module _ (a b c d e f : ℕ) (ha : a < 128) (hb : b < 128) (hc : c < 128) (hd : d < 128) (he : e < 128) (hf : f < 128) where
  abbrev pub six : ℕ
  six = 4 * a + 1024 * b + 262144 * c + 67108864 * d + 17179869184 * e + 4398046511104 * f

  pub byte0 : byte_of six 0 ≡ a
  byte0 = omega arith

  pub byte1 : byte_of six 1 ≡ b
  byte1 = omega arith

  pub byte2 : byte_of six 2 ≡ c
  byte2 = omega arith

  pub byte3 : byte_of six 3 ≡ d
  byte3 = omega arith

  pub byte4 : byte_of six 4 ≡ e
  byte4 = omega arith

  pub byte5 : byte_of six 5 ≡ f
  byte5 = omega arith

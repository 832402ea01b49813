-- A difference of signed numbers that is not below 0. Assumes nothing.
use mathlib.Core.Path.{◌≡◌, refl}
use Prim.Native.Nat.{ℕ, zero, suc, ◌*◌, ◌^◌, ◌≤◌, ◌<◌}
use native.Mathlib.Omega.{arith}
use lib.IntN.{ℤ, pos, negsuc, neg_ℤ, ◌-ℤ◌, nat_abs, +ℤ_idl, -ℤ-+ℤ_cancel}
use lib.Signed.{◌≤ℤ◌, yes_non_neg, pos-nat_abs}
use mir.Syntax.{w64}
use mir.Val.{SFits, to_z, of_z}
use mir.ValLaws.{to_z-of_z}
use Rattle.game_tree.proofs.Integers.{+ℤ-cancel, size_of_sum}

-- as a local holds it, in bits
abbrev pub bits : ℤ → ℤ
bits x = to_z w64 (of_z w64 x)

small_fits : (x : ℤ) → nat_abs x < 2 ^ 63 → SFits w64 x
small_fits (pos a) h = record { sfits = omega arith }
small_fits (negsuc a) h = record { sfits = omega arith }

pub bits_of_small : (x : ℤ) → nat_abs x < 2 ^ 63 → bits x ≡ x
bits_of_small x h = to_z-of_z w64 x (small_fits x h)

size_of_negative : (x : ℤ) → nat_abs (neg_ℤ x) ≡ nat_abs x
size_of_negative (pos zero) = refl
size_of_negative (pos (suc a)) = refl
size_of_negative (negsuc a) = refl

-- the size of a difference
pub difference-size : (a b : ℤ) (B : ℕ) → nat_abs a ≤ B → nat_abs b ≤ B → nat_abs (b -ℤ a) ≤ 2 * B
difference-size a b B h k = omega (arith, size_of_sum b (neg_ℤ a), size_of_negative a)

module _ (a b : ℤ) (l : a ≤ℤ b) where
  not_below : pos 0 ≤ℤ (b -ℤ a)
  not_below = +ℤ-cancel (pos 0) (b -ℤ a) a (rw (+ℤ_idl a, -ℤ-+ℤ_cancel b a) l)

  pub difference_is : pos (nat_abs (b -ℤ a)) ≡ b -ℤ a
  difference_is = pos-nat_abs (b -ℤ a) (yes_non_neg not_below)

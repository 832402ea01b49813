-- What a seat gains as a signed number. Assumes nothing.
use mathlib.Core.Path.{◌≡◌, ap, ◌∙◌}
use mathlib.Core.Bool.{Bool, true, false, cond}
use Prim.Native.Nat.{ℕ, ◌≤◌}
use native.Mathlib.Omega.{arith}
use lib.IntN.{ℤ, pos, neg_ℤ}
use mir.Syntax.{w64}
use mir.Val.{SFits, to_z, of_z}
use mir.ValLaws.{to_z-of_z}
use Rattle.prelude.proofs.Amounts.{owed_fits}

abbrev pub gained : (wins loses : Bool) (mine theirs : ℕ) → ℤ
gained wins loses mine theirs = cond wins (pos theirs) (cond loses (neg_ℤ (pos mine)) (pos 0))

pub gained_fits : (wins loses : Bool) (mine theirs : ℕ) → mine ≤ 64 → theirs ≤ 64 → SFits w64 (gained wins loses mine theirs)
gained_fits true loses mine theirs m t = record { sfits = omega arith }
gained_fits false true mine theirs m t = owed_fits mine (omega arith)
gained_fits false false mine theirs m t = record { sfits = omega arith }

-- read back from its bits
pub gained_back : {z : ℤ} (wins loses : Bool) (mine theirs : ℕ) → mine ≤ 64 → theirs ≤ 64 → z ≡ gained wins loses mine theirs → to_z w64 (of_z w64 z) ≡ gained wins loses mine theirs
gained_back wins loses mine theirs m t e = ap (λ y. to_z w64 (of_z w64 y)) e ∙ to_z-of_z w64 (gained wins loses mine theirs) (gained_fits wins loses mine theirs m t)

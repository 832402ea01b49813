-- A part of a list, from place e to place z. Assumes nothing.
use mathlib.Core.Path.{◌≡◌, ◌∙◌}
use mathlib.Core.List.{List}
use Prim.Native.Nat.{ℕ, ◌+◌, ◌-◌, ◌≤◌, ◌<◌}
use native.Mathlib.Omega.{arith}
use lib.ListN.{length, get_or, take, drop, length-drop}
use lib.Seq.{length-take-le, get_or-take, get_or-drop}

module _ {A : Type 0} (l : List A) (e z : ℕ) where
  pub part_length : z ≤ length l → length (take (z - e) (drop e l)) ≡ z - e
  part_length h = length-take-le (z - e) (drop e l) (omega (arith, length-drop e l))

  pub part_at : (c : ℕ) (x : A) → c < z - e → get_or (take (z - e) (drop e l)) c x ≡ get_or l (e + c) x
  part_at c x h = get_or-take (z - e) (drop e l) c x h ∙ get_or-drop e l c x

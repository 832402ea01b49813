-- How two numbers stand to each other, by the case of their comparison. Assumes nothing.
use mathlib.Core.Path.{◌≡◌, refl}
use mathlib.Core.Bool.{Bool, true, false, cond}
use Prim.Native.Nat.{ℕ, ◌<◌}
use native.Mathlib.Omega.{arith}
use lib.Dec.{ltb}
use borrow.Author.Tests.{lt-ltb, le-ltb, ltb-true, ltb-false}
use Rattle.comparison.specs.Order.{compared}
use Rattle.std.specs.declared.cmp.Ordering.{Ordering}
use Rattle.std.specs.declared.cmp.Ordering.TheVariants.{Less, Equal, Greater}

-- what each case says
pub data Stands (x y : ℕ) : Ordering → Type 0 where
  below : x < y → Stands x y Less
  level : x ≡ y → Stands x y Equal
  above : y < x → Stands x y Greater

module _ (x y : ℕ) where
  pub stands : Stands x y (compared x y)
  stands = at (ltb x y) (ltb y x) refl refl
    where
      at : (s t : Bool) → ltb x y ≡ s → ltb y x ≡ t → Stands x y (cond s Less (cond t Greater Equal))
      at true t p q = below (ltb-true x y p)
      at false true p q = above (ltb-true y x q)
      at false false p q = level (omega (arith, ltb-false x y p, ltb-false y x q))

  pub case_is : {c : Ordering} → Stands x y c → c ≡ compared x y
  case_is (below l) = rw (lt-ltb x y l) refl
  case_is (level e) = rw (le-ltb x y (omega arith), le-ltb y x (omega arith)) refl
  case_is (above l) = rw (le-ltb x y (omega arith), lt-ltb y x l) refl

-- How two quotients compare, and the number of each case for C.
use Rattle.std.specs.Prelude.{cond, ℕ, ◌*◌, ltb, ℤ, pos, neg_ℤ}
use Rattle.std.specs.declared.cmp.Ordering.{Ordering}
use Rattle.std.specs.declared.cmp.Ordering.TheVariants.{Less, Equal, Greater}

-- how x stands to y
abbrev pub compared : (x y : ℕ) → Ordering
compared x y = cond (ltb x y) Less (cond (ltb y x) Greater Equal)

-- how a / u stands to b / v: as the cross products do
abbrev pub compared_quotients : (a u b v : ℕ) → Ordering
compared_quotients a u b v = compared (a * v) (b * u)

-- an enum does not cross to C: the number of each case
abbrev pub number_of : Ordering → ℤ
number_of Less = neg_ℤ (pos 1)
number_of Equal = pos 0
number_of Greater = pos 1

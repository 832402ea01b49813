-- What the comparison of quotients is. Assumes nothing.
use mathlib.Core.Path.{◌≡◌, refl, sym, ap, subst, ◌∙◌}
use mathlib.Core.Logic.{◌⊎◌, inl, inr}
use Prim.Native.Nat.{ℕ, zero, suc, ◌*◌, ◌≤◌, ◌<◌}
use native.Mathlib.Nat.{mul_assoc, mul_comm, mul_left_comm, mul-le-mul_right, mul-lt-mul_of_pos_right, le_of_mul-le-mul_left, lt_of_mul-lt-mul_left}
use native.Mathlib.Omega.{arith}
use lib.IntN.{ℤ, pos, negsuc}
use Rattle.comparison.specs.Order.{compared, compared_quotients, number_of}
use Rattle.comparison.specs.Facts.{NotGreater, turned, Tells, CaseTells, NumberTells, EqualToItself, EqualToMultiples, NoughtOfNought, Turns, Comparable, NeitherGreater, Transitive, LessOnward}
use Rattle.std.specs.declared.cmp.Ordering.{Ordering}
use Rattle.std.specs.declared.cmp.Ordering.TheVariants.{Less, Equal, Greater}
use Rattle.comparison.proofs.Standing.{Stands, below, level, above, stands, case_is}

-- ---- two numbers

module _ (x y : ℕ) where
  said : {c : Ordering} → compared x y ≡ c → Stands x y c
  said e = subst (Stands x y) e (stands x y)

  if_less : Stands x y Less → x < y
  if_less (below l) = l

  if_equal : Stands x y Equal → x ≡ y
  if_equal (level e) = e

  if_greater : Stands x y Greater → y < x
  if_greater (above l) = l

  case-told : Tells ◌<◌ Less Equal Greater (compared x y) x y
  case-told = record {
    less = (λ e. if_less (said e), λ l. sym (case_is x y (below l)));
    equal = (λ e. if_equal (said e), λ e. sym (case_is x y (level e)));
    greater = (λ e. if_greater (said e), λ l. sym (case_is x y (above l)));
  }

  at_most : NotGreater (compared x y) → x ≤ y
  at_most n = at (stands x y) n
    where
      at : {c : Ordering} → Stands x y c → NotGreater c → x ≤ y
      at (below l) n = omega arith
      at (level e) n = omega arith
      at (above l) n = absurd (n refl)

  not_greater : x ≤ y → NotGreater (compared x y)
  not_greater l e = omega (arith, if_greater (said e))

-- both ways round
module _ (x y : ℕ) where
  turn : compared y x ≡ turned (compared x y)
  turn = at (stands x y)
    where
      at : {c : Ordering} → Stands x y c → compared y x ≡ turned c
      at (below l) = sym (case_is y x (above l))
      at (level e) = sym (case_is y x (level (sym e)))
      at (above l) = sym (case_is y x (below l))

  either : NotGreater (compared x y) ⊎ NotGreater (compared y x)
  either = at (stands x y)
    where
      at : {c : Ordering} → Stands x y c → NotGreater (compared x y) ⊎ NotGreater (compared y x)
      at (below l) = inl (not_greater x y (omega arith))
      at (level e) = inl (not_greater x y (omega arith))
      at (above l) = inr (not_greater y x (omega arith))

  neither : NotGreater (compared x y) × NotGreater (compared y x) → compared x y ≡ Equal
  neither (m, n) = sym (case_is x y (level (omega (arith, at_most x y m, at_most y x n))))

  not_either : compared x y ≡ Equal → NotGreater (compared x y) × NotGreater (compared y x)
  not_either e = let q = if_equal x y (said x y e) in (not_greater x y (omega arith), not_greater y x (omega arith))

-- the case of a number
abbrev case_of : ℤ → Ordering
case_of (negsuc n) = Less
case_of (pos zero) = Equal
case_of (pos (suc n)) = Greater

number_back : (c : Ordering) → case_of (number_of c) ≡ c
number_back Less = refl
number_back Equal = refl
number_back Greater = refl

-- ---- three quotients, by cross products

module _ (a u b v c w : ℕ) (hu : 0 < u) (hv : 0 < v) (hw : 0 < w) where
  -- both steps over the product of all units
  left : v * (a * w) ≡ a * v * w
  left = simp (mul_assoc, mul_comm, mul_left_comm) refl

  between : b * u * w ≡ b * w * u
  between = simp (mul_assoc, mul_comm, mul_left_comm) refl

  right : v * (c * u) ≡ c * v * u
  right = simp (mul_assoc, mul_comm, mul_left_comm) refl

  through : a * v ≤ b * u → b * w ≤ c * v → a * w ≤ c * u
  through p q =
      le_of_mul-le-mul_left (omega (arith, left, between, right, mul-le-mul_right w p, mul-le-mul_right u q)) hv

  below_first : a * v < b * u → b * w ≤ c * v → a * w < c * u
  below_first p q =
      lt_of_mul-lt-mul_left v (omega (arith, left, between, right, mul-lt-mul_of_pos_right p hw, mul-le-mul_right u q))

  below_second : a * v ≤ b * u → b * w < c * v → a * w < c * u
  below_second p q =
      lt_of_mul-lt-mul_left v (omega (arith, left, between, right, mul-le-mul_right w p, mul-lt-mul_of_pos_right q hu))

-- ---- what is stated

pub case-tells : CaseTells
case-tells a u b v = case-told (a * v) (b * u)

pub number-tells : NumberTells
number-tells a u b v = let t = case-tells a u b v in record {
  less = (λ e. t.less.0 (same Less e), λ l. ap number_of (t.less.1 l));
  equal = (λ e. t.equal.0 (same Equal e), λ e. ap number_of (t.equal.1 e));
  greater = (λ e. t.greater.0 (same Greater e), λ l. ap number_of (t.greater.1 l));
}
  where
    same : (d : Ordering) → number_of (compared_quotients a u b v) ≡ number_of d → compared_quotients a u b v ≡ d
    same d e = sym (number_back (compared_quotients a u b v)) ∙ ap case_of e ∙ number_back d

pub equal_to_itself : EqualToItself
equal_to_itself a u = sym (case_is (a * u) (a * u) (level refl))

pub equal_to_multiples : EqualToMultiples
equal_to_multiples k a u = sym (case_is (k * a * u) (a * (k * u)) (level (simp (mul_assoc, mul_comm, mul_left_comm) refl)))

pub nought_of_nought : NoughtOfNought
nought_of_nought b v = sym (case_is (0 * v) (b * 0) (level (omega arith)))

pub turns : Turns
turns a u b v = turn (a * v) (b * u)

pub comparable : Comparable
comparable a u b v = either (a * v) (b * u)

pub neither-greater : NeitherGreater
neither-greater a u b v = (neither (a * v) (b * u), not_either (a * v) (b * u))

pub transitive : Transitive
transitive a u b v c w hu hv hw p q =
    not_greater (a * w) (c * u) (through a u b v c w hu hv hw (at_most (a * v) (b * u) p) (at_most (b * w) (c * v) q))

pub less_onward : LessOnward
less_onward a u b v c w hu hv hw p q (inl e) =
    sym (case_is (a * w) (c * u) (below (below_first a u b v c w hu hv hw (if_less (a * v) (b * u) (said (a * v) (b * u) e)) (at_most (b * w) (c * v) q))))
less_onward a u b v c w hu hv hw p q (inr e) =
    sym (case_is (a * w) (c * u) (below (below_second a u b v c w hu hv hw (at_most (a * v) (b * u) p) (if_less (b * w) (c * v) (said (b * w) (c * v) e)))))

-- What the comparison of a / u with b / v is, by cross products alone, with no fraction and no division. Proved in
-- proofs/Facts.antt.
use Rattle.std.specs.Prelude.{◌≡◌, ◌⊎◌, ◌↔◌, ℕ, ◌*◌, ◌<◌, pos, neg_ℤ}
use Rattle.comparison.specs.Order.{compared_quotients, number_of}
use Rattle.std.specs.declared.cmp.Ordering.{Ordering}
use Rattle.std.specs.declared.cmp.Ordering.TheVariants.{Less, Equal, Greater}

-- the units of a quotient: with 0 of them the comparison is no order
abbrev pub Units : ℕ → Type 0
Units u = 0 < u

-- at most: less or equal
abbrev pub NotGreater : Ordering → Type 0
NotGreater c = c ≡ Greater → ⊥

-- the answer the other way round
abbrev pub turned : Ordering → Ordering
turned Less = Greater
turned Equal = Equal
turned Greater = Less

-- ---- for every four numbers

-- c is l, e or g exactly as x is below, equal to or above y, by an order of such numbers
pub record Tells {A B : Type 0} (below : B → B → Type 0) (l e g c : A) (x y : B) : Type 0 where
  pub less : (c ≡ l) ↔ below x y
  pub equal : (c ≡ e) ↔ (x ≡ y)
  pub greater : (c ≡ g) ↔ below y x

-- the case tells how the cross products stand,
abbrev pub CaseTells : Type 0
CaseTells = (a u b v : ℕ) → Tells ◌<◌ Less Equal Greater (compared_quotients a u b v) (a * v) (b * u)

-- and so does the number for C
abbrev pub NumberTells : Type 0
NumberTells = (a u b v : ℕ) → Tells ◌<◌ (neg_ℤ (pos 1)) (pos 0) (pos 1) (number_of (compared_quotients a u b v)) (a * v) (b * u)

-- a quotient compares equal with itself,
abbrev pub EqualToItself : Type 0
EqualToItself = (a u : ℕ) → compared_quotients a u a u ≡ Equal

-- and with its multiples
abbrev pub EqualToMultiples : Type 0
EqualToMultiples = (k a u : ℕ) → compared_quotients (k * a) (k * u) a u ≡ Equal

-- 0 of 0 units compares equal with everything
abbrev pub NoughtOfNought : Type 0
NoughtOfNought = (b v : ℕ) → compared_quotients 0 0 b v ≡ Equal

-- the other way round the answer is the other way round
abbrev pub Turns : Type 0
Turns = (a u b v : ℕ) → compared_quotients b v a u ≡ turned (compared_quotients a u b v)

-- of every two one is not greater than the other,
abbrev pub Comparable : Type 0
Comparable = (a u b v : ℕ) → NotGreater (compared_quotients a u b v) ⊎ NotGreater (compared_quotients b v a u)

-- and neither is exactly if they compare equal
abbrev pub NeitherGreater : Type 0
NeitherGreater = (a u b v : ℕ)
    → (NotGreater (compared_quotients a u b v) × NotGreater (compared_quotients b v a u)) ↔ (compared_quotients a u b v ≡ Equal)

-- ---- for units above 0

-- not greater is transitive,
abbrev pub Transitive : Type 0
Transitive = (a u b v c w : ℕ) → Units u → Units v → Units w
    → NotGreater (compared_quotients a u b v) → NotGreater (compared_quotients b v c w) → NotGreater (compared_quotients a u c w)

-- and less as soon as one of the two steps is
abbrev pub LessOnward : Type 0
LessOnward = (a u b v c w : ℕ) → Units u → Units v → Units w
    → NotGreater (compared_quotients a u b v) → NotGreater (compared_quotients b v c w) → (compared_quotients a u b v ≡ Less)
    ⊎ (compared_quotients b v c w ≡ Less) → compared_quotients a u c w ≡ Less

-- The comparison among evaluated tables: their units are above 0 and NashConv is not below 0, so the facts of the comparison hold of them. Assumes nothing.
use mathlib.Core.Path.{◌≡◌, refl, ap, ap₂, subst, ◌∙◌}
use Prim.Native.Nat.{ℕ, zero, suc, ◌*◌, ◌≤◌, ◌<◌}
use native.Mathlib.Nat as NatL
use native.Mathlib.Omega.{arith}
use lib.Dec.{ltb→lt, lt→ltb}
use lib.IntN.{ℤ, pos, ◌-ℤ◌, ◌*ℤ◌, nat_abs, +ℤ_idl, -ℤ-+ℤ_cancel}
use lib.Signed.{◌≤ℤ◌, ◌<ℤ◌, ≤ℤ_refl, yes_non_neg, pos-nat_abs}
use Rattle.comparison.specs.Facts.{Tells}
use Rattle.std.specs.declared.cmp.Ordering.TheVariants.{Less, Equal, Greater}
use Rattle.comparison.proofs.Facts as Comparison
use Rattle.game_tree.specs.Table.{Table, table_best, table_worth, nash_conv_over}
use Rattle.game_tree.proofs.Integers.{+ℤ-mono, +ℤ-cancel}
use Rattle.games.specs.Games.{Game, tree_of, m, root_units}
use Rattle.games.proofs.Facts.{fans-positive, reply-best}
use Rattle.tree_refusals.specs.Accepted.{AcceptedTable}
use Rattle.nash_conv_units.specs.Calls.{nash_conv_of, answer}
use Rattle.comparison_tables.proofs.Accepted.{accepted-table}
use Rattle.comparison_tables.specs.Tables.{Evaluated, answer_of, between, crossed, HasUnits, ByCrossProducts, Comparable, NeitherGreater, Transitive, LessOnward}

-- a difference of a number and one that is not above it
not_below : {a b : ℤ} → a ≤ℤ b → pos 0 ≤ℤ (b -ℤ a)
not_below {a} {b} l = +ℤ-cancel (pos 0) (b -ℤ a) a (rw (+ℤ_idl a, -ℤ-+ℤ_cancel b a) l)

-- ---- a table that is not refused
module _ (g : Game) (D : ℕ) (table : Table) (a : AcceptedTable g D table) where
  units-positive : 0 < root_units g D
  units-positive = NatL.mul-pos (fans-positive g) (NatL.one-le-pow (m g) D a.least)

  -- a table is a rival of itself, so no seat's best value is below its worth
  seat-gains : (i : ℕ) → i < g.seats → pos 0 ≤ℤ (table_best (tree_of g) D (root_units g D) table i -ℤ table_worth (tree_of g) D (root_units g D) table i)
  seat-gains i l = not_below ((reply-best g D i table a.game.known a.game.seats l a.least a.valid).unbeaten table (a.valid, λ e k f. refl))

  gains : (n : ℕ) → n ≤ g.seats → pos 0 ≤ℤ nash_conv_over (tree_of g) D (root_units g D) table n
  unfolding nash_conv_over
  gains zero l = ≤ℤ_refl (pos 0)
  gains (suc n) l = +ℤ-mono (pos 0) _ (pos 0) _ (gains n (omega arith)) (seat-gains n l)

  conv_whole : pos (nat_abs (nash_conv_of g D table)) ≡ nash_conv_of g D table
  conv_whole = pos-nat_abs (nash_conv_of g D table) (yes_non_neg (gains g.seats (NatL.le_refl g.seats)))

-- ---- what is answered
module _ (x : Evaluated) where
  kept : AcceptedTable x.game x.D x.table
  kept = accepted-table x.game x.words x.D x.table x.accepted

  answer_is : answer_of x ≡ answer 0 x.game x.D x.table
  answer_is = ap (λ r. answer r x.game x.D x.table) x.accepted

  units_are : (answer_of x).units ≡ root_units x.game x.D
  units_are = ap (λ r. r.units) answer_is

  conv_is : pos (answer_of x).nash_conv ≡ nash_conv_of x.game x.D x.table
  conv_is = ap (λ r. pos r.nash_conv) answer_is ∙ conv_whole x.game x.D x.table kept

pub has-units : HasUnits
has-units x = rw (units_are x) (units-positive x.game x.D x.table (kept x))

crossed_is : (x y : Evaluated) → pos ((answer_of x).nash_conv * (answer_of y).units) ≡ crossed x y
crossed_is x y = ap₂ (λ z u. z *ℤ pos u) (conv_is x) (units_are y)

-- over whole numbers as over natural ones
module _ {A : Type 0} (l e g c : A) (m n : ℕ) (x y : ℤ) (p : pos m ≡ x) (q : pos n ≡ y) where
  over_whole : Tells ◌<◌ l e g c m n → Tells ◌<ℤ◌ l e g c x y
  over_whole t = subst (λ z. Tells ◌<ℤ◌ l e g c z y) p (subst (λ z. Tells ◌<ℤ◌ l e g c (pos m) z) q (record {
    less = (λ h. record { lt = lt→ltb m n (t.less.0 h) }, λ h. t.less.1 (ltb→lt m n h.lt));
    equal = (λ h. ap pos (t.equal.0 h), λ h. t.equal.1 (ap nat_abs h));
    greater = (λ h. record { lt = lt→ltb n m (t.greater.0 h) }, λ h. t.greater.1 (ltb→lt n m h.lt));
  }))

-- ---- what is stated

pub by_cross_products : ByCrossProducts
by_cross_products x y = over_whole Less Equal Greater (between x y) _ _ (crossed x y) (crossed y x) (crossed_is x y) (crossed_is y x)
    (Comparison.case-tells (answer_of x).nash_conv (answer_of x).units (answer_of y).nash_conv (answer_of y).units)

pub comparable : Comparable
comparable x y = Comparison.comparable (answer_of x).nash_conv (answer_of x).units (answer_of y).nash_conv (answer_of y).units

pub neither-greater : NeitherGreater
neither-greater x y = Comparison.neither-greater (answer_of x).nash_conv (answer_of x).units (answer_of y).nash_conv (answer_of y).units

pub transitive : Transitive
transitive x y z =
    Comparison.transitive (answer_of x).nash_conv (answer_of x).units (answer_of y).nash_conv (answer_of y).units (answer_of z).nash_conv (answer_of z).units
    (has-units x) (has-units y) (has-units z)

pub less_onward : LessOnward
less_onward x y z =
    Comparison.less_onward (answer_of x).nash_conv (answer_of x).units (answer_of y).nash_conv (answer_of y).units (answer_of z).nash_conv (answer_of z).units
    (has-units x) (has-units y) (has-units z)

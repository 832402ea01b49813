-- Among evaluated tables, of any games, seats and D, the comparison of NashConv / U is an order in which every two can be compared, and it
-- agrees with the cross products over whole numbers (document 02, Nine). Proved in proofs/Tables.antt.
use Rattle.std.specs.Prelude.{◌≡◌, ◌⊎◌, ◌↔◌, ℕ, ℤ, pos, ◌*ℤ◌, ◌<ℤ◌}
use Rattle.comparison.specs.Order.{compared_quotients}
use Rattle.comparison.specs.Facts.{Units, NotGreater, Tells}
use Rattle.std.specs.declared.cmp.Ordering.{Ordering}
use Rattle.std.specs.declared.cmp.Ordering.TheVariants.{Less, Equal, Greater}
use Rattle.game_tree.specs.Table.{Table}
use Rattle.games.specs.Games.{Game, root_units}
use Rattle.tree_refusals.specs.Checks.{evaluation_refusal}
use Rattle.nash_conv_units.specs.Calls.{nash_conv_of, answer}
use Rattle.nash_conv_units.specs.declared.NashConvAnswer.{NashConvAnswer}

-- a call for NashConv that is accepted: the game, how many words of work memory are lent, D and the table
pub record Evaluated : Type 0 where
  pub game : Game
  pub words : ℕ
  pub D : ℕ
  pub table : Table
  pub accepted : evaluation_refusal game words D table ≡ 0

-- what it answers
abbrev pub answer_of : Evaluated → NashConvAnswer
answer_of x = answer (evaluation_refusal x.game x.words x.D x.table) x.game x.D x.table

-- what compare answers of the four numbers answered
abbrev pub between : Evaluated → Evaluated → Ordering
between x y = compared_quotients (answer_of x).nash_conv (answer_of x).units (answer_of y).nash_conv (answer_of y).units

-- x's NashConv times y's units, over whole numbers
abbrev pub crossed : Evaluated → Evaluated → ℤ
crossed x y = nash_conv_of x.game x.D x.table *ℤ pos (root_units y.game y.D)

-- the units are above 0
abbrev pub HasUnits : Type 0
HasUnits = (x : Evaluated) → Units (answer_of x).units

-- the answer is how the cross products stand over whole numbers
abbrev pub ByCrossProducts : Type 0
ByCrossProducts = (x y : Evaluated) → Tells ◌<ℤ◌ Less Equal Greater (between x y) (crossed x y) (crossed y x)

-- of every two one is not greater than the other,
abbrev pub Comparable : Type 0
Comparable = (x y : Evaluated) → NotGreater (between x y) ⊎ NotGreater (between y x)

-- and neither is exactly if they compare equal
abbrev pub NeitherGreater : Type 0
NeitherGreater = (x y : Evaluated) → (NotGreater (between x y) × NotGreater (between y x)) ↔ (between x y ≡ Equal)

-- not greater is transitive,
abbrev pub Transitive : Type 0
Transitive = (x y z : Evaluated) → NotGreater (between x y) → NotGreater (between y z) → NotGreater (between x z)

-- and less as soon as one of the two steps is
abbrev pub LessOnward : Type 0
LessOnward = (x y z : Evaluated) → NotGreater (between x y) → NotGreater (between y z) → (between x y ≡ Less) ⊎ (between y z ≡ Less)
    → between x z ≡ Less

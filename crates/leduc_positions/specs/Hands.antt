-- The hand that a position holds.
use Rattle.std.specs.Prelude.{◌≡◌, ◌≤◌}
use Rattle.leduc_rules.specs.declared.hand.Hand.{Hand}
use Rattle.leduc_positions.specs.Positions.{cards_of, round_one, round_two}
use Rattle.leduc_positions.specs.declared.LeducState.{LeducState}

-- no length is above its part of the arrays
abbrev pub IsShort : LeducState → Type 0
IsShort s = (s.dealt ≤ 2) × (s.acted1 ≤ 4) × (s.acted2 ≤ 4)

-- position s, with no length above its part, holds the hand h
pub record Holds (s : LeducState) (h : Hand) : Type 0 where
  pub short : IsShort s
  pub cards : h.cards.now ≡ cards_of s
  pub public : h.public ≡ s.public
  pub first : h.first.now ≡ round_one s
  pub second : h.second.now ≡ round_two s

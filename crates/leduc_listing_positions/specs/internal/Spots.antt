-- The position that a spot of the code holds, and its last move taken back: tools of private contracts.
use Rattle.std.specs.Prelude.{ℕ, List, ◌+◌, ◌-◌, ◌≤◌, length, take}
use Rattle.leduc_tree.specs.Tree.{Position}
use Rattle.leduc_listing_positions.specs.internal.Moves.{items}
use Rattle.leduc_listing_positions.specs.declared.Made.{Made}
use Rattle.leduc_listing_positions.specs.declared.Made.TheVariants.{Card, Public, First, Second}
use Rattle.leduc_listing_positions.specs.declared.spot.Spot.{Spot}

-- the position that a spot of the code holds
abbrev pub placed : Spot → Position
placed s = record { cards = items s.cards; public = s.public; first = items s.first; second = items s.second }

-- how many cards and actions it holds, but for the public card
abbrev pub made : Spot → ℕ
made s = length (items s.cards) + length (items s.first) + length (items s.second)

-- it has places for so many moves more
pub record Room (s : Spot) (more : ℕ) : Type 0 where
  pub seats : length (items s.cards) ≤ 2
  pub places : made s + more ≤ 11

-- a list without its last
abbrev pub init : List ℕ → List ℕ
init xs = take (length xs - 1) xs

-- a position without the last card of a seat, with the public card that lay there before, or without the last action of a round
abbrev pub undone : Made → Position → Position
undone Card q = record { cards = init q.cards; public = q.public; first = q.first; second = q.second }
undone (Public p) q = record { cards = q.cards; public = p; first = q.first; second = q.second }
undone First q = record { cards = q.cards; public = q.public; first = init q.first; second = q.second }
undone Second q = record { cards = q.cards; public = q.public; first = q.first; second = init q.second }

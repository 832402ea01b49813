-- The refusal numbers by name, and the order of the checks (document 01, "What comes back when a call is refused").
-- A number's comment is its sentence, up to a semicolon: the header, the library and docs/API.md have it word by word.
use Rattle.std.specs.Prelude.{Bool, true, false, List, [], ◌∷◌, ℕ}

-- no refusal: the call was accepted
abbrev pub accepted : ℕ
accepted = 0

-- the game is neither Kuhn nor Leduc; Kuhn has the number 0, Leduc 1
abbrev pub game : ℕ
game = 1

-- the seat count is outside 2 to 10 for Kuhn, or not 2 for Leduc
abbrev pub seats : ℕ
seats = 2

-- the tree has more than 4,000,000 nodes, which is Kuhn with 7 to 10 seats; asked by calls that need a tree
abbrev pub tree : ℕ
tree = 3

-- the work memory has fewer than 12 words of 64 bits per node of the tree
abbrev pub memory : ℕ
memory = 4

-- the seat is not below the seat count; asked by calls that evaluate one seat
abbrev pub seat : ℕ
seat = 5

-- D, the parts per set, is 0, or above 64 (Leduc, Kuhn 2 to 4) or above 16 (Kuhn 5 and 6)
abbrev pub parts : ℕ
parts = 6

-- the table's or profile's length is not exactly the entry count
abbrev pub table : ℕ
table = 7

-- in some set the parts do not add up to D; a part is one byte
abbrev pub sum : ℕ
sum = 8

-- an output is shorter than its answer; in a key or legal-list call this comes last, after 20
abbrev pub output : ℕ
output = 9

-- a saved position does not hold one card per seat
abbrev pub card-count : ℕ
card-count = 10

-- a card is not in the deck
abbrev pub card : ℕ
card = 11

-- a card appears twice
abbrev pub card-twice : ℕ
card-twice = 12

-- a history is too long or holds an unknown action; too long is above 2 × seats − 1 for Kuhn, above 4 in a round for Leduc
abbrev pub history : ℕ
history = 13

-- an action stands after the hand or its round closed, or in round 2 before round 1 closed
abbrev pub closed : ℕ
closed = 14

-- a Leduc action was not legal when made; without the public card no action of round 2 is
abbrev pub illegal : ℕ
illegal = 15

-- a live second round has no public card
abbrev pub no_public : ℕ
no_public = 16

-- a public card lies there before round 1 closed
abbrev pub early-public : ℕ
early-public = 17

-- the saved end mark differs from the position
abbrev pub end_mark : ℕ
end_mark = 18

-- the position cannot be reached from the start by legal moves; asked of every position handed to a rules call
abbrev pub unreachable : ℕ
unreachable = 19

-- the call does not fit the position; that is a step where no seat acts, a deal where no card is due or whose outcome is not below
-- the fan, a key for a seat without a card, a payoff before the end
abbrev pub unfit : ℕ
unfit = 20

-- a check of a call: if its test holds, the call is refused with its number
infix 40 ◌refuses◌
pub data Check : Type 0 where
  ◌refuses◌ : Bool → ℕ → Check

-- the number of the first check whose test holds; accepted if none does
abbrev pub first : List Check → ℕ
first [] = accepted
first ((true refuses k) ∷ cs) = k
first ((false refuses k) ∷ cs) = first cs

-- The checks of a call that needs a game's tree (document 01, numbers 1 to 9), each by its number, and for each call the list of
-- those that concern its inputs, in the paper's order.
use Rattle.std.specs.Prelude.{not, List, [], ◌∷◌, ◌++◌, ℕ, ◌*◌, eqb, leb, ltb, length}
use Rattle.refusals.specs.Refusals.{Check, ◌refuses◌, first}
use Rattle.refusals.specs.Refusals as Refusals
use Rattle.prelude.specs.Finite.{◌or◌}
use Rattle.game_tree.specs.Sets.{size, set_count, set_actions, entries}
use Rattle.game_tree.specs.Table.{Table, add_up}
use Rattle.games.specs.Games.{Game, tree_of, most_parts}
pub use Rattle.games.specs.Checks.{game_check, seats_check}

-- 3: its tree
abbrev pub tree_check : Game → Check
tree_check g = ltb 4000000 (size (tree_of g)) refuses Refusals.tree

-- 4: work memory of so many words
abbrev pub memory_check : Game → ℕ → Check
memory_check g memory = ltb memory (12 * size (tree_of g)) refuses Refusals.memory

-- 5: the seat that is evaluated
abbrev pub seat_check : Game → ℕ → Check
seat_check g seat = leb g.seats seat refuses Refusals.seat

-- 6: D, the parts per set
abbrev pub parts_check : Game → ℕ → Check
parts_check g D = (eqb D 0 or ltb (most_parts g) D) refuses Refusals.parts

-- 7: a table or a profile of n entries
abbrev pub length_check : Game → ℕ → Check
length_check g n = not (eqb n (entries (tree_of g))) refuses Refusals.table

-- 8: the parts of a table, D in each set
abbrev pub sum_check : Game → ℕ → Table → Check
sum_check g D table = not (add_up D (set_actions (tree_of g)) table) refuses Refusals.sum

-- 9: an output of room bytes, for n
abbrev pub output_check : (n room : ℕ) → Check
output_check n room = ltb room n refuses Refusals.output

-- 1 to 4, of every call
abbrev pub tree_checks : Game → (memory : ℕ) → List Check
tree_checks g memory = game_check g ∷ seats_check g ∷ tree_check g ∷ memory_check g memory ∷ []

-- a listing into an output, 24 bytes for each set (enumerate_infosets)
abbrev pub listing_checks : Game → (memory room : ℕ) → List Check
listing_checks g memory room = tree_checks g memory ++ (output_check (24 * set_count (tree_of g)) room ∷ [])

-- all seats of a table (worths, nash_conv_units)
abbrev pub evaluation_checks : Game → (memory D : ℕ) → Table → List Check
evaluation_checks g memory D table = tree_checks g memory ++ (parts_check g D ∷ length_check g (length table) ∷ sum_check g D table ∷ [])

-- one seat of a table, into an output for a table (best_reply)
abbrev pub reply_checks : Game → (memory seat D : ℕ) → Table → (room : ℕ) → List Check
reply_checks g memory seat D table room =
    tree_checks g memory ++ (seat_check g seat ∷ parts_check g D ∷ length_check g (length table) ∷ sum_check g D table
    ∷ output_check (entries (tree_of g)) room ∷ [])

-- one seat of a profile of n entries (best_response_value)
abbrev pub value_checks : Game → (memory seat n : ℕ) → List Check
value_checks g memory seat n = tree_checks g memory ++ (seat_check g seat ∷ length_check g n ∷ [])

-- all seats of a profile of n entries (best_response_values, profile_values, nash_conv, exploitability)
abbrev pub values_checks : Game → (memory n : ℕ) → List Check
values_checks g memory n = tree_checks g memory ++ (length_check g n ∷ [])

-- the refusal number of each call, 0 if it was accepted
abbrev pub listing-refusal : Game → (memory room : ℕ) → ℕ
listing-refusal g memory room = first (listing_checks g memory room)

abbrev pub evaluation_refusal : Game → (memory D : ℕ) → Table → ℕ
evaluation_refusal g memory D table = first (evaluation_checks g memory D table)

abbrev pub reply-refusal : Game → (memory seat D : ℕ) → Table → (room : ℕ) → ℕ
reply-refusal g memory seat D table room = first (reply_checks g memory seat D table room)

abbrev pub value-refusal : Game → (memory seat n : ℕ) → ℕ
value-refusal g memory seat n = first (value_checks g memory seat n)

abbrev pub values_refusal : Game → (memory n : ℕ) → ℕ
values_refusal g memory n = first (values_checks g memory n)

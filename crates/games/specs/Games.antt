-- A game by its number and seats: its tree, and what is counted of it (document 01, "The tree and its sets" and "Whole units").
use Rattle.std.specs.Prelude.{Bool, cond, ℕ, eqb}
use Rattle.game_tree.specs.Tree.{Tree, U}
use Rattle.kuhn_rules.specs.Stakes as K
use Rattle.leduc_rules.specs.Stakes as L
use Rattle.kuhn_tree.specs.Tree as Kuhn
use Rattle.leduc_tree.specs.Tree as Leduc

pub record Game : Type 0 where
  pub number : ℕ
  pub seats : ℕ

-- the game of a number and a seat count
abbrev pub game_of : (number seats : ℕ) → Game
game_of number seats = record { number = number; seats = seats }

-- game number 0 is Kuhn, 1 is Leduc; any other is refused before its tree is asked for
abbrev pub is_kuhn : Game → Bool
is_kuhn g = eqb g.number 0

-- the game's tree, at today's stakes
unfoldable pub tree_of : Game → Tree
tree_of g = cond (is_kuhn g) (Kuhn.tree_of_kuhn K.ante K.stake g.seats) (Leduc.tree_of_leduc L.ante L.raise₁ L.raise₂)

-- C and m of the units (document 01: U = C × D^m)
abbrev pub C : Game → ℕ
C g = cond (is_kuhn g) (Kuhn.C g.seats) Leduc.C

abbrev pub m : Game → ℕ
m g = cond (is_kuhn g) (Kuhn.m g.seats) Leduc.m

-- the most parts per set: 64, or 16 for Kuhn 5 and 6
abbrev pub most_parts : Game → ℕ
most_parts g = cond (is_kuhn g) (Kuhn.largest_parts g.seats) 64

-- the units of the root, with D parts in each set
abbrev pub root_units : Game → ℕ → ℕ
root_units g D = U (C g) D (m g)

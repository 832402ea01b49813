-- Demand 3 of a best value, by the game's number, and request Eight of it.
use Rattle.std.specs.Prelude.{ℕ, ℤ}
use Rattle.game_tree.specs.Table.{Table}
use Rattle.game_tree.specs.Table as AnyTree
use Rattle.games.specs.Games.{Game, tree_of, m, root_units}

-- no valid table that differs from the given one at most in seat i's entries, mixed or not, is worth more to the seat,
-- nor is a rival of any grain
abbrev pub Unbeaten : (g : Game) (D i : ℕ) (table : Table) (value : ℤ) → Type 0
Unbeaten g D i table value = AnyTree.Unbeaten (tree_of g) D (root_units g D) i table value
    × AnyTree.FinerUnbeaten (tree_of g) (m g) D (root_units g D) i table value

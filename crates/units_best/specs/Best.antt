-- What the best reply of a seat is, by the game's number (demand 3; document 01, "Whole units"; document 02, Eight).
use Rattle.std.specs.Prelude.{ℕ, ℤ}
use Rattle.game_tree.specs.Table.{Table}
use Rattle.game_tree.specs.Table as AnyTree
use Rattle.games.specs.Games.{Game, tree_of, m, root_units}

-- the reply is such a table: valid, with every other seat's entries as given; it is worth the value, and none is worth more,
-- nor is a rival of any grain
abbrev pub BestReply : (g : Game) (D i : ℕ) (table : Table) (value : ℤ) (reply : Table) → Type 0
BestReply g D i table value reply = AnyTree.BestReply (tree_of g) (m g) D (root_units g D) i table value reply

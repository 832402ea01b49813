-- What is known once a call was not refused. Definitions only; nothing is assumed.
use Rattle.std.specs.Prelude.{ℕ, ◌≤◌}
use Rattle.game_tree.specs.Table.{Table, ValidTable}
use Rattle.games.specs.Games.{Game, tree_of, most_parts}
use Rattle.games.specs.Known.{Known}

-- a table with D parts in each set that numbers 1 to 3 and 6 to 8 let through
pub record AcceptedTable (g : Game) (D : ℕ) (table : Table) : Type 0 where
  pub game : Known g
  pub least : 1 ≤ D
  pub most : D ≤ most_parts g
  pub valid : ValidTable (tree_of g) D table

-- Where a seat's units and choices stand in work memory. Definitions only; nothing is assumed.
use Rattle.std.specs.Prelude.{◌≡◌, List, ℕ}
use Rattle.game_tree.specs.Reply.{reply_tree, best}
use Rattle.game_tree.specs.Table.{Table, strategy_of}
use Rattle.games.specs.Games.{Game, tree_of, root_units}
use Rattle.arena_store.specs.internal.Stored.{heads_of}
use Rattle.arena_store.specs.internal.Places.{reach_at, kept_at}
use Rattle.arena_walks.specs.internal.Stage.{Memo}
use Rattle.units_values.specs.internal.Valued.{Scene}

-- seat i's units against a table with D parts in each set stand there, and choices, each the best one
pub record Staged (g : Game) (D i : ℕ) (table : Table) (w : List ℕ) : Type 0 where
  pub scene : Scene i (heads_of g) (reach_at g) (kept_at g)
  pub noted : Memo scene.stage w
  pub tree : scene.stage.tree ≡ tree_of g
  pub parts : scene.parts ≡ D
  pub strategy : scene.strategy ≡ strategy_of (tree_of g) table
  pub root : scene.root ≡ root_units g D
  pub choice : scene.stage.choice ≡ best (reply_tree D (strategy_of (tree_of g) table) i (root_units g D) (tree_of g))

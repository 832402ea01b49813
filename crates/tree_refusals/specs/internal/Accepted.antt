-- Of Accepted, what stands between functions.
use Rattle.std.specs.Prelude.{◌≡◌, List, Float, length}
use Rattle.game_tree.specs.Sets.{entries}
use Rattle.games.specs.Games.{Game, tree_of}
use Rattle.games.specs.Known.{Known}

-- a profile that numbers 1 to 3 and 7 let through
pub record AcceptedProfile (g : Game) (P : List Float) : Type 0 where
  pub game : Known g
  pub long : length P ≡ entries (tree_of g)

-- What holds of Actions, proved in proofs/Facts.antt.
use Rattle.std.specs.Prelude.{◌≡◌, false}
use Rattle.game_tree.specs.Sets.{set_actions}
use Rattle.games.specs.Games.{Game, tree_of}
use Rattle.games.specs.Seats.{seats-out}
use Rattle.games.specs.internal.Actions.{actions_of}

-- and its sets, in order, these actions
abbrev pub ActionsListed : Type 0
ActionsListed = (g : Game) → seats-out g ≡ false → set_actions (tree_of g) ≡ actions_of g

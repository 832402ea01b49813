-- The games that have a tree: those that numbers 1 to 3 let through. Definitions only; nothing is assumed.
use Rattle.std.specs.Prelude.{◌≡◌, false, ◌≤◌}
use Rattle.games.specs.Seats.{seats-out}
use Rattle.games.specs.Facts.{nodes_of}
use Rattle.games.specs.Games.{Game}

pub record Known (g : Game) : Type 0 where
  pub known : g.number ≤ 1
  pub seats : seats-out g ≡ false
  pub small : nodes_of g ≤ 4000000

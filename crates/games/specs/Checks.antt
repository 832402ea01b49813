-- The checks of a game's number and its seats, by their numbers.
use Rattle.std.specs.Prelude.{ltb}
use Rattle.refusals.specs.Refusals.{Check, ◌refuses◌}
use Rattle.refusals.specs.Refusals as Refusals
use Rattle.games.specs.Games.{Game}
use Rattle.games.specs.Seats.{seats-out}

-- 1: the game's number
abbrev pub game_check : Game → Check
game_check g = ltb 1 g.number refuses Refusals.game

-- 2: its seats
abbrev pub seats_check : Game → Check
seats_check g = seats-out g refuses Refusals.seats

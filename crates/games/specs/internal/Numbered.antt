-- The number and the seats of a game that a program holds.
use Rattle.games.specs.Games.{Game, game_of}
use Rattle.games.specs.declared.Game as declared
use Rattle.games.specs.declared.Game.TheVariants.{Kuhn, Leduc}

abbrev pub numbered : declared.Game → Game
numbered (Kuhn seats) = game_of 0 seats.count
numbered Leduc = game_of 1 2

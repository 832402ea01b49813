-- The seats of the game that has these counts. Assumes nothing.
use Rattle.games.specs.Games.{game_of}
use Rattle.games.proofs.Counts.{kuhn_least, kuhn_most}
use Rattle.games.proofs.numbers.Numbers.counted_as.Goals as goal

pub invariant_of-result : goal.invariant_of-result
invariant_of-result c = record {
  in_range = (kuhn_least (game_of c.args.self.number c.args.self.seats) c.in-0.is c.requires, kuhn_most (game_of c.args.self.number c.args.self.seats) c.in-0.is c.requires);
}

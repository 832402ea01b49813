-- When NashConv is 0; what stands in the words for the tree. Assumes nothing.
use mathlib.Core.Path.{refl}
use Rattle.games.specs.Games.{game_of}
use Rattle.nash_conv_units.proofs.Outcome.{zero_answered}
use Rattle.nash_conv_units.proofs.nash_conv_units.Goals as goal

pub returns-clause-equilibrium : goal.returns-clause-equilibrium
returns-clause-equilibrium c = let t = c.in_ok-table in
    λ z. zero_answered (game_of c.args.number c.args.seats) c.args.d c.args.table.now (t.ensures.refused.passed refl).0 _
    (rw (t.ensures.made.0, t.ensures.made.1, t.ensures.made.2) at c.gains.ensures)

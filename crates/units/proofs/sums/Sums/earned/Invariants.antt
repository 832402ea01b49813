use Rattle.std.proofs.Common.{◌*◌}
use Rattle.arena.specs.internal.Words.{byte_of}
use Rattle.units.proofs.Six.{Filled}
use Rattle.units.proofs.sums.Sums.earned.Given as goal

abbrev pub invariant-loop-seat : goal.invariant-loop-seat
invariant-loop-seat l = Filled (λ i. l.u * byte_of l.x i) l.seat l.of

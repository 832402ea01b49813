use Rattle.std.proofs.Common.{◌+◌, get_or}
use Rattle.units.proofs.Six.{Filled}
use Rattle.units.proofs.sums.Sums.plus.Given as goal

abbrev pub invariant-loop-seat : goal.invariant-loop-seat
invariant-loop-seat l = Filled (λ i. get_or l.self.of i 0 + get_or l.others.of i 0) l.seat l.of

-- The worths of the seats passed; 0 past them. Assumes nothing.
use mathlib.Core.Path.{◌≡◌}
use Rattle.units_worths.specs.internal.Worths.{lowered_of}
use Rattle.units_worths.proofs.worths.lowered_all.Given as goal

abbrev pub invariant-loop-seat : goal.invariant-loop-seat
invariant-loop-seat l = l.out ≡ lowered_of l.sums.of l.u l.seat

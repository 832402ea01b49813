-- The sums of the places passed. Assumes nothing.
use Rattle.units_collect.proofs.Summing.{Reached}
use Rattle.units_collect.proofs.ends.end_sums.Given as goal

abbrev pub invariant-loop-a : goal.invariant-loop-a
invariant-loop-a l = Reached l.w l.units l.a l.sums.of

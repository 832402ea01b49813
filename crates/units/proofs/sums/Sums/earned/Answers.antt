use Rattle.units.proofs.Six.{filled-start, filled_next, filled_all, product}
use Rattle.units.proofs.sums.Sums.earned.Goals as goal

pub loop-seat-init : goal.loop-seat-init
loop-seat-init c = filled-start _

pub loop-seat-preserved : goal.loop-seat-preserved
loop-seat-preserved c = filled_next _ _ _ _ c.loop-seat-test.true (product _ _ _ c.requires c.lifted.ensures) c.loop-seat.invariant

pub returns : goal.returns
returns c = filled_all _ _ _ c.loop-seat-test.false c.loop-seat.invariant

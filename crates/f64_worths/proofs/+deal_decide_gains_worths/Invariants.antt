-- The worths of each node, from the root down: the remaining depth falls. Assumes nothing.
use Prim.Native.Nat.{◌+◌, ◌-◌, ◌*◌}
use Rattle.f64_worths.specs.internal.Expected.{Walkable}
use Rattle.f64_worths.proofs.Both as both
use Rattle.f64_worths.proofs.+deal_decide_gains_worths.Given as goal

abbrev pub decreases-deal : goal.decreases-deal
decreases-deal l = 3 * l.depth + 2

abbrev pub decreases-decide : goal.decreases-decide
decreases-decide l = 3 * l.depth + 2

abbrev pub decreases-gains : goal.decreases-gains
decreases-gains l = 3 * l.depth + 1

abbrev pub decreases-worths : goal.decreases-worths
decreases-worths l = 3 * l.depth

abbrev pub invariant-deal-loop-at : goal.invariant-deal-loop-at
invariant-deal-loop-at l = both.Dealing l.profile l.w l.a l.depth l.seat l.end l.at l.sums × Walkable l.at l.seat l.depth

abbrev pub decreases-deal-loop-at : goal.decreases-deal-loop-at
decreases-deal-loop-at l = l.end - l.at

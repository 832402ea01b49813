-- The units of each node, from the root down: the remaining depth falls. Assumes nothing.
use Prim.Native.Nat.{◌+◌, ◌-◌, ◌*◌}
use mathlib.Core.Path.{◌≡◌}
use Rattle.units.specs.internal.Readable.{Walkable}
use Rattle.units_collect.specs.internal.Collected.{Each, Shared}
use Rattle.units_collect.proofs.Storing as storing
use Rattle.units_collect.proofs.+collect_deal_decide_divide_one_spread.Given as goal

abbrev pub decreases-collect : goal.decreases-collect
decreases-collect l = 4 * l.depth

abbrev pub decreases-deal : goal.decreases-deal
decreases-deal l = 4 * l.depth + 3

abbrev pub decreases-decide : goal.decreases-decide
decreases-decide l = 4 * l.depth + 3

abbrev pub decreases-divide : goal.decreases-divide
decreases-divide l = 4 * l.depth + 2

abbrev pub decreases-one : goal.decreases-one
decreases-one l = 4 * l.depth + 1

abbrev pub decreases-spread : goal.decreases-spread
decreases-spread l = 4 * l.depth + 2

abbrev pub invariant-divide-loop-entry : goal.invariant-divide-loop-entry
invariant-divide-loop-entry l = let W = l.walk in
    storing.SoFar W.others.entries.now W.others.parts W.seat W.reach l.a l.depth l.initial.w (Shared W.others.entries.now l.part W.others.parts l.u) (λ y. y ≡ l.entry-index) l.at l.w
    × Walkable l.at l.u l.depth

abbrev pub invariant-spread-loop-at : goal.invariant-spread-loop-at
invariant-spread-loop-at l = let W = l.walk in
    storing.SoFar W.others.entries.now W.others.parts W.seat W.reach l.a l.depth l.initial.w (Each l.a l.end l.u) (λ c. Unit {0}) l.at l.w
    × Walkable l.at l.u l.depth

abbrev pub decreases-spread-loop-at : goal.decreases-spread-loop-at
decreases-spread-loop-at l = l.end - l.at

-- The reach of each own decision, from the root down: the remaining depth falls. Assumes nothing.
use Prim.Native.Nat.{◌+◌, ◌-◌, ◌*◌}
use mathlib.Core.Path.{◌≡◌}
use Rattle.f64_collect.specs.internal.Reached.{Walkable, Each, Divided}
use Rattle.f64_collect.proofs.Storing as storing
use Rattle.f64_collect.proofs.+collect_divide_one_spread.Given as goal

abbrev pub decreases-collect : goal.decreases-collect
decreases-collect l = 3 * l.depth

abbrev pub decreases-divide : goal.decreases-divide
decreases-divide l = 3 * l.depth + 2

abbrev pub decreases-one : goal.decreases-one
decreases-one l = 3 * l.depth + 1

abbrev pub decreases-spread : goal.decreases-spread
decreases-spread l = 3 * l.depth + 2

abbrev pub invariant-divide-loop-p : goal.invariant-divide-loop-p
invariant-divide-loop-p l = let W = l.walk in
    storing.SoFar W.others.now W.seat W.reach l.a l.depth l.initial.w (Divided W.others.now l.part l.r) (λ y. y ≡ l.p-index) l.at l.w × Walkable l.at l.depth

abbrev pub invariant-spread-loop-at : goal.invariant-spread-loop-at
invariant-spread-loop-at l = let W = l.walk in
    storing.SoFar W.others.now W.seat W.reach l.a l.depth l.initial.w (Each l.a l.end l.r) (λ c. Unit {0}) l.at l.w × Walkable l.at l.depth

abbrev pub decreases-spread-loop-at : goal.decreases-spread-loop-at
decreases-spread-loop-at l = l.end - l.at

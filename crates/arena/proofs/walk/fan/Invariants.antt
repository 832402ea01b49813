use Prim.Native.Nat.{◌-◌, ◌≤◌, ◌<◌}
use Rattle.arena.proofs.Walking.{Along}
use Rattle.arena.proofs.walk.fan.Given as goal

abbrev pub invariant-loop-at : goal.invariant-loop-at
invariant-loop-at l = Along l.w l.a l.end l.at l.count × (l.count ≤ l.at) × (l.at < 8388608)

abbrev pub decreases-loop-at : goal.decreases-loop-at
decreases-loop-at l = l.end - l.at

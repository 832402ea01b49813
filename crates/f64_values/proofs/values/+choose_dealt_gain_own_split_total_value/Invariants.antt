-- Value and choice, which call each other: the remaining depth falls. Assumes nothing.
use Prim.Native.Nat.{◌+◌, ◌-◌, ◌*◌, ◌≤◌, ◌<◌}
use Rattle.arena.specs.internal.Words.{PLACES}
use Rattle.f64_values.proofs.Valuing as valuing
use Rattle.f64_values.proofs.Choosing as choosing
use Rattle.f64_values.proofs.values.+choose_dealt_gain_own_split_total_value.Given as goal

abbrev pub decreases-choose : goal.decreases-choose
decreases-choose l = 5 * l.depth + 3

abbrev pub decreases-dealt : goal.decreases-dealt
decreases-dealt l = 5 * l.depth + 2

abbrev pub decreases-gain : goal.decreases-gain
decreases-gain l = 5 * l.depth + 1

abbrev pub decreases-own : goal.decreases-own
decreases-own l = 5 * l.depth + 4

abbrev pub decreases-split : goal.decreases-split
decreases-split l = 5 * l.depth + 2

abbrev pub decreases-total : goal.decreases-total
decreases-total l = 5 * l.depth + 2

abbrev pub decreases-value : goal.decreases-value
decreases-value l = 5 * l.depth

abbrev pub invariant-choose-loop-action : goal.invariant-choose-loop-action
invariant-choose-loop-action l = let S = l.search in
    choosing.Led S.walk.others.now S.walk.seat l.depth S.heads S.walk.reach S.kept l.first l.count l.initial.w l.w l.lead.action l.lead.sum l.action × (l.lead.action ≤ l.action - 1)

abbrev pub invariant-dealt-loop-at : goal.invariant-dealt-loop-at
invariant-dealt-loop-at l = let S = l.search in
    valuing.Along S.walk.others.now S.walk.seat l.depth S.heads S.walk.reach S.kept l.a l.end l.initial.w l.each l.w l.at l.sum × (l.at + l.depth < 8388608)

abbrev pub decreases-dealt-loop-at : goal.decreases-dealt-loop-at
decreases-dealt-loop-at l = l.end - l.at

abbrev pub invariant-split-loop-entry : goal.invariant-split-loop-entry
invariant-split-loop-entry l = let S = l.search in
    valuing.Halfway S.walk.others.now S.walk.seat l.depth S.heads S.walk.reach S.kept l.a l.x l.initial.w l.w l.at l.entry-index l.sum × (l.at + l.depth < 8388608)

abbrev pub invariant-total-loop-at : goal.invariant-total-loop-at
invariant-total-loop-at l = let S = l.search in
    choosing.Summed S.walk.others.now S.walk.seat l.depth S.heads S.walk.reach S.kept l.first l.action l.initial.w l.w l.at l.sum × (l.at < PLACES)

abbrev pub decreases-total-loop-at : goal.decreases-total-loop-at
decreases-total-loop-at l = PLACES - l.at

-- Value and choice, which call each other: the remaining depth falls. Assumes nothing.
use Rattle.std.proofs.Common.{◌+◌, ◌-◌, ◌*◌, ◌<◌, ◌≤◌}
use Rattle.arena.specs.internal.Words.{PLACES}
use Rattle.units_values.proofs.Valuing as valuing
use Rattle.units_values.proofs.Choosing as choosing
use Rattle.units_values.proofs.values.+below_choose_own_row_total_value.Given as goal

abbrev pub decreases-below : goal.decreases-below
decreases-below g l = 5 * l.depth + 1

abbrev pub decreases-choose : goal.decreases-choose
decreases-choose g l = 5 * l.depth + 3

abbrev pub decreases-own : goal.decreases-own
decreases-own g l = 5 * l.depth + 4

abbrev pub decreases-row : goal.decreases-row
decreases-row g l = 5 * l.depth + 2

abbrev pub decreases-total : goal.decreases-total
decreases-total g l = 5 * l.depth + 2

abbrev pub decreases-value : goal.decreases-value
decreases-value g l = 5 * l.depth

abbrev pub invariant-choose-loop-action : goal.invariant-choose-loop-action
invariant-choose-loop-action g l = let S = l.search in
    choosing.Led S.walk.seat l.depth S.heads S.walk.reach S.kept l.first l.count l.initial.w l.w l.lead.action l.lead.sum l.action × (l.lead.action ≤ l.action - 1)

abbrev pub invariant-row-loop-at : goal.invariant-row-loop-at
invariant-row-loop-at g l = let S = l.search in
    valuing.Along S.walk.seat l.depth S.heads S.walk.reach S.kept l.a l.end l.initial.w l.w l.at l.sum × (l.at + l.depth < 8388608)

abbrev pub decreases-row-loop-at : goal.decreases-row-loop-at
decreases-row-loop-at g l = l.end - l.at

abbrev pub invariant-total-loop-at : goal.invariant-total-loop-at
invariant-total-loop-at g l = let S = l.search in
    choosing.Summed S.walk.seat l.depth S.heads S.walk.reach S.kept l.first l.action l.initial.w l.w l.at l.sum × (l.at < PLACES)

abbrev pub decreases-total-loop-at : goal.decreases-total-loop-at
decreases-total-loop-at g l = PLACES - l.at

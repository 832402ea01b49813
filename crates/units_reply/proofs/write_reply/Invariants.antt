-- The entries of the sets passed. Assumes nothing.
use Prim.Native.Nat.{◌*◌, ◌≤◌}
use Rattle.units_reply.proofs.Laying as laying
use Rattle.units_reply.proofs.write_reply.Given as goal

abbrev pub invariant-loop-set : goal.invariant-loop-set
invariant-loop-set l = let S = l.search in
    laying.Laying S.walk.others.now l.count S.walk.seat l.parts S.heads S.walk.reach S.kept l.initial.w l.initial.out l.w l.out l._set l.at × (l.at ≤ 4 * l._set)

-- The entries of the sets passed. Assumes nothing.
use native.Mathlib.Omega.{arith}
use lib.ListN.{get_or}
use Prim.Native.Nat.{◌+◌}
use mathlib.Core.Path.{◌∙◌, sym, ap, subst}
use Rattle.units_reply.proofs.Laying as laying
use Rattle.units_reply.proofs.write_reply.Goals as goal

pub loop-set-init : goal.loop-set-init
loop-set-init c = let a = c.args in let S = a.search.now in
    (laying.laying_start S.walk.others.now a.count S.walk.seat a.parts S.heads S.walk.reach S.kept a.w.now a.out.now, omega arith)

pub loop-set-preserved : goal.loop-set-preserved
loop-set-preserved c = let a = c.args in let S = a.search.now in (
  subst (λ z. laying.Laying S.walk.others.now a.count S.walk.seat a.parts S.heads S.walk.reach S.kept a.w.now a.out.now c.write_set.new.w c.write_set.new.out
      (c.loop-set._set + 1) (c.loop-set.at + z)) (sym c.actions-at.ensures)
      (laying.laying_more S.walk.others.now a.count S.walk.seat a.parts S.heads S.walk.reach S.kept a.w.now a.out.now c.loop-set.w
      c.write_set.new.w c.loop-set.out c.write_set.new.out c.loop-set._set c.loop-set.at c.word-x.result c.loop-set-test.true c.loop-set.invariant.0
      (c.word-x.ensures ∙ ap (λ z. get_or c.loop-set.w z 0) c.first_member.ensures) c.write_set.ensures),
  omega (arith, c.loop-set.invariant.1, c.actions-at.ensures),
)

pub returns : goal.returns
returns c = let a = c.args in let S = a.search.now in
    laying.laying_end S.walk.others.now a.count S.walk.seat a.parts S.heads S.walk.reach S.kept a.w.now a.out.now c.loop-set.w c.loop-set.out c.loop-set._set c.loop-set.at
    c.loop-set-test.false c.loop-set.invariant.0

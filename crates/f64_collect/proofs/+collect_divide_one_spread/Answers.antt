-- The reach of each own decision, from the root down: the remaining depth falls. Assumes nothing.
use mathlib.Core.Path.{refl, sym, ◌∙◌}
use native.Mathlib.Omega.{arith}
use Rattle.f64_collect.proofs.Storing as storing
use Rattle.f64_collect.proofs.+collect_divide_one_spread.Goals as goal

pub collect-returns-then-depth-eq0 : goal.collect-returns-then-depth-eq0
collect-returns-then-depth-eq0 t c = storing.node_none _ _ _ _ _ _ _ c.if-depth-eq0.true

pub collect-returns-in-End : goal.collect-returns-in-End
collect-returns-in-End t c = storing.node_end _ _ _ _ _ _ _ _ c.word-x.ensures (c.in-End.ensures.end.0 refl)

pub collect-returns-in-Chance : goal.collect-returns-in-Chance
collect-returns-in-Chance t c = storing.node-chance _ _ _ _ _ _ _ _ c.word-x.ensures _ _ _ _ (c.in-Chance.ensures.chance.0 refl) c.next-end.ensures
    c.fan.ensures c.weight.ensures c.spread.ensures

pub collect-returns-in_default : goal.collect-returns-in_default
collect-returns-in_default t c = storing.node_own _ _ _ _ _ _ _ _ c.word-x.ensures _ _ _ (λ q. c.in_default.not-End (c.kind.ensures.end.1 q)) (λ q. c.in_default.not-Chance (c.kind.ensures.chance.1 q))
    (sym c.actor.ensures ∙ c.if-actor-walk.true) c.put_float.ensures c.next.ensures c.spread-in_default.ensures

pub collect-returns-then-walk-end : goal.collect-returns-then-walk-end
collect-returns-then-walk-end t c = storing.node-short _ _ _ _ _ _ _ _ c.word-x.ensures (λ q. c.in_default.not-End (c.kind.ensures.end.1 q)) (λ q. c.in_default.not-Chance (c.kind.ensures.chance.1 q))
    (omega (arith, c.set-first.ensures, c.actions.ensures, c.if-walk-end.true))

pub collect-returns-else-walk-end : goal.collect-returns-else-walk-end
collect-returns-else-walk-end t c = storing.node-other _ _ _ _ _ _ _ _ c.word-x.ensures _ _ _ (λ q. c.in_default.not-End (c.kind.ensures.end.1 q)) (λ q. c.in_default.not-Chance (c.kind.ensures.chance.1 q))
    (λ q. c.if-actor-walk.false (c.actor.ensures ∙ q)) c.set-first.ensures c.actions.ensures c.if-walk-end.false c.divide.ensures

pub divide-loop-p-preserved : goal.divide-loop-p-preserved
divide-loop-p-preserved t c = (
  storing.divided_more _ _ _ _ _ _ _ _ _ _ _ _ _ _ c.loop-p.invariant.0 c.loop-p-test.true refl c.one.ensures c.behind-at.ensures,
  storing.walk_along _ _ _ c.requires c.behind-at.ensures.near,
)

pub divide-returns : goal.divide-returns
divide-returns t c = storing.divided_end _ _ _ _ _ _ _ _ _ _ _ c.loop-p.invariant.0 c.loop-p-test.false

pub one-returns-in-End : goal.one-returns-in-End
one-returns-in-End t c = storing.node_end _ _ _ _ _ _ _ _ c.word.ensures (c.in-End.ensures.end.0 refl)

pub spread-returns-then-next-at : goal.spread-returns-then-next-at
spread-returns-then-next-at t c = storing.each_stuck _ _ _ _ _ _ _ _ _ _ _ _ c.loop-at.invariant.0 c.loop-at-test.true c.one.ensures
    c.behind-next.ensures c.if-next-at.true

pub spread-loop-at-preserved : goal.spread-loop-at-preserved
spread-loop-at-preserved t c = (
  storing.each_more _ _ _ _ _ _ _ _ _ _ _ _ c.loop-at.invariant.0 c.loop-at-test.true c.one.ensures c.behind-next.ensures,
  storing.walk_along _ _ _ c.requires c.behind-next.ensures.near,
)

pub spread-returns : goal.spread-returns
spread-returns t c = storing.each_end _ _ _ _ _ _ _ _ _ _ c.loop-at.invariant.0 c.loop-at-test.false

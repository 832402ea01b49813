-- The units of each node, from the root down: the remaining depth falls. Assumes nothing.
use mathlib.Core.Path.{refl, sym, ◌∙◌}
use Rattle.units.proofs.Passing as passing
use Rattle.units_collect.proofs.Storing as storing
use Rattle.units_collect.proofs.+collect_deal_decide_divide_one_spread.Goals as goal

pub collect-returns-then-depth-eq0 : goal.collect-returns-then-depth-eq0
collect-returns-then-depth-eq0 t c = storing.node_none _ _ _ _ _ _ _ _ c.if-depth-eq0.true

pub collect-returns-in-End : goal.collect-returns-in-End
collect-returns-in-End t c = storing.node_end _ _ _ _ _ _ _ _ _ _ c.put.ensures c.word-x.ensures (c.in-End.ensures.end.0 refl)

pub collect-returns-in-Chance : goal.collect-returns-in-Chance
collect-returns-in-Chance t c = storing.node-chance _ _ _ _ _ _ _ _ _ _ c.put.ensures c.word-x.ensures _ _ (c.in-Chance.ensures.chance.0 refl) c.next.ensures
    c.deal.ensures

pub collect-returns-in_default : goal.collect-returns-in_default
collect-returns-in_default t c = storing.node-decides _ _ _ _ _ _ _ _ _ _ c.put.ensures c.word-x.ensures _ (λ q. c.in_default.not-End (c.kind.ensures.end.1 q))
    (λ q. c.in_default.not-Chance (c.kind.ensures.chance.1 q)) c.decide.ensures

pub deal-returns-then-count-eq0 : goal.deal-returns-then-count-eq0
deal-returns-then-count-eq0 t c = storing.deal_none _ _ _ _ _ _ _ _ _ _ c.fan-count.ensures c.if-count-eq0.true

pub deal-returns : goal.deal-returns
deal-returns t c = storing.deal_some _ _ _ _ _ _ _ _ _ _ c.fan-count.ensures _ c.spread.ensures

pub decide-returns-then-actor-walk : goal.decide-returns-then-actor-walk
decide-returns-then-actor-walk t c = storing.decide_own _ _ c.args.walk.now.seat _ _ _ _ _ _ _ _ (sym c.actor.ensures ∙ c.if-actor-walk.true)
    c.next.ensures c.spread.ensures

pub decide-returns : goal.decide-returns
decide-returns t c = storing.decide-other _ _ c.args.walk.now.seat _ _ _ _ _ _ _ _ _ (λ q. c.if-actor-walk.false (c.actor.ensures ∙ q))
    c.set-first.ensures c.actions.ensures c.if-walk-end.false c.divide.ensures

pub divide-loop-entry-preserved : goal.divide-loop-entry-preserved
divide-loop-entry-preserved t c = let b = c.behind-at.ensures in (
  storing.shared_more _ _ _ _ _ _ _ _ _ _ _ _ _ _ _ c.loop-entry.invariant.0 c.loop-entry-test.true c.share.ensures.1 c.one.ensures b,
  passing.walk-along _ _ _ _ _ c.requires b.near c.requires.units,
)

pub divide-returns : goal.divide-returns
divide-returns t c = storing.shared_end _ _ _ _ _ _ _ _ _ _ _ _ c.loop-entry.invariant.0 c.loop-entry-test.false

pub one-returns-in-End : goal.one-returns-in-End
one-returns-in-End t c = storing.node_peeked _ _ _ _ _ _ _ _ _ _ c.put.ensures c.word.ensures (c.in-End.ensures.end.0 refl)

pub spread-returns-then-next-at : goal.spread-returns-then-next-at
spread-returns-then-next-at t c = storing.each_stuck _ _ _ _ _ _ _ _ _ _ _ _ _ c.loop-at.invariant.0 c.loop-at-test.true c.one.ensures
    c.behind-next.ensures c.if-next-at.true

pub spread-loop-at-preserved : goal.spread-loop-at-preserved
spread-loop-at-preserved t c = (
  storing.each_more _ _ _ _ _ _ _ _ _ _ _ _ _ c.loop-at.invariant.0 c.loop-at-test.true c.one.ensures c.behind-next.ensures,
  passing.walk-along _ _ _ _ _ c.requires c.behind-next.ensures.near c.requires.units,
)

pub spread-returns : goal.spread-returns
spread-returns t c = storing.each_end _ _ _ _ _ _ _ _ _ _ _ c.loop-at.invariant.0 c.loop-at-test.false

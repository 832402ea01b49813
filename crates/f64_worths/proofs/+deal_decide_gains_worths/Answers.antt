-- The worths of each node, from the root down: the remaining depth falls. Assumes nothing.
use mathlib.Core.Path.{refl}
use Prim.Native.Nat.{◌+◌}
use native.Mathlib.Omega.{arith}
use Rattle.f64_worths.proofs.Both as both
use Rattle.f64_worths.proofs.+deal_decide_gains_worths.Goals as goal

pub deal-returns-then-next-at : goal.deal-returns-then-next-at
deal-returns-then-next-at t c = both.deal_stuck _ _ _ _ _ _ _ _ _ _ c.loop-at.sums c.gains-g.result c.more-sums.result c.fan-count.ensures
    c.weight-p.ensures c.loop-at.invariant.0 c.loop-at-test.true c.gains-g.ensures c.behind-next.ensures c.if-next-at.true

pub deal-loop-at-preserved : goal.deal-loop-at-preserved
deal-loop-at-preserved t c = (
  both.deal_more _ _ _ _ _ _ _ _ _ _ c.loop-at.sums c.gains-g.result c.more-sums.result c.fan-count.ensures c.weight-p.ensures c.loop-at.invariant.0
      c.loop-at-test.true c.gains-g.ensures c.behind-next.ensures c.more-sums.ensures,
  both.walk-along _ _ _ _ c.requires c.behind-next.ensures.near,
)

pub deal-returns : goal.deal-returns
deal-returns t c = both.deal_end _ _ _ _ _ _ _ c.loop-at.sums c.loop-at.invariant.0 c.loop-at-test.false

pub decide-returns-then-count-eq2 : goal.decide-returns-then-count-eq2
decide-returns-then-count-eq2 t c = let P = c.args.profile.now in let s = c.set-first.result in let z = s + c.actions-count.result in
    let y = c.actions-count.ensures in
    let first = both.summed_part P s z 0 c.none-2.result c.gains-zero.result c.more-sums.result (omega (arith, c.if-count-lt2.false)) c.more-sums.ensures in
    let second = both.summed_part P s z 1 c.more-sums.result c.gains-one.result c.more-both.result (omega (arith, c.if-count-lt2.false)) c.more-both.ensures in
    let one = both.decide_more _ _ _ _ _ _ _ _ _ c.none-2.result c.gains-zero.result c.more-sums.result c.set-first.ensures
    (both.decide-start _ _ _ _ _ _ c.none-2.result c.none-2.ensures) c.gains-zero.ensures first _ (omega (arith, y, c.if-count-lt2.false))
    c.behind-b.ensures in
    both.decide_last _ _ _ _ _ _ _ _ _ c.more-sums.result c.gains-one.result c.more-both.result c.set-first.ensures one c.gains-one.ensures
    second (omega (arith, y, c.if-count-eq2.true))

pub decide-returns : goal.decide-returns
decide-returns t c = let P = c.args.profile.now in let s = c.set-first.result in let z = s + c.actions-count.result in
    let y = c.actions-count.ensures in
    let first = both.summed_part P s z 0 c.none-2.result c.gains-zero.result c.more-sums.result (omega (arith, c.if-count-lt2.false)) c.more-sums.ensures in
    let second = both.summed_part P s z 1 c.more-sums.result c.gains-one.result c.more-both.result (omega (arith, c.if-count-lt2.false)) c.more-both.ensures in
    let one = both.decide_more _ _ _ _ _ _ _ _ _ c.none-2.result c.gains-zero.result c.more-sums.result c.set-first.ensures
    (both.decide-start _ _ _ _ _ _ c.none-2.result c.none-2.ensures) c.gains-zero.ensures first _ (omega (arith, y, c.if-count-lt2.false))
    c.behind-b.ensures in
    let third = both.summed_part P s z 2 c.more-both.result c.gains-two.result c.more.result (omega (arith, c.if-count-lt2.false, c.if-count-eq2.false)) c.more.ensures in
    let two = both.decide_more _ _ _ _ _ _ _ _ _ c.more-sums.result c.gains-one.result c.more-both.result c.set-first.ensures one c.gains-one.ensures
    second _ (omega (arith, y, c.if-count-lt2.false)) c.behind-c.ensures in
    both.decide_last _ _ _ _ _ _ _ _ _ c.more-both.result c.gains-two.result c.more.result c.set-first.ensures two c.gains-two.ensures
    third (omega (arith, y, c.if-count-lt2.false, c.if-count-eq2.false))

pub gains-returns-in-End : goal.gains-returns-in-End
gains-returns-in-End t c = both.gains_end _ _ _ _ _ c.paid.result _ c.word-x.ensures (c.in-End.ensures.end.0 refl) c.paid.ensures

pub gains-returns-in_default : goal.gains-returns-in_default
gains-returns-in_default t c = both.gains-other _ _ _ _ _ c.unpaid.result _ c.word-x.ensures c.worths.result
    (λ q. c.in_default.not-End (c.kind.ensures.end.1 q)) c.worths.ensures c.unpaid.ensures

pub worths-returns-then-depth-eq0 : goal.worths-returns-then-depth-eq0
worths-returns-then-depth-eq0 t c = both.worths-shallow _ _ _ _ _ c.none.result c.if-depth-eq0.true

pub worths-returns-in-End : goal.worths-returns-in-End
worths-returns-in-End t c = both.worths_end _ _ _ _ _ c.none-in-End.result _ c.word-x.ensures (c.in-End.ensures.end.0 refl) c.none-in-End.ensures

pub worths-returns-in-Chance : goal.worths-returns-in-Chance
worths-returns-in-Chance t c = both.worths-chance _ _ _ _ _ c.deal.result _ c.word-x.ensures _ (c.in-Chance.ensures.chance.0 refl) c.next.ensures c.deal.ensures

pub worths-returns-in_default : goal.worths-returns-in_default
worths-returns-in_default t c = both.worths_decision _ _ _ _ _ c.decide.result _ c.word-x.ensures (λ q. c.in_default.not-End (c.kind.ensures.end.1 q))
    (λ q. c.in_default.not-Chance (c.kind.ensures.chance.1 q)) c.decide.ensures

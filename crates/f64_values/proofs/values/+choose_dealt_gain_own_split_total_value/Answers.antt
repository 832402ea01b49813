-- Value and choice, which call each other: the remaining depth falls. Assumes nothing.
use Rattle.std.proofs.Common.{◌+◌, ◌-◌, sym, refl, ap, ◌∙◌, subst, arith}
use lib.Ieee.{lt}
use Rattle.arena.specs.internal.Words.{actions_of, later_of}
use Rattle.game_tree_f64.specs.Values.{nought, plus}
use Rattle.argmax.proofs.Past.{past_few, past_f64}
use Rattle.f64_values.specs.internal.Valued.{Chosen, Dealt}
use Rattle.f64_values.proofs.Valuing as valuing
use Rattle.f64_values.proofs.Choosing as choosing
use Rattle.f64_values.proofs.values.+choose_dealt_gain_own_split_total_value.Goals as goal

pub choose-loop-action-init : goal.choose-loop-action-init
choose-loop-action-init t c = let a = c.args in let S = a.search.now in (
  choosing.led_start S.walk.others.now S.walk.seat a.depth S.heads S.walk.reach S.kept a.first a.count a.w.now _ _ (ap (λ l. l.action) c.start-lead.ensures) (ap (λ l. l.sum) c.start-lead.ensures),
  omega (arith, ap (λ l. l.action) c.start-lead.ensures),
)

pub choose-loop-action-preserved : goal.choose-loop-action-preserved
choose-loop-action-preserved t c = let a = c.args in let S = a.search.now in
    let p = past_f64 c.loop-action.lead c.past-lead.result c.loop-action.action c.total-sum.result c.past-lead.ensures in (
      choosing.led_more S.walk.others.now S.walk.seat a.depth S.heads S.walk.reach S.kept a.first a.count a.w.now c.loop-action.w c.total-sum.new.w c.loop-action.lead.action c.loop-action.lead.sum c.loop-action.action
          c.total-sum.result c.past-lead.result.action c.past-lead.result.sum c.loop-action.invariant.0 c.loop-action-test.true c.total-sum.ensures p.0 p.1,
      omega (arith, p.0, past_few (lt c.loop-action.lead.sum c.total-sum.result) c.loop-action.action c.loop-action.lead.action c.loop-action.invariant.1),
    )

pub choose-returns : goal.choose-returns
choose-returns t c = let a = c.args in let S = a.search.now in
    choosing.led_end S.walk.others.now S.walk.seat a.depth S.heads S.walk.reach S.kept a.first a.count a.w.now c.loop-action.w c.keep.new.w c.loop-action.lead.action c.loop-action.lead.sum
    c.loop-action.action c.loop-action.invariant.0 (omega (arith, c.loop-action-test.false)) c.keep.ensures

pub dealt-loop-at-init : goal.dealt-loop-at-init
dealt-loop-at-init t c = let a = c.args in let S = a.search.now in (
  valuing.along-start S.walk.others.now S.walk.seat a.depth S.heads S.walk.reach S.kept a.a a.end a.w.now c.weight-each.result c.fan.result
      c.fan.ensures c.weight-each.ensures,
  c.requires.place,
)

pub dealt-returns-then-next-at : goal.dealt-returns-then-next-at
dealt-returns-then-next-at t c = let a = c.args in let S = a.search.now in
    valuing.along_stuck S.walk.others.now S.walk.seat a.depth S.heads S.walk.reach S.kept a.a a.end a.w.now c.weight-each.result c.loop-at.w
    c.gain-g.new.w c.loop-at.at c.loop-at.sum c.gain-g.result _ c.behind-next.result c.loop-at.invariant.0 c.loop-at-test.true c.gain-g.ensures
    c.behind-next.ensures c.if-next-at.true

pub dealt-loop-at-preserved : goal.dealt-loop-at-preserved
dealt-loop-at-preserved t c = let a = c.args in let S = a.search.now in (
  valuing.along_more S.walk.others.now S.walk.seat a.depth S.heads S.walk.reach S.kept a.a a.end a.w.now c.weight-each.result c.loop-at.w c.gain-g.new.w
      c.loop-at.at c.loop-at.sum c.gain-g.result _ c.behind-next.result c.loop-at.invariant.0 c.loop-at-test.true c.gain-g.ensures refl c.behind-next.ensures,
  omega (arith, c.behind-next.ensures.near, c.requires.shallow),
)

pub dealt-returns : goal.dealt-returns
dealt-returns t c = let a = c.args in let S = a.search.now in
    valuing.along_end S.walk.others.now S.walk.seat a.depth S.heads S.walk.reach S.kept a.a a.end a.w.now c.weight-each.result c.loop-at.w c.loop-at.at
    c.loop-at.sum c.loop-at.invariant.0 (omega (arith, c.loop-at-test.false))

pub gain-returns-in-End : goal.gain-returns-in-End
gain-returns-in-End t c = let a = c.args in let S = a.search.now in
    valuing.gain_end S.walk.others.now S.walk.seat a.depth S.heads S.walk.reach S.kept a.a a.w.now c.word-x.result c.word-x.ensures _ (c.in-End.ensures.end.0 refl)
    (ap (λ y. plus y nought) c.payoff_of.ensures)

pub gain-returns-in_default : goal.gain-returns-in_default
gain-returns-in_default t c = let a = c.args in let S = a.search.now in
    valuing.gain_more S.walk.others.now S.walk.seat a.depth S.heads S.walk.reach S.kept a.a a.w.now c.word-x.result c.word-x.ensures c.value.new.w c.value.result _ (λ q. c.in_default.not-End (c.kind.ensures.end.1 q)) c.value.ensures refl

pub own-returns : goal.own-returns
own-returns t c = let a = c.args in let S = a.search.now in
    valuing.own_is S.walk.others.now S.walk.seat a.depth S.heads S.walk.reach S.kept a.a a.x a.w.now c.choose-choice.new.w c.gain.new.w c.choose-choice.result c.child-at.result
    c.gain.result (subst (λ e. Chosen S.walk.others.now S.walk.seat a.depth S.heads S.walk.reach S.kept e (actions_of a.x) a.w.now c.choose-choice.new.w c.choose-choice.result)
    c.set.ensures (subst (λ n. Chosen S.walk.others.now S.walk.seat a.depth S.heads S.walk.reach S.kept c.set.result n a.w.now c.choose-choice.new.w c.choose-choice.result)
    c.actions.ensures c.choose-choice.ensures)) c.child-at.ensures c.gain.ensures

pub split-returns-then-search-end : goal.split-returns-then-search-end
split-returns-then-search-end t c = let a = c.args in let S = a.search.now in
    valuing.split-short S.walk.others.now S.walk.seat a.depth S.heads S.walk.reach S.kept a.a a.x a.w.now _ (omega (arith, c.if-search-end.true, c.set-first.ensures, c.actions.ensures))

pub split-loop-entry-preserved : goal.split-loop-entry-preserved
split-loop-entry-preserved t c = let a = c.args in let S = a.search.now in (
  valuing.halfway_more S.walk.others.now S.walk.seat a.depth S.heads S.walk.reach S.kept a.a a.x a.w.now c.set-first.result
      c.actions.result c.set-first.ensures c.actions.ensures c.if-search-end.false c.loop-entry.w c.gain-g.new.w c.loop-entry.at c.loop-entry.entry-index
      c.loop-entry.sum c.gain-g.result c.weighed-sum.result c.behind-at.result c.loop-entry.invariant.0 c.loop-entry-test.true c.gain-g.ensures c.weighed-sum.ensures
      c.behind-at.ensures,
  omega (arith, c.behind-at.ensures.near, c.requires.shallow),
)

pub split-returns : goal.split-returns
split-returns t c = let a = c.args in let S = a.search.now in
    valuing.halfway_end S.walk.others.now S.walk.seat a.depth S.heads S.walk.reach S.kept a.a a.x a.w.now c.set-first.result
    c.actions.result c.set-first.ensures c.actions.ensures c.if-search-end.false c.loop-entry.w c.loop-entry.at c.loop-entry.entry-index c.loop-entry.sum c.loop-entry.invariant.0
    c.loop-entry-test.false

pub total-loop-at-init : goal.total-loop-at-init
total-loop-at-init t c = let a = c.args in let S = a.search.now in
    (choosing.summed-start S.walk.others.now S.walk.seat a.depth S.heads S.walk.reach S.kept a.first a.action a.w.now _ c.first_member-at.ensures, omega arith)

pub total-returns-then-next-at : goal.total-returns-then-next-at
total-returns-then-next-at t c = let a = c.args in let S = a.search.now in
    choosing.summed_stuck S.walk.others.now S.walk.seat a.depth S.heads S.walk.reach S.kept a.first a.action a.w.now c.loop-at.w c.gain-g.new.w c.loop-at.at
    c.loop-at.sum c.child-place.result c.gain-g.result _ c.later-next.result c.loop-at.invariant.0 c.loop-at-test.true c.child-place.ensures c.gain-g.ensures
    c.reached-sum.ensures (c.later-next.ensures ∙ ap later_of c.word.ensures) c.if-next-at.true

pub total-loop-at-preserved : goal.total-loop-at-preserved
total-loop-at-preserved t c = let a = c.args in let S = a.search.now in (
  choosing.summed_more S.walk.others.now S.walk.seat a.depth S.heads S.walk.reach S.kept a.first a.action a.w.now c.loop-at.w c.gain-g.new.w c.loop-at.at
      c.loop-at.sum c.child-place.result c.gain-g.result _ c.later-next.result c.loop-at.invariant.0 c.loop-at-test.true c.child-place.ensures c.gain-g.ensures
      c.reached-sum.ensures (c.later-next.ensures ∙ ap later_of c.word.ensures),
  omega (arith, c.later-next.ensures),
)

pub total-returns : goal.total-returns
total-returns t c = let a = c.args in let S = a.search.now in
    choosing.summed_end S.walk.others.now S.walk.seat a.depth S.heads S.walk.reach S.kept a.first a.action a.w.now c.loop-at.w c.loop-at.at c.loop-at.sum
    c.loop-at.invariant.0 (λ l. omega (arith, l, c.loop-at-test.false))

pub value-returns-then-depth-eq0 : goal.value-returns-then-depth-eq0
value-returns-then-depth-eq0 t c = let a = c.args in let S = a.search.now in
    valuing.value_none S.walk.others.now S.walk.seat a.depth S.heads S.walk.reach S.kept a.a a.w.now _ c.if-depth-eq0.true

pub value-returns-in-End : goal.value-returns-in-End
value-returns-in-End t c = let a = c.args in let S = a.search.now in
    valuing.value_end S.walk.others.now S.walk.seat a.depth S.heads S.walk.reach S.kept a.a a.w.now c.word-x.result c.word-x.ensures (c.in-End.ensures.end.0 refl)

pub value-returns-in-Chance : goal.value-returns-in-Chance
value-returns-in-Chance t c = let a = c.args in let S = a.search.now in
    valuing.value-chance S.walk.others.now S.walk.seat a.depth S.heads S.walk.reach S.kept a.a a.w.now c.word-x.result c.word-x.ensures c.dealt.new.w c.dealt.result (c.in-Chance.ensures.chance.0 refl)
    (subst (λ z. Dealt S.walk.others.now S.walk.seat (a.depth - 1) S.heads S.walk.reach S.kept (a.a + 1) z a.w.now c.dealt.new.w c.dealt.result) c.next.ensures c.dealt.ensures)

pub value-returns-in_default : goal.value-returns-in_default
value-returns-in_default t c = let a = c.args in let S = a.search.now in
    valuing.value_own S.walk.others.now S.walk.seat a.depth S.heads S.walk.reach S.kept a.a a.w.now c.word-x.result c.word-x.ensures c.own.new.w c.own.result (λ q. c.in_default.not-End (c.kind.ensures.end.1 q))
    (λ q. c.in_default.not-Chance (c.kind.ensures.chance.1 q)) (sym c.actor.ensures ∙ c.if-actor-search.true) c.own.ensures

pub value-returns-in_default-2 : goal.value-returns-in_default-2
value-returns-in_default-2 t c = let a = c.args in let S = a.search.now in
    valuing.value-other S.walk.others.now S.walk.seat a.depth S.heads S.walk.reach S.kept a.a a.w.now c.word-x.result c.word-x.ensures c.split.new.w c.split.result (λ q. c.in_default.not-End (c.kind.ensures.end.1 q))
    (λ q. c.in_default.not-Chance (c.kind.ensures.chance.1 q)) (λ q. c.if-actor-search.false (c.actor.ensures ∙ q)) c.split.ensures

-- Value and choice, which call each other: the remaining depth falls. Assumes nothing.
use Rattle.std.proofs.Common.{◌+◌, ◌-◌, ltb, sym, refl, ap, ◌∙◌, subst, arith}
use Rattle.arena.specs.internal.Words.{actions_of, later_of}
use Rattle.argmax.proofs.Past.{past_few, past_units}
use Rattle.units_values.specs.internal.Valued.{Chosen, ValuedAll}
use Rattle.units_values.proofs.Valuing as valuing
use Rattle.units_values.proofs.Choosing as choosing
use Rattle.units_values.proofs.values.+below_choose_own_row_total_value.Goals as goal
use Rattle.units_values.proofs.values.+below_choose_own_row_total_value.Goals.{value-in_default-via-in-Decision+else-actor-search, value-in_default-via-in_default}

pub below-returns-in-End : goal.below-returns-in-End
below-returns-in-End g t c = let a = c.args in let S = a.search.now in
    valuing.value-ended S.walk.seat a.depth S.heads S.walk.reach S.kept a.a a.w.now c.word-x.result c.word-x.ensures _ (c.in-End.ensures.end.0 refl) c.ended.ensures

pub choose-loop-action-init : goal.choose-loop-action-init
choose-loop-action-init g t c = let a = c.args in let S = a.search.now in
    (choosing.led_start S.walk.seat a.depth S.heads S.walk.reach S.kept a.first a.count a.w.now _ _ (ap (λ l. l.action) c.start-lead.ensures) (ap (λ l. l.sum) c.start-lead.ensures), omega (arith, ap (λ l. l.action) c.start-lead.ensures))

pub choose-loop-action-preserved : goal.choose-loop-action-preserved
choose-loop-action-preserved g t c = let a = c.args in let S = a.search.now in
    let p = past_units c.loop-action.lead c.past-lead.result c.loop-action.action c.total-sum.result c.past-lead.ensures in (
      choosing.led_more S.walk.seat a.depth S.heads S.walk.reach S.kept a.first a.count a.w.now c.loop-action.w c.total-sum.new.w c.loop-action.lead.action c.loop-action.lead.sum c.loop-action.action
          c.total-sum.result c.past-lead.result.action c.past-lead.result.sum c.loop-action.invariant.0 c.loop-action-test.true c.total-sum.ensures p.0 p.1,
      omega (arith, p.0, past_few (ltb c.loop-action.lead.sum c.total-sum.result) c.loop-action.action c.loop-action.lead.action c.loop-action.invariant.1),
    )

pub choose-returns : goal.choose-returns
choose-returns g t c = let a = c.args in let S = a.search.now in
    choosing.led_end S.walk.seat a.depth S.heads S.walk.reach S.kept a.first a.count a.w.now c.loop-action.w c.keep.new.w c.loop-action.lead.action c.loop-action.lead.sum
    c.loop-action.action c.loop-action.invariant.0 (omega (arith, c.loop-action-test.false)) c.keep.ensures

pub own-returns : goal.own-returns
own-returns g t c = let a = c.args in let S = a.search.now in
    valuing.own_is S.walk.seat a.depth S.heads S.walk.reach S.kept a.a a.x a.w.now c.choose-choice.new.w c.below.new.w c.choose-choice.result c.child-at.result
    c.below.result (subst (λ e. Chosen S.walk.seat a.depth S.heads S.walk.reach S.kept e (actions_of a.x) a.w.now c.choose-choice.new.w c.choose-choice.result)
    c.set.ensures (subst (λ n. Chosen S.walk.seat a.depth S.heads S.walk.reach S.kept c.set.result n a.w.now c.choose-choice.new.w c.choose-choice.result)
    c.actions.ensures c.choose-choice.ensures)) c.child-at.ensures c.below.ensures

pub row-returns-then-next-at : goal.row-returns-then-next-at
row-returns-then-next-at g t c = let a = c.args in let S = a.search.now in
    valuing.along_stuck S.walk.seat a.depth S.heads S.walk.reach S.kept a.a a.end a.w.now c.loop-at.w
    c.below-sum.new.w c.loop-at.at c.loop-at.sum c.below-sum.result _ c.behind-next.result c.loop-at.invariant.0
    c.loop-at-test.true c.below-sum.ensures c.behind-next.ensures c.if-next-at.true

pub row-loop-at-preserved : goal.row-loop-at-preserved
row-loop-at-preserved g t c = let a = c.args in let S = a.search.now in (
  valuing.along_more S.walk.seat a.depth S.heads S.walk.reach S.kept a.a a.end a.w.now c.loop-at.w c.below-sum.new.w c.loop-at.at c.loop-at.sum c.below-sum.result
      _ c.behind-next.result c.loop-at.invariant.0 c.loop-at-test.true c.below-sum.ensures refl c.behind-next.ensures,
  omega (arith, c.behind-next.ensures.near, c.requires.shallow),
)

pub row-returns : goal.row-returns
row-returns g t c = let a = c.args in let S = a.search.now in
    valuing.along_end S.walk.seat a.depth S.heads S.walk.reach S.kept a.a a.end a.w.now c.loop-at.w c.loop-at.at c.loop-at.sum c.loop-at.invariant.0 c.loop-at-test.false

pub total-loop-at-init : goal.total-loop-at-init
total-loop-at-init g t c = let a = c.args in let S = a.search.now in
    (choosing.summed-start S.walk.seat a.depth S.heads S.walk.reach S.kept a.first a.action a.w.now _ c.first_member-at.ensures, omega arith)

pub total-returns-then-next-at : goal.total-returns-then-next-at
total-returns-then-next-at g t c = let a = c.args in let S = a.search.now in
    choosing.summed_stuck S.walk.seat a.depth S.heads S.walk.reach S.kept a.first a.action a.w.now c.loop-at.w c.below-sum.new.w c.loop-at.at c.loop-at.sum
    c.child-place.result c.below-sum.result _ c.later-next.result c.loop-at.invariant.0 c.loop-at-test.true c.child-place.ensures
    c.below-sum.ensures refl (c.later-next.ensures ∙ ap later_of c.word.ensures) c.if-next-at.true

pub total-loop-at-preserved : goal.total-loop-at-preserved
total-loop-at-preserved g t c = let a = c.args in let S = a.search.now in (
  choosing.summed_more S.walk.seat a.depth S.heads S.walk.reach S.kept a.first a.action a.w.now c.loop-at.w c.below-sum.new.w c.loop-at.at c.loop-at.sum
      c.child-place.result c.below-sum.result _ c.later-next.result c.loop-at.invariant.0 c.loop-at-test.true c.child-place.ensures
      c.below-sum.ensures refl (c.later-next.ensures ∙ ap later_of c.word.ensures),
  omega (arith, c.later-next.ensures),
)

pub total-returns : goal.total-returns
total-returns g t c = let a = c.args in let S = a.search.now in
    choosing.summed_end S.walk.seat a.depth S.heads S.walk.reach S.kept a.first a.action a.w.now c.loop-at.w c.loop-at.at c.loop-at.sum c.loop-at.invariant.0
    (λ l. omega (arith, l, c.loop-at-test.false))

pub value-returns-then-depth-eq0 : goal.value-returns-then-depth-eq0
value-returns-then-depth-eq0 g t c = let a = c.args in let S = a.search.now in valuing.value_none S.walk.seat a.depth S.heads S.walk.reach S.kept a.a a.w.now 0 c.if-depth-eq0.true

pub value-returns-in-End : goal.value-returns-in-End
value-returns-in-End g t c = let a = c.args in let S = a.search.now in
    valuing.value-ended S.walk.seat a.depth S.heads S.walk.reach S.kept a.a a.w.now c.word-x.result c.word-x.ensures _ (c.in-End.ensures.end.0 refl) c.ended.ensures

pub value-returns-in-Decision : goal.value-returns-in-Decision
value-returns-in-Decision g t c = let a = c.args in let S = a.search.now in
    valuing.value_own S.walk.seat a.depth S.heads S.walk.reach S.kept a.a a.w.now c.word-x.result c.word-x.ensures c.own.new.w c.own.result (c.in-Decision.ensures.decision.0 refl)
    (sym c.actor.ensures ∙ c.if-actor-search.true) c.own.ensures

pub value-returns-in_default : goal.value-returns-in_default
value-returns-in_default g t c = let a = c.args in let S = a.search.now in
    let row = valuing.value-row S.walk.seat a.depth S.heads S.walk.reach S.kept a.a a.w.now c.word-x.result c.word-x.ensures c.row.new.w c.row.result in
    let r = subst (λ z. ValuedAll S.walk.seat (a.depth - 1) S.heads S.walk.reach S.kept (a.a + 1) z a.w.now c.row.new.w c.row.result) c.next.ensures c.row.ensures in
    elim c.in_default.branch [
      | value-in_default-via-in-Decision+else-actor-search w ↦ row (λ q. let e = c.kind.ensures.end.1 q in cc (w.in-Decision.is)) (λ q p. w.if-actor-search.false (w.actor.ensures ∙ p)) r
      | value-in_default-via-in_default w ↦ row (λ q. w.in_default.not-End (c.kind.ensures.end.1 q)) (λ q p. w.in_default.not-Decision (c.kind.ensures.decision.1 q)) r
    ]

-- Deal. Assumes nothing.
use mathlib.Core.Path.{sym, ap, ◌∙◌}
use native.Mathlib.Omega.{arith}
use borrow.Author.Tests.{le-ltb, lt-ltb}
use Rattle.std.proofs.lemmas.Result.{err_from_is_err_and}
use Rattle.refusals.specs.declared.Refusal.TheVariants.{Unfit}
use Rattle.prelude.specs.internal.Places.{at_place}
use Rattle.refusals.proofs.Outcomes.{moved_ok, moved_err}
use Rattle.leduc_betting.specs.Cards.{seen, remaining}
use Rattle.leduc_rules.specs.Rules.{due}
use Rattle.leduc_positions.specs.Positions.{with_card}
use Rattle.leduc_positions.proofs.Positions.{of_hand}
use Rattle.leduc.specs.Calls.{deal-refusal}
use Rattle.leduc.proofs.Answers.{stopped, reached, placed_at, absent_at, in_deck, deal-idle, deal-past, deal-accepted}
use Rattle.leduc.proofs.LeducPoker.apply_chance_node.Goals as goal

pub returns-in_err-hand : goal.returns-in_err-hand
unfolding deal-refusal
returns-in_err-hand c =
    let p = err_from_is_err_and c.from_residual.result c.from_residual.ensures.1 in
    rw (p.1, p.2) (moved_err c.args.state _ _ _ (stopped c.args.state _ _ c.in_err-hand.ensures.number))

pub returns-then-not-is_due : goal.returns-then-not-is_due
returns-then-not-is_due c =
    moved_err c.args.state Unfit _ _ (sym (deal-idle c.args.state (reached _ c.in_ok-hand.ensures.number) c.args.outcome
    (sym (of_hand due c.in_ok-hand.ensures.hand) ∙ sym c.is_due.ensures ∙ c.if-not-is_due.true)))

pub overflow_cast-card : goal.overflow_cast-card
overflow_cast-card c = omega (arith, in_deck _ _ _ (sym c.in-Some.ensures))

pub returns-in-Some : goal.returns-in-Some
returns-in-Some c =
    let s = c.args.state in
    let (l, e) = placed_at _ _ _ (sym (c.in-Some.ensures ∙ ap (λ cs. at_place (remaining cs) c.args.outcome) (of_hand (λ cs p h₁ h₂. seen cs p) c.in_ok-hand.ensures.hand))) in
    moved_ok s _ _ _ (deal-accepted s (reached _ c.in_ok-hand.ensures.number) c.args.outcome
    (sym (of_hand due c.in_ok-hand.ensures.hand) ∙ sym c.is_due.ensures ∙ c.if-not-is_due.false) (lt-ltb _ _ l))
    (c.with_card.ensures ∙ ap (with_card s) (sym e))

pub returns-in-None : goal.returns-in-None
returns-in-None c =
    let s = c.args.state in
    let l = absent_at _ _ (sym (c.in-None.ensures ∙ ap (λ cs. at_place (remaining cs) c.args.outcome) (of_hand (λ cs p h₁ h₂. seen cs p) c.in_ok-hand.ensures.hand))) in
    moved_err s Unfit _ _ (sym (deal-past s (reached _ c.in_ok-hand.ensures.number) c.args.outcome
    (sym (of_hand due c.in_ok-hand.ensures.hand) ∙ sym c.is_due.ensures ∙ c.if-not-is_due.false) (le-ltb _ _ l)))

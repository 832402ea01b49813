-- Step. Assumes nothing.
use mathlib.Core.Path.{sym, ap, ◌∙◌}
use borrow.Author.Rules.{rules}
use Rattle.std.proofs.lemmas.Result.{err_from_is_err_and}
use Rattle.refusals.specs.declared.Refusal.TheVariants.{Unfit}
use Rattle.refusals.proofs.Outcomes.{moved_ok, moved_err}
use Rattle.leduc_betting.specs.Betting.{counted, in_play}
use Rattle.leduc_rules.specs.Rules.{live}
use Rattle.leduc_positions.specs.Positions.{with_action}
use Rattle.leduc_positions.proofs.Positions.{of_hand, room_to_act}
use Rattle.leduc.specs.Calls.{step_refusal}
use Rattle.leduc.proofs.Answers.{stopped, reached, step-idle, step_accepted}
use Rattle.leduc.proofs.LeducPoker.step.Goals as goal

pub returns-in_err-hand : goal.returns-in_err-hand
unfolding step_refusal
returns-in_err-hand c =
    let p = err_from_is_err_and c.from_residual.result c.from_residual.ensures.1 in
    rw (p.1, p.2) (moved_err c.args.state _ _ _ (stopped c.args.state _ _ c.in_err-hand.ensures.number))

pub returns-then-not-is_live : goal.returns-then-not-is_live
returns-then-not-is_live c =
    moved_err c.args.state Unfit _ _ (sym (step-idle c.args.state (reached _ c.in_ok-hand.ensures.number)
    (sym (of_hand live c.in_ok-hand.ensures.hand) ∙ sym c.is_live.ensures ∙ c.if-not-is_live.true)))

pub with_action-requires : goal.with_action-requires
with_action-requires c = (
  c.in_ok-hand.ensures.hand.short.1,
  room_to_act c.args.state (search rules) (search rules) (reached _ c.in_ok-hand.ensures.number)
      (sym (of_hand live c.in_ok-hand.ensures.hand) ∙ sym c.is_live.ensures ∙ c.if-not-is_live.false),
)

pub returns : goal.returns
returns c =
    moved_ok c.args.state _ _ _ (step_accepted c.args.state (reached _ c.in_ok-hand.ensures.number)
    (sym (of_hand live c.in_ok-hand.ensures.hand) ∙ sym c.is_live.ensures ∙ c.if-not-is_live.false))
    (c.with_action.ensures ∙ ap (with_action c.args.state) (c.action_made-made.ensures
    ∙ of_hand (λ cs p h₁ h₂. counted (in_play h₁ h₂) c.args.action) c.in_ok-hand.ensures.hand))

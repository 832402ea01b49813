-- Saved position. Assumes nothing.
use mathlib.Core.Path.{◌≡◌, refl, sym, ap, ◌∙◌}
use mathlib.Core.Bool.{Bool, true, false}
use mir.Val.{bool_byte}
use Rattle.std.proofs.lemmas.Result.{err_from_is_err_and}
use Rattle.refusals.proofs.Outcomes.{refuses}
use Rattle.leduc_betting.specs.Betting.{ended}
use Rattle.leduc_positions.specs.Positions.{mark}
use Rattle.leduc_positions.proofs.Positions.{of_hand}
use Rattle.leduc.proofs.Answers.{saved-stops, saved-mark-wrong, saved-accepted}
use Rattle.leduc.proofs.LeducPoker.validate_decoded_state.Goals as goal

marked : (b : Bool) → bool_byte b ≡ mark b
marked true = refl
marked false = refl

pub returns-in_err-hand : goal.returns-in_err-hand
returns-in_err-hand c =
    let p = err_from_is_err_and c.from_residual.result c.from_residual.ensures.1 in
    let e = c.in_err-hand.ensures.number in
    rw (p.1, p.2) (ap (λ n. record { refusal = n; state = c.args.state }) (e ∙ sym (saved-stops c.args.state c.args.done (λ z. refuses _ (e ∙ z)))))

pub returns-then-done-from : goal.returns-then-done-from
returns-then-done-from c =
    let over = c.from.ensures ∙ marked _ ∙ ap mark (c.is_over.ensures ∙ of_hand (λ cs p h₁ h₂. ended h₁ h₂) c.in_ok-hand.ensures.hand) in
    ap (λ n. record { refusal = n; state = c.args.state }) (sym (saved-mark-wrong c.args.state c.args.done (sym c.in_ok-hand.ensures.number) (λ e. c.if-done-from.true (e ∙ sym over))))

pub returns : goal.returns
returns c =
    let over = c.from.ensures ∙ marked _ ∙ ap mark (c.is_over.ensures ∙ of_hand (λ cs p h₁ h₂. ended h₁ h₂) c.in_ok-hand.ensures.hand) in
    ap (λ n. record { refusal = n; state = c.args.state }) (sym (saved-accepted c.args.state c.args.done (sym c.in_ok-hand.ensures.number) (c.if-done-from.false ∙ over)))

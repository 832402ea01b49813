-- Payoff. Assumes nothing.
use mathlib.Core.Path.{◌≡◌, sym, ap, ap₂, ◌∙◌}
use mathlib.Core.List.{[], ◌∷◌}
use native.Mathlib.Omega.{arith}
use Rattle.leduc_rules.specs.Rules.{payoff}
use lib.IntN.{pos}
use lib.ListN.{length, get_or, replicate}
use mir.Syntax.{w64}
use mir.Val.{to_z, of_z}
use borrow.Author.Rules.{rules}
use Rattle.std.proofs.lemmas.Result.{err_from_is_err_and}
use Rattle.refusals.specs.declared.Refusal.TheVariants.{Unfit}
use Rattle.leduc_betting.specs.Betting.{ended}
use Rattle.leduc_positions.proofs.Positions.{of_hand, begins-level, first_counted, second-counted}
use Rattle.leduc.specs.Calls.{payoff-refusal}
use Rattle.leduc.proofs.Answers.{stopped, reached, paid_err, payoff-early, payoff-accepted}
use Rattle.leduc.proofs.LeducPoker.payouts.Goals as goal

pub returns-in_err-hand : goal.returns-in_err-hand
unfolding payoff-refusal
returns-in_err-hand c =
    let p = err_from_is_err_and c.from_residual.result c.from_residual.ensures.1 in
    rw (p.1, p.2) (paid_err c.args.state _ _ (stopped c.args.state _ _ c.in_err-hand.ensures.number))

pub returns-then-not-is_over : goal.returns-then-not-is_over
returns-then-not-is_over c =
    paid_err c.args.state Unfit _ (sym (payoff-early c.args.state (reached _ c.in_ok-hand.ensures.number)
    (sym (of_hand (λ cs p h₁ h₂. ended h₁ h₂) c.in_ok-hand.ensures.hand) ∙ sym c.is_over.ensures ∙ c.if-not-is_over.true)))

pub settled-gains-requires : goal.settled-gains-requires
settled-gains-requires c =
    let s = c.args.state in let w = c.in_ok-hand.ensures.hand in let r = reached _ c.in_ok-hand.ensures.number in (
      omega (arith, ap length w.first, first_counted s (search rules) (search rules) r, w.short.1),
      omega (arith, ap length w.second, second-counted s (search rules) (search rules) r, w.short.2),
      rw (w.first, w.second) (begins-level s (search rules) (search rules) r),
    )

pub returns : goal.returns
returns c =
    let s = c.args.state in let w = c.in_ok-hand.ensures.hand in
    let gains = c.settled-gains.ensures ∙ of_hand (λ cs p h₁ h₂. payoff 1 2 4 cs p h₁ h₂ 0 ∷ payoff 1 2 4 cs p h₁ h₂ 1 ∷ []) w in
    let done = payoff-accepted s (reached _ c.in_ok-hand.ensures.number) (sym (of_hand (λ cs p h₁ h₂. ended h₁ h₂) w) ∙ sym c.is_over.ensures ∙ c.if-not-is_over.false) in
    let zero : to_z w64 (of_z w64 (get_or c.settled-gains.result 0 (pos 0))) ≡ get_or c.settled-gains.result 0 (pos 0) = search rules in
    let one : to_z w64 (of_z w64 (get_or c.settled-gains.result 1 (pos 0))) ≡ get_or c.settled-gains.result 1 (pos 0) = search rules in
    rw done (ap₂ (λ x y. record { refusal = 0; state = s; count = 2; payoffs = x ∷ y ∷ replicate 8 (pos 0) })
    (zero ∙ ap (λ l. get_or l 0 (pos 0)) gains) (one ∙ ap (λ l. get_or l 1 (pos 0)) gains))

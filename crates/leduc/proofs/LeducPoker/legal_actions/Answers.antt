-- Legal list. Assumes nothing.
use mathlib.Core.Path.{sym, ap, ◌∙◌}
use native.Mathlib.Omega.{arith}
use lib.ListN.{length}
use Rattle.std.proofs.lemmas.Result.{err_from_is_err_and}
use Rattle.refusals.specs.declared.Refusal.TheVariants.{Output}
use Rattle.refusals.proofs.Outcomes.{written_ok, written_err}
use Rattle.leduc_rules.specs.Rules.{legal}
use Rattle.leduc_positions.proofs.Positions.{of_hand}
use Rattle.leduc.specs.Calls.{legal-refusal}
use Rattle.leduc.proofs.Answers.{stopped, reached, legal-no-room, legal-accepted}
use Rattle.leduc.proofs.LeducPoker.legal_actions.Goals as goal

pub returns-in_err-reached-clause-answer : goal.returns-in_err-reached-clause-answer
unfolding legal-refusal
returns-in_err-reached-clause-answer c =
    let p = err_from_is_err_and c.from_residual.result c.from_residual.ensures.1 in
    rw (p.1, p.2) (written_err c.args.state _ _ _ (stopped c.args.state _ _ c.in_err-reached.ensures.number))

pub returns-then-out-legal-clause-answer : goal.returns-then-out-legal-clause-answer
returns-then-out-legal-clause-answer c =
    let size = ap length (c.legal-legal.ensures ∙ of_hand (λ cs p h₁ h₂. legal cs p h₁ h₂ c.args.agent) c.in_ok-reached.ensures.hand) in
    written_err c.args.state Output _ _ (sym (legal-no-room c.args.state (reached _ c.in_ok-reached.ensures.number) c.args.agent (length c.args.out.now) (omega arith)))

pub returns-then-not-is_empty-clause-answer : goal.returns-then-not-is_empty-clause-answer
returns-then-not-is_empty-clause-answer c =
    let size = ap length (c.legal-legal.ensures ∙ of_hand (λ cs p h₁ h₂. legal cs p h₁ h₂ c.args.agent) c.in_ok-reached.ensures.hand) in
    written_ok c.args.state _ _ _ (legal-accepted c.args.state (reached _ c.in_ok-reached.ensures.number) c.args.agent (length c.args.out.now) (omega arith)) size

pub returns-else-not-is_empty-clause-answer : goal.returns-else-not-is_empty-clause-answer
returns-else-not-is_empty-clause-answer c =
    let size = ap length (c.legal-legal.ensures ∙ of_hand (λ cs p h₁ h₂. legal cs p h₁ h₂ c.args.agent) c.in_ok-reached.ensures.hand) in
    written_ok c.args.state _ _ _ (legal-accepted c.args.state (reached _ c.in_ok-reached.ensures.number) c.args.agent (length c.args.out.now) (omega arith)) size

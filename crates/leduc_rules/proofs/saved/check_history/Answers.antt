-- The actions of a round, by numbers 13 to 15. Assumes nothing.
use mathlib.Core.Path.{◌≡◌, sym, ap, ◌∙◌}
use native.Mathlib.Omega.{arith}
use lib.ListN.{take}
use Rattle.refusals.specs.Refusals.{first}
use Rattle.std.proofs.lemmas.Grind.{common_steps}
use Rattle.std.proofs.lemmas.Result.{err_from_is_err_and}
use Rattle.leduc_betting.specs.Checks.{round_checks}
use Rattle.leduc_betting.proofs.Checks.{too_long, unknown_in, known_in}
use Rattle.leduc_rules.proofs.saved.check_history.Goals as goal

pub returns-then-acted-gt-ROUND-clause-number : goal.returns-then-acted-gt-ROUND-clause-number
returns-then-acted-gt-ROUND-clause-number c = too_long _ _ _ c.if-acted-gt-ROUND.true

pub returns-then-unknown_action-clause-number : goal.returns-then-unknown_action-clause-number
returns-then-unknown_action-clause-number c =
    let begun : c.unwrap_or-h.result.now ≡ take c.args.acted c.args.part.now = grind (arith, common_steps) in
    unknown_in _ _ _ c.if-acted-gt-ROUND.false (sym c.if-unknown_action.ensures)
    ∙ ap (λ h. first (round_checks c.args.barred c.args.blind c.args.acted h)) begun

pub returns-in_err-check_round-clause-number : goal.returns-in_err-check_round-clause-number
returns-in_err-check_round-clause-number c =
    let p = err_from_is_err_and c.from_residual.result c.from_residual.ensures.1 in
    let begun : c.unwrap_or-h.result.now ≡ take c.args.acted c.args.part.now = grind (arith, common_steps) in
    rw (p.1, p.2) (c.in_err-check_round.ensures ∙ known_in _ _ _ c.if-acted-gt-ROUND.false (sym c.if-unknown_action.ensures)
    ∙ ap (λ h. first (round_checks c.args.barred c.args.blind c.args.acted h)) begun)

pub returns-clause-number : goal.returns-clause-number
returns-clause-number c =
    let begun : c.unwrap_or-h.result.now ≡ take c.args.acted c.args.part.now = grind (arith, common_steps) in
    c.in_ok-check_round.ensures ∙ known_in _ _ _ c.if-acted-gt-ROUND.false (sym c.if-unknown_action.ensures)
    ∙ ap (λ h. first (round_checks c.args.barred c.args.blind c.args.acted h)) begun

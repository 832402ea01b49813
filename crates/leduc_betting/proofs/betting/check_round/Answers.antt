-- What refuses a round's actions: none of those passed was refused. Assumes nothing.
use mathlib.Core.Path.{◌≡◌, sym, ap, ◌∙◌}
use mathlib.Core.List.{[], ◌∷◌}
use native.Mathlib.Omega.{arith}
use lib.ListN.{get_or, take}
use Rattle.refusals.specs.Refusals.{first}
use Rattle.refusals.specs.Outcomes.{number}
use Rattle.refusals.proofs.Outcomes.{refuses}
use Rattle.std.proofs.lemmas.Result.{err_from_is_err_and}
use Rattle.leduc_betting.specs.Checks.{action_checks}
use Rattle.leduc_betting.proofs.Checks.{action-passes, action_stops, actions_end}
use Rattle.leduc_betting.proofs.betting.check_round.Goals as goal

pub returns-in_err-check_action : goal.returns-in_err-check_action
returns-in_err-check_action c =
    let p = err_from_is_err_and c.from_residual.result c.from_residual.ensures.1 in
    let here : number c.in_err-check_action.field-0.0 ≡ first (action_checks c.args.barred c.args.blind (take c.loop-i.i c.args.h.now) (get_or c.args.h.now c.loop-i.i 0 ∷ [])) =
    c.in_err-check_action.ensures ∙ ap (λ a. first (action_checks c.args.barred c.args.blind (take c.loop-i.i c.args.h.now) (a ∷ []))) c.from.ensures in
    rw (p.1, p.2) (here ∙ sym (c.loop-i.invariant ∙ action_stops _ _ c.args.h.now c.loop-i.i (omega arith) (λ e. refuses _ (here ∙ e))))

pub loop-i-preserved : goal.loop-i-preserved
loop-i-preserved c = c.loop-i.invariant ∙ action-passes _ _ c.args.h.now c.loop-i.i (omega arith) (sym (c.in_ok-check_action.ensures
    ∙ ap (λ a. first (action_checks c.args.barred c.args.blind (take c.loop-i.i c.args.h.now) (a ∷ []))) c.from.ensures))

pub returns : goal.returns
returns c = sym (c.loop-i.invariant ∙ actions_end _ _ c.args.h.now c.loop-i.i (omega arith))

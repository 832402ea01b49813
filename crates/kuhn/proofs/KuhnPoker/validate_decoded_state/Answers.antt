-- A position that cannot be saved is refused whatever its end mark. Assumes nothing.
use mathlib.Core.Path.{sym, ap, ◌∙◌}
use Rattle.std.proofs.lemmas.Result.{err_from_is_err_and}
use Rattle.refusals.proofs.Order.{first_refused}
use Rattle.refusals.proofs.Outcomes.{refuses}
use Rattle.kuhn_positions.specs.Positions.{saved_checks}
use Rattle.kuhn.specs.Calls.{mark_checks, saved_refusal}
use Rattle.kuhn.proofs.KuhnPoker.validate_decoded_state.Goals as goal

pub returns-in_err-hand : goal.returns-in_err-hand
unfolding saved_refusal
returns-in_err-hand c =
    let a = c.args in
    let refused = c.in_err-hand.ensures.refusal in
    let behind = first_refused (saved_checks a.self.players a.state) (mark_checks a.self.players a.state a.done) (λ z. refuses _ (refused ∙ z)) in
    let same = err_from_is_err_and c.from_residual.result c.from_residual.ensures.1 in
    rw (same.1, same.2) (ap (λ k. record { refusal = k; state = a.state }) (sym (refused ∙ behind)))

-- The hand of a position that legal moves reach. Assumes nothing.
use mathlib.Core.Path.{◌≡◌, refl, sym, ap, ◌∙◌}
use mathlib.Core.Bool.{false, not}
use Rattle.prelude.proofs.Tests.{true≢false}
use Rattle.refusals.proofs.Order.{refused, passed}
use Rattle.leduc_positions.specs.Positions.{reachable}
use Rattle.leduc_positions.proofs.Positions.{too_long, held}
use Rattle.leduc_positions.proofs.LeducState.reached.Goals as goal
use Rattle.leduc_positions.proofs.LeducState.reached.Goals.{in_default-via-in-Some+else-is_possible, in_default-via-in_default}

pub returns-in-Some-clause-number : goal.returns-in-Some-clause-number
returns-in-Some-clause-number c = sym (passed 19 _ (ap not (sym (held c.args.self.now c.in-Some.hand c.in-Some.ensures.hand) ∙ sym c.if-is_possible.ensures)))

pub returns-in_default-clause-number : goal.returns-in_default-clause-number
returns-in_default-clause-number c =
    let never : reachable c.args.self.now ≡ false = elim c.in_default.branch [
      | in_default-via-in-Some+else-is_possible w ↦ sym (held c.args.self.now w.in-Some.hand w.in-Some.ensures.hand) ∙ sym w.if-is_possible.ensures
      | in_default-via-in_default w ↦ too_long _ (λ s. true≢false false (w.in_default.ensures.some.1 s) refl)
    ] in
    sym (refused 19 _ (ap not never))

-- Every call's checks have numbers above 0, so each call is accepted exactly if no test of them holds. Assumes nothing.
use mathlib.Core.Path.{◌≡◌, refl}
use mathlib.Core.List.{◌++◌}
use Prim.Native.Nat.{ℕ, zero, suc}
use Rattle.refusals.proofs.Facts.{numbered_append, decides_by}
use Rattle.leduc_positions.proofs.Order.{saved_numbered}
use Rattle.leduc_positions.specs.Positions.{position_checks, saved_checks}
use Rattle.refusals.specs.Outcomes.{moved, wrote}
use Rattle.leduc.specs.Calls.{payoff-answer, deal_checks, deal-refusal, step_checks, step_refusal, legal_checks, legal-refusal, key_checks, key-refusal}
use Rattle.leduc.specs.Calls.{payoff_checks, payoff-refusal, mark_checks, saved_refusal}
use Rattle.leduc.specs.Facts.{CallsDecide}
use Rattle.leduc_positions.specs.declared.LeducState.{LeducState}

-- the number in an answer
pub moved_number : (r : ℕ) (s t : LeducState) → (moved r s t).refusal ≡ r
moved_number zero s t = refl
moved_number (suc r) s t = refl

wrote-number : (r : ℕ) (s : LeducState) (k : ℕ) → (wrote r s k).refusal ≡ r
wrote-number zero s k = refl
wrote-number (suc r) s k = refl

payoff-number : (r : ℕ) (s : LeducState) → (payoff-answer r s).refusal ≡ r
payoff-number zero s = refl
payoff-number (suc r) s = refl

pub calls-decide : (s : LeducState) → CallsDecide s
unfolding deal-refusal step_refusal legal-refusal key-refusal payoff-refusal saved_refusal
calls-decide s =
    record {
      deal-decides = λ k. decides_by (position_checks s ++ deal_checks s k) tt (moved_number (deal-refusal s k) s _);
      step_decides = λ a. decides_by (position_checks s ++ step_checks s) tt (moved_number (step_refusal s) s _);
      legal-decides = λ t room. decides_by (position_checks s ++ legal_checks s t room) tt (wrote-number (legal-refusal s t room) s _);
      key-decides = λ t room. decides_by (position_checks s ++ key_checks s t room) tt (wrote-number (key-refusal s t room) s _);
      payoff-decides = decides_by (position_checks s ++ payoff_checks s) tt (payoff-number (payoff-refusal s) s);
      saved_decides = λ m. decides_by (saved_checks s ++ mark_checks s m) (numbered_append (saved_checks s) (mark_checks s m) (saved_numbered s) tt) refl;
    }

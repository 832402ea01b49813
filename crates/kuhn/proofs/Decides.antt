-- Every call's checks have numbers above 0, so each call is accepted exactly if no test of them holds. Assumes nothing.
use mathlib.Core.Path.{◌≡◌, refl}
use mathlib.Core.List.{[], ◌∷◌, ◌++◌}
use Prim.Native.Nat.{ℕ, zero, suc}
use Rattle.refusals.specs.Refusals.{◌refuses◌}
use Rattle.refusals.specs.Refusals as Refusals
use Rattle.refusals.specs.Outcomes.{moved, wrote}
use Rattle.refusals.proofs.Facts.{decides_by}
use Rattle.kuhn_positions.specs.Positions.{seats-out, position_checks, saved_checks}
use Rattle.kuhn.specs.Calls.{payoff-answer, deal_checks, deal_refusal, step_checks, step_refusal, legal_checks, legal_refusal, key_checks, key_refusal}
use Rattle.kuhn.specs.Calls.{payoff_checks, payoff_refusal, mark_checks, saved_refusal}
use Rattle.kuhn.specs.Facts.{CallsDecide}
use Rattle.kuhn.specs.declared.KuhnPoker.{KuhnPoker}
use Rattle.kuhn_positions.specs.declared.KuhnState.{KuhnState}

-- the number in an answer
pub moved_number : (r : ℕ) (s t : KuhnState) → (moved r s t).refusal ≡ r
moved_number zero s t = refl
moved_number (suc r) s t = refl

wrote-number : (r : ℕ) (s : KuhnState) (k : ℕ) → (wrote r s k).refusal ≡ r
wrote-number zero s k = refl
wrote-number (suc r) s k = refl

payoff-number : (r : ℕ) (g : KuhnPoker) (s : KuhnState) → (payoff-answer r g s).refusal ≡ r
payoff-number zero g s = refl
payoff-number (suc r) g s = refl

pub calls-decide : (g : KuhnPoker) (s : KuhnState) → CallsDecide g s
unfolding deal_refusal step_refusal legal_refusal key_refusal payoff_refusal saved_refusal
calls-decide g s =
    record {
      start-decides = decides_by ((seats-out g.players refuses Refusals.seats) ∷ []) tt refl;
      deal-decides = λ k. decides_by (position_checks g.players s ++ deal_checks g.players s k) tt (moved_number (deal_refusal g s k) s _);
      step_decides = λ a. decides_by (position_checks g.players s ++ step_checks g.players s) tt (moved_number (step_refusal g s) s _);
      legal-decides = λ p room. decides_by (position_checks g.players s ++ legal_checks g s p room) tt (wrote-number (legal_refusal g s p room) s _);
      key-decides = λ p room. decides_by (position_checks g.players s ++ key_checks s p room) tt (wrote-number (key_refusal g s p room) s _);
      payoff-decides = decides_by (position_checks g.players s ++ payoff_checks g.players s) tt (payoff-number (payoff_refusal g s) g s);
      saved_decides = λ m. decides_by (saved_checks g.players s ++ mark_checks g.players s m) tt refl;
    }

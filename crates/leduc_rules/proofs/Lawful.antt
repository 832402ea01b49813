-- The checks of a round pass exactly if it was played by the rules. Assumes nothing.
use mathlib.Core.Path.{◌≡◌, refl, ap, ap₂, ◌∙◌}
use mathlib.Core.Bool.{Bool, true, false, not}
use mathlib.Core.List.{List, [], ◌∷◌, ◌++◌}
use Prim.Native.Nat.{ℕ, ◌≤◌}
use lib.Dec.{eqb, ltb}
use lib.ListN.{length}
use borrow.Author.Tests.{eqb-true, ltb-false, le-ltb, not-true, not-false}
use Rattle.std.specs.Prelude.{Option}
use Rattle.refusals.specs.Refusals.{first, ◌refuses◌}
use Rattle.refusals.proofs.Order.{fails_first, fails_rest}
use Rattle.prelude.specs.Finite.{◌and◌, ◌or◌, some}
use Rattle.prelude.proofs.Tests.{Tested, holds, fails, tested, both, neither, or_cases, or_false_left, or_false_right, true≢false}
use Rattle.leduc_betting.specs.Betting.{closes, open_round, may, played, unknown}
use Rattle.leduc_betting.specs.Cards.{hidden}
use Rattle.leduc_betting.specs.Checks.{action_checks, barred_by, malformed, round_checks}
use Rattle.leduc_betting.proofs.Checks.{played_first}
use Rattle.leduc_betting.proofs.Rounds.{all_of, rounds, round_rule, closed-unfolded}
use Rattle.leduc_rules.proofs.Reaching.{Possible}
use Rattle.leduc_rules.proofs.Moves.{hidden_none}

-- ---- from the checks to the rules

pub actions-played : (barred blind : Bool) (before h : List ℕ) → first (action_checks barred blind before h) ≡ 0 → played before h ≡ true
unfolding action_checks played
actions-played barred blind before [] e = refl
actions-played barred blind before (a ∷ h) e =
    let e₁ = fails_rest (barred or not (open_round before)) 13 (((blind or not (may before a)) refuses 15) ∷ action_checks barred blind (before ++ (a ∷ [])) h) e in
    both
    (both
    (not-false (open_round before) (or_false_right barred (not (open_round before)) (fails_first (barred or not (open_round before)) 13 (((blind or not (may before a)) refuses 15) ∷ action_checks barred blind (before ++ (a ∷ [])) h) e)))
    (not-false (may before a) (or_false_right blind (not (may before a)) (fails_first (blind or not (may before a)) 14 (action_checks barred blind (before ++ (a ∷ [])) h) e₁))))
    (actions-played barred blind (before ++ (a ∷ [])) h (fails_rest (blind or not (may before a)) 14 (action_checks barred blind (before ++ (a ∷ [])) h) e₁))

-- a round that is blind holds no action
pub blind_empty : (barred blind : Bool) (h : List ℕ) → first (action_checks barred blind [] h) ≡ 0 → (not blind or eqb (length h) 0) ≡ true
unfolding action_checks ◌or◌
blind_empty barred false h e = refl
blind_empty barred true [] e = refl
blind_empty barred true (a ∷ h) e = true≢false true refl (fails_first true 14 (action_checks barred true (a ∷ []) h) (fails_rest (barred or not (open_round [])) 13 ((true refuses 15) ∷ action_checks barred true (a ∷ []) h) e))

pub fits_length : (n : ℕ) (h : List ℕ) → malformed n h ≡ false → n ≤ 4
unfolding malformed
fits_length n h e = ltb-false 4 n (or_false_left (ltb 4 n) (unknown h) e)

-- ---- from the rules to the checks

known : List ℕ → Bool
known h = not (unknown h)

all_known : all_of known rounds ≡ true
unfolding all_of known rounds ◌and◌ ◌or◌ some unknown
all_known = refl

pub played-known : (n : ℕ) (h : List ℕ) → n ≤ 4 → played [] h ≡ true → malformed n h ≡ false
unfolding malformed known
played-known n h l e = neither (le-ltb 4 n l) (not-true (unknown h) (round_rule known all_known h e))

pub first_passes : (n : ℕ) (h : List ℕ) → n ≤ 4 → played [] h ≡ true → first (round_checks false false n h) ≡ 0
first_passes n h l e = rw (played-known n h l e) (eqb-true _ 0 (played_first [] h ∙ e))

module _ {cs : List ℕ} {p : Option ℕ} {h₁ h₂ : List ℕ} (w : Possible cs p h₁ h₂) where
  unbarred : hidden p ≡ false → barred_by h₁ ≡ false
  unfolding barred_by
  unbarred q =
      let c : closes h₁ ≡ true = or_cases (hidden p) (closes h₁) w.shown-late (λ r. true≢false (hidden p) r q) (λ r. r) in
      neither (closed-unfolded h₁ w.first_played c) (ap not c)

  pub second-passes : (n : ℕ) → n ≤ 4 → first (round_checks (barred_by h₁) (hidden p) n h₂) ≡ 0
  unfolding action_checks
  second-passes n l = go (tested (hidden p))
    where
      go : Tested (hidden p) → first (round_checks (barred_by h₁) (hidden p) n h₂) ≡ 0
      go (holds q) =
          rw (played-known n h₂ l w.second-played)
          (ap (λ t. first (action_checks (barred_by h₁) (hidden p) [] t)) (hidden_none w q))
      go (fails q) =
          ap₂ (λ b t. first (round_checks b t n h₂)) (unbarred q) q ∙ first_passes n h₂ l w.second-played

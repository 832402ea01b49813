-- What the test of number 19 says of the cards and histories that pass it. Assumes nothing.
use mathlib.Core.Path.{◌≡◌, refl, ap, ◌∙◌}
use mathlib.Core.Bool.{true, false, not}
use mathlib.Core.List.{List, [], ◌∷◌}
use Prim.Native.Nat.{ℕ, ◌≤◌}
use native.Mathlib.Omega.{arith}
use lib.Dec.{eqb}
use lib.ListN.{length}
use borrow.Author.Tests.{eqb-true, leb-true, not-true}
use Rattle.std.specs.Prelude.{Option}
use Rattle.prelude.specs.Finite.{◌and◌, ◌or◌, some}
use Rattle.prelude.proofs.Tests.{and_left, and_right, or_cases, or_false_right, true≢false}
use Rattle.leduc_betting.specs.Betting.{folded, closes, open_round, ended, played}
use Rattle.leduc_rules.specs.Rules.{due, live}
use Rattle.leduc_betting.specs.Cards.{hidden, seen, strange, twice}
use Rattle.leduc_rules.specs.Reached.{possible}
use Rattle.leduc_betting.proofs.Rounds.{open_short}

pub record Possible (cs : List ℕ) (p : Option ℕ) (h₁ h₂ : List ℕ) : Type 0 where
  pub few : length cs ≤ 2
  pub in_deck : strange (seen cs p) ≡ false
  pub once : twice (seen cs p) ≡ false
  pub dealt_first : (eqb (length cs) 2 or eqb (length h₁) 0) ≡ true
  pub first_played : played [] h₁ ≡ true
  pub second-played : played [] h₂ ≡ true
  pub shown-late : (hidden p or closes h₁) ≡ true
  pub blind_early : (not (hidden p) or eqb (length h₂) 0) ≡ true

module _ (cs : List ℕ) (p : Option ℕ) (h₁ h₂ : List ℕ) where
  pub possible_parts : possible cs p h₁ h₂ ≡ true → Possible cs p h₁ h₂
  unfolding possible
  possible_parts e =
      let e₁ = and_right _ _ e in
      let e₂ = and_right _ _ e₁ in
      let e₃ = and_right _ _ e₂ in
      let e₄ = and_right _ _ e₃ in
      let e₅ = and_right _ _ e₄ in
      let e₆ = and_right _ _ e₅ in
      record {
        few = leb-true _ _ (and_left _ _ e);
        in_deck = not-true _ (and_left _ _ e₁);
        once = not-true _ (and_left _ _ e₂);
        dealt_first = and_left _ _ e₃;
        first_played = and_left _ _ e₄;
        second-played = and_left _ _ e₅;
        shown-late = and_left _ _ e₆;
        blind_early = and_right _ _ e₆;
      }

pub no_actions : (h : List ℕ) → eqb (length h) 0 ≡ true → h ≡ []
no_actions [] e = refl
no_actions (a ∷ h) e = let q = eqb-true (length (a ∷ h)) 0 e in absurd (omega arith)

pub nothing-closed : closes [] ≡ false
unfolding closes ◌and◌
nothing-closed = refl

pub nothing-ended : ended [] [] ≡ false
unfolding ended folded closes some ◌and◌ ◌or◌
nothing-ended = refl

pub still_open : (h : List ℕ) → (folded h or closes h) ≡ false → open_round h ≡ true
unfolding open_round
still_open h q = rw q

module _ {cs : List ℕ} {p : Option ℕ} {h₁ h₂ : List ℕ} (w : Possible cs p h₁ h₂) where
  -- before any action of round 1 there is none of round 2
  pub second-later : h₁ ≡ [] → h₂ ≡ []
  second-later e =
      or_cases (not (hidden p)) (eqb (length h₂) 0) w.blind_early
      (λ q. or_cases (hidden p) (closes h₁) w.shown-late
      (λ r. true≢false (hidden p) r (not-true _ q))
      (λ r. true≢false (closes h₁) r (ap closes e ∙ nothing-closed)))
      (λ q. no_actions h₂ q)

  -- a hand that has ended was dealt in full
  pub ended-dealt : ended h₁ h₂ ≡ true → length cs ≡ 2
  ended-dealt e =
      or_cases (eqb (length cs) 2) (eqb (length h₁) 0) w.dealt_first
      (λ q. eqb-true (length cs) 2 q)
      (λ q. let n = no_actions h₁ q in
      true≢false (ended h₁ h₂) e (ap (ended h₁) (second-later n) ∙ ap (λ h. ended h []) n ∙ nothing-ended))

  -- where a seat acts, round 2 has room for an action
  pub live_open : live cs p h₁ h₂ ≡ true → length h₂ ≤ 3
  unfolding live ended
  live_open e =
      let o : (folded h₁ or (folded h₂ or closes h₂)) ≡ false = or_false_right (due cs p h₁ h₂) _ (not-true _ e) in
      open_short h₂ w.second-played (still_open h₂ (or_false_right (folded h₁) _ o))

-- Laws of the checks of a saved position, one group after the other. Assumes nothing.
use mathlib.Core.Path.{◌≡◌, refl, sym, ap, ap₂, ◌∙◌}
use mathlib.Core.Bool.{Bool, true, false, not}
use mathlib.Core.List.{List, [], ◌∷◌, ◌++◌}
use Prim.Native.Nat.{ℕ, ◌≤◌}
use native.Mathlib.Omega.{arith}
use borrow.Author.Tests.{eq-eqb, ne_eqb, eqb-true, leb-true, leb-false, not-false}
use lib.Dec.{eqb, leb}
use lib.ListN.{length, take, drop}
use lib.Seq.{take_all}
use Rattle.std.specs.Prelude.{is_some}
use Rattle.std.proofs.lemmas.List.{take-take}
use Rattle.prelude.proofs.Tests.{Tested, holds, fails, tested}
use Rattle.refusals.specs.Refusals.{Check, first, ◌refuses◌}
use Rattle.leduc_betting.specs.Cards.{hidden, seen}
use Rattle.refusals.specs.Facts.{Numbered}
use Rattle.refusals.proofs.Facts.{numbered_append}
use Rattle.refusals.proofs.Order.{fails_first, first_refused, first_passed}
use Rattle.leduc_betting.specs.Checks.{barred_by, card_checks, round_checks, public_checks}
use Rattle.leduc_betting.proofs.Checks.{round_numbered, second_checks, too_long}
use Rattle.leduc_positions.specs.Positions.{seen_of, round_one, round_two, saved_checks}
use Rattle.leduc_positions.specs.declared.LeducState.{LeducState}

pub saved_numbered : (s : LeducState) → Numbered (saved_checks s)
unfolding saved_checks
saved_numbered s =
    numbered_append (round_checks false false s.acted1 (round_one s)) _ (round_numbered false false s.acted1 (round_one s))
    (numbered_append (round_checks (barred_by (round_one s)) (hidden s.public) s.acted2 (round_two s)) _ (round_numbered (barred_by (round_one s)) (hidden s.public) s.acted2 (round_two s)) tt)

-- those of both rounds
abbrev pub rounds_checks : LeducState → List Check
rounds_checks s = round_checks false false s.acted1 (round_one s) ++ second_checks (hidden s.public) s.acted2 (round_one s) (round_two s)

pub cards_missing : (s : LeducState) → (s.dealt ≡ 2 → ⊥) → 10 ≡ first (saved_checks s)
unfolding saved_checks
cards_missing s e = rw (ne_eqb s.dealt 2 e)

pub cards_there : (s : LeducState) → s.dealt ≡ 2 → first (saved_checks s) ≡ first (card_checks (seen (take 2 s.cards) s.public) ++ rounds_checks s)
unfolding saved_checks
cards_there s e =
    ap (λ b. first ((not b refuses 10) ∷ card_checks (seen_of s) ++ rounds_checks s)) (eq-eqb s.dealt 2 e)
    ∙ ap (λ n. first (card_checks (seen (take n s.cards) s.public) ++ rounds_checks s)) e

-- a list of checks that passes passes in its front part, and in what stands behind
pub passes-front : (cs ds : List Check) → first (cs ++ ds) ≡ 0 → first cs ≡ 0
passes-front [] ds e = refl
passes-front ((true refuses k) ∷ cs) ds e = e
passes-front ((false refuses k) ∷ cs) ds e = passes-front cs ds e

pub passes-rest : (cs ds : List Check) → Numbered cs → first (cs ++ ds) ≡ 0 → first ds ≡ 0
passes-rest cs ds f e = sym (first_passed cs ds f (passes-front cs ds e)) ∙ e

pub saved_dealt : (s : LeducState) → first (saved_checks s) ≡ 0 → s.dealt ≡ 2
unfolding saved_checks
saved_dealt s e = eqb-true s.dealt 2 (not-false (eqb s.dealt 2) (fails_first (not (eqb s.dealt 2)) 9 (card_checks (seen_of s) ++ rounds_checks s) e))

pub saved_rounds : (s : LeducState) → first (saved_checks s) ≡ 0 → first (rounds_checks s) ≡ 0
saved_rounds s e = passes-rest (card_checks (seen (take 2 s.cards) s.public)) (rounds_checks s) tt (sym (cards_there s (saved_dealt s e)) ∙ e)

pub saved_second : (s : LeducState) → first (saved_checks s) ≡ 0 → first (second_checks (hidden s.public) s.acted2 (round_one s) (round_two s)) ≡ 0
saved_second s e = passes-rest (round_checks false false s.acted1 (round_one s)) (second_checks (hidden s.public) s.acted2 (round_one s) (round_two s)) (round_numbered false false s.acted1 (round_one s)) (saved_rounds s e)

-- ---- the checks as they are made, one group after the other

-- a round's actions are looked up in its part of the history; of one that is too long they do not matter
in_part : (barred blind : Bool) (n : ℕ) (l : List ℕ) (ds : List Check) → first (round_checks barred blind n (take n (take 4 l)) ++ ds) ≡ first (round_checks barred blind n (take n l) ++ ds)
in_part barred blind n l ds = go (tested (leb n 4))
  where
    go : Tested (leb n 4) → first (round_checks barred blind n (take n (take 4 l)) ++ ds) ≡ first (round_checks barred blind n (take n l) ++ ds)
    go (holds t) = ap (λ h. first (round_checks barred blind n h ++ ds)) (take-take n 4 l (leb-true n 4 t))
    go (fails t) = let w = leb-false n 4 t in sym (too_long n (take n (take 4 l)) _ w) ∙ too_long n (take n l) _ w

behind_same : (cs xs ys : List Check) → first xs ≡ first ys → first (cs ++ xs) ≡ first (cs ++ ys)
behind_same [] xs ys e = e
behind_same ((true refuses k) ∷ cs) xs ys e = refl
behind_same ((false refuses k) ∷ cs) xs ys e = behind_same cs xs ys e

turned : (a b : Bool) → a ≡ not b → b ≡ not a
turned a true e = sym (ap not e)
turned a false e = sym (ap not e)

-- l are the cards seen, blind says whether the public card is missing
module _ (s : LeducState) (two : s.dealt ≡ 2) (all : length s.cards ≡ 2) (l : List ℕ) (blind : Bool) (e : l ≡ seen s.cards s.public) (b : is_some s.public ≡ not blind) where
  abbrev of_cards : List Check
  of_cards = card_checks l

  abbrev of_first : List Check
  of_first = round_checks false false s.acted1 (take s.acted1 (take 4 s.history))

  abbrev of_second : Bool → List Check
  of_second barred = round_checks barred blind s.acted2 (take s.acted2 (take 4 (drop 4 s.history)))

  of_others : List Check
  of_others = of_second (barred_by (round_one s)) ++ public_checks blind (round_one s) (round_two s)

  in_groups : first (saved_checks s) ≡ first (of_cards ++ (of_first ++ of_others))
  unfolding of_others
  in_groups =
      cards_there s two
      ∙ ap (λ cs. first (card_checks (seen cs s.public) ++ rounds_checks s)) (take_all 2 s.cards (omega arith))
      ∙ ap (λ cs. first (card_checks cs ++ rounds_checks s)) (sym e)
      ∙ behind_same of_cards (rounds_checks s) _
      (ap (λ x. first (round_checks false false s.acted1 (round_one s) ++ second_checks x s.acted2 (round_one s) (round_two s))) (sym (turned (is_some s.public) blind b))
      ∙ sym (in_part false false s.acted1 s.history (second_checks blind s.acted2 (round_one s) (round_two s)))
      ∙ behind_same of_first _ _ (sym (in_part (barred_by (round_one s)) blind s.acted2 (drop 4 s.history) (public_checks blind (round_one s) (round_two s)))))

  pub at_cards : {n : ℕ} → n ≡ first of_cards → (n ≡ 0 → ⊥) → n ≡ first (saved_checks s)
  at_cards w f = w ∙ first_refused of_cards _ (λ z. f (w ∙ z)) ∙ sym in_groups

  module _ (c : 0 ≡ first of_cards) where
    past_cards : first (saved_checks s) ≡ first (of_first ++ of_others)
    past_cards = in_groups ∙ first_passed of_cards _ tt (sym c)

    pub at_first : {n : ℕ} → n ≡ first of_first → (n ≡ 0 → ⊥) → n ≡ first (saved_checks s)
    at_first w f = w ∙ first_refused of_first _ (λ z. f (w ∙ z)) ∙ sym past_cards

    -- h₁ are the actions of round 1
    module _ (o : 0 ≡ first of_first) (h₁ : List ℕ) (barred : Bool) (w₁ : (s.acted1 ≤ 4) × (h₁ ≡ take s.acted1 (take 4 s.history))) (g : barred ≡ barred_by h₁) where
      barred_is : barred ≡ barred_by (round_one s)
      barred_is = g ∙ ap barred_by (w₁.1 ∙ take-take s.acted1 4 s.history w₁.0)

      past_first : first (saved_checks s) ≡ first (of_second barred ++ public_checks blind (round_one s) (round_two s))
      unfolding of_others
      past_first = past_cards ∙ first_passed of_first _ (round_numbered false false s.acted1 _) (sym o)
          ∙ ap (λ x. first (of_second x ++ public_checks blind (round_one s) (round_two s))) (sym barred_is)

      pub at_second : {n : ℕ} → n ≡ first (of_second barred) → (n ≡ 0 → ⊥) → n ≡ first (saved_checks s)
      at_second w f = w ∙ first_refused (of_second barred) _ (λ z. f (w ∙ z)) ∙ sym past_first

      -- and h₂ those of round 2
      pub at_public : {n : ℕ} {h₂ : List ℕ} → (s.acted2 ≤ 4) × (h₂ ≡ take s.acted2 (take 4 (drop 4 s.history))) → 0 ≡ first (of_second barred)
          → n ≡ first (public_checks blind h₁ h₂) → n ≡ first (saved_checks s)
      at_public w₂ t w =
          w
          ∙ ap₂ (λ x y. first (public_checks blind x y)) (w₁.1 ∙ take-take s.acted1 4 s.history w₁.0) (w₂.1 ∙ take-take s.acted2 4 (drop 4 s.history) w₂.0)
          ∙ sym (past_first ∙ first_passed (of_second barred) _ (round_numbered barred blind s.acted2 _) (sym t))

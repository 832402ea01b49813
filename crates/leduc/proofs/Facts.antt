-- The facts of specs/Facts.antt, proved. Assumes nothing.
use mathlib.Core.Path.{◌≡◌, refl, sym, ap, ◌∙◌}
use mathlib.Core.Bool.{Bool, true, false, not}
use mathlib.Core.List.{List, [], ◌∷◌}
use Prim.Native.Nat.{ℕ}
use native.Mathlib.Omega.{arith}
use lib.Dec.{eqb, ltb}
use lib.ListN.{length, take}
use lib.Seq.{length-take-le}
use borrow.Author.Tests.{eq-eqb, le-leb, le-ltb}
use Rattle.refusals.specs.Refusals.{first, ◌refuses◌}
use Rattle.refusals.proofs.Order.{fails_first, fails_rest, first_passed}
use Rattle.prelude.specs.Finite.{◌and◌, ◌or◌}
use Rattle.prelude.proofs.Tests.{both, neither, or_left, or_false_right, true≢false}
use Rattle.leduc_betting.specs.Betting.{closes, ended}
use Rattle.leduc_betting.specs.Cards.{hidden, seen, strange, twice}
use Rattle.leduc_rules.specs.Rules.{public-due, due}
use Rattle.leduc_betting.specs.Checks.{barred_by, malformed, action_checks, card_checks, round_checks, public_checks}
use Rattle.leduc_betting.proofs.Checks.{round_pass, round_numbered, second_checks}
use Rattle.leduc_rules.proofs.Lawful.{actions-played, blind_empty, fits_length, first_passes, second-passes}
use Rattle.leduc_rules.proofs.Reaching.{Possible, possible_parts}
use Rattle.leduc_rules.proofs.Moves.{possible_all, reached_parts, parts_reached}
use Rattle.leduc_positions.specs.Positions.{cards_of, seen_of, round_one, round_two, reachable, saved_checks}
use Rattle.leduc.specs.Facts.{Sized, ReachableByMoves, SavedAccepts, WaitingRefused}
use Rattle.leduc_positions.specs.declared.LeducState.{LeducState}
use Rattle.leduc_positions.proofs.Positions.{reachable-short, reachable-possible}
use Rattle.leduc_positions.proofs.Order.{passes-front, passes-rest, saved_dealt, saved_rounds, saved_second, rounds_checks, cards_there}
use Rattle.leduc.proofs.Answers.{saved-stops, saved-accepted, saved-marked}

pub reachable_by_moves : ReachableByMoves
unfolding reachable
reachable_by_moves s = (
  (λ e. let w = reachable-short s e in (w.0, w.1, w.2, parts_reached _ _ _ _ (possible_parts _ _ _ _ (reachable-possible s e)))),
  (λ (a, b, c, r). both (both (le-leb s.dealt 2 a) (both (le-leb s.acted1 4 b) (le-leb s.acted2 4 c))) (possible_all _ _ _ _ (reached_parts r))),
)

module _ (s : LeducState) (z : Sized s) where
  abbrev h₁ : List ℕ
  h₁ = round_one s

  abbrev h₂ : List ℕ
  h₂ = round_two s

  two_counted : s.dealt ≡ 2 → length (cards_of s) ≡ 2
  two_counted e = length-take-le s.dealt s.cards (omega (arith, z.cards-size)) ∙ e

  -- ---- what passes numbers 10 to 17 is reachable, and no card is due

  module _ (e : first (saved_checks s) ≡ 0) where
    cards_passed : first (card_checks (seen_of s)) ≡ 0
    cards_passed =
        ap (λ n. first (card_checks (seen (take n s.cards) s.public))) (saved_dealt s e)
        ∙ passes-front (card_checks (seen (take 2 s.cards) s.public)) (rounds_checks s) (sym (cards_there s (saved_dealt s e)) ∙ e)

    one_passed : first (round_checks false false s.acted1 h₁) ≡ 0
    one_passed = passes-front (round_checks false false s.acted1 h₁) (second_checks (hidden s.public) s.acted2 h₁ h₂) (saved_rounds s e)

    two_passed : first (round_checks (barred_by h₁) (hidden s.public) s.acted2 h₂) ≡ 0
    two_passed = passes-front (round_checks (barred_by h₁) (hidden s.public) s.acted2 h₂) (public_checks (hidden s.public) h₁ h₂) (saved_second s e)

    public_passed : first (public_checks (hidden s.public) h₁ h₂) ≡ 0
    public_passed = passes-rest (round_checks (barred_by h₁) (hidden s.public) s.acted2 h₂) (public_checks (hidden s.public) h₁ h₂) (round_numbered (barred_by h₁) (hidden s.public) s.acted2 h₂) (saved_second s e)

    saved_due : public-due s.public h₁ h₂ ≡ false
    unfolding public-due
    saved_due = fails_first (hidden s.public and (closes h₁ and not (ended h₁ h₂))) 15 (((not (hidden s.public) and not (closes h₁)) refuses 17) ∷ []) public_passed

    saved_late : (hidden s.public or closes h₁) ≡ true
    unfolding ◌and◌ ◌or◌
    saved_late = go (hidden s.public) (closes h₁) (fails_first (not (hidden s.public) and not (closes h₁)) 16 [] (fails_rest ((hidden
        s.public) and (closes h₁ and not (ended h₁ h₂))) 15 (((not (hidden s.public) and not (closes h₁)) refuses 17) ∷ []) public_passed))
      where
        go : (a b : Bool) → (not a and not b) ≡ false → (a or b) ≡ true
        go true b q = refl
        go false true q = refl
        go false false q = true≢false true refl q

    two_actions : first (action_checks (barred_by h₁) (hidden s.public) [] h₂) ≡ 0
    two_actions = fails_rest (malformed s.acted2 h₂) 12 (action_checks (barred_by h₁) (hidden s.public) [] h₂) two_passed

    saved_possible : Possible (cards_of s) s.public h₁ h₂
    saved_possible =
        record {
          few = omega (arith, two_counted (saved_dealt s e));
          in_deck = fails_first (strange (seen_of s)) 10 ((twice (seen_of s) refuses 12) ∷ []) cards_passed;
          once = fails_first (twice (seen_of s)) 11 [] (fails_rest (strange (seen_of s)) 10 ((twice (seen_of s) refuses 12) ∷ []) cards_passed);
          dealt_first = or_left (eqb (length h₁) 0) (eq-eqb (length (cards_of s)) 2 (two_counted (saved_dealt s e)));
          first_played = actions-played false false [] h₁ (fails_rest (malformed s.acted1 h₁) 12 (action_checks false false [] h₁) one_passed);
          second-played = actions-played (barred_by h₁) (hidden s.public) [] h₂ two_actions;
          shown-late = saved_late;
          blind_early = blind_empty (barred_by h₁) (hidden s.public) h₂ two_actions;
        }

    saved_reachable : reachable s ≡ true
    unfolding reachable
    saved_reachable =
        both
        (both (le-leb s.dealt 2 (omega (arith, saved_dealt s e)))
        (both
        (le-leb s.acted1 4 (fits_length s.acted1 h₁ (fails_first (malformed s.acted1 h₁) 12 (action_checks false false [] h₁) one_passed)))
        (le-leb s.acted2 4 (fits_length s.acted2 h₂ (fails_first (malformed s.acted2 h₂) 12 (action_checks (barred_by h₁) (hidden s.public) [] h₂) two_passed)))))
        (possible_all _ _ _ _ saved_possible)

    saved_none_due : due (cards_of s) s.public h₁ h₂ ≡ false
    unfolding due
    saved_none_due = neither (le-ltb (length (cards_of s)) 2 (omega (arith, two_counted (saved_dealt s e)))) saved_due

  -- ---- a reachable position with both cards dealt passes up to the public card

  module _ (r : reachable s ≡ true) (d : s.dealt ≡ 2) where
    parts : Possible (cards_of s) s.public h₁ h₂
    parts = possible_parts _ _ _ _ (reachable-possible s r)

    cards_pass_there : first (card_checks (seen (take 2 s.cards) s.public)) ≡ 0
    cards_pass_there = ap (λ n. first (card_checks (seen (take n s.cards) s.public))) (sym d) ∙ go
      where
        go : first (card_checks (seen_of s)) ≡ 0
        go = rw (parts.in_deck, parts.once)

    pub to_the_public : first (saved_checks s) ≡ first (public_checks (hidden s.public) h₁ h₂)
    to_the_public =
        cards_there s d
        ∙ first_passed (card_checks (seen (take 2 s.cards) s.public)) (rounds_checks s) tt cards_pass_there
        ∙ round_pass false false s.acted1 h₁ (second_checks (hidden s.public) s.acted2 h₁ h₂) (first_passes s.acted1 h₁ (reachable-short s r).1 parts.first_played)
        ∙ round_pass (barred_by h₁) (hidden s.public) s.acted2 h₂ (public_checks (hidden s.public) h₁ h₂) (second-passes parts s.acted2 (reachable-short s r).2)

    not_early : (not (hidden s.public) and not (closes h₁)) ≡ false
    unfolding ◌and◌ ◌or◌
    not_early = go (hidden s.public) (closes h₁) parts.shown-late
      where
        go : (a b : Bool) → (a or b) ≡ true → (not a and not b) ≡ false
        go true b q = refl
        go false true q = refl
        go false false q = true≢false false q refl

    public-passes : public-due s.public h₁ h₂ ≡ false → first (public_checks (hidden s.public) h₁ h₂) ≡ 0
    unfolding public-due
    public-passes q = rw (q, not_early)

    public_stops : public-due s.public h₁ h₂ ≡ true → first (public_checks (hidden s.public) h₁ h₂) ≡ 16
    unfolding public-due
    public_stops q = rw q

no_card-due : (cs : List ℕ) (b : Bool) → (ltb (length cs) 2 or b) ≡ false → b ≡ false
no_card-due cs b e = or_false_right (ltb (length cs) 2) b e

pub saved_accepts : SavedAccepts
unfolding due
saved_accepts s m z = (
  (λ e. let f = saved-marked s m e in (saved_dealt s f.0, saved_reachable s z f.0, saved_none_due s z f.0, f.1)),
  (λ (d, r, n, k). saved-accepted s m (to_the_public s z r d ∙ public-passes s z r d (no_card-due (cards_of s) (public-due s.public (round_one s) (round_two s)) n)) k),
)

pub waiting_refused : WaitingRefused
waiting_refused s m z r d w =
    let number : first (saved_checks s) ≡ 16 = to_the_public s z r d ∙ public_stops s z r d w in
    saved-stops s m (λ e. let q : 16 ≡ 0 = sym number ∙ e in omega arith) ∙ number

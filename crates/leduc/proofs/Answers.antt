-- Which number each call answers, check by check. Assumes nothing.
use mathlib.Core.Path.{◌≡◌, sym, ap, ◌∙◌}
use mathlib.Core.Bool.{true, false, not}
use mathlib.Core.List.{List, [], ◌∷◌, ◌++◌}
use Prim.Native.Nat.{ℕ, zero, suc, ◌≤◌, ◌<◌}
use native.Mathlib.Omega.{arith}
use lib.Dec.{eqb, ltb}
use lib.ListN.{length, get_or}
use borrow.Author.Tests.{eqb-true, not-false, lt-ltb, le-ltb, le-leb, lt-leb, eq-eqb, ne_eqb}
use lib.IntN.{pos}
use Rattle.std.specs.Prelude.{Some, None, Err, unwrap_or, replicate}
use Rattle.std.proofs.lemmas.Option.{none-some}
use Rattle.refusals.specs.Refusals.{Check, first, ◌refuses◌}
use Rattle.refusals.specs.Outcomes.{number, paid_by}
use Rattle.refusals.specs.declared.Refusal.{Refusal}
use Rattle.refusals.proofs.Outcomes.{refuses as never_accepted}
use Rattle.prelude.specs.internal.Places.{at_place}
use Rattle.prelude.proofs.Lists.{those_below}
use Rattle.prelude.specs.Finite.{◌and◌}
use Rattle.leduc_betting.specs.Betting.{ended}
use Rattle.leduc_rules.specs.Rules.{due, live}
use Rattle.leduc_betting.specs.Cards.{left, remaining}
use Rattle.leduc_positions.specs.Positions.{cards_of, seen_of, round_one, round_two, reachable, position_checks, legal_of, mark, saved_checks}
use Rattle.leduc.specs.Calls.{key_of, deal-refusal, step_refusal, legal-refusal, key-refusal, payoff-answer, payoff-refusal, saved_refusal}
use Rattle.leduc_positions.specs.declared.LeducState.{LeducState}
use Rattle.refusals.proofs.Order.{fails_first, first_refused, first_passed}
use Rattle.leduc_positions.proofs.Order.{saved_numbered, passes-front}

-- what stands at a place of a list, and that nothing does past its end
pub placed_at : (xs : List ℕ) (k x : ℕ) → at_place xs k ≡ Some x → (k < length xs) × (get_or xs k 0 ≡ x)
placed_at [] k x e = absurd (none-some x e)
placed_at (y ∷ xs) zero x e = (omega arith, ap (λ o. unwrap_or o 0) e)
placed_at (y ∷ xs) (suc k) x e = let (l, q) = placed_at xs k x e in (omega arith, q)

pub absent_at : (xs : List ℕ) (k : ℕ) → at_place xs k ≡ None → length xs ≤ k
absent_at [] k e = omega arith
absent_at (y ∷ xs) zero e = absurd (none-some y (sym e))
absent_at (y ∷ xs) (suc k) e = let l = absent_at xs k e in omega arith

-- the card of an outcome is in the deck
pub in_deck : (cs : List ℕ) (k x : ℕ) → at_place (remaining cs) k ≡ Some x → x < 6
unfolding remaining
in_deck cs k x e =
    let q : (k < length (remaining cs)) × (get_or (remaining cs) k 0 ≡ x) = placed_at (remaining cs) k x e in
    let low : get_or (remaining cs) k 0 < 6 = (those_below (left cs) 6 k 0 q.0).0 in
    let same : get_or (remaining cs) k 0 ≡ x = q.1 in
    omega arith

-- a refused payoff answer
pub paid_err : (s : LeducState) (e : Refusal) (q : ℕ) → number e ≡ q → paid_by s (Err e) ≡ payoff-answer q s
paid_err s e zero w = absurd (never_accepted e w)
paid_err s e (suc q) w = ap (λ k. record { refusal = k; state = s; count = 0; payoffs = replicate 10 (pos 0) }) w

module _ (s : LeducState) where
  -- number 19 comes first
  pub stopped : (cs : List Check) (e : Refusal) → number e ≡ first (position_checks s) → number e ≡ first (position_checks s ++ cs)
  stopped cs e w = w ∙ first_refused (position_checks s) cs (λ z. never_accepted e (w ∙ z))

  pub reached : 0 ≡ first (position_checks s) → reachable s ≡ true
  reached w = not-false _ (fails_first (not (reachable s)) 18 [] (sym w))

  module _ (e : reachable s ≡ true) where
    -- then what the call asks of the position
    pub deal-idle : (k : ℕ) → due (cards_of s) s.public (round_one s) (round_two s) ≡ false → deal-refusal s k ≡ 20
    unfolding deal-refusal ◌and◌
    deal-idle k f = rw (e, f)

    pub deal-past : (k : ℕ) → due (cards_of s) s.public (round_one s) (round_two s) ≡ true → ltb k (length (remaining (seen_of s))) ≡ false → deal-refusal s k ≡ 20
    unfolding deal-refusal ◌and◌
    deal-past k f g = rw (e, f, g)

    pub deal-accepted : (k : ℕ) → due (cards_of s) s.public (round_one s) (round_two s) ≡ true → ltb k (length (remaining (seen_of s))) ≡ true → deal-refusal s k ≡ 0
    unfolding deal-refusal ◌and◌
    deal-accepted k f g = rw (e, f, g)

    pub step-idle : live (cards_of s) s.public (round_one s) (round_two s) ≡ false → step_refusal s ≡ 20
    unfolding step_refusal
    step-idle f = rw (e, f)

    pub step_accepted : live (cards_of s) s.public (round_one s) (round_two s) ≡ true → step_refusal s ≡ 0
    unfolding step_refusal
    step_accepted f = rw (e, f)

    pub payoff-early : ended (round_one s) (round_two s) ≡ false → payoff-refusal s ≡ 20
    unfolding payoff-refusal
    payoff-early f = rw (e, f)

    pub payoff-accepted : ended (round_one s) (round_two s) ≡ true → payoff-refusal s ≡ 0
    unfolding payoff-refusal
    payoff-accepted f = rw (e, f)

    pub key-unfit : (t room : ℕ) → length (cards_of s) ≤ t → key-refusal s t room ≡ 20
    unfolding key-refusal
    key-unfit t room f = rw (e, le-leb (length (cards_of s)) t f)

    -- and last the room of the output
    pub key-no-room : (t room : ℕ) → t < length (cards_of s) → room < length (key_of s t) → key-refusal s t room ≡ 9
    unfolding key-refusal
    key-no-room t room f g = rw (e, lt-leb (length (cards_of s)) t f, lt-ltb room (length (key_of s t)) g)

    pub key-accepted : (t room : ℕ) → t < length (cards_of s) → length (key_of s t) ≤ room → key-refusal s t room ≡ 0
    unfolding key-refusal
    key-accepted t room f g = rw (e, lt-leb (length (cards_of s)) t f, le-ltb room (length (key_of s t)) g)

    pub legal-no-room : (t room : ℕ) → room < length (legal_of s t) → legal-refusal s t room ≡ 9
    unfolding legal-refusal
    legal-no-room t room f = rw (e, lt-ltb room (length (legal_of s t)) f)

    pub legal-accepted : (t room : ℕ) → length (legal_of s t) ≤ room → legal-refusal s t room ≡ 0
    unfolding legal-refusal
    legal-accepted t room f = rw (e, le-ltb room (length (legal_of s t)) f)

  -- a saved position: 10 to 17, then 18
  pub saved-stops : (m : ℕ) → (first (saved_checks s) ≡ 0 → ⊥) → saved_refusal s m ≡ first (saved_checks s)
  unfolding saved_refusal
  saved-stops m e = sym (first_refused (saved_checks s) _ e)

  saved-passes : (m : ℕ) → first (saved_checks s) ≡ 0 → saved_refusal s m ≡ first ((not (eqb m (mark (ended (round_one s) (round_two s)))) refuses 18) ∷ [])
  unfolding saved_refusal
  saved-passes m e = first_passed (saved_checks s) _ (saved_numbered s) e

  pub saved-mark-wrong : (m : ℕ) → first (saved_checks s) ≡ 0 → (m ≡ mark (ended (round_one s) (round_two s)) → ⊥) → saved_refusal s m ≡ 18
  saved-mark-wrong m e f = saved-passes m e ∙ ap (λ b. first ((not b refuses 18) ∷ [])) (ne_eqb m (mark (ended (round_one s) (round_two s))) f)

  pub saved-accepted : (m : ℕ) → first (saved_checks s) ≡ 0 → m ≡ mark (ended (round_one s) (round_two s)) → saved_refusal s m ≡ 0
  saved-accepted m e f = saved-passes m e ∙ ap (λ b. first ((not b refuses 18) ∷ [])) (eq-eqb m (mark (ended (round_one s) (round_two s))) f)

  saved-front : (m : ℕ) → saved_refusal s m ≡ 0 → first (saved_checks s) ≡ 0
  unfolding saved_refusal
  saved-front m e = passes-front (saved_checks s) ((not (eqb m (mark (ended (round_one s) (round_two s)))) refuses 18) ∷ []) e

  -- an accepted one passes both
  pub saved-marked : (m : ℕ) → saved_refusal s m ≡ 0 → (first (saved_checks s) ≡ 0) × (m ≡ mark (ended (round_one s) (round_two s)))
  saved-marked m e =
      let f : first (saved_checks s) ≡ 0 = saved-front m e in
      (f, eqb-true m (mark (ended (round_one s) (round_two s))) (not-false _ (fails_first (not (eqb m (mark (ended (round_one s) (round_two s))))) 17 [] (sym (saved-passes m f) ∙ e))))

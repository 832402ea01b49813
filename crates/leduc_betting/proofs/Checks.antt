-- Laws of the checks of a round's actions. Assumes nothing.
use mathlib.Core.Path.{◌≡◌, refl, sym, ap, ◌∙◌}
use mathlib.Core.Bool.{Bool, true, false, not}
use mathlib.Core.List.{List, [], ◌∷◌, ◌++◌}
use Prim.Native.Nat.{ℕ, ◌+◌, ◌≤◌, ◌<◌}
use native.Mathlib.Omega.{arith}
use native.Mathlib.Numerals.{add-one}
use borrow.Author.Tests.{lt-ltb, le-ltb, eq-eqb, ne_eqb}
use lib.Dec.{eqb}
use lib.ListN.{length, get_or, take, drop, drop_of_length-le}
use lib.Seq.{drop-cons, take-suc}
use Rattle.std.specs.Prelude.{Result, Ok, Err, is_ok}
use Rattle.refusals.specs.Refusals.{Check, first, ◌refuses◌}
use Rattle.refusals.specs.Outcomes.{number_of}
use Rattle.refusals.specs.declared.Refusal.{Refusal}
use Rattle.refusals.specs.Facts.{Numbered}
use Rattle.refusals.proofs.Order.{first_passed}
use Rattle.refusals.proofs.Outcomes.{refuses as never_accepted}
use Rattle.prelude.specs.Finite.{◌and◌, ◌or◌}
use Rattle.leduc_betting.specs.Betting.{open_round, may, played, unknown}
use Rattle.leduc_betting.specs.Checks.{action_checks, barred_by, malformed, round_checks, public_checks}

-- two checks that pass leave the number to those behind them; one that refuses settles it
two_pass : (x y : Bool) (cs : List Check) → first ((x refuses 14) ∷ (y refuses 15) ∷ []) ≡ 0 → first ((x refuses 14) ∷ (y refuses 15) ∷ cs) ≡ first cs
two_pass true y cs e = absurd (omega arith)
two_pass false true cs e = absurd (omega arith)
two_pass false false cs e = refl

two_stop : (x y : Bool) (cs : List Check) → (first ((x refuses 14) ∷ (y refuses 15) ∷ []) ≡ 0 → ⊥) → first ((x refuses 14) ∷ (y refuses 15) ∷ cs) ≡ first ((x refuses 14) ∷ (y refuses 15) ∷ [])
two_stop true y cs e = refl
two_stop false true cs e = refl
two_stop false false cs e = absurd (e refl)

module _ (barred blind : Bool) (h : List ℕ) (i : ℕ) (w : i < length h) where
  -- the checks from place i on: those of the action there, then the others
  abbrev here : List Check
  here = action_checks barred blind (take i h) (get_or h i 0 ∷ [])

  from_here : first (action_checks barred blind (take i h) (drop i h)) ≡ first (action_checks barred blind (take i h) (get_or h i 0 ∷ drop (i + 1) h))
  from_here = rw (add-one, drop-cons h i 0 w)

  pub action-passes : first here ≡ 0 → first (action_checks barred blind (take i h) (drop i h)) ≡ first (action_checks barred blind (take (i + 1) h) (drop (i + 1) h))
  unfolding action_checks
  action-passes e =
      from_here
      ∙ two_pass (barred or not (open_round (take i h))) (blind or not (may (take i h) (get_or h i 0))) (action_checks barred blind (take i h ++ (get_or h i 0 ∷ [])) (drop (i + 1) h)) e
      ∙ ap (λ l. first (action_checks barred blind l (drop (i + 1) h))) (sym (take-suc h i 0 w) ∙ ap (λ k. take k h) (sym (add-one i)))

  pub action_stops : (first here ≡ 0 → ⊥) → first (action_checks barred blind (take i h) (drop i h)) ≡ first here
  unfolding action_checks
  action_stops e =
      from_here
      ∙ two_stop (barred or not (open_round (take i h))) (blind or not (may (take i h) (get_or h i 0))) (action_checks barred blind (take i h ++ (get_or h i 0 ∷ [])) (drop (i + 1) h)) e

pub actions_end : (barred blind : Bool) (h : List ℕ) (i : ℕ) → length h ≤ i → first (action_checks barred blind (take i h) (drop i h)) ≡ 0
unfolding action_checks
actions_end barred blind h i w = ap (λ l. first (action_checks barred blind (take i h) l)) (drop_of_length-le h w)

-- the actions of a round were played by the rules exactly if none of them is refused
pub played_first : (before h : List ℕ) → eqb (first (action_checks false false before h)) 0 ≡ played before h
unfolding action_checks played ◌or◌ ◌and◌
played_first before [] = refl
played_first before (a ∷ h) =
    go (open_round before) (may before a) (action_checks false false (before ++ (a ∷ [])) h)
    ∙ ap (◌and◌ (open_round before and may before a)) (played_first (before ++ (a ∷ [])) h)
  where
    go : (x y : Bool) (cs : List Check) → eqb (first ((not x refuses 14) ∷ (not y refuses 15) ∷ cs)) 0 ≡ ((x and y) and eqb (first cs) 0)
    go true true cs = refl
    go true false cs = refl
    go false y cs = refl

-- so they were exactly if the result of those checks is no error
pub played_if : (h : List ℕ) (r : Result Unit Refusal) → number_of r ≡ first (action_checks false false [] h) → is_ok r ≡ played [] h
played_if h (Ok x) e = sym (eq-eqb _ 0 (sym e)) ∙ played_first [] h
played_if h (Err x) e = sym (ne_eqb _ 0 (λ z. never_accepted x (e ∙ z))) ∙ played_first [] h

-- ---- a round's checks, and others behind them

actions_numbered : (barred blind : Bool) (before h : List ℕ) → Numbered (action_checks barred blind before h)
unfolding action_checks
actions_numbered barred blind before [] = tt
actions_numbered barred blind before (a ∷ h) = actions_numbered barred blind (before ++ (a ∷ [])) h

pub round_numbered : (barred blind : Bool) (n : ℕ) (h : List ℕ) → Numbered (round_checks barred blind n h)
round_numbered barred blind n h = actions_numbered barred blind [] h

pub round_pass : (barred blind : Bool) (n : ℕ) (h : List ℕ) (ds : List Check) → first (round_checks barred blind n h) ≡ 0 → first (round_checks barred blind n h ++ ds) ≡ first ds
round_pass barred blind n h ds e = first_passed (round_checks barred blind n h) ds (round_numbered barred blind n h) e

-- a round is refused with 13 if it is too long
pub too_long : (n : ℕ) (h : List ℕ) (cs : List Check) → 4 < n → 13 ≡ first ((malformed n h refuses 13) ∷ cs)
unfolding malformed ◌or◌
too_long n h cs w = rw (lt-ltb 4 n w)

-- or else by its actions
pub not_too_long : (n : ℕ) (h : List ℕ) → n ≤ 4 → malformed n h ≡ unknown h
unfolding malformed ◌or◌
not_too_long n h w = rw (le-ltb 4 n w)

-- or holds an unknown action,
pub unknown_in : (n : ℕ) (h : List ℕ) (cs : List Check) → n ≤ 4 → unknown h ≡ true → 13 ≡ first ((malformed n h refuses 13) ∷ cs)
unknown_in n h cs l e = rw (not_too_long n h l ∙ e)

pub known_in : (n : ℕ) (h : List ℕ) (cs : List Check) → n ≤ 4 → unknown h ≡ false → first cs ≡ first ((malformed n h refuses 13) ∷ cs)
known_in n h cs l e = rw (not_too_long n h l ∙ e)

-- the checks of round 2 and of the public card
abbrev pub second_checks : (blind : Bool) (n : ℕ) (h₁ h₂ : List ℕ) → List Check
second_checks blind n h₁ h₂ = round_checks (barred_by h₁) blind n h₂ ++ public_checks blind h₁ h₂

-- The facts of specs/Facts.antt, proved. Assumes nothing.
use mathlib.Core.Path.{◌≡◌, refl, sym, ap, ◌∙◌}
use mathlib.Core.Bool.{Bool, true, false, not, cond}
use mathlib.Core.List.{List, [], ◌∷◌}
use Prim.Native.Nat.{ℕ, zero, suc, ◌+◌, ◌<◌}
use native.Mathlib.Omega.{arith}
use lib.Dec.{eqb, ltb, leb}
use borrow.Author.Tests.{lt-leb, eq-eqb, ne_eqb, ltb-false, eqb-true, not-true}
use lib.ListN.{length}
use Rattle.prelude.specs.Finite.{◌and◌, ◌or◌, has}
use Rattle.prelude.proofs.Tests.{Tested, holds, fails, tested, and_left, and_right, and_left_fails, and-rest}
use Rattle.prelude.proofs.Lists.{those-ascending, has-those}
use Rattle.kuhn_rules.specs.Rules.{PASS, BET, turn, live, left, remaining, legal, overrun}
use Rattle.kuhn_rules.specs.Reached.{strange, twice, unknown, fair, played, possible}
use Rattle.kuhn_rules.specs.Facts.{DecidesReached, LegalMoves, OneWinner, ZeroSum, Ascending, AllLeft, LongestHand, KeyTells, KeyRecalls}
use Rattle.kuhn_rules.proofs.Histories.{hand-lasts}
use Rattle.kuhn_rules.proofs.Moves.{reached-possible, possible-reached}
use Rattle.kuhn_rules.proofs.Balance.{sole_winner, payoffs-balance}

pub decides-reached : DecidesReached
decides-reached = record { sound = possible-reached; complete = λ n cs h r. reached-possible n r }

-- ---- what a possible position holds

module _ (n : ℕ) (cs h : List ℕ) (p : possible n cs h ≡ true) where
  pub possible-fair : fair n cs ≡ true
  unfolding possible
  possible-fair = and_left (fair n cs) _ p

  pub possible-played : played n h ≡ true
  unfolding possible
  possible-played = and_right (eqb (length h) 0 or eqb (length cs) n) _ (and_right (fair n cs) _ p)

  pub possible-overrun : overrun n h ≡ false
  unfolding played
  possible-overrun = not-true (overrun n h) (and_right (not (unknown h)) _ possible-played)

pub fair_tests : (n : ℕ) (cs : List ℕ) → fair n cs ≡ true → (strange n cs ≡ false) × (twice cs ≡ false)
unfolding fair
fair_tests n cs f =
    let g = and_right (leb (length cs) n) _ f in
    (not-true (strange n cs) (and_left (not (strange n cs)) _ g), not-true (twice cs) (and_right (not (strange n cs)) _ g))

pub played_tests : (n : ℕ) (h : List ℕ) → played n h ≡ true → (unknown h ≡ false) × (overrun n h ≡ false)
unfolding played
played_tests n h p = (not-true (unknown h) (and_left (not (unknown h)) _ p), not-true (overrun n h) (and_right (not (unknown h)) _ p))

-- PASS and BET are the actions up to BET
pass_or_bet : (a : ℕ) → has a (PASS ∷ BET ∷ []) ≡ leb a BET
unfolding has ◌or◌
pass_or_bet zero = refl
pass_or_bet (suc zero) = refl
pass_or_bet (suc (suc a)) = rw (ne_eqb PASS (suc (suc a)) (λ q. omega arith), ne_eqb BET (suc (suc a)) (λ q. omega arith)) (sym (lt-leb (suc (suc a)) BET (omega arith)))

pub legal-moves : LegalMoves
unfolding legal has ◌and◌
legal-moves n cs h a = at (live n cs h)
  where
    at : (b : Bool) → has a (cond (b and eqb (turn n h) (turn n h)) (PASS ∷ BET ∷ []) []) ≡ (b and leb a BET)
    at true = ap (λ t. has a (cond t (PASS ∷ BET ∷ []) [])) (eq-eqb (turn n h) (turn n h) refl) ∙ pass_or_bet a
    at false = refl

pub one_winner : OneWinner
one_winner n cs h one r e = sole_winner n cs h one (eqb-true (length cs) n (and_left (eqb (length cs) n) _ e)) (possible-fair n cs h (reached-possible n r))

pub zero_sum : ZeroSum
zero_sum ante stake n cs h one r e = payoffs-balance n cs h one (eqb-true (length cs) n (and_left (eqb (length cs) n) _ e)) (possible-fair n cs h (reached-possible n r)) ante stake

pub ascending : Ascending
unfolding remaining
ascending n cs i j w v = those-ascending (left n cs) (n + 1) i j 0 w v

past_deck : (n : ℕ) (cs : List ℕ) (c : ℕ) → n < c → left n cs c ≡ false
unfolding left
past_deck n cs c w = and_left_fails (not (has c cs)) (lt-leb c n w)

pub all_left : AllLeft
unfolding remaining
all_left n cs c = has-those (left n cs) c (n + 1) ∙ below (tested (ltb c (n + 1)))
  where
    below : Tested (ltb c (n + 1)) → (ltb c (n + 1) and left n cs c) ≡ left n cs c
    below (holds t) = and-rest (left n cs c) t
    below (fails t) = and_left_fails (left n cs c) t ∙ sym (past_deck n cs c (let w = ltb-false c (n + 1) t in omega arith))

pub longest-hand : LongestHand
longest-hand n cs h one r = (hand-lasts n h one (possible-overrun n cs h (reached-possible n r))).0

pub key-tells : KeyTells
key-tells cs cs' h h' p p' e = (cc, cc, cc)

pub key-recalls : KeyRecalls
key-recalls cs cs' h h' p p' e k = let (a, b, c) = key-tells cs cs' h h' p p' e in cc

-- The facts of specs/Facts.antt, proved. Assumes nothing.
use mathlib.Core.Path.{◌≡◌, refl, sym, ap, ap₂, ◌∙◌}
use mathlib.Core.Bool.{Bool, true, false, not, cond}
use mathlib.Core.List.{List, [], ◌∷◌, ◌++◌}
use Prim.Native.Nat.{ℕ, zero, suc, ◌≤◌, ◌<◌}
use native.Mathlib.Omega.{arith}
use lib.Dec.{eqb, leb, ltb}
use lib.IntN.{pos, ◌+ℤ◌, +ℤ_invr, +ℤ_invl}
use lib.ListN.{length, get_or, take, drop}
use lib.Seq.{take-append_seam, drop-append_seam}
use borrow.Author.Tests.{eq-eqb, lt-ltb, ltb-true, leb-true, leb-false, not-true}
use Rattle.std.specs.Prelude.{Option, None, Some}
use Rattle.prelude.specs.Finite.{◌and◌, ◌or◌, some, has}
use Rattle.prelude.proofs.Tests.{Tested, holds, fails, tested, both, and_left, and_right, and_left_fails, and_right_fails, and-rest, or_left, or_right, or_cases, or_false_right, true≢false}
use Rattle.prelude.proofs.Lists.{those-ascending, has-those}
use Rattle.leduc_betting.specs.Cards.{rank, left, remaining, strange}
use Rattle.leduc_betting.specs.Betting.{folded, closes, may, options, in_play, turn}
use Rattle.leduc_rules.specs.Rules.{folds, pairs, beats, wins, public-due, due, live, legal, key, contribution, payoff}
use Rattle.leduc_betting.specs.Checks.{action_checks, barred_by}
use Rattle.leduc_rules.specs.Facts.{LegalMoves, ZeroSum, Ascending, AllLeft, LongestRound, SameShape, KeyTells, KeyRecalls, PublicTold, SecondTooEarly}
use Rattle.leduc_betting.proofs.Histories.{may-small}
use Rattle.leduc_betting.proofs.Rounds.{all_of, rounds, round_rule, closed-unfolded}
use Rattle.leduc_rules.proofs.Gains.{gained}
use Rattle.leduc_rules.proofs.Reaching.{Possible}
use Rattle.leduc_rules.proofs.Moves.{reached_parts, still_hidden, hidden_none, strange_more}

-- ---- payoffs

-- only one seat folds in a round, and none where none has folded
lone_folder : List ℕ → Bool
lone_folder h = not (folds h 0 and folds h 1) and (folded h or (not (folds h 0) and not (folds h 1)))

all_lone : all_of lone_folder rounds ≡ true
unfolding all_of lone_folder rounds ◌and◌ ◌or◌ some folds folded
all_lone = refl

-- not both seats win
module _ (cs : List ℕ) (p : Option ℕ) where
  one_beats : beats cs p 0 1 ≡ true → beats cs p 1 0 ≡ true → ⊥
  unfolding beats
  one_beats e f =
      let n₁ = not-true (pairs cs p 1) (and_left (not (pairs cs p 1)) _ e) in
      let n₀ = not-true (pairs cs p 0) (and_left (not (pairs cs p 0)) _ f) in
      or_cases (pairs cs p 0) (ltb (rank (get_or cs 1 0)) (rank (get_or cs 0 0))) (and_right (not (pairs cs p 1)) _ e)
      (λ q. true≢false (pairs cs p 0) q n₀)
      (λ q. or_cases (pairs cs p 1) (ltb (rank (get_or cs 0 0)) (rank (get_or cs 1 0))) (and_right (not (pairs cs p 0)) _ f)
      (λ r. true≢false (pairs cs p 1) r n₁)
      (λ r. let a = ltb-true (rank (get_or cs 1 0)) (rank (get_or cs 0 0)) q in let b = ltb-true (rank (get_or cs 0 0)) (rank (get_or cs 1 0)) r in omega arith))

nobody_folds : (s : ℕ) → folds [] s ≡ false
unfolding folds some
nobody_folds s = refl

-- where a seat has folded, it alone has
module _ {cs : List ℕ} {p : Option ℕ} {h₁ h₂ : List ℕ} (w : Possible cs p h₁ h₂) where
  lone : (h : List ℕ) → lone_folder h ≡ true → folds h 0 ≡ true → folds h 1 ≡ true → ⊥
  unfolding lone_folder
  lone h e a b = true≢false (folds h 0 and folds h 1) (both a b) (not-true (folds h 0 and folds h 1) (and_left (not (folds h 0 and folds h 1)) _ e))

  none_folds : (h : List ℕ) → lone_folder h ≡ true → folded h ≡ false → (s : ℕ) → s ≤ 1 → folds h s ≡ false
  unfolding lone_folder
  none_folds h e f s l =
      or_cases (folded h) (not (folds h 0) and not (folds h 1)) (and_right (not (folds h 0 and folds h 1)) _ e)
      (λ q. true≢false (folded h) q f)
      (λ q. pick s l (not-true (folds h 0) (and_left (not (folds h 0)) (not (folds h 1)) q)) (not-true (folds h 1) (and_right (not (folds h 0)) (not (folds h 1)) q)))
    where
      pick : (t : ℕ) → t ≤ 1 → folds h 0 ≡ false → folds h 1 ≡ false → folds h t ≡ false
      pick zero l a b = a
      pick (suc zero) l a b = b
      pick (suc (suc t)) l a b = absurd (omega arith)

  abbrev rule₁ : lone_folder h₁ ≡ true
  rule₁ = round_rule lone_folder all_lone h₁ w.first_played

  abbrev rule₂ : lone_folder h₂ ≡ true
  rule₂ = round_rule lone_folder all_lone h₂ w.second-played

  -- nobody folds in round 2 after a fold in round 1
  none_after : folded h₁ ≡ true → h₂ ≡ []
  none_after f = go (tested (closes h₁))
    where
      go : Tested (closes h₁) → h₂ ≡ []
      go (holds c) = true≢false (folded h₁) f (closed-unfolded h₁ w.first_played c)
      go (fails c) = hidden_none w (still_hidden w c)

  one_folds : (folds h₁ 0 or folds h₂ 0) ≡ true → (folds h₁ 1 or folds h₂ 1) ≡ true → ⊥
  one_folds a b = go (tested (folded h₁))
    where
      go : Tested (folded h₁) → ⊥
      go (holds f) =
          let n = none_after f in
          or_cases (folds h₁ 0) (folds h₂ 0) a
          (λ q. or_cases (folds h₁ 1) (folds h₂ 1) b (λ r. lone h₁ rule₁ q r) (λ r. true≢false (folds h₂ 1) r (ap (λ t. folds t 1) n ∙ nobody_folds 1)))
          (λ q. true≢false (folds h₂ 0) q (ap (λ t. folds t 0) n ∙ nobody_folds 0))
      go (fails f) =
          or_cases (folds h₁ 0) (folds h₂ 0) a
          (λ q. true≢false (folds h₁ 0) q (none_folds h₁ rule₁ f 0 (omega arith)))
          (λ q. or_cases (folds h₁ 1) (folds h₂ 1) b (λ r. true≢false (folds h₁ 1) r (none_folds h₁ rule₁ f 1 (omega arith))) (λ r. lone h₂ rule₂ q r))

  one_wins : wins cs p h₁ h₂ 0 1 ≡ true → wins cs p h₁ h₂ 1 0 ≡ true → ⊥
  unfolding wins
  one_wins e f = go (folded h₁ or folded h₂) e f
    where
      go : (b : Bool) → cond b (folds h₁ 1 or folds h₂ 1) (beats cs p 0 1) ≡ true → cond b (folds h₁ 0 or folds h₂ 0) (beats cs p 1 0) ≡ true → ⊥
      go true x y = one_folds y x
      go false x y = one_beats cs p x y

balance : (x y : Bool) (a o : ℕ) → (x ≡ true → y ≡ true → ⊥) → gained x y a o +ℤ gained y x o a ≡ pos 0
balance true true a o e = absurd (e refl refl)
balance true false a o e = +ℤ_invr (pos o)
balance false true a o e = +ℤ_invl (pos a)
balance false false a o e = refl

pub zero_sum : ZeroSum
unfolding payoff
zero_sum ante raise₁ raise₂ cs p h₁ h₂ r e =
    balance (wins cs p h₁ h₂ 0 1) (wins cs p h₁ h₂ 1 0) (contribution ante raise₁ raise₂ h₁ h₂ 0) (contribution ante raise₁ raise₂ h₁ h₂ 1) (one_wins (reached_parts r))

-- ---- cards

pub ascending : Ascending
unfolding remaining
ascending cs i j w v = those-ascending (left cs) 6 i j 0 w v

past_deck : (cs : List ℕ) (c : ℕ) → ltb c 6 ≡ false → left cs c ≡ false
unfolding left
past_deck cs c t = and_left_fails (not (has c cs)) t

pub all_left : AllLeft
unfolding remaining
all_left cs c = has-those (left cs) c 6 ∙ below (tested (ltb c 6))
  where
    below : Tested (ltb c 6) → (ltb c 6 and left cs c) ≡ left cs c
    below (holds t) = and-rest (left cs c) t
    below (fails t) = and_left_fails (left cs c) t ∙ sym (past_deck cs c t)

-- ---- betting

at_most_four : List ℕ → Bool
at_most_four h = leb (length h) 4

all_short : all_of at_most_four rounds ≡ true
unfolding all_of at_most_four rounds ◌and◌
all_short = refl

pub longest-round : LongestRound
unfolding at_most_four
longest-round cs p h₁ h₂ r =
    let w = reached_parts r in
    (leb-true (length h₁) 4 (round_rule at_most_four all_short h₁ w.first_played), leb-true (length h₂) 4 (round_rule at_most_four all_short h₂ w.second-played))

-- the legal actions are those that may be made
options-may : (h : List ℕ) (a : ℕ) → has a (options h) ≡ may h a
unfolding options
options-may h a = has-those (may h) a 3 ∙ go (tested (may h a))
  where
    go : Tested (may h a) → (ltb a 3 and may h a) ≡ may h a
    go (holds t) = and-rest (may h a) (lt-ltb a 3 (let l = may-small h a t in omega arith))
    go (fails t) = and_right_fails (ltb a 3) t ∙ sym t

pub legal-moves : LegalMoves
unfolding legal in_play has ◌and◌
legal-moves cs p h₁ h₂ a = at (live cs p h₁ h₂)
  where
    round : (b : Bool) → may (cond b h₂ h₁) a ≡ cond b (may h₂ a) (may h₁ a)
    round true = refl
    round false = refl

    at : (b : Bool) → has a (cond (b and eqb (turn h₁ h₂) (turn h₁ h₂)) (options (in_play h₁ h₂)) []) ≡ (b and cond (closes h₁) (may h₂ a) (may h₁ a))
    at true = ap (λ t. has a (cond t (options (in_play h₁ h₂)) [])) (eq-eqb (turn h₁ h₂) (turn h₁ h₂) refl) ∙ options-may (in_play h₁ h₂) a ∙ round (closes h₁)
    at false = refl

pub same_shape : SameShape
unfolding legal live due public-due
same_shape cs cs' p p' h₁ h₂ n q = (rw (n, q), rw (n, q), λ s. rw (n, q))

pub second_too_early : SecondTooEarly
unfolding action_checks barred_by
second_too_early blind h₁ h a c = rw (or_left _ (or_right (folded h₁) (ap not c)))

-- ---- keys

pub key-tells : KeyTells
unfolding key
key-tells cs cs' p p' h₁ h₁' h₂ h₂' s s' e =
    let n : length h₁ ≡ length h₁' = cc in
    let rest : h₁ ++ (length h₂ ∷ h₂) ≡ h₁' ++ (length h₂' ∷ h₂') = cc in
    let first : h₁ ≡ h₁' = sym (take-append_seam h₁ (length h₂ ∷ h₂)) ∙ ap₂ take n rest ∙ take-append_seam h₁' (length h₂' ∷ h₂') in
    let second : length h₂ ∷ h₂ ≡ length h₂' ∷ h₂' = sym (drop-append_seam h₁ (length h₂ ∷ h₂)) ∙ ap₂ drop n rest ∙ drop-append_seam h₁' (length h₂' ∷ h₂') in
    (cc, cc, cc, first, cc)

pub key-recalls : KeyRecalls
unfolding key
key-recalls cs cs' p p' h₁ h₁' h₂ h₂' s s' e k =
    let (a, b, c, d, f) = key-tells cs cs' p p' h₁ h₁' h₂ h₂' s s' e in
    (cc, cc)

card-known : (cs : List ℕ) (x : ℕ) {h₁ h₂ : List ℕ} → Possible cs (Some x) h₁ h₂ → x < 6
card-known cs x w = leb-false 6 x (or_false_right (strange cs) (leb 6 x) (sym (strange_more cs x) ∙ w.in_deck))

pub public-told : PublicTold
public-told cs cs' None None h₁ h₁' h₂ h₂' r r' e = refl
public-told cs cs' None (Some x) h₁ h₁' h₂ h₂' r r' e = let l = card-known cs' x (reached_parts r') in absurd (omega arith)
public-told cs cs' (Some x) None h₁ h₁' h₂ h₂' r r' e = let l = card-known cs x (reached_parts r) in absurd (omega arith)
public-told cs cs' (Some x) (Some y) h₁ h₁' h₂ h₂' r r' e = ap Some e

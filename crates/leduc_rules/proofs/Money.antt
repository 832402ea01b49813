-- What a seat puts in in a round, turn by turn: linear in the raise, and equal for both seats once the round has closed. Assumes nothing.
use mathlib.Core.Path.{◌≡◌, refl, sym, ap, ap₂, ◌∙◌}
use mathlib.Core.Bool.{Bool, true, false, cond}
use mathlib.Core.List.{List}
use Prim.Native.Nat.{ℕ, zero, suc, ◌+◌, ◌*◌, ◌-◌, ◌%◌}
use native.Mathlib.Nat as NatL
use native.Mathlib.Numerals.{add-one}
use native.Mathlib.Omega.{arith}
use lib.Dec.{eqb, leb, ltb}
use lib.ListN.{length, get_or}
use borrow.Author.Tests.{eq-eqb, ne_eqb, eqb-true, eqb-false, leb-true}
use Rattle.prelude.proofs.Tests.{Tested, holds, fails, tested, and_left, and_right}
use Rattle.leduc_betting.specs.Betting.{CALL, RAISE, ends_with, closes}
use Rattle.leduc_rules.specs.Rules.{after-action, put_in, added, contribution}
use Rattle.leduc_rules.specs.Facts.{LinearInStakes}

-- ---- one action more

module _ (size : ℕ) (h : List ℕ) where
  -- after i actions, what the seat to act has put in, and the other
  abbrev pub acting : ℕ → ℕ
  acting i = put_in size h i (i % 2)

  abbrev pub other : ℕ → ℕ
  other i = put_in size h i (1 - i % 2)

  turn-passes : (i : ℕ) → suc i % 2 ≡ 1 - i % 2
  turn-passes i = omega arith

  pub acting_more : (i : ℕ) → acting (suc i) ≡ other i
  unfolding put_in
  acting_more i = ap (put_in size h (suc i)) (turn-passes i) ∙ waits
    where
      waits : put_in size h (suc i) (1 - i % 2) ≡ put_in size h i (1 - i % 2)
      waits = rw (ne_eqb (1 - i % 2) (i % 2) (λ e. omega arith)) refl

  pub other_more : (i : ℕ) → other (suc i) ≡ after-action size (get_or h i 0) (acting i) (other i)
  unfolding put_in
  other_more i = ap (put_in size h (suc i)) (let q : 1 - suc i % 2 ≡ i % 2 = omega arith in q) ∙ acts
    where
      acts : put_in size h (suc i) (i % 2) ≡ after-action size (get_or h i 0) (acting i) (other i)
      acts = rw (eq-eqb (i % 2) (i % 2) refl) refl

  -- a call leaves both level, a raise the other ahead
  pub called : (i : ℕ) → get_or h i 0 ≡ CALL → other (suc i) ≡ acting (suc i)
  unfolding after-action
  called i e = other_more i ∙ ap (λ a. after-action size a (acting i) (other i)) e ∙ sym (acting_more i)

  pub raised : (i : ℕ) → get_or h i 0 ≡ RAISE → other (suc i) ≡ acting (suc i) + size
  unfolding after-action
  raised i e = other_more i ∙ ap (λ a. after-action size a (acting i) (other i)) e ∙ ap (λ x. x + size) (sym (acting_more i))

  -- ---- by seat

  pub even-turn : (i : ℕ) → eqb (i % 2) 0 ≡ true → (acting i ≡ put_in size h i 0) × (other i ≡ put_in size h i 1)
  even-turn i t = let e = eqb-true (i % 2) 0 t in (ap (put_in size h i) e, ap (λ x. put_in size h i (1 - x)) e)

  pub odd-turn : (i : ℕ) → eqb (i % 2) 0 ≡ false → (acting i ≡ put_in size h i 1) × (other i ≡ put_in size h i 0)
  odd-turn i t = let f = eqb-false (i % 2) 0 t in let e : i % 2 ≡ 1 = omega arith in (ap (put_in size h i) e, ap (λ x. put_in size h i (1 - x)) e)

  seats-level : (i : ℕ) → other i ≡ acting i → put_in size h i 0 ≡ put_in size h i 1
  seats-level i e = go (tested (eqb (i % 2) 0))
    where
      go : Tested (eqb (i % 2) 0) → put_in size h i 0 ≡ put_in size h i 1
      go (holds t) = let (x, y) = even-turn i t in sym x ∙ sym e ∙ y
      go (fails t) = let (x, y) = odd-turn i t in sym y ∙ e ∙ x

  -- a round that closes leaves both seats level
  pub closed-level : closes h ≡ true → added size h 0 ≡ added size h 1
  unfolding closes ends_with
  closed-level c =
      let l = leb-true 2 (length h) (and_left (leb 2 (length h)) _ c) in
      let e = eqb-true _ CALL (and_right (ltb 0 (length h)) _ (and_right (leb 2 (length h)) _ c)) in
      let n : length h ≡ suc (length h - 1) = omega arith in
      seats-level (length h) (ap (λ k. other k) n ∙ called (length h - 1) e ∙ ap (λ k. acting k) (sym n))

-- ---- linear in the raise

linear_action : (size a x y : ℕ) → after-action size a (size * x) (size * y) ≡ size * after-action 1 a x y
unfolding after-action
linear_action size a x y = go (eqb a CALL) (eqb a RAISE)
  where
    go : (b c : Bool) → cond b (size * y) (cond c (size * y + size) (size * x)) ≡ size * cond b y (cond c (y + 1) x)
    go true c = refl
    go false true = sym (ap (λ k. size * k) (add-one y) ∙ NatL.mul-suc size y)
    go false false = refl

linear_round : (size : ℕ) (h : List ℕ) (i s : ℕ) → put_in size h i s ≡ size * put_in 1 h i s
unfolding put_in
linear_round size h zero s = sym (NatL.mul-zero size)
linear_round size h (suc i) s = go (eqb s (i % 2)) (linear_round size h i s) (linear_round size h i (1 - s))
  where
    go : (b : Bool) {x y : ℕ} → x ≡ size * put_in 1 h i s → y ≡ size * put_in 1 h i (1 - s)
        → cond b (after-action size (get_or h i 0) x y) x ≡ size * cond b (after-action 1 (get_or h i 0) (put_in 1 h i s) (put_in 1 h i (1 - s))) (put_in 1 h i s)
    go true e f = ap₂ (after-action size (get_or h i 0)) e f ∙ linear_action size (get_or h i 0) (put_in 1 h i s) (put_in 1 h i (1 - s))
    go false e f = e

pub linear_in_stakes : LinearInStakes
unfolding contribution
linear_in_stakes ante raise₁ raise₂ h₁ h₂ s = ap₂ (λ x y. ante + x + y) (linear_round raise₁ h₁ (length h₁) s) (linear_round raise₂ h₂ (length h₂) s)

-- What both seats have paid as the code's loop counts it, turn by turn, and that it is what they have contributed. Assumes nothing.
use mathlib.Core.Path.{◌≡◌, refl, sym, ap, ap₂, ◌∙◌}
use mathlib.Core.Logic.{⊎_elim}
use mathlib.Core.Bool.{Bool, true, false, cond}
use mathlib.Core.List.{List, [], ◌∷◌}
use Prim.Native.Nat.{ℕ, zero, suc, ◌+◌, ◌*◌, ◌%◌, ◌≤◌, ◌<◌}
use native.Mathlib.Nat as NatL
use native.Mathlib.Omega.{arith}
use native.Mathlib.Numerals.{add-one}
use lib.Dec.{eqb}
use lib.ListN.{length, get_or, drop, drop_of_length-le}
use lib.Seq.{drop-cons}
use Rattle.std.specs.Prelude.{Option}
use Rattle.prelude.proofs.Tests.{Tested, holds, fails, tested}
use Rattle.leduc_betting.specs.Betting.{CALL, RAISE, closes}
use Rattle.leduc_rules.specs.Rules.{after-action, put_in, added, contribution, wins, payoff}
use Rattle.leduc_rules.specs.declared.Pot.{Pot}
use Rattle.leduc_rules.specs.internal.Pots.{matched, bet, seated, after-round, pot_of, pot, BeginsLevel}
use Rattle.leduc_rules.proofs.Gains.{gained}
use Rattle.leduc_rules.proofs.Money.{acting, other, acting_more, other_more, even-turn, odd-turn, closed-level}

-- one action more, as a loop bets
pub bet_step : (size a o : ℕ) (h : List ℕ) (i : ℕ) → i < length h → bet size (pot_of a o) (drop i h) ≡ bet size (pot_of o (matched size (pot_of a o) (get_or h i 0))) (drop (i + 1) h)
unfolding bet
bet_step size a o h i w = rw (add-one, drop-cons h i 0 w)

pub bet_end : (size a o : ℕ) (h : List ℕ) (i : ℕ) → length h ≤ i → bet size (pot_of a o) (drop i h) ≡ pot_of a o
unfolding bet
bet_end size a o h i w = ap (bet size (pot_of a o)) (drop_of_length-le h w)

-- an action adds at most a raise to the greater contribution
pub matched_bound : (size a o x b : ℕ) → a ≤ b → o ≤ b → matched size (pot_of a o) x ≤ b + size
unfolding matched
matched_bound size a o x b p q = go (eqb x CALL) (eqb x RAISE)
  where
    go : (t u : Bool) → cond t o (cond u (o + size) a) ≤ b + size
    go true u = omega arith
    go false true = omega arith
    go false false = omega arith

pub record Within (b : ℕ) (q : Pot) : Type 0 where
  pub acting-within : q.acting ≤ b
  pub other-within : q.other ≤ b

bet_bound : (size b n : ℕ) (q : Pot) (h : List ℕ) → size ≤ 4 → length h ≤ n → Within b q → Within (b + 4 * n) (bet size q h)
unfolding bet
bet_bound size b n q [] s l w =
    let x = w.acting-within in
    let y = w.other-within in
    record { acting-within = omega arith; other-within = omega arith }
bet_bound size b zero q (a ∷ h) s l w = absurd (omega arith)
bet_bound size b (suc n) q (a ∷ h) s l w =
    let x : q.acting ≤ b = w.acting-within in
    let y : q.other ≤ b = w.other-within in
    let m : matched size q a ≤ b + size = matched_bound size q.acting q.other a b x y in
    let r = bet_bound size (b + 4) n (pot_of q.other (matched size q a)) h s (omega arith) (record { acting-within = omega arith; other-within = omega arith }) in
    let u = r.acting-within in
    let v = r.other-within in
    record { acting-within = omega arith; other-within = omega arith }

pub seated_bound : (b n : ℕ) (q : Pot) → Within b q → Within b (seated n q)
unfolding seated
seated_bound b n q w = go (eqb (n % 2) 0)
  where
    go : (t : Bool) → Within b (cond t q (record { acting = q.other; other = q.acting }))
    go true = w
    go false = record { acting-within = w.other-within; other-within = w.acting-within }

-- a round of four actions at raises of at most 4 adds at most 16
pub round_bound : (size b : ℕ) (q : Pot) (h : List ℕ) → size ≤ 4 → length h ≤ 4 → Within b q → Within (b + 16) (after-round size q h)
unfolding after-round
round_bound size b q h s l w = seated_bound (b + 16) (length h) (bet size q h) (bet_bound size b 4 q h s l w)

-- what both seats have paid at today's stakes is at most 33
pub paid_bound : (h₁ h₂ : List ℕ) → length h₁ ≤ 4 → length h₂ ≤ 4 → Within 33 (after-round 4 (after-round 2 (pot_of 1 1) h₁) h₂)
paid_bound h₁ h₂ l m =
    round_bound 4 17 (after-round 2 (pot_of 1 1) h₁) h₂ (omega arith) m
    (round_bound 2 1 (pot_of 1 1) h₁ (omega arith) l (record { acting-within = omega arith; other-within = omega arith }))

-- ---- the pot holds what the seats have contributed

module _ (size u : ℕ) where
  matched_from : (x y a : ℕ) → matched size (pot_of (u + x) (u + y)) a ≡ u + after-action size a x y
  unfolding matched after-action
  matched_from x y a = go (eqb a CALL) (eqb a RAISE)
    where
      go : (b c : Bool) → cond b (u + y) (cond c (u + y + size) (u + x)) ≡ u + cond b y (cond c (y + size) x)
      go true c = refl
      go false true = omega arith
      go false false = refl

  -- after i actions of a round that both began with u
  bet_from : (h : List ℕ) (i : ℕ) → i ≤ length h → bet size (pot_of (u + acting size h i) (u + other size h i)) (drop i h) ≡ bet size (pot_of u u) h
  unfolding put_in
  bet_from h zero l = ap (λ x. bet size (pot_of x x) h) (NatL.add-zero u)
  bet_from h (suc i) l =
      ap₂ (λ x y. bet size (pot_of x y) (drop (suc i) h)) (ap (λ x. u + x) (acting_more size h i))
      (ap (λ x. u + x) (other_more size h i) ∙ sym (matched_from (acting size h i) (other size h i) (get_or h i 0)))
      ∙ ap (λ k. bet size (pot_of (u + other size h i) (matched size (pot_of (u + acting size h i) (u + other size h i)) (get_or h i 0))) (drop k h)) (sym (add-one i))
      ∙ sym (bet_step size (u + acting size h i) (u + other size h i) h i l)
      ∙ bet_from h i (omega arith)

  by_seat : (h : List ℕ) (n : ℕ) → seated n (pot_of (u + acting size h n) (u + other size h n)) ≡ pot_of (u + put_in size h n 0) (u + put_in size h n 1)
  unfolding seated
  by_seat h n = go (tested (eqb (n % 2) 0))
    where
      x : ℕ
      x = u + acting size h n

      y : ℕ
      y = u + other size h n

      go : Tested (eqb (n % 2) 0) → cond (eqb (n % 2) 0) (pot_of x y) (pot_of y x) ≡ pot_of (u + put_in size h n 0) (u + put_in size h n 1)
      go (holds t) = let (e, f) = even-turn size h n t in ap (λ b. cond b (pot_of x y) (pot_of y x)) t ∙ ap₂ (λ v w. pot_of (u + v) (u + w)) e f
      go (fails t) = let (e, f) = odd-turn size h n t in ap (λ b. cond b (pot_of x y) (pot_of y x)) t ∙ ap₂ (λ v w. pot_of (u + w) (u + v)) e f

  round_adds : (h : List ℕ) → after-round size (pot_of u u) h ≡ pot_of (u + added size h 0) (u + added size h 1)
  unfolding after-round
  round_adds h =
      ap (seated (length h)) (sym (bet_from h (length h) (omega arith)) ∙ bet_end size (u + acting size h (length h)) (u + other size h (length h)) h (length h) (omega arith))
      ∙ by_seat h (length h)

module _ (ante raise₁ raise₂ : ℕ) (h₁ h₂ : List ℕ) where
  -- what seat s has paid before round 2
  abbrev before : ℕ → ℕ
  before s = ante + added raise₁ h₁ s

  -- a round that has not begun adds nothing
  none_added : h₂ ≡ [] → after-round raise₂ (pot_of (before 0) (before 1)) h₂ ≡ pot_of (before 0 + added raise₂ h₂ 0) (before 1 + added raise₂ h₂ 1)
  unfolding after-round bet seated put_in
  none_added e = rw e (ap₂ pot_of (sym (NatL.add-zero (before 0))) (sym (NatL.add-zero (before 1))))

  level-added : closes h₁ ≡ true → after-round raise₂ (pot_of (before 0) (before 1)) h₂ ≡ pot_of (before 0 + added raise₂ h₂ 0) (before 1 + added raise₂ h₂ 1)
  level-added c =
      let e : before 0 ≡ before 1 = ap (λ x. ante + x) (closed-level raise₁ h₁ c) in
      ap (λ x. after-round raise₂ (pot_of (before 0) x) h₂) (sym e) ∙ round_adds raise₂ (before 0) h₂ ∙ ap (λ x. pot_of (before 0 + added raise₂ h₂ 0) (x + added raise₂ h₂ 1)) e

  pub pot-paid : BeginsLevel h₁ h₂ → pot ante raise₁ raise₂ h₁ h₂ ≡ pot_of (contribution ante raise₁ raise₂ h₁ h₂ 0) (contribution ante raise₁ raise₂ h₁ h₂ 1)
  unfolding contribution
  pot-paid w = ap (λ q. after-round raise₂ q h₂) (round_adds raise₁ ante h₁) ∙ ⊎_elim level-added none_added w

-- ---- the payoffs at today's stakes, from who wins and the pot

module _ (cs : List ℕ) (p : Option ℕ) (h₁ h₂ : List ℕ) (w : BeginsLevel h₁ h₂) (x y : Bool) (q : Pot) (e : x ≡ wins cs p h₁ h₂ 0 1) (f : y ≡ wins cs p h₁ h₂ 1 0) (g : q ≡ pot 1 2 4 h₁ h₂) where
  paid_is : q ≡ pot_of (contribution 1 2 4 h₁ h₂ 0) (contribution 1 2 4 h₁ h₂ 1)
  paid_is = g ∙ pot-paid 1 2 4 h₁ h₂ w

  pub payoff_zero : gained x y q.acting q.other ≡ payoff 1 2 4 cs p h₁ h₂ 0
  unfolding payoff
  payoff_zero =
      ap₂ (λ b c. gained b c q.acting q.other) e f
      ∙ ap (λ r. gained (wins cs p h₁ h₂ 0 1) (wins cs p h₁ h₂ 1 0) r.acting r.other) paid_is

  pub payoff_one : gained y x q.other q.acting ≡ payoff 1 2 4 cs p h₁ h₂ 1
  unfolding payoff
  payoff_one =
      ap₂ (λ b c. gained b c q.other q.acting) f e
      ∙ ap (λ r. gained (wins cs p h₁ h₂ 1 0) (wins cs p h₁ h₂ 0 1) r.other r.acting) paid_is

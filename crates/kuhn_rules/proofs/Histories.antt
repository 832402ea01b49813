-- Laws of the betting, over the front part of a history. Assumes nothing.
use mathlib.Core.Path.{◌≡◌, refl, sym, ap, ◌∙◌}
use mathlib.Core.Bool.{Bool, true, false, not, cond}
use mathlib.Core.List.{List, [], ◌∷◌}
use Prim.Native.Nat.{ℕ, zero, suc, ◌+◌, ◌*◌, ◌-◌, ◌%◌, ◌≤◌, ◌<◌}
use native.Mathlib.Omega.{arith}
use lib.Dec.{eqb, ltb}
use borrow.Author.Tests.{lt-ltb, ltb-true, ltb-false, eq-eqb, ne_eqb, eqb-true, eqb-false}
use lib.ListN.{length, get_or, take}
use lib.Seq.{length-take-le, get_or-take, take-take, take-length}
use Rattle.std.specs.List.{list_any}
use Rattle.prelude.specs.Finite.{◌and◌, ◌or◌, some}
use Rattle.prelude.proofs.Tests.{Tested, holds, fails, tested, true≢false, iff, eqb-iff, some_here, some_at, some_same}
use Rattle.prelude.proofs.Bytes.{or_is, some_any}
use Rattle.prelude.proofs.Lists.{some_take}
use Rattle.kuhn_rules.specs.Rules.{PASS, BET, bet-made, after-bet, ended, overrun, bets, stands}
use Rattle.kuhn_rules.specs.Reached.{unknown}

pub unknown-take : (a : ℕ) (l : List ℕ) → a ≤ length l → unknown (take a l) ≡ some a (λ i. ltb BET (get_or l i 0))
unfolding unknown
unknown-take a l h = some_take (λ i x. ltb BET x) a l 0 h

pub unknown_any : (h : List ℕ) → unknown h ≡ list_any (λ a. ltb BET a) h
unfolding unknown
unknown_any h = some_any (ltb BET) h

pub bets-take : (n a : ℕ) (l : List ℕ) (p : ℕ) → a ≤ length l → bets n (take a l) p ≡ some a (λ i. eqb (i % n) p and eqb (get_or l i PASS) BET)
unfolding bets
bets-take n a l p h = some_take (λ i x. eqb (i % n) p and eqb x BET) a l PASS h

-- ---- the end of a hand, by the place b of its first bet

-- no bet stands before place b
abbrev Quiet : List ℕ → ℕ → Type 0
Quiet h b = (k : ℕ) → k < b → get_or h k 0 ≡ BET → ⊥

quiet-rest : (x : ℕ) (h : List ℕ) (b : ℕ) → Quiet (x ∷ h) (suc b) → Quiet h b
quiet-rest x h b q k l e = q (suc k) (omega arith) e

no_bet : (h : List ℕ) → Quiet h (length h) → bet-made h ≡ false
unfolding bet-made ◌or◌
no_bet [] q = refl
no_bet (x ∷ h) q = rw (ne_eqb x BET (q 0 (omega arith))) (no_bet h (quiet-rest x h (length h) q))

bet_at : (h : List ℕ) (b : ℕ) → Quiet h b → b < length h → get_or h b 0 ≡ BET → (bet-made h ≡ true) × (length (after-bet h) + (b + 1) ≡ length h)
unfolding bet-made after-bet ◌or◌
bet_at [] b q l e = absurd (omega arith)
bet_at (x ∷ h) zero q l e = rw (eq-eqb x BET e) (refl, omega arith)
bet_at (x ∷ h) (suc b) q l e = rw (ne_eqb x BET (q 0 (omega arith))) (let (m, r) = bet_at h b (quiet-rest x h b q) (omega arith) e in (m, omega arith))

quiet-take : (k b : ℕ) (l : List ℕ) → b ≤ k → Quiet l b → Quiet (take k l) b
quiet-take k b l h q i w e = q i w (sym (get_or-take k l i 0 (omega arith)) ∙ e)

-- no seat has bet in the first k actions
pub no_bet-made : (k : ℕ) (l : List ℕ) → k ≤ length l → Quiet l k → bet-made (take k l) ≡ false
no_bet-made k l h q = no_bet (take k l) (rw (length-take-le k l h) (quiet-take k k l (omega arith) q))

-- one bet at place b, and as many actions stand after it as after that place
bet_in : (k b : ℕ) (l : List ℕ) → k ≤ length l → Quiet l b → b < k → get_or l b 0 ≡ BET → (bet-made (take k l) ≡ true) × (length (after-bet (take k l)) + (b + 1) ≡ k)
bet_in k b l h q w e =
    let (m, r) = bet_at (take k l) b (quiet-take k b l (omega arith) q) (rw (length-take-le k l h) w) (get_or-take k l b 0 w ∙ e) in
    (m, r ∙ length-take-le k l h)

-- up to the first bet a hand ends after n passes
pub ended-quiet : (n k : ℕ) (l : List ℕ) → k ≤ length l → Quiet l k → ended n (take k l) ≡ eqb k n
unfolding ended
ended-quiet n k l h q = rw (no_bet-made k l h q, length-take-le k l h) refl

-- and past it after n - 1 actions more
pub ended-bet : (n k b : ℕ) (l : List ℕ) → 1 ≤ n → k ≤ length l → Quiet l b → b < k → get_or l b 0 ≡ BET → ended n (take k l) ≡ eqb k (b + n)
unfolding ended
ended-bet n k b l one h q w e =
    let (m, r) = bet_in k b l h q w e in
    ap (λ t. cond t (eqb (length (after-bet (take k l))) (n - 1)) (eqb (length (take k l)) n)) m
    ∙ eqb-iff (length (after-bet (take k l))) (n - 1) k (b + n) (λ v. omega arith) (λ v. omega arith)

quiet_less : (l : List ℕ) (b k : ℕ) → k ≤ b → Quiet l b → Quiet l k
quiet_less l b k h q i w e = q i (omega arith) e

-- ---- actions after the end

pub overrun-take : (n a : ℕ) (l : List ℕ) → a ≤ length l → overrun n (take a l) ≡ some a (λ k. ended n (take k l))
unfolding overrun
overrun-take n a l h = rw (length-take-le a l h) (some_same a (λ k. ended n (take k (take a l))) (λ k. ended n (take k l)) (λ k w. ap (ended n) (take-take k a l (omega arith))))

module _ (n a : ℕ) (l : List ℕ) (one : 1 ≤ n) (h : a ≤ length l) where
  -- with no bet: more than n passes
  pub overrun-quiet : Quiet l a → overrun n (take a l) ≡ ltb n a
  overrun-quiet q = overrun-take n a l h ∙ iff onward back
    where
      onward : some a (λ k. ended n (take k l)) ≡ true → ltb n a ≡ true
      onward e = some_at a (λ k. ended n (take k l)) e (λ k w v. lt-ltb n a (let x : k ≡ n = eqb-true k n (sym (ended-quiet n k l (omega arith) (quiet_less l a k (omega arith) q)) ∙ v) in omega arith))

      back : ltb n a ≡ true → some a (λ k. ended n (take k l)) ≡ true
      back e = let w : n < a = ltb-true n a e in some_here a (λ k. ended n (take k l)) n w (ended-quiet n n l (omega arith) (quiet_less l a n (omega arith) q) ∙ eq-eqb n n refl)

  module _ (b : ℕ) (q : Quiet l b) (w : b < a) (e : get_or l b 0 ≡ BET) where
    -- with a bet behind n passes: always
    pub overrun-late : n ≤ b → overrun n (take a l) ≡ true
    overrun-late v = overrun-take n a l h ∙ some_here a (λ k. ended n (take k l)) n (omega arith) (ended-quiet n n l (omega arith) (quiet_less l b n v q) ∙ eq-eqb n n refl)

    -- with a bet before that: more than n - 1 actions after it
    pub overrun-bet : b < n → overrun n (take a l) ≡ ltb (b + n) a
    overrun-bet v = overrun-take n a l h ∙ iff onward back
      where
        at : (k : ℕ) → k < a → ended n (take k l) ≡ true → Tested (ltb b k) → ltb (b + n) a ≡ true
        at k x y (holds t) = let u : b < k = ltb-true b k t in lt-ltb (b + n) a (let z : k ≡ b + n = eqb-true k (b + n) (sym (ended-bet n k b l one (omega arith) q u e) ∙ y) in omega arith)
        at k x y (fails t) = let u : k ≤ b = ltb-false b k t in absurd (let z : k ≡ n = eqb-true k n (sym (ended-quiet n k l (omega arith) (quiet_less l b k u q)) ∙ y) in omega arith)

        onward : some a (λ k. ended n (take k l)) ≡ true → ltb (b + n) a ≡ true
        onward x = some_at a (λ k. ended n (take k l)) x (λ k y z. at k y z (tested (ltb b k)))

        back : ltb (b + n) a ≡ true → some a (λ k. ended n (take k l)) ≡ true
        back x = let y : b + n < a = ltb-true (b + n) a x in some_here a (λ k. ended n (take k l)) (b + n) y (ended-bet n (b + n) b l one (omega arith) q (omega arith) e ∙ eq-eqb (b + n) (b + n) refl)

-- ---- how long a hand lasts

-- the place of the first bet, or the length where there is none
opening : (h : List ℕ) → (b : ℕ) × (b ≤ length h) × Quiet h b × (b < length h → get_or h b 0 ≡ BET)
opening [] = (0, omega arith, (λ k w e. absurd (omega arith)), (λ w. absurd (omega arith)))
opening (x ∷ h) = go (tested (eqb x BET)) (opening h)
  where
    later : (b : ℕ) → (x ≡ BET → ⊥) → Quiet h b → Quiet (x ∷ h) (suc b)
    later b n q zero w e = n e
    later b n q (suc k) w e = q k (omega arith) e

    go : Tested (eqb x BET) → (b : ℕ) × (b ≤ length h) × Quiet h b × (b < length h → get_or h b 0 ≡ BET) → (b : ℕ) × (b ≤ suc (length h)) × Quiet (x ∷ h) b × (b < suc (length h) → get_or (x ∷ h) b 0 ≡ BET)
    go (holds t) r = (0, omega arith, (λ k w e. absurd (omega arith)), (λ w. eqb-true x BET t))
    go (fails t) (b, i, q, f) = (suc b, omega arith, later b (eqb-false x BET t) q, (λ w. f (omega arith)))

-- a hand that has not run on has at most 2n - 1 actions, and fewer while it is live
module _ (n : ℕ) (h : List ℕ) (one : 1 ≤ n) (e : overrun n h ≡ false) where
  whole : (P : List ℕ → Bool) → P (take (length h) h) ≡ P h
  whole P = ap P (take-length h)

  last_action : (b : ℕ) → Quiet h b → b < length h → get_or h b 0 ≡ BET → Tested (ltb b n) → (length h ≤ b + n) × (b < n) × (ended n h ≡ eqb (length h) (b + n))
  last_action b q w f (holds t) = (
    ltb-false (b + n) (length h) (sym (overrun-bet n (length h) h one (omega arith) b q w f (ltb-true b n t)) ∙ whole (overrun n) ∙ e),
    ltb-true b n t,
    sym (whole (ended n)) ∙ ended-bet n (length h) b h one (omega arith) q w f,
  )
  last_action b q w f (fails t) = true≢false (overrun n h) (sym (whole (overrun n)) ∙ overrun-late n (length h) h one (omega arith) b q w f (ltb-false b n t)) e

  last_pass : Quiet h (length h) → (length h ≤ n) × (ended n h ≡ eqb (length h) n)
  last_pass q = (
    ltb-false n (length h) (sym (overrun-quiet n (length h) h one (omega arith) q) ∙ whole (overrun n) ∙ e),
    sym (whole (ended n)) ∙ ended-quiet n (length h) h (omega arith) q,
  )

  abbrev Lasts : Type 0
  Lasts = (length h < 2 * n) × (ended n h ≡ false → length h + 1 < 2 * n)

  by_opening : (b : ℕ) → b ≤ length h → Quiet h b → (b < length h → get_or h b 0 ≡ BET) → Tested (ltb b (length h)) → Lasts
  by_opening b i q f (holds t) =
      let w : b < length h = ltb-true b (length h) t in
      let (x, y, z) = last_action b q w (f w) (tested (ltb b n)) in
      (omega arith, λ v. let u : length h ≡ b + n → ⊥ = eqb-false (length h) (b + n) (sym z ∙ v) in omega arith)
  by_opening b i q f (fails t) =
      let w : length h ≤ b = ltb-false b (length h) t in
      let (x, z) = last_pass (quiet_less h b (length h) w q) in
      (omega arith, λ v. let u : length h ≡ n → ⊥ = eqb-false (length h) n (sym z ∙ v) in omega arith)

  pub hand-lasts : Lasts
  hand-lasts = let (b, i, q, f) = opening h in by_opening b i q f (tested (ltb b (length h)))

-- ---- a whole history, by the place b of its first bet

module _ (n : ℕ) (h : List ℕ) where
  -- no bet: it ends after n passes,
  pub ended_unbet : Quiet h (length h) → ended n h ≡ eqb (length h) n
  ended_unbet q = ap (ended n) (sym (take-length h)) ∙ ended-quiet n (length h) h (omega arith) q

  -- and an action more stands after the end
  pub overrun_unbet : 1 ≤ n → Quiet h (length h) → overrun n h ≡ ltb n (length h)
  overrun_unbet one q = ap (overrun n) (sym (take-length h)) ∙ overrun-quiet n (length h) h one (omega arith) q

module _ (n b : ℕ) (h : List ℕ) (one : 1 ≤ n) (q : Quiet h b) (w : b < length h) (e : get_or h b 0 ≡ BET) where
  -- the bet: it ends n - 1 actions after it,
  pub ended_after : ended n h ≡ eqb (length h - b) n
  ended_after =
      ap (ended n) (sym (take-length h)) ∙ ended-bet n (length h) b h one (omega arith) q w e
      ∙ eqb-iff (length h) (b + n) (length h - b) n (λ v. omega arith) (λ v. omega arith)

  -- and the bet itself stands after the end if n passes come before it, else an action more does
  pub overrun_past : n ≤ b → overrun n h ≡ true
  overrun_past v = ap (overrun n) (sym (take-length h)) ∙ overrun-late n (length h) h one (omega arith) b q w e v

  pub overrun_after : b < n → overrun n h ≡ ltb n (length h - b)
  overrun_after v =
      ap (overrun n) (sym (take-length h)) ∙ overrun-bet n (length h) h one (omega arith) b q w e v
      ∙ iff (λ t. let x = ltb-true (b + n) (length h) t in lt-ltb n (length h - b) (omega arith)) (λ t. let x = ltb-true n (length h - b) t in lt-ltb (b + n) (length h) (omega arith))

-- ---- who stands, once it is known whether any seat has bet

pub bet-made_any : (h : List ℕ) → bet-made h ≡ list_any (λ a. eqb a BET) h
unfolding bet-made
bet-made_any [] = refl
bet-made_any (a ∷ h) = ap (◌or◌ (eqb a BET)) (bet-made_any h) ∙ sym (or_is (eqb a BET) _)

pub stands-quiet : (n : ℕ) (h : List ℕ) (p : ℕ) → true ≡ not (bet-made h) → stands n h p ≡ true
unfolding stands ◌or◌
stands-quiet n h p e = rw (← e) refl

pub stands-bet : (n : ℕ) (h : List ℕ) (p : ℕ) → false ≡ not (bet-made h) → stands n h p ≡ bets n h p
unfolding stands ◌or◌
stands-bet n h p e = rw (← e) refl

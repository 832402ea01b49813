-- The winner: the seat that stands and has the highest card of those that stand. Assumes nothing.
use mathlib.Core.Path.{◌≡◌, refl, sym, ap, ap₂, ◌∙◌}
use mathlib.Core.Logic.{◌⊎◌, inl, inr}
use mathlib.Core.Bool.{Bool, true, false, not, cond}
use mathlib.Core.List.{List}
use Prim.Native.Nat.{ℕ, ◌+◌, ◌-◌, ◌≤◌, ◌<◌}
use native.Mathlib.Omega.{arith}
use lib.Dec.{eqb, ltb, leb}
use borrow.Author.Tests.{le-leb, leb-true, eq-eqb, eqb-true}
use lib.IntN.{ℤ, pos, neg_ℤ}
use lib.ListN.{get_or, set, replicate}
use Rattle.prelude.specs.Finite.{◌and◌, ◌or◌, every, sum, places}
use Rattle.prelude.proofs.Tests.{Tested, holds, fails, tested, true≢false, iff, both, and_right, and_left_fails, or_left, or_right, or_cases, below_cases, all, every_at}
use Rattle.prelude.proofs.Lists.{sum_without, filled_none, filled_more}
use Rattle.kuhn_rules.specs.Rules.{stands, wins, contribution, paid_by_others, payoff}
use Rattle.kuhn_rules.specs.internal.Highest.{Highest}
use Rattle.kuhn_rules.specs.Stakes.{ante, stake, payoffs_of}

module _ (n : ℕ) (h cards : List ℕ) where
  pub highest_none : Highest n h cards 0 0
  highest_none = record { bound = λ q w s. absurd (omega arith); attained = inl refl }

  -- one seat more, whose card counts if it stands
  module _ (m top card r : ℕ) (so_far : Highest n h cards m top) (is : card ≡ cond (stands n h m) (get_or cards m 0) 0) (a : top ≤ r) (b : card ≤ r) where
    card_of : stands n h m ≡ true → card ≡ get_or cards m 0
    card_of s = is ∙ ap (λ t. cond t (get_or cards m 0) 0) s

    keep : r ≡ top → (top ≡ 0) ⊎ ((q : ℕ) × (q < m) × (stands n h q ≡ true) × (get_or cards q 0 ≡ top)) → (r ≡ 0) ⊎ ((q : ℕ) × (q < m + 1) × (stands n h q ≡ true) × (get_or cards q 0 ≡ r))
    keep e (inl z) = inl (e ∙ z)
    keep e (inr (q, w, s, x)) = inr (q, omega arith, s, x ∙ sym e)

    take-over : r ≡ card → Tested (stands n h m) → (r ≡ 0) ⊎ ((q : ℕ) × (q < m + 1) × (stands n h q ≡ true) × (get_or cards q 0 ≡ r))
    take-over e (holds s) = inr (m, omega arith, s, sym (card_of s) ∙ sym e)
    take-over e (fails s) = inl (e ∙ is ∙ ap (λ t. cond t (get_or cards m 0) 0) s)

    reached : (r ≡ top) ⊎ (r ≡ card) → (r ≡ 0) ⊎ ((q : ℕ) × (q < m + 1) × (stands n h q ≡ true) × (get_or cards q 0 ≡ r))
    reached (inl e) = keep e so_far.attained
    reached (inr e) = take-over e (tested (stands n h m))

    pub highest_more : (r ≡ top) ⊎ (r ≡ card) → Highest n h cards (m + 1) r
    highest_more e = record { bound = λ q w s. below_cases q m (omega arith) (λ v. let x = so_far.bound q v s in omega arith) (λ v. let x : card ≡ get_or cards q 0 = card_of (rw v at s) ∙ ap (λ k. get_or cards k 0) (sym v) in omega arith); attained = reached e }

  -- a seat that stands wins if its card is the highest
  pub wins-highest : (top p : ℕ) → p < n → Highest n h cards n top → stands n h p ≡ true → wins n cards h p ≡ eqb (get_or cards p 0) top
  unfolding wins
  wins-highest top p w t s = iff onward back
    where
      no_lower : (q : ℕ) → q < n → stands n h q ≡ true → (not (stands n h q) or leb (get_or cards q 0) (get_or cards p 0)) ≡ true → get_or cards q 0 ≤ get_or cards p 0
      no_lower q v x e = or_cases (not (stands n h q)) (leb (get_or cards q 0) (get_or cards p 0)) e (λ z. true≢false
          (not (stands n h q)) z (ap not x)) (λ z. leb-true (get_or cards q 0) (get_or cards p 0) z)

      at_most : (top ≡ 0) ⊎ ((q : ℕ) × (q < n) × (stands n h q ≡ true) × (get_or cards q 0 ≡ top)) → ((q : ℕ) → q < n → stands n h q ≡ true → get_or cards q 0 ≤ get_or cards p 0) → top ≤ get_or cards p 0
      at_most (inl z) f = omega arith
      at_most (inr (q, v, x, e)) f = let y = f q v x in omega arith

      onward : (stands n h p and every n (λ q. not (stands n h q) or leb (get_or cards q 0) (get_or cards p 0))) ≡ true → eqb (get_or cards p 0) top ≡ true
      onward e =
          let high = and_right (stands n h p) (every n (λ q. not (stands n h q) or leb (get_or cards q 0) (get_or cards p 0))) e in
          let x : top ≤ get_or cards p 0 = at_most t.attained (λ q v y. no_lower q v y (every_at n (λ q. not (stands n h q) or leb (get_or cards q 0) (get_or cards p 0)) high q v)) in
          let y : get_or cards p 0 ≤ top = t.bound p w s in
          eq-eqb (get_or cards p 0) top (omega arith)

      lower : (q : ℕ) → q < n → get_or cards p 0 ≡ top → Tested (stands n h q) → (not (stands n h q) or leb (get_or cards q 0) (get_or cards p 0)) ≡ true
      lower q v e (holds x) = or_right (not (stands n h q)) (le-leb (get_or cards q 0) (get_or cards p 0) (let y = t.bound q v x in omega arith))
      lower q v e (fails x) = or_left (leb (get_or cards q 0) (get_or cards p 0)) (ap not x)

      back : eqb (get_or cards p 0) top ≡ true → (stands n h p and every n (λ q. not (stands n h q) or leb (get_or cards q 0) (get_or cards p 0))) ≡ true
      back e = both s (all n (λ q. not (stands n h q) or leb (get_or cards q 0) (get_or cards p 0)) (λ q v. lower q v (eqb-true (get_or cards p 0) top e) (tested (stands n h q))))

  -- a seat that does not stand does not win
  pub folds_lose : (cs : List ℕ) (p : ℕ) → stands n h p ≡ false → wins n cs h p ≡ false
  unfolding wins
  folds_lose cs p s = and_left_fails _ s

-- the winner's gain is the pot less its own part
pub payoff-share : (ante bet n : ℕ) (cs h : List ℕ) (p : ℕ) → p < n
    → cond (wins n cs h p) (pos (sum n (contribution ante bet n h) - contribution ante bet n h p)) (neg_ℤ (pos (contribution ante bet n h p))) ≡ payoff ante bet n cs h p
unfolding payoff paid_by_others
payoff-share ante bet n cs h p w = ap (λ k. cond (wins n cs h p) (pos k) (neg_ℤ (pos (contribution ante bet n h p)))) (let e = sum_without n p (contribution ante bet n h) w in omega arith)

-- no seat has paid more than all have
pub contribution_in : (ante bet n : ℕ) (h : List ℕ) (p : ℕ) → p < n → contribution ante bet n h p ≤ sum n (contribution ante bet n h)
contribution_in ante bet n h p w = let e = sum_without n p (contribution ante bet n h) w in omega arith

-- what the payoffs' loop writes for a seat
module _ (n : ℕ) (cs h : List ℕ) where
  abbrev pub paid_up_to : ℕ → List ℤ
  paid_up_to k = places 10 (λ p. cond (ltb p k) (payoff ante stake n cs h p) (pos 0))

  pub paid_none : replicate 10 (pos 0) ≡ paid_up_to 0
  paid_none = filled_none 10 (payoff ante stake n cs h) (pos 0)

  pub paid_more : (k total mine : ℕ) (winner : Bool) (amount : ℤ) (out : List ℤ) → k < n → n ≤ 10
      → total ≡ sum n (contribution ante stake n h) → mine ≡ contribution ante stake n h k → winner ≡ wins n cs h k → amount ≡ cond winner (pos (total - mine)) (neg_ℤ (pos mine))
      → out ≡ paid_up_to k → set out k amount ≡ paid_up_to (k + 1)
  paid_more k total mine winner amount out w v a b c d e =
      ap₂ (λ l z. set l k z) e (d ∙ ap (λ t. cond t (pos (total - mine)) (neg_ℤ (pos mine))) c ∙ ap₂ (λ x y. cond (wins n cs h k) (pos (x - y)) (neg_ℤ (pos y))) a b ∙ payoff-share ante stake n cs h k w)
      ∙ filled_more 10 (payoff ante stake n cs h) (pos 0) k (omega arith)

  pub paid_all : (k : ℕ) (out : List ℤ) → k ≤ n → n ≤ k → out ≡ paid_up_to k → out ≡ payoffs_of n cs h
  unfolding payoffs_of
  paid_all k out a b e = let q : k ≡ n = omega arith in e ∙ ap paid_up_to q

-- One action more in a hand: who has bet, what the seats have paid, and who wins. Assumes nothing.
use mathlib.Core.Path.{◌≡◌, refl, sym, ap, ap₂, ◌∙◌}
use mathlib.Core.Logic.{◌⊎◌, inl, inr}
use mathlib.Core.Bool.{Bool, true, false, not, cond}
use mathlib.Core.List.{List, [], ◌∷◌, ◌++◌}
use Prim.Native.Nat.{ℕ, zero, suc, ◌+◌, ◌*◌, ◌%◌, ◌≤◌, ◌<◌}
use native.Mathlib.Nat as NatL
use native.Mathlib.Omega.{arith}
use lib.Dec.{eqb, leb, ltb}
use lib.ListN.{length, get_or, length-append}
use lib.Seq.{take-append_seam, get_or_at}
use borrow.Author.Tests.{eq-eqb, ne_eqb, eqb-true, eqb-false, ltb-true, ltb-false, leb-true, le-leb}
use Rattle.prelude.specs.Finite.{◌and◌, ◌or◌, some, sum}
use Rattle.prelude.proofs.Tests.{Tested, holds, fails, tested, true≢false, both, and_left, and_right, and_right_fails, or_left, or_right, or_none, or_assoc, and_all, or_rest, or_cases, or_false_left, or_false_right, neither, none, every_at, all}
use Rattle.prelude.proofs.Lists.{sum_same, sum_without}
use Rattle.kuhn_rules.specs.Rules.{PASS, BET, turn, bet-made, after-bet, bets, stands, wins, contribution}
use Rattle.kuhn_rules.specs.Stakes.{ante, stake}
use Rattle.kuhn_rules.proofs.Histories.{bets-take, stands-quiet, stands-bet}

-- ---- the history
module _ (h : List ℕ) (a : ℕ) where
  pub longer : length (h ++ (a ∷ [])) ≡ suc (length h)
  longer = length-append h (a ∷ []) ∙ (let e : length h + 1 ≡ suc (length h) = omega arith in e)

pub bet-made_more : (h : List ℕ) (a : ℕ) → bet-made (h ++ (a ∷ [])) ≡ (bet-made h or eqb a BET)
unfolding bet-made ◌or◌
bet-made_more [] a = or_none (eqb a BET)
bet-made_more (x ∷ h) a = rw (bet-made_more h a) (or_assoc (eqb x BET) (bet-made h) (eqb a BET))

-- the actions after the first bet
pub after-bet_more : (h : List ℕ) (a : ℕ) → bet-made h ≡ true → length (after-bet (h ++ (a ∷ []))) ≡ suc (length (after-bet h))
unfolding bet-made after-bet ◌or◌
after-bet_more [] a e = true≢false false e refl
after-bet_more (x ∷ h) a e = at (after-bet_more h a) (tested (eqb x BET))
  where
    at : (bet-made h ≡ true → length (after-bet (h ++ (a ∷ []))) ≡ suc (length (after-bet h))) → Tested (eqb x BET) → length (cond (eqb x BET) (h ++ (a ∷ [])) (after-bet (h ++ (a ∷ [])))) ≡ suc (length (cond (eqb x BET) h (after-bet h)))
    at r (holds t) = rw t (longer h a)
    at r (fails t) = rw t (r (rw t at e))

pub after-bet_first : (h : List ℕ) → bet-made h ≡ false → length (after-bet (h ++ (BET ∷ []))) ≡ 0
unfolding bet-made after-bet ◌or◌
after-bet_first [] e = refl
after-bet_first (x ∷ h) e = at (after-bet_first h) (tested (eqb x BET))
  where
    at : (bet-made h ≡ false → length (after-bet (h ++ (BET ∷ []))) ≡ 0) → Tested (eqb x BET) → length (cond (eqb x BET) (h ++ (BET ∷ [])) (after-bet (h ++ (BET ∷ [])))) ≡ 0
    at r (holds t) = true≢false true refl (rw t at e)
    at r (fails t) = rw t (r (rw t at e))

-- ---- who has bet
no_bet_at : (h : List ℕ) → bet-made h ≡ false → (i : ℕ) → eqb (get_or h i 0) BET ≡ false
unfolding bet-made ◌or◌
no_bet_at [] e i = refl
no_bet_at (x ∷ h) e zero = or_false_left (eqb x BET) (bet-made h) e
no_bet_at (x ∷ h) e (suc i) = no_bet_at h (or_false_right (eqb x BET) (bet-made h) e) i

module _ (n : ℕ) (h : List ℕ) where
  pub no_bets : bet-made h ≡ false → (p : ℕ) → bets n h p ≡ false
  unfolding bets
  no_bets e p = none (length h) (λ i. eqb (i % n) p and eqb (get_or h i PASS) BET) (λ i l. and_right_fails (eqb (i % n) p) (no_bet_at h e i))

  -- the seat whose turn it was, if it bet
  pub bets_more : (a p : ℕ) → bets n (h ++ (a ∷ [])) p ≡ (bets n h p or (eqb (turn n h) p and eqb a BET))
  unfolding bets some
  bets_more a p =
      ap (λ k. some k at_place) (longer h a)
      ∙ ap₂ ◌or◌ (sym (bets-take n (length h) (h ++ (a ∷ [])) p (rw (longer h a) (omega arith))) ∙ ap (λ l. bets n l p) (take-append_seam h (a ∷ [])))
      (ap (λ x. eqb (length h % n) p and eqb x BET) (get_or_at h a [] 0 (length h) refl))
    where
      at_place : ℕ → Bool
      at_place i = eqb (i % n) p and eqb (get_or (h ++ (a ∷ [])) i PASS) BET

  pub bets_pass : (p : ℕ) → bets n (h ++ (PASS ∷ [])) p ≡ bets n h p
  unfolding ◌or◌
  bets_pass p = bets_more PASS p ∙ ap (◌or◌ (bets n h p)) (and_right_fails (eqb (turn n h) p) refl) ∙ or_none (bets n h p)

  pub bets-bet : (p : ℕ) → bets n (h ++ (BET ∷ [])) p ≡ (bets n h p or eqb (turn n h) p)
  unfolding ◌and◌
  bets-bet p = bets_more BET p ∙ ap (◌or◌ (bets n h p)) (and_all (eqb (turn n h) p))

-- ---- what the seats have paid
module _ (n : ℕ) (h : List ℕ) where
  pub contribution_pass : (i : ℕ) → contribution ante stake n (h ++ (PASS ∷ [])) i ≡ contribution ante stake n h i
  unfolding contribution
  contribution_pass i = ap (λ b. 1 + cond b 1 0) (bets_pass n h i)

  -- a seat that has not bet pays once more
  pub contribution-bet : bets n h (turn n h) ≡ false → (i : ℕ) → contribution ante stake n (h ++ (BET ∷ [])) i ≡ contribution ante stake n h i + cond (eqb i (turn n h)) 1 0
  unfolding contribution ◌or◌
  contribution-bet e i = ap (λ b. 1 + cond b 1 0) (bets-bet n h i) ∙ at (tested (eqb (turn n h) i))
    where
      at : Tested (eqb (turn n h) i) → 1 + cond (bets n h i or eqb (turn n h) i) 1 0 ≡ 1 + cond (bets n h i) 1 0 + cond (eqb i (turn n h)) 1 0
      at (holds t) = let q : turn n h ≡ i = eqb-true (turn n h) i t in
          rw (t, eq-eqb i (turn n h) (sym q), sym (ap (bets n h) q) ∙ e) refl
      at (fails t) = rw (t, ne_eqb i (turn n h) (λ q. eqb-false (turn n h) i t (sym q))) (same (bets n h i))
        where
          same : (b : Bool) → 1 + cond (b or false) 1 0 ≡ 1 + cond b 1 0 + 0
          same true = refl
          same false = refl

  pub paid : (i : ℕ) → (contribution ante stake n h i ≡ 1) ⊎ (contribution ante stake n h i ≡ 2)
  unfolding contribution
  paid i = at (bets n h i)
    where
      at : (b : Bool) → (1 + cond b 1 0 ≡ 1) ⊎ (1 + cond b 1 0 ≡ 2)
      at true = inr refl
      at false = inl refl

  pub paid-few : (i : ℕ) → contribution ante stake n h i ≤ 2
  paid-few i = at (paid i)
    where
      at : (contribution ante stake n h i ≡ 1) ⊎ (contribution ante stake n h i ≡ 2) → contribution ante stake n h i ≤ 2
      at (inl e) = omega arith
      at (inr e) = omega arith

  -- without a bet all have paid the ante
  pub paid-ante : bet-made h ≡ false → (i : ℕ) → contribution ante stake n h i ≡ 1
  unfolding contribution
  paid-ante e i = rw (no_bets n h e i) refl

-- a sum with one more at one place
pub sum_one_more : (n p : ℕ) (f g : ℕ → ℕ) → p < n → ((i : ℕ) → g i ≡ f i + cond (eqb i p) 1 0) → sum n g ≡ sum n f + 1
sum_one_more n p f g l e =
    let here : g p ≡ f p + 1 = e p ∙ ap (λ b. f p + cond b 1 0) (eq-eqb p p refl) in
    let rest : sum n (λ q. cond (eqb q p) 0 (g q)) ≡ sum n (λ q. cond (eqb q p) 0 (f q)) = sum_same n (λ q. cond (eqb q p) 0 (g q)) (λ q. cond (eqb q p) 0 (f q)) (λ q v. at q (tested (eqb q p))) in
    omega (arith, sum_without n p f l, sum_without n p g l, here, rest)
  where
    at : (q : ℕ) → Tested (eqb q p) → cond (eqb q p) 0 (g q) ≡ cond (eqb q p) 0 (f q)
    at q (holds t) = rw t refl
    at q (fails t) = rw t (e q ∙ rw t (NatL.add-zero (f q)))

pub sum_ones : (n : ℕ) (f : ℕ → ℕ) → ((i : ℕ) → f i ≡ 1) → sum n f ≡ n
unfolding sum
sum_ones zero f e = refl
sum_ones (suc n) f e = ap₂ ◌+◌ (sum_ones n f e) (e n) ∙ (let q : n + 1 ≡ suc n = omega arith in q)

pub sum_most : (n k : ℕ) (f : ℕ → ℕ) → ((i : ℕ) → f i ≤ k) → sum n f ≤ n * k
unfolding sum
sum_most zero k f e = omega arith
sum_most (suc n) k f e = omega (arith, sum_most n k f e, e n, NatL.suc-mul n k)

-- ---- who wins
module _ (n : ℕ) (cs h : List ℕ) where
  pub wins_by : (p : ℕ) → stands n h p ≡ true → ((q : ℕ) → q < n → stands n h q ≡ true → get_or cs q 0 ≤ get_or cs p 0) → wins n cs h p ≡ true
  unfolding wins
  wins_by p s f = both s (all n (λ q. not (stands n h q) or leb (get_or cs q 0) (get_or cs p 0)) (λ q l. at q l (tested (stands n h q))))
    where
      at : (q : ℕ) → q < n → Tested (stands n h q) → (not (stands n h q) or leb (get_or cs q 0) (get_or cs p 0)) ≡ true
      at q l (holds t) = or_right (not (stands n h q)) (le-leb (get_or cs q 0) (get_or cs p 0) (f q l t))
      at q l (fails t) = or_left (leb (get_or cs q 0) (get_or cs p 0)) (ap not t)

  pub winner-stands : (p : ℕ) → wins n cs h p ≡ true → stands n h p ≡ true
  unfolding wins
  winner-stands p e = and_left (stands n h p) _ e

  pub winner-beats : (p : ℕ) → wins n cs h p ≡ true → (q : ℕ) → q < n → stands n h q ≡ true → get_or cs q 0 ≤ get_or cs p 0
  unfolding wins
  winner-beats p e q l s = or_cases (not (stands n h q)) (leb (get_or cs q 0) (get_or cs p 0)) (every_at n (λ q. not (stands n h q) or leb (get_or cs q 0) (get_or cs p 0)) (and_right (stands n h p) _ e) q l)
      (λ z. true≢false (not (stands n h q)) z (ap not s)) (λ z. leb-true (get_or cs q 0) (get_or cs p 0) z)

  -- with no bet all stand
  pub wins-quiet : (p : ℕ) → bet-made h ≡ false → ((q : ℕ) → q < n → get_or cs q 0 ≤ get_or cs p 0) → wins n cs h p ≡ true
  wins-quiet p e f = wins_by p (stands-quiet n h p (sym (ap not e))) (λ q l s. f q l)

-- a bet stands already, or the action is one
module _ (n : ℕ) (h : List ℕ) where
  pub opened_more : (a : ℕ) → bet-made h ≡ true → bet-made (h ++ (a ∷ [])) ≡ true
  opened_more a e = bet-made_more h a ∙ or_left (eqb a BET) e

  pub opened-bet : bet-made (h ++ (BET ∷ [])) ≡ true
  opened-bet = bet-made_more h BET ∙ or_right (bet-made h) refl

  pub quiet_pass : bet-made h ≡ false → bet-made (h ++ (PASS ∷ [])) ≡ false
  quiet_pass e = bet-made_more h PASS ∙ neither e refl

  stands_pass : bet-made h ≡ true → (q : ℕ) → stands n (h ++ (PASS ∷ [])) q ≡ stands n h q
  stands_pass e q = stands-bet n (h ++ (PASS ∷ [])) q (sym (ap not (opened_more PASS e))) ∙ bets_pass n h q ∙ sym (stands-bet n h q (sym (ap not e)))

  stands_more : (q : ℕ) → stands n (h ++ (BET ∷ [])) q ≡ (bets n h q or eqb (turn n h) q)
  stands_more q = stands-bet n (h ++ (BET ∷ [])) q (sym (ap not opened-bet)) ∙ bets-bet n h q

  module _ (cs : List ℕ) where
    -- the first to bet stands alone
    pub wins_first : bet-made h ≡ false → wins n cs (h ++ (BET ∷ [])) (turn n h) ≡ true
    wins_first e = wins_by n cs (h ++ (BET ∷ [])) (turn n h) (alone (turn n h) ∙ eq-eqb (turn n h) (turn n h) refl)
        (λ q l s. rw (sym (eqb-true (turn n h) q (sym (alone q) ∙ s))) (NatL.le_refl _))
      where
        alone : (q : ℕ) → stands n (h ++ (BET ∷ [])) q ≡ eqb (turn n h) q
        alone q = stands_more q ∙ or_rest (eqb (turn n h) q) (no_bets n h e q)

    module _ (p : ℕ) (opened : bet-made h ≡ true) (e : wins n cs h p ≡ true) where
      pub wins_pass : wins n cs (h ++ (PASS ∷ [])) p ≡ true
      wins_pass = wins_by n cs (h ++ (PASS ∷ [])) p (stands_pass opened p ∙ winner-stands n cs h p e) (λ q l s. winner-beats n cs h p e q l (sym (stands_pass opened q) ∙ s))

      -- who stands after a bet has no higher card than the winner before and the bettor
      stands-cases : {A : Type 0} (q : ℕ) → q < n → stands n (h ++ (BET ∷ [])) q ≡ true → (get_or cs q 0 ≤ get_or cs p 0 → A) → (turn n h ≡ q → A) → A
      stands-cases q l s f g = or_cases (bets n h q) (eqb (turn n h) q) (sym (stands_more q) ∙ s)
          (λ t. f (winner-beats n cs h p e q l (stands-bet n h q (sym (ap not opened)) ∙ t))) (λ t. g (eqb-true (turn n h) q t))

      pub wins-bet : wins n cs (h ++ (BET ∷ [])) (cond (ltb (get_or cs p 0) (get_or cs (turn n h) 0)) (turn n h) p) ≡ true
      wins-bet = at (tested (ltb (get_or cs p 0) (get_or cs (turn n h) 0)))
        where
          at : Tested (ltb (get_or cs p 0) (get_or cs (turn n h) 0)) → wins n cs (h ++ (BET ∷ [])) (cond (ltb (get_or cs p 0) (get_or cs (turn n h) 0)) (turn n h) p) ≡ true
          at (holds t) = rw t (wins_by n cs (h ++ (BET ∷ [])) (turn n h) (stands_more (turn n h) ∙ or_right (bets n h (turn n h)) (eq-eqb (turn n h) (turn n h) refl))
              (λ q l s. stands-cases q l s (λ u. omega (arith, u, ltb-true (get_or cs p 0) (get_or cs (turn n h) 0) t)) (λ u. rw (sym u) (NatL.le_refl _))))
          at (fails t) = rw t (wins_by n cs (h ++ (BET ∷ [])) p (stands_more p ∙ or_left (eqb (turn n h) p) (sym (stands-bet n h p (sym (ap not opened))) ∙ winner-stands n cs h p e))
              (λ q l s. stands-cases q l s (λ u. u) (λ u. rw (sym u) (ltb-false (get_or cs p 0) (get_or cs (turn n h) 0) t))))

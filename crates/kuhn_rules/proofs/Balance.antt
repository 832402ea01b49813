-- At the end of a hand one seat wins, and the payoffs add up to 0. Assumes nothing.
use mathlib.Core.Path.{◌≡◌, refl, sym, ap, ap₂, subst, ◌∙◌}
use mathlib.Core.Logic.{◌⊎◌, inl, inr}
use mathlib.Core.Bool.{true, false, not, cond}
use mathlib.Core.List.{List, [], ◌∷◌}
use Prim.Native.Nat.{ℕ, zero, suc, ◌+◌, ◌%◌, ◌≤◌, ◌<◌}
use native.Mathlib.Nat as NatL
use native.Mathlib.Numerals.{add-one}
use native.Mathlib.Omega.{arith}
use lib.Dec.{eqb, ltb, leb}
use borrow.Author.Tests.{eq-eqb, ne_eqb, ltb-true, ltb-false, leb-true, eqb-true, not-true}
use lib.IntN.{ℤ, pos, neg_ℤ, ◌+ℤ◌, +ℤ_idl, +ℤ_idr, +ℤ_assoc, +ℤ_comm, +ℤ_invl, +ℤ_invr, pos-+ℤ-pos}
use lib.ListN.{length, get_or, take}
use Rattle.prelude.specs.Finite.{◌and◌, ◌or◌, sum, sumℤ, has}
use Rattle.prelude.proofs.Tests.{Tested, holds, fails, tested, true≢false, both, and_left, and_right, or_left, or_right, or_cases, none_at, some_here, every_at, below_cases}
use Rattle.prelude.proofs.Lists.{has-take}
use Rattle.kuhn_rules.specs.Rules.{PASS, BET, bet-made, bets, stands, wins, contribution, paid_by_others, payoff}
use Rattle.kuhn_rules.specs.Reached.{strange, twice, fair}
use Rattle.kuhn_rules.specs.internal.Highest.{Highest}
use Rattle.kuhn_rules.proofs.Winner.{highest_none, highest_more, wins-highest}

-- ---- sums

module _ (w A : ℕ) (c : ℕ → ℕ) where
  abbrev gain : ℕ → ℤ
  gain p = cond (eqb p w) (pos A) (neg_ℤ (pos (c p)))

  abbrev loss : ℕ → ℕ
  loss p = cond (eqb p w) 0 (c p)

  -- x more here and x less there
  move : (a x : ℤ) (b : ℕ) (y : ℕ) → (x +ℤ pos y ≡ pos 0) → (a +ℤ x) +ℤ pos (b + y) ≡ a +ℤ pos b
  move a x b y e =
      ap (λ z. (a +ℤ x) +ℤ z) (sym (pos-+ℤ-pos b y) ∙ +ℤ_comm (pos b) (pos y))
      ∙ +ℤ_assoc a x (pos y +ℤ pos b)
      ∙ ap (λ z. a +ℤ z) (sym (+ℤ_assoc x (pos y) (pos b)) ∙ ap (λ z. z +ℤ pos b) e ∙ +ℤ_idl (pos b))

  -- all but w gain what they lose
  before_w : (m : ℕ) → m ≤ w → sumℤ m gain +ℤ pos (sum m loss) ≡ pos 0
  unfolding sumℤ sum
  before_w zero h = refl
  before_w (suc m) h =
      ap₂ (λ x y. (sumℤ m gain +ℤ x) +ℤ pos (sum m loss + y)) (ap (λ b. cond b (pos A) (neg_ℤ (pos (c m)))) (ne_eqb m w (λ q. omega arith))) (ap (λ b. cond b 0 (c m)) (ne_eqb m w (λ q. omega arith)))
      ∙ move (sumℤ m gain) (neg_ℤ (pos (c m))) (sum m loss) (c m) (+ℤ_invl (pos (c m)))
      ∙ before_w m (omega arith)

  past_w : (m : ℕ) → w < m → sumℤ m gain +ℤ pos (sum m loss) ≡ pos A
  unfolding sumℤ sum
  past_w zero h = absurd (omega arith)
  past_w (suc m) h =
      below_cases w m h
      (λ v. ap₂ (λ x y. (sumℤ m gain +ℤ x) +ℤ pos (sum m loss + y)) (ap (λ b. cond b (pos A) (neg_ℤ (pos (c m)))) (ne_eqb m w (λ q. omega arith))) (ap (λ b. cond b 0 (c m)) (ne_eqb m w (λ q. omega arith)))
      ∙ move (sumℤ m gain) (neg_ℤ (pos (c m))) (sum m loss) (c m) (+ℤ_invl (pos (c m)))
      ∙ past_w m v)
      (λ v. ap₂ (λ x y. (sumℤ m gain +ℤ x) +ℤ pos (sum m loss + y)) (ap (λ b. cond b (pos A) (neg_ℤ (pos (c m)))) (eq-eqb m w (sym v))) (ap (λ b. cond b 0 (c m)) (eq-eqb m w (sym v)))
      ∙ at_w (sumℤ m gain) (sum m loss) (before_w m (omega arith)))
    where
      at_w : (a : ℤ) (b : ℕ) → a +ℤ pos b ≡ pos 0 → (a +ℤ pos A) +ℤ pos (b + 0) ≡ pos A
      at_w a b e =
          ap₂ (λ x y. x +ℤ pos y) (+ℤ_comm a (pos A)) (NatL.add-zero b)
          ∙ +ℤ_assoc (pos A) a (pos b) ∙ ap (λ z. pos A +ℤ z) e ∙ +ℤ_idr (pos A)

  -- the winner gains what the others lose
  balanced : (n : ℕ) → w < n → A ≡ sum n loss → sumℤ n gain ≡ pos 0
  balanced n v e =
      sym (+ℤ_idr (sumℤ n gain)) ∙ ap (λ z. sumℤ n gain +ℤ z) (sym (+ℤ_invr (pos (sum n loss))))
      ∙ sym (+ℤ_assoc (sumℤ n gain) (pos (sum n loss)) (neg_ℤ (pos (sum n loss))))
      ∙ ap (λ z. z +ℤ neg_ℤ (pos (sum n loss))) (past_w n v ∙ ap pos e)
      ∙ +ℤ_invr (pos (sum n loss))

sumℤ_same : (n : ℕ) (f g : ℕ → ℤ) → ((i : ℕ) → i < n → f i ≡ g i) → sumℤ n f ≡ sumℤ n g
unfolding sumℤ
sumℤ_same zero f g h = refl
sumℤ_same (suc n) f g h = ap₂ ◌+ℤ◌ (sumℤ_same n f g (λ i w. h i (omega arith))) (h n (omega arith))

-- ---- the winner

-- a bet stands somewhere
bet-place : (h : List ℕ) → bet-made h ≡ true → (b : ℕ) × (b < length h) × (get_or h b 0 ≡ BET)
unfolding bet-made
bet-place [] e = true≢false false e refl
bet-place (x ∷ h) e =
    or_cases (eqb x BET) (bet-made h) e
    (λ t. (0, omega arith, eqb-true x BET t))
    (λ t. let (b, w, v) = bet-place h t in (suc b, omega arith, v))

module _ (n : ℕ) (cs h : List ℕ) (one : 1 ≤ n) (full : length cs ≡ n) (f : fair n cs ≡ true) where
  -- the highest card among those of the first m seats that stand
  larger : (m top card : ℕ) → Highest n h cs m top → card ≡ cond (stands n h m) (get_or cs m 0) 0 → Tested (ltb top card) → (r : ℕ) × Highest n h cs (suc m) r
  larger m top card t e (holds q) =
      let w = ltb-true top card q in
      (card, subst (λ k. Highest n h cs k card) (add-one m) (highest_more n h cs m top card card t e (omega arith) (omega arith) (inr refl)))
  larger m top card t e (fails q) =
      let w = ltb-false top card q in
      (top, subst (λ k. Highest n h cs k top) (add-one m) (highest_more n h cs m top card top t e (omega arith) w (inl refl)))

  highest : (m : ℕ) → (top : ℕ) × Highest n h cs m top
  highest zero = (0, highest_none n h cs)
  highest (suc m) = next (highest m)
    where
      next : (top : ℕ) × Highest n h cs m top → (top : ℕ) × Highest n h cs (suc m) top
      next (top, t) = larger m top (cond (stands n h m) (get_or cs m 0) 0) t refl (tested (ltb top (cond (stands n h m) (get_or cs m 0) 0)))

  -- some seat stands
  abbrev Stands : Type 0
  Stands = (q : ℕ) × (q < n) × (stands n h q ≡ true)

  someone : Tested (bet-made h) → Stands
  unfolding stands bets
  someone (holds m) =
      let (b, w, e) = bet-place h m in
      (b % n, NatL.mod-lt b one, or_right (not (bet-made h)) (some_here (length h) (λ i. eqb (i % n) (b % n) and eqb (get_or h i PASS) BET) b w (both (eq-eqb (b % n) (b % n) refl) (eq-eqb (get_or h b PASS) BET e))))
  someone (fails m) = (0, one, or_left (bets n h 0) (ap not m))

  -- one that stands has the highest card, and wins
  abbrev Wins : Type 0
  Wins = (w : ℕ) × (w < n) × (wins n cs h w ≡ true)

  winning : (top q : ℕ) → Highest n h cs n top → q < n → stands n h q ≡ true → get_or cs q 0 ≡ top → wins n cs h q ≡ true
  winning top q t v s e = wins-highest n h cs top q v t s ∙ eq-eqb (get_or cs q 0) top e

  by_highest : (top : ℕ) → Highest n h cs n top → (top ≡ 0) ⊎ ((q : ℕ) × (q < n) × (stands n h q ≡ true) × (get_or cs q 0 ≡ top)) → Stands → Wins
  by_highest top t (inl z) (q, v, s) = (q, v, winning top q t v s (let x = t.bound q v s in omega arith))
  by_highest top t (inr (q, v, s, e)) x = (q, v, winning top q t v s e)

  winner : Wins
  winner = let (top, t) = highest n in by_highest top t t.attained (someone (tested (bet-made h)))

  -- cards differ
  differ : (i j : ℕ) → i < j → j < n → get_or cs i 0 ≡ get_or cs j 0 → ⊥
  unfolding fair twice
  differ i j w v e =
      let g = and_right (not (strange n cs)) _ (and_right (leb (length cs) n) _ f) in
      let x = none_at (length cs) (λ i. has (get_or cs i 0) (take i cs)) (not-true _ g) j (omega arith) in
      true≢false (has (get_or cs j 0) (take j cs))
      (has-take (get_or cs j 0) j cs (omega arith) ∙ some_here j (λ k. eqb (get_or cs k 0) (get_or cs j 0)) i w (eq-eqb (get_or cs i 0) (get_or cs j 0) e)) x

  same_card : (i j : ℕ) → i < n → j < n → get_or cs i 0 ≡ get_or cs j 0 → i ≡ j
  same_card i j a b e = go (tested (ltb i j)) (tested (ltb j i))
    where
      go : Tested (ltb i j) → Tested (ltb j i) → i ≡ j
      go (holds t) u = absurd (differ i j (ltb-true i j t) b e)
      go (fails t) (holds u) = absurd (differ j i (ltb-true j i u) a (sym e))
      go (fails t) (fails u) = let x = ltb-false i j t in let y = ltb-false j i u in omega arith

  -- so only one wins
  beats : (p q : ℕ) → p < n → q < n → wins n cs h p ≡ true → wins n cs h q ≡ true → get_or cs q 0 ≤ get_or cs p 0
  unfolding wins
  beats p q v w x y =
      or_cases (not (stands n h q)) (leb (get_or cs q 0) (get_or cs p 0)) (every_at n (λ q. not (stands n h q) or leb (get_or cs q 0) (get_or cs p 0)) (and_right (stands n h p) _ x) q w)
      (λ z. true≢false (not (stands n h q)) z (ap not (and_left (stands n h q) _ y)))
      (λ z. leb-true (get_or cs q 0) (get_or cs p 0) z)

  one_winner : (w p : ℕ) → w < n → p < n → wins n cs h w ≡ true → Tested (wins n cs h p) → wins n cs h p ≡ eqb p w
  one_winner w p v u x (holds t) = t ∙ sym (eq-eqb p w (same_card p w u v (let a = beats p w u v t x in let b = beats w p v u x t in omega arith)))
  one_winner w p v u x (fails t) = t ∙ sym (ne_eqb p w (λ q. true≢false (wins n cs h p) (ap (wins n cs h) q ∙ x) t))

  pub sole_winner : (w : ℕ) × (w < n) × ((p : ℕ) → p < n → wins n cs h p ≡ eqb p w)
  sole_winner = let (w, v, x) = winner in (w, v, λ p u. one_winner w p v u x (tested (wins n cs h p)))

  pub payoffs-balance : (ante bet : ℕ) → sumℤ n (payoff ante bet n cs h) ≡ pos 0
  unfolding payoff paid_by_others
  payoffs-balance ante bet =
      let (w, v, x) = winner in
      sumℤ_same n (payoff ante bet n cs h) (gain w (paid_by_others ante bet n h w) (contribution ante bet n h)) (λ p u. at w x v p u)
      ∙ balanced w (paid_by_others ante bet n h w) (contribution ante bet n h) n v refl
    where
      at : (w : ℕ) → wins n cs h w ≡ true → w < n → (p : ℕ) → p < n → payoff ante bet n cs h p ≡ gain w (paid_by_others ante bet n h w) (contribution ante bet n h) p
      at w x v p u = ap (λ b. cond b (pos (paid_by_others ante bet n h p)) (neg_ℤ (pos (contribution ante bet n h p)))) (one_winner w p v u x (tested (wins n cs h p))) ∙ same (tested (eqb p w))
        where
          same : Tested (eqb p w) → cond (eqb p w) (pos (paid_by_others ante bet n h p)) (neg_ℤ (pos (contribution ante bet n h p))) ≡ gain w (paid_by_others ante bet n h w) (contribution ante bet n h) p
          same (holds t) = ap (λ k. cond (eqb p w) (pos (paid_by_others ante bet n h k)) (neg_ℤ (pos (contribution ante bet n h p)))) (eqb-true p w t)
          same (fails t) = rw t

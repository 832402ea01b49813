-- No payoff of Kuhn is more than (n - 1) × (ante + bet) in size, and those of an end add up to 0. Assumes nothing.
use mathlib.Core.Path.{◌≡◌, sym, ap, ◌∙◌}
use mathlib.Core.Bool.{Bool, true, false, cond}
use mathlib.Core.List.{List, [], ◌∷◌, ◌++◌}
use Prim.Native.Nat.{ℕ, zero, suc, ◌+◌, ◌*◌, ◌-◌, ◌≤◌, ◌<◌, zero-le}
use native.Mathlib.Nat as NatL
use native.Mathlib.Omega.{arith}
use lib.Dec.{eqb}
use lib.IntN.{pos, neg_ℤ, nat_abs}
use Rattle.prelude.specs.Finite.{sum, sumℤ}
use Rattle.prelude.proofs.Lists.{sum_without}
use Rattle.game_tree.specs.Tree.{Tree, end, chance, decide, Trees, nil, cons}
use Rattle.game_tree.specs.Conditions.{Pays, PaysAll}
use Rattle.game_tree.specs.Shape.{EveryEnd, EveryEndAll}
use Rattle.game_tree.proofs.Integers.{size_of_loss}
use Rattle.kuhn_rules.specs.Rules.{PASS, BET, ended, bets, remaining, contribution, wins, paid_by_others, payoff}
use Rattle.kuhn_rules.proofs.Facts.{zero_sum}
use Rattle.kuhn_tree.specs.Positions.{Position, dealt, acted}
use Rattle.kuhn_tree.specs.Follows.{Follows, FollowsAll}
use Rattle.kuhn_tree.specs.Tree.{each, m, tree_of_kuhn}
use Rattle.kuhn_tree.specs.Facts.{largest_payoff}
use Rattle.kuhn_tree.proofs.Growth.{kuhn-follows}
use Rattle.kuhn_tree.proofs.Shape.{hand, deals, kuhn-deals}

sum_mono : (n : ℕ) (f g : ℕ → ℕ) → ((q : ℕ) → f q ≤ g q) → sum n f ≤ sum n g
unfolding sum
sum_mono zero f g h = zero-le
sum_mono (suc n) f g h = omega (arith, sum_mono n f g h, h n)

sum_constant : (n K : ℕ) → sum n (λ q. K) ≡ n * K
unfolding sum
sum_constant zero K = sym (NatL.zero-mul K)
sum_constant (suc n) K = ap (λ x. x + K) (sum_constant n K) ∙ sym (NatL.suc-mul n K)

module _ (ante bet n : ℕ) where
  contribution_most : (h : List ℕ) (p : ℕ) → contribution ante bet n h p ≤ ante + bet
  unfolding contribution
  contribution_most h p = at (bets n h p)
    where
      at : (b : Bool) → ante + cond b bet 0 ≤ ante + bet
      at true = NatL.le_refl (ante + bet)
      at false = omega arith

  -- what n - 1 seats can have paid
  others_most : (h : List ℕ) (p : ℕ) → p < n → paid_by_others ante bet n h p + (ante + bet) ≤ n * (ante + bet)
  unfolding paid_by_others
  others_most h p l = omega (
    arith,
    sum_mono n (λ q. cond (eqb q p) 0 (contribution ante bet n h q)) (λ q. cond (eqb q p) 0 (ante + bet)) (λ q. at (eqb q p) q),
    sum_without n p (λ q. ante + bet) l,
    sum_constant n (ante + bet),
  )
    where
      at : (b : Bool) (q : ℕ) → cond b 0 (contribution ante bet n h q) ≤ cond b 0 (ante + bet)
      at true q = zero-le
      at false q = contribution_most h q

  one_less : (K : ℕ) → 1 ≤ n → (n - 1) * K + K ≡ n * K
  one_less K l = sym (NatL.suc-mul (n - 1) K) ∙ ap (λ x. x * K) (omega arith)

  one_at_least : (x K : ℕ) → 1 ≤ x → K ≤ x * K
  one_at_least zero K l = absurd (omega arith)
  one_at_least (suc x) K l = omega (arith, NatL.suc-mul x K)

  module _ (two : 2 ≤ n) (i : ℕ) (seat : i < n) where
    pub payoff-size : (cs h : List ℕ) → nat_abs (payoff ante bet n cs h i) ≤ largest_payoff ante bet n
    unfolding payoff
    payoff-size cs h = at (wins n cs h i)
      where
        at : (b : Bool) → nat_abs (cond b (pos (paid_by_others ante bet n h i)) (neg_ℤ (pos (contribution ante bet n h i)))) ≤ (n - 1) * (ante + bet)
        at true = omega (arith, others_most h i seat, one_less (ante + bet) (omega arith))
        at false = rw (size_of_loss (contribution ante bet n h i)) (NatL.le_trans (contribution_most h i) (one_at_least (n - 1) (ante + bet) (omega arith)))

    abbrev B : ℕ
    B = largest_payoff ante bet n

    hand-pays : (cs : List ℕ) (r : ℕ) (b : Bool) (h : List ℕ) → Pays B i (hand ante bet n cs r b h)
    unfolding hand Pays
    hand-pays cs zero b h = payoff-size cs h
    hand-pays cs (suc r) true h = payoff-size cs h
    hand-pays cs (suc r) false h = (hand-pays cs r (ended n (h ++ (PASS ∷ []))) (h ++ (PASS ∷ [])), (hand-pays cs r (ended n (h ++ (BET ∷ []))) (h ++ (BET ∷ [])), tt))

    each_pays : (l : List ℕ) (g : ℕ → Tree) → ((c : ℕ) → Pays B i (g c)) → PaysAll B i (each l g)
    unfolding each Pays
    each_pays [] g h = tt
    each_pays (c ∷ l) g h = (h c, each_pays l g h)

    deals-pay : (k : ℕ) (cs : List ℕ) → Pays B i (deals ante bet n k cs)
    unfolding deals Pays
    deals-pay zero cs = hand-pays cs (m n) (ended n []) []
    deals-pay (suc k) cs = each_pays (remaining n cs) (λ c. deals ante bet n k (cs ++ (c ∷ []))) (λ c. deals-pay k (cs ++ (c ∷ [])))

    pub kuhn-pays : Pays (largest_payoff ante bet n) i (tree_of_kuhn ante bet n)
    kuhn-pays = rw (kuhn-deals ante bet n) (deals-pay n [])

-- ---- they add up to 0 at every end
module _ (ante bet n : ℕ) (one : 1 ≤ n) where
  mutual
    unfolding Follows EveryEnd

    follows-balance : (t : Tree) (cs h : List ℕ) → Follows ante bet n t cs h → EveryEnd (λ p. sumℤ n p ≡ pos 0) t
    follows-balance (end p) cs h (r, o, e) = ap (sumℤ n) e ∙ zero_sum ante bet n cs h one r o
    follows-balance (chance f) cs h g = follows-balance_all f (dealt n cs h) g.2
    follows-balance (decide j k f) cs h g = follows-balance_all f (acted n cs h) g.4

    follows-balance_all : (f : Trees) (qs : List Position) → FollowsAll ante bet n f qs → EveryEndAll (λ p. sumℤ n p ≡ pos 0) f
    follows-balance_all nil qs g = tt
    follows-balance_all (cons t f) [] g = absurd g
    follows-balance_all (cons t f) (q ∷ qs) g = (follows-balance t q.0 q.1 g.0, follows-balance_all f qs g.1)

  pub kuhn-balance : EveryEnd (λ p. sumℤ n p ≡ pos 0) (tree_of_kuhn ante bet n)
  kuhn-balance = follows-balance (tree_of_kuhn ante bet n) [] [] (kuhn-follows n one ante bet)

-- No payoff of Leduc is more than the ante and two raises of each round in size. Assumes nothing.
use mathlib.Core.Path.{◌≡◌, refl}
use mathlib.Core.Bool.{Bool, true, false, cond}
use mathlib.Core.List.{List, [], ◌∷◌}
use Prim.Native.Nat.{ℕ, zero, suc, ◌-◌, ◌%◌, ◌≤◌, zero-le}
use native.Mathlib.Nat as NatL
use native.Mathlib.Omega.{arith}
use lib.Dec.{leb}
use lib.IntN.{pos, neg_ℤ, nat_abs}
use lib.ListN.{length}
use borrow.Author.Tests.{ne_eqb, leb-true}
use Rattle.prelude.specs.Finite.{◌and◌}
use Rattle.prelude.proofs.Tests.{and_left, and_right}
use Rattle.game_tree.specs.Tree.{Tree, end, chance, decide, Trees, nil, cons}
use Rattle.game_tree.specs.Conditions.{Pays, PaysAll}
use Rattle.game_tree.proofs.Integers.{size_of_loss}
use Rattle.leduc_betting.specs.Betting.{played}
use Rattle.leduc_betting.proofs.Rounds.{all_of, rounds, round_rule}
use Rattle.leduc_rules.specs.Rules.{after-action, put_in, contribution, wins}
use Rattle.leduc_rules.specs.Rules as Rules
use Rattle.leduc_rules.specs.Facts.{raises-paid}
use Rattle.leduc_rules.proofs.Money.{linear_in_stakes}
use Rattle.leduc_rules.proofs.Moves.{reached_parts}
use Rattle.leduc_tree.specs.Tree.{Position, start, payoff, tree_of_leduc}
use Rattle.leduc_tree.specs.Facts.{largest_payoff, Reachable}
use Rattle.leduc_tree.specs.Follows.{Follows, FollowsAll}
use Rattle.leduc_tree.proofs.Growth.{Stands, leduc-follows}

-- ---- a seat pays at most two raises of a round
few-raises : List ℕ → Bool
few-raises h = leb (raises-paid h 0) 2 and leb (raises-paid h 1) 2

all_few : all_of few-raises rounds ≡ true
unfolding all_of few-raises rounds ◌and◌ put_in after-action
all_few = refl

-- a seat that never acts pays none
none_paid : (h : List ℕ) (i s : ℕ) → put_in 1 h i (suc (suc s)) ≡ 0
unfolding put_in
none_paid h zero s = refl
none_paid h (suc i) s = rw (ne_eqb (suc (suc s)) (i % 2) (λ e. omega arith)) (none_paid h i s)

two_raises : (h : List ℕ) (s : ℕ) → played [] h ≡ true → raises-paid h s ≤ 2
unfolding few-raises
two_raises h zero e = leb-true _ 2 (and_left (leb (raises-paid h 0) 2) _ (round_rule few-raises all_few h e))
two_raises h (suc zero) e = leb-true _ 2 (and_right (leb (raises-paid h 0) 2) _ (round_rule few-raises all_few h e))
two_raises h (suc (suc s)) e = let z = none_paid h (length h) s in omega arith

module _ (ante raise₁ raise₂ : ℕ) where
  abbrev B : ℕ
  B = largest_payoff ante raise₁ raise₂

  contribution_most : (h₁ h₂ : List ℕ) (s : ℕ) → played [] h₁ ≡ true → played [] h₂ ≡ true → contribution ante raise₁ raise₂ h₁ h₂ s ≤ B
  contribution_most h₁ h₂ s e f =
      let x = NatL.mul-le-mul_left raise₁ (two_raises h₁ s e) in
      let y = NatL.mul-le-mul_left raise₂ (two_raises h₂ s f) in
      omega (arith, linear_in_stakes ante raise₁ raise₂ h₁ h₂ s, NatL.mul_comm raise₁ 2, NatL.mul_comm raise₂ 2)

  payoff-size : (q : Position) (i : ℕ) → Reachable q → nat_abs (payoff ante raise₁ raise₂ q i) ≤ B
  unfolding Rules.payoff
  payoff-size q i r = at (wins q.cards q.public q.first q.second i (1 - i)) (wins q.cards q.public q.first q.second (1 - i) i)
    where
      paid : ℕ → ℕ
      paid s = contribution ante raise₁ raise₂ q.first q.second s

      most : (s : ℕ) → paid s ≤ B
      most s = contribution_most q.first q.second s (reached_parts r).first_played (reached_parts r).second-played

      at : (x y : Bool) → nat_abs (cond x (pos (paid (1 - i))) (cond y (neg_ℤ (pos (paid i))) (pos 0))) ≤ B
      at true y = most (1 - i)
      at false true = rw (size_of_loss (paid i)) (most i)
      at false false = zero-le

  -- ---- every end pays as the rules say
  module _ (i : ℕ) where
    mutual
      unfolding Follows Pays

      follows-pays : (t : Tree) (q : Position) → Stands ante raise₁ raise₂ t q → Pays B i t
      follows-pays (end p) q (r, e, v) = rw v (payoff-size q i r)
      follows-pays (chance f) q (r, e, v) = follows-pays_all f _ v
      follows-pays (decide j k f) q (r, e, a, b, v) = follows-pays_all f _ v

      follows-pays_all : (f : Trees) (qs : List Position) → FollowsAll ante raise₁ raise₂ f qs → PaysAll B i f
      follows-pays_all nil qs v = tt
      follows-pays_all (cons t f) [] v = absurd v
      follows-pays_all (cons t f) (q ∷ qs) (v, w) = (follows-pays t q v, follows-pays_all f qs w)

    pub leduc-pays : Pays (largest_payoff ante raise₁ raise₂) i (tree_of_leduc ante raise₁ raise₂)
    leduc-pays = follows-pays _ start (leduc-follows ante raise₁ raise₂)

-- Leduc's tree follows the rules from the start, and more fuel changes nothing. Assumes nothing.
use mathlib.Core.Path.{◌≡◌, refl, ap, ap₂}
use mathlib.Core.Logic.{inl, inr}
use mathlib.Core.Bool.{Bool, true, false, cond}
use mathlib.Core.List.{List, [], ◌∷◌, map}
use Prim.Native.Nat.{ℕ, zero, suc, ◌+◌, ◌≤◌}
use native.Mathlib.Omega.{arith}
use lib.Dec.{ltb}
use lib.IntN.{ℤ}
use lib.ListN.{length}
use borrow.Author.Tests.{eq-eqb}
use Rattle.prelude.specs.Finite.{◌and◌, ◌or◌, some, those, has}
use Rattle.prelude.proofs.Tests.{Tested, holds, fails, tested, true≢false, both, and_left, and_right, or_cases}
use Rattle.game_tree.specs.Tree.{Tree, end, chance, decide, cons}
use Rattle.game_tree.proofs.Counting.{In}
use Rattle.game_tree.proofs.Numbers.{in_those}
use Rattle.leduc_betting.specs.Betting.{ends_with, folded, closes, behind, raises, may, options, in_play}
use Rattle.leduc_betting.specs.Cards.{seen, left, remaining}
use Rattle.leduc_rules.specs.Rules.{public-due, live, legal}
use Rattle.leduc_betting.specs.Betting as Betting
use Rattle.leduc_rules.specs.Rules as Rules
use Rattle.leduc_rules.specs.Moves as Reached
use Rattle.leduc_tree.specs.Tree.{Position, start, dealt, acted, due, ended, actor, choices, key, payoff, after_deal, after_action, Next, card, action, nothing, next, each, below, fuel, tree_of_leduc}
use Rattle.leduc_tree.specs.internal.Tree.{acts}
use Rattle.leduc_tree.specs.Follows.{Follows, FollowsAll}
use Rattle.leduc_tree.specs.Positions as Rule
use Rattle.leduc_tree.specs.Facts.{Reachable}

-- ---- what comes next
pub data Case (q : Position) : Next → Type 0 where
  is_card : due q ≡ true → Case q card
  is_over : ended q ≡ true → Case q nothing
  is_action : acts q ≡ true → Case q action

pub case : (q : Position) → Case q (next q)
unfolding next live ◌or◌
case q = at (tested (due q)) (tested (ended q))
  where
    at : Tested (due q) → Tested (ended q) → Case q (cond (due q) card (cond (ended q) nothing action))
    at (holds e) w = rw e (is_card e)
    at (fails e) (holds w) = rw (e, w) (is_over w)
    at (fails e) (fails w) = rw (e, w) (is_action (rw (e, w) refl))

-- the legal list of the seat to act
legal-acts : (q : Position) → acts q ≡ true → legal q.cards q.public q.first q.second (actor q) ≡ choices q
unfolding legal
legal-acts q e = rw (both e (eq-eqb (actor q) (actor q) refl))

-- ---- a move leads to a reachable position
reach-deal : (q : Position) (c : ℕ) → Reachable q → due q ≡ true → In c (remaining (seen q.cards q.public)) → Reachable (dealt q c)
unfolding remaining Rules.due
reach-deal q c r e w = at (tested (ltb (length q.cards) 2))
  where
    is_left : left (seen q.cards q.public) c ≡ true
    is_left = (in_those (left (seen q.cards q.public)) 6 c w).1

    at : Tested (ltb (length q.cards) 2) → Reachable (dealt q c)
    at (holds l) = rw l (Reached.deal c r l is_left)
    at (fails l) = rw l (Reached.reveal c r (or_cases (ltb (length q.cards) 2) (public-due q.public q.first q.second) e (λ v. true≢false _ v l) (λ v. v)) is_left)

reach-action : (q : Position) (a : ℕ) → Reachable q → acts q ≡ true → In a (choices q) → Reachable (acted q a)
unfolding options in_play
reach-action q a r e w = at (tested (closes q.first))
  where
    may_make : may (in_play q.first q.second) a ≡ true
    may_make = (in_those (may (in_play q.first q.second)) 3 a w).1

    at : Tested (closes q.first) → Reachable (acted q a)
    at (holds l) = rw l (Reached.act₂ a r e l (rw l at may_make))
    at (fails l) = rw l (Reached.act₁ a r e l (rw l at may_make))

-- ---- the fuel lasts below a position: computed
unfoldable pub all_of : List Position → (Position → Bool) → Bool
all_of [] p = true
all_of (q ∷ qs) p = p q and all_of qs p

unfoldable pub lasts : ℕ → Next → Position → Bool
unfolding all_of next
lasts zero nothing q = true
lasts zero card q = false
lasts zero action q = false
lasts (suc r) nothing q = true
lasts (suc r) card q = all_of (after_deal q) (λ s. lasts r (next s) s)
lasts (suc r) action q = all_of (after_action q) (λ s. lasts r (next s) s)

pub fuel-lasts : lasts fuel (next start) start ≡ true
unfolding lasts next ◌and◌ ◌or◌ some those has ends_with folded closes behind raises may options in_play Betting.ended left remaining public-due Rules.due
fuel-lasts = refl

module _ (ante raise₁ raise₂ : ℕ) where
  abbrev pay : Position → ℕ → ℤ
  pay = payoff ante raise₁ raise₂

  -- ---- the rules are followed
  abbrev pub Stands : Tree → Position → Type 0
  Stands t q = Follows ante raise₁ raise₂ t q.cards q.public q.first q.second

  follows_each : (l : List ℕ) (move : ℕ → Position) (g : Position → Tree) (p : Position → Bool) → all_of (map move l) p ≡ true
      → ((c : ℕ) → In c l → p (move c) ≡ true → Stands (g (move c)) (move c)) → FollowsAll ante raise₁ raise₂ (each (map move l) g) (map move l)
  unfolding each all_of Follows In
  follows_each [] move g p e h = tt
  follows_each (c ∷ l) move g p e h = (h c (inl refl) (and_left (p (move c)) (all_of (map move l) p) e), follows_each l move g p (and_right (p (move c)) (all_of (map move l) p) e) (λ x w v. h x (inr w) v))

  pub below_follows : (r : ℕ) (x : Next) (q : Position) → Case q x → Reachable q → lasts r x q ≡ true → Stands (below pay r x q) q
  unfolding below Follows lasts Rule.dealt Rule.acted
  below_follows zero card q (is_card e) p l = true≢false false l refl
  below_follows zero action q (is_action e) p l = true≢false false l refl
  below_follows zero nothing q (is_over e) p l = (p, e, refl)
  below_follows (suc r) nothing q (is_over e) p l = (p, e, refl)
  below_follows (suc r) card q (is_card e) p l = (
    p,
    e,
    follows_each (remaining (seen q.cards q.public)) (dealt q) (λ s. below pay r (next s) s) (λ s. lasts r (next s) s) l
        (λ c w v. below_follows r (next (dealt q c)) (dealt q c) (case (dealt q c)) (reach-deal q c p e w) v),
  )
  below_follows (suc r) action q (is_action e) p l = (
    p,
    e,
    refl,
    refl,
    rw (legal-acts q e) (follows_each (choices q) (acted q) (λ s. below pay r (next s) s) (λ s. lasts r (next s) s) l
        (λ a w v. below_follows r (next (acted q a)) (acted q a) (case (acted q a)) (reach-action q a p e w) v)),
  )

  pub leduc-follows : Stands (tree_of_leduc ante raise₁ raise₂) start
  unfolding tree_of_leduc
  leduc-follows = below_follows fuel (next start) start (case start) Reached.start fuel-lasts

  -- ---- more fuel changes nothing
  each_same : (l : List Position) (g k : Position → Tree) (p : Position → Bool) → all_of l p ≡ true → ((q : Position) → p q ≡ true → g q ≡ k q) → each l g ≡ each l k
  unfolding each all_of
  each_same [] g k p e h = refl
  each_same (q ∷ l) g k p e h = ap₂ cons (h q (and_left (p q) (all_of l p) e)) (each_same l g k p (and_right (p q) (all_of l p) e) h)

  below_over : (r : ℕ) (q : Position) → below pay r nothing q ≡ end (pay q)
  unfolding below
  below_over zero q = refl
  below_over (suc r) q = refl

  below_more : (y r : ℕ) (x : Next) (q : Position) → r ≤ y → lasts r x q ≡ true → below pay y x q ≡ below pay r x q
  unfolding below lasts
  below_more y zero card q w l = true≢false false l refl
  below_more y zero action q w l = true≢false false l refl
  below_more y zero nothing q w l = below_over y q
  below_more zero (suc r) x q w l = absurd (omega arith)
  below_more (suc y) (suc r) nothing q w l = refl
  below_more (suc y) (suc r) card q w l = ap chance (each_same (after_deal q) (λ s. below pay y (next s) s) (λ s. below pay r (next s) s) (λ s. lasts r (next s) s) l
      (λ s v. below_more y r (next s) s (omega arith) v))
  below_more (suc y) (suc r) action q w l = ap (decide (actor q) (key q)) (each_same (after_action q) (λ s. below pay y (next s) s) (λ s. below pay r (next s) s) (λ s. lasts r (next s) s) l
      (λ s v. below_more y r (next s) s (omega arith) v))

  pub leduc-fuel : (x : ℕ) → below pay (x + fuel) (next start) start ≡ tree_of_leduc ante raise₁ raise₂
  unfolding tree_of_leduc
  leduc-fuel x = below_more (x + fuel) fuel (next start) start (omega arith) fuel-lasts

-- The nodes of Leduc's tree stand for the reachable positions, and each of these has its node; payoffs add up to 0 at every end. Assumes nothing.
use mathlib.Core.Path.{◌≡◌, refl, ap, ◌∙◌}
use mathlib.Core.Logic.{◌⊎◌, inl, inr}
use mathlib.Core.Bool.{true, false, cond}
use mathlib.Core.List.{List, [], ◌∷◌, ◌++◌}
use Prim.Native.Nat.{ℕ, ◌<◌}
use native.Mathlib.Omega.{arith}
use lib.Dec.{ltb}
use lib.IntN.{ℤ, pos, ◌+ℤ◌, +ℤ_idl}
use lib.ListN.{length}
use borrow.Author.Tests.{eq-eqb, ltb-true, not-true}
use Rattle.std.specs.Prelude.{Option, None, Some}
use Rattle.prelude.specs.Finite.{sumℤ}
use Rattle.prelude.proofs.Tests.{Tested, holds, fails, tested, true≢false, both, and_left, and_right, or_left, or_right, or_cases, or_false_left}
use Rattle.game_tree.specs.Tree.{Tree, end, chance, decide, Trees, nil, cons}
use Rattle.game_tree.specs.Sets.{size}
use Rattle.game_tree.specs.Shape.{EveryEnd, EveryEndAll}
use Rattle.game_tree.specs.Nodes.{nodes, nodes_all, node_of}
use Rattle.game_tree.proofs.Counting.{In, in_left, in_right, in_append}
use Rattle.game_tree.proofs.Nodes.{place_of, in_map, Along, along_append, along-length, along_at, length-nodes}
use Rattle.game_tree.proofs.Numbers.{those_in}
use Rattle.leduc_betting.specs.Betting.{closes, may, options, in_play, turn, ended}
use Rattle.leduc_betting.specs.Cards.{hidden, seen, left, remaining}
use Rattle.leduc_betting.proofs.Histories.{may-small}
use Rattle.leduc_rules.specs.Rules.{public-due, due, live, legal}
use Rattle.leduc_rules.specs.Moves.{Reached, start, deal, reveal, act₁, act₂}
use Rattle.leduc_rules.proofs.Reaching.{nothing-closed, ended-dealt}
use Rattle.leduc_rules.proofs.Moves.{none_acted, reached_parts, acting}
use Rattle.leduc_rules.proofs.Facts.{zero_sum}
use Rattle.leduc_tree.specs.Tree.{Position, tree_of_leduc}
use Rattle.leduc_tree.specs.Positions.{position, dealt, acted, positions, positions_all, position_of}
use Rattle.leduc_tree.specs.Follows.{Follows, FollowsAll}
use Rattle.leduc_tree.specs.Facts.{NodesReached, PayoffsBalance}
use Rattle.leduc_tree.proofs.Growth.{Stands, leduc-follows}

-- ---- a move and the list that has it
pub left_in : (cs : List ℕ) (c : ℕ) → left cs c ≡ true → In c (remaining cs)
unfolding remaining left
left_in cs c e = those_in (left cs) 6 c (ltb-true c 6 (and_left (ltb c 6) _ e)) e

legal_in : (cs : List ℕ) (p : Option ℕ) (h₁ h₂ : List ℕ) (a : ℕ) → live cs p h₁ h₂ ≡ true → may (in_play h₁ h₂) a ≡ true → In a (legal cs p h₁ h₂ (turn h₁ h₂))
unfolding legal options
legal_in cs p h₁ h₂ a l e = rw (both l (eq-eqb (turn h₁ h₂) (turn h₁ h₂) refl)) (those_in (may (in_play h₁ h₂)) 3 a (let w = may-small (in_play h₁ h₂) a e in omega arith) e)

-- ---- a card is due, or a seat acts, or the hand has ended: one of these only
not_due : (cs : List ℕ) (p : Option ℕ) (h₁ h₂ : List ℕ) → live cs p h₁ h₂ ≡ true → due cs p h₁ h₂ ≡ false
unfolding live
not_due cs p h₁ h₂ l = or_false_left (due cs p h₁ h₂) (ended h₁ h₂) (not-true _ l)

none_due : {cs : List ℕ} {p : Option ℕ} {h₁ h₂ : List ℕ} → Reached cs p h₁ h₂ → ended h₁ h₂ ≡ true → due cs p h₁ h₂ ≡ true → ⊥
unfolding due public-due
none_due {cs} {p} {h₁} {h₂} r e d =
    or_cases (ltb (length cs) 2) _ d (λ q. omega (arith, ltb-true (length cs) 2 q, ended-dealt (reached_parts r) e))
    (λ q. true≢false (ended h₁ h₂) e (not-true (ended h₁ h₂) (and_right (closes h₁) _ (and_right _ _ q))))

seat-due : (cs : List ℕ) (p : Option ℕ) (h₁ h₂ : List ℕ) → ltb (length cs) 2 ≡ true → due cs p h₁ h₂ ≡ true
unfolding due
seat-due cs p h₁ h₂ e = or_left _ e

table-due : (cs : List ℕ) (p : Option ℕ) (h₁ h₂ : List ℕ) → public-due p h₁ h₂ ≡ true → due cs p h₁ h₂ ≡ true
unfolding due
table-due cs p h₁ h₂ e = or_right (ltb (length cs) 2) e

-- the public card comes once both seats have theirs
both_dealt : {cs : List ℕ} {p : Option ℕ} {h₁ h₂ : List ℕ} → Reached cs p h₁ h₂ → public-due p h₁ h₂ ≡ true → ltb (length cs) 2 ≡ false
unfolding public-due
both_dealt {cs} {p} {h₁} {h₂} r d = go (tested (ltb (length cs) 2))
  where
    go : Tested (ltb (length cs) 2) → ltb (length cs) 2 ≡ false
    go (holds t) = let c = and_left (closes h₁) _ (and_right (hidden p) _ d) in true≢false (closes h₁) c (ap closes (none_acted (reached_parts r) (ltb-true (length cs) 2 t)) ∙ nothing-closed)
    go (fails t) = t

two_seats : (z : ℕ → ℤ) → sumℤ 2 z ≡ z 0 +ℤ z 1
unfolding sumℤ
two_seats z = ap (λ x. x +ℤ z 1) (+ℤ_idl (z 0))

module _ (ante raise₁ raise₂ : ℕ) where
  abbrev Of : Tree → Position → Type 0
  Of t q = Stands ante raise₁ raise₂ t q

  -- ---- each node follows the rules from its position
  reached_of : (t : Tree) (cs : List ℕ) (p : Option ℕ) (h₁ h₂ : List ℕ) → Follows ante raise₁ raise₂ t cs p h₁ h₂ → Reached cs p h₁ h₂
  unfolding Follows
  reached_of (end z) cs p h₁ h₂ g = g.0
  reached_of (chance f) cs p h₁ h₂ g = g.0
  reached_of (decide j k f) cs p h₁ h₂ g = g.0

  abbrev places : Tree → Position → List Position
  places t q = positions t q.cards q.public q.first q.second

  mutual
    unfolding positions nodes Follows Along

    pub nodes_follow : (t : Tree) (q : Position) → Of t q → Along Of (nodes t) (places t q)
    nodes_follow (end z) q g = (g, tt)
    nodes_follow (chance f) q g = (g, nodes_follow_all f (dealt q.cards q.public q.first q.second) g.2)
    nodes_follow (decide j k f) q g = (g, nodes_follow_all f (acted q.cards q.public q.first q.second) g.4)

    nodes_follow_all : (f : Trees) (qs : List Position) → FollowsAll ante raise₁ raise₂ f qs → Along Of (nodes_all f) (positions_all f qs)
    nodes_follow_all nil qs g = tt
    nodes_follow_all (cons t f) [] g = absurd g
    nodes_follow_all (cons t f) (q ∷ qs) g = along_append Of (nodes t) (places t q) (nodes_all f) (positions_all f qs) (nodes_follow t q g.0) (nodes_follow_all f qs g.1)

  -- ---- each reachable position is there
  -- z comes right after q
  abbrev Comes : Position → Position → Type 0
  Comes q z = ((due q.cards q.public q.first q.second ≡ true) × In z (dealt q.cards q.public q.first q.second))
      ⊎ ((live q.cards q.public q.first q.second ≡ true) × In z (acted q.cards q.public q.first q.second))

  root_in : (t : Tree) (q : Position) → In q (places t q)
  unfolding positions In
  root_in (end z) q = inl refl
  root_in (chance f) q = inl refl
  root_in (decide j k f) q = inl refl

  -- a child stands for each position that comes right after
  child_in : (f : Trees) (qs : List Position) → FollowsAll ante raise₁ raise₂ f qs → (z : Position) → In z qs → In z (positions_all f qs)
  unfolding positions Follows In
  child_in nil [] g z w = absurd w
  child_in nil (q ∷ qs) g z w = absurd g
  child_in (cons t f) [] g z w = absurd g
  child_in (cons t f) (q ∷ qs) g z (inl e) = in_left z (places t q) (positions_all f qs) (rw (← e) (root_in t q))
  child_in (cons t f) (q ∷ qs) g z (inr w) = in_right z (places t q) (positions_all f qs) (child_in f qs g.1 z w)

  -- and right after the root only where it should
  children : (t : Tree) (q z : Position) → Of t q → Comes q z → In z (places t q)
  unfolding positions Follows In
  children (end w) q z (r, e, v) (inl (d, i)) = absurd (none_due r e d)
  children (end w) q z (r, e, v) (inr (l, i)) = true≢false (ended q.first q.second) e (acting q.cards q.public q.first q.second l).not_ended
  children (chance f) q z (r, d, v) (inl (e, i)) = inr (child_in f _ v z i)
  children (chance f) q z (r, d, v) (inr (l, i)) = true≢false _ d (not_due q.cards q.public q.first q.second l)
  children (decide j k f) q z (r, l, a, b, v) (inl (d, i)) = true≢false _ d (not_due q.cards q.public q.first q.second l)
  children (decide j k f) q z (r, l, a, b, v) (inr (e, i)) = inr (child_in f _ v z i)

  mutual
    unfolding positions Follows In

    next_in : (t : Tree) (x : Position) → Of t x → (q z : Position) → In q (places t x) → Comes q z → In z (places t x)
    next_in (end w) x g q z (inl e) c = children (end w) x z g (rw (← e) at c)
    next_in (end w) x g q z (inr v) c = absurd v
    next_in (chance f) x g q z (inl e) c = children (chance f) x z g (rw (← e) at c)
    next_in (chance f) x g q z (inr v) c = inr (next_in_all f (dealt x.cards x.public x.first x.second) g.2 q z v c)
    next_in (decide j k f) x g q z (inl e) c = children (decide j k f) x z g (rw (← e) at c)
    next_in (decide j k f) x g q z (inr v) c = inr (next_in_all f (acted x.cards x.public x.first x.second) g.4 q z v c)

    next_in_all : (f : Trees) (qs : List Position) → FollowsAll ante raise₁ raise₂ f qs → (q z : Position) → In q (positions_all f qs) → Comes q z → In z (positions_all f qs)
    next_in_all nil qs g q z v c = absurd v
    next_in_all (cons t f) [] g q z v c = absurd g
    next_in_all (cons t f) (x ∷ qs) g q z v c = at (in_append q (places t x) (positions_all f qs) v) (λ w. next_in t x g.0 q z w c) (λ w. next_in_all f qs g.1 q z w c)
      where
        at : In q (places t x) ⊎ In q (positions_all f qs) → (In q (places t x) → In z (places t x)) → (In q (positions_all f qs) → In z (positions_all f qs)) → In z (places t x ++ positions_all f qs)
        at (inl w) u y = in_left z (places t x) (positions_all f qs) (u w)
        at (inr w) u y = in_right z (places t x) (positions_all f qs) (y w)

  module _ (t : Tree) (g : Follows ante raise₁ raise₂ t [] None [] []) where
    come : (q z : Position) → In q (positions t [] None [] []) → Comes q z → In z (positions t [] None [] [])
    come q z w c = next_in t (position [] None [] []) g q z w c

    dealt_in : (cs : List ℕ) (p : Option ℕ) (h₁ h₂ : List ℕ) (c : ℕ) → left (seen cs p) c ≡ true
        → In (cond (ltb (length cs) 2) (position (cs ++ (c ∷ [])) p h₁ h₂) (position cs (Some c) h₁ h₂)) (dealt cs p h₁ h₂)
    unfolding dealt
    dealt_in cs p h₁ h₂ c l = in_map (λ c. cond (ltb (length cs) 2) (position (cs ++ (c ∷ [])) p h₁ h₂) (position cs (Some c) h₁ h₂)) c (remaining (seen cs p)) (left_in (seen cs p) c l)

    acted_in : (cs : List ℕ) (p : Option ℕ) (h₁ h₂ : List ℕ) (a : ℕ) → live cs p h₁ h₂ ≡ true → may (in_play h₁ h₂) a ≡ true
        → In (cond (closes h₁) (position cs p h₁ (h₂ ++ (a ∷ []))) (position cs p (h₁ ++ (a ∷ [])) h₂)) (acted cs p h₁ h₂)
    unfolding acted
    acted_in cs p h₁ h₂ a l m = in_map (λ a. cond (closes h₁) (position cs p h₁ (h₂ ++ (a ∷ []))) (position cs p (h₁ ++ (a ∷ [])) h₂)) a (legal cs p h₁ h₂ (turn h₁ h₂)) (legal_in cs p h₁ h₂ a l m)

    reached_in : {cs : List ℕ} {p : Option ℕ} {h₁ h₂ : List ℕ} → Reached cs p h₁ h₂ → In (position cs p h₁ h₂) (positions t [] None [] [])
    unfolding in_play
    reached_in start = root_in t (position [] None [] [])
    reached_in (deal {cs} {h₁} {h₂} {p} c r d l) = come (position cs p h₁ h₂) (position (cs ++ (c ∷ [])) p h₁ h₂) (reached_in r) (inl (seat-due cs p h₁ h₂ d, rw d at (dealt_in cs p h₁ h₂ c l)))
    reached_in (reveal {cs} {h₁} {h₂} {p} c r d l) = come (position cs p h₁ h₂) (position cs (Some c) h₁ h₂) (reached_in r)
        (inl (table-due cs p h₁ h₂ d, rw (both_dealt r d) at (dealt_in cs p h₁ h₂ c l)))
    reached_in (act₁ {cs} {h₁} {h₂} {p} a r l c m) = come (position cs p h₁ h₂) (position cs p (h₁ ++ (a ∷ [])) h₂) (reached_in r) (inr (l, rw c at (acted_in cs p h₁ h₂ a l (rw c m))))
    reached_in (act₂ {cs} {h₁} {h₂} {p} a r l c m) = come (position cs p h₁ h₂) (position cs p h₁ (h₂ ++ (a ∷ []))) (reached_in r) (inr (l, rw c at (acted_in cs p h₁ h₂ a l (rw c m))))

-- ---- of Leduc's tree
module _ (ante raise₁ raise₂ : ℕ) where
  abbrev tree : Tree
  tree = tree_of_leduc ante raise₁ raise₂

  abbrev ps : List Position
  ps = positions tree [] None [] []

  along : Along (Stands ante raise₁ raise₂) (nodes tree) ps
  along = nodes_follow ante raise₁ raise₂ tree (position [] None [] []) (leduc-follows ante raise₁ raise₂)

  as_many : length ps ≡ size tree
  as_many = along-length (Stands ante raise₁ raise₂) (nodes tree) ps along ∙ length-nodes tree

  -- the tree at a node follows the rules from its position
  pub node-follows : (a : ℕ) → a < size tree → Stands ante raise₁ raise₂ (node_of tree a) (position_of tree a)
  node-follows a l = along_at (Stands ante raise₁ raise₂) (nodes tree) ps along a _ (position [] None [] []) (rw (length-nodes tree) l)

pub nodes-reached : NodesReached
nodes-reached ante raise₁ raise₂ = (
  as_many ante raise₁ raise₂,
  (λ a l. reached_of ante raise₁ raise₂ (node_of (tree ante raise₁ raise₂) a) _ _ _ _ (node-follows ante raise₁ raise₂ a l)),
  (λ cs p h₁ h₂ r.
      let i = reached_in ante raise₁ raise₂ (tree ante raise₁ raise₂) (leduc-follows ante raise₁ raise₂) r in
      let (a, w, e) = place_of (ps ante raise₁ raise₂) (position cs p h₁ h₂) (position [] None [] []) i in
      (a, rw (as_many ante raise₁ raise₂) at w, e)),
)

-- ---- payoffs add up to 0 at every end
module _ (ante raise₁ raise₂ : ℕ) where
  mutual
    unfolding Follows EveryEnd

    follows-balance : (t : Tree) (q : Position) → Stands ante raise₁ raise₂ t q → EveryEnd (λ z. sumℤ 2 z ≡ pos 0) t
    follows-balance (end z) q (r, e, v) = ap (sumℤ 2) v ∙ two_seats _ ∙ zero_sum ante raise₁ raise₂ _ _ _ _ r e
    follows-balance (chance f) q g = follows-balance_all f _ g.2
    follows-balance (decide j k f) q g = follows-balance_all f _ g.4

    follows-balance_all : (f : Trees) (qs : List Position) → FollowsAll ante raise₁ raise₂ f qs → EveryEndAll (λ z. sumℤ 2 z ≡ pos 0) f
    follows-balance_all nil qs g = tt
    follows-balance_all (cons t f) [] g = absurd g
    follows-balance_all (cons t f) (q ∷ qs) g = (follows-balance t q g.0, follows-balance_all f qs g.1)

pub payoffs-balance : PayoffsBalance
payoffs-balance ante raise₁ raise₂ = follows-balance ante raise₁ raise₂ (tree_of_leduc ante raise₁ raise₂) (position [] None [] []) (leduc-follows ante raise₁ raise₂)

-- The nodes of Kuhn's tree stand for the reachable positions, and each of these has its node. Assumes nothing.
use mathlib.Core.Path.{◌≡◌, refl, ◌∙◌}
use mathlib.Core.Logic.{◌⊎◌, inl, inr}
use mathlib.Core.Bool.{Bool, true, not}
use mathlib.Core.List.{List, [], ◌∷◌, ◌++◌}
use Prim.Native.Nat.{ℕ, zero, suc, ◌≤◌, ◌<◌}
use native.Mathlib.Omega.{arith}
use lib.Dec.{eqb, leb}
use lib.ListN.{length}
use borrow.Author.Tests.{ltb-true, eqb-true, leb-true, not-true}
use Rattle.prelude.specs.Finite.{◌and◌}
use Rattle.prelude.proofs.Tests.{true≢false, and_left, and_right}
use Rattle.game_tree.specs.Tree.{Tree, end, chance, decide, Trees, nil, cons}
use Rattle.game_tree.specs.Sets.{size}
use Rattle.game_tree.specs.Nodes.{nodes, nodes_all, node_of}
use Rattle.game_tree.proofs.Counting.{In, in_left, in_right, in_append}
use Rattle.game_tree.proofs.Nodes.{place_of, in_map, Along, along_append, along-length, along_at, length-nodes}
use Rattle.kuhn_rules.specs.Rules.{PASS, BET, ended, turn, due, live, over, remaining, legal}
use Rattle.kuhn_rules.specs.Moves.{Reached, start, deal, act}
use Rattle.kuhn_tree.specs.Tree.{tree_of_kuhn}
use Rattle.kuhn_tree.specs.Positions.{Position, dealt, acted, positions, positions_all, position_of}
use Rattle.kuhn_tree.specs.Follows.{Follows, FollowsAll}
use Rattle.kuhn_tree.specs.Facts.{NodesReached}
use Rattle.kuhn_tree.proofs.Cards.{in_of_left}
use Rattle.kuhn_tree.proofs.Growth.{legal-acts, kuhn-follows}

module _ (ante bet n : ℕ) where
  -- ---- each node follows the rules from its position
  abbrev pub Stands : Tree → Position → Type 0
  Stands t q = Follows ante bet n t q.0 q.1

  reached_of : (t : Tree) (cs h : List ℕ) → Follows ante bet n t cs h → Reached n cs h
  unfolding Follows
  reached_of (end p) cs h g = g.0
  reached_of (chance f) cs h g = g.0
  reached_of (decide j k f) cs h g = g.0

  mutual
    unfolding positions nodes Follows Along

    pub nodes_follow : (t : Tree) (cs h : List ℕ) → Follows ante bet n t cs h → Along Stands (nodes t) (positions n t cs h)
    nodes_follow (end p) cs h g = (g, tt)
    nodes_follow (chance f) cs h g = (g, nodes_follow_all f (dealt n cs h) g.2)
    nodes_follow (decide j k f) cs h g = (g, nodes_follow_all f (acted n cs h) g.4)

    nodes_follow_all : (f : Trees) (qs : List Position) → FollowsAll ante bet n f qs → Along Stands (nodes_all f) (positions_all n f qs)
    nodes_follow_all nil qs g = tt
    nodes_follow_all (cons t f) [] g = absurd g
    nodes_follow_all (cons t f) (q ∷ qs) g =
        along_append Stands (nodes t) (positions n t q.0 q.1) (nodes_all f) (positions_all n f qs) (nodes_follow t q.0 q.1 g.0) (nodes_follow_all f qs g.1)

  -- ---- each reachable position is there
  -- z comes right after q
  abbrev Comes : Position → Position → Type 0
  Comes q z = ((due n q.0 ≡ true) × In z (dealt n q.0 q.1)) ⊎ ((live n q.0 q.1 ≡ true) × In z (acted n q.0 q.1))

  root_in : (t : Tree) (cs h : List ℕ) → In (cs, h) (positions n t cs h)
  unfolding positions In
  root_in (end p) cs h = inl refl
  root_in (chance f) cs h = inl refl
  root_in (decide j k f) cs h = inl refl

  -- a child stands for each position that comes right after
  child_in : (f : Trees) (qs : List Position) → FollowsAll ante bet n f qs → (z : Position) → In z qs → In z (positions_all n f qs)
  unfolding positions Follows In
  child_in nil [] g z w = absurd w
  child_in nil (q ∷ qs) g z w = absurd g
  child_in (cons t f) [] g z w = absurd g
  child_in (cons t f) (q ∷ qs) g z (inl e) = in_left z (positions n t q.0 q.1) (positions_all n f qs) (rw (← e) (root_in t q.0 q.1))
  child_in (cons t f) (q ∷ qs) g z (inr w) = in_right z (positions n t q.0 q.1) (positions_all n f qs) (child_in f qs g.1 z w)

  not_due : (cs h : List ℕ) (b : Bool) → (eqb (length cs) n and b) ≡ true → due n cs ≡ true → ⊥
  not_due cs h b e d = let l : length cs < n = ltb-true (length cs) n d in omega (arith, eqb-true (length cs) n (and_left (eqb (length cs) n) b e))

  not_both : (cs h : List ℕ) → over n cs h ≡ true → live n cs h ≡ true → ⊥
  not_both cs h o l = true≢false (ended n h) (and_right (eqb (length cs) n) (ended n h) o) (not-true (ended n h) (and_right (eqb (length cs) n) (not (ended n h)) l))

  mutual
    unfolding positions Follows In

    next_in : (t : Tree) (cs h : List ℕ) → Follows ante bet n t cs h → (q z : Position) → In q (positions n t cs h) → Comes q z → In z (positions n t cs h)
    next_in (end p) cs h g q z (inl e) (inl (d, w)) = absurd (not_due cs h (ended n h) g.1 (rw (← e) at d))
    next_in (end p) cs h g q z (inl e) (inr (l, w)) = absurd (not_both cs h g.1 (rw (← e) at l))
    next_in (end p) cs h g q z (inr v) c = absurd v
    next_in (chance f) cs h g q z (inl e) (inl (d, w)) = inr (child_in f (dealt n cs h) g.2 z (rw (← e) at w))
    next_in (chance f) cs h g q z (inl e) (inr (l, w)) = absurd (not_due cs h (not (ended n h)) (rw (← e) at l) g.1)
    next_in (chance f) cs h g q z (inr v) c = inr (next_in_all f (dealt n cs h) g.2 q z v c)
    next_in (decide j k f) cs h g q z (inl e) (inl (d, w)) = absurd (not_due cs h (not (ended n h)) g.1 (rw (← e) at d))
    next_in (decide j k f) cs h g q z (inl e) (inr (l, w)) = inr (child_in f (acted n cs h) g.4 z (rw (← e) at w))
    next_in (decide j k f) cs h g q z (inr v) c = inr (next_in_all f (acted n cs h) g.4 q z v c)

    next_in_all : (f : Trees) (qs : List Position) → FollowsAll ante bet n f qs → (q z : Position) → In q (positions_all n f qs) → Comes q z → In z (positions_all n f qs)
    next_in_all nil qs g q z v c = absurd v
    next_in_all (cons t f) [] g q z v c = absurd g
    next_in_all (cons t f) (p ∷ qs) g q z v c = at (in_append q (positions n t p.0 p.1) (positions_all n f qs) v) (λ w. next_in t p.0 p.1 g.0 q z w c) (λ w. next_in_all f qs g.1 q z w c)
      where
        at : In q (positions n t p.0 p.1) ⊎ In q (positions_all n f qs) → (In q (positions n t p.0 p.1) → In z (positions n t p.0 p.1)) → (In q (positions_all n f qs) → In z (positions_all n f qs))
            → In z (positions n t p.0 p.1 ++ positions_all n f qs)
        at (inl w) x y = in_left z (positions n t p.0 p.1) (positions_all n f qs) (x w)
        at (inr w) x y = in_right z (positions n t p.0 p.1) (positions_all n f qs) (y w)

  -- an action that is a pass or a bet is legal
  legal_in : (cs h : List ℕ) (a : ℕ) → live n cs h ≡ true → leb a BET ≡ true → In a (legal n cs h (turn n h))
  unfolding In
  legal_in cs h a l e = rw (legal-acts n cs h l) (at a (leb-true a BET e))
    where
      at : (a : ℕ) → a ≤ 1 → In a (PASS ∷ BET ∷ [])
      at zero w = inl refl
      at (suc zero) w = inr (inl refl)
      at (suc (suc a)) w = absurd (omega arith)

  module _ (t : Tree) (g : Follows ante bet n t [] []) where
    reached_in : {cs h : List ℕ} → Reached n cs h → In (cs, h) (positions n t [] [])
    unfolding dealt acted
    reached_in start = root_in t [] []
    reached_in (deal {cs} {h} c r d l) = next_in t [] [] g (cs, h) (cs ++ (c ∷ []), h) (reached_in r)
        (inl (d, in_map (λ c. (cs ++ (c ∷ []), h)) c (remaining n cs) (in_of_left n cs c l)))
    reached_in (act {cs} {h} a r l e) = next_in t [] [] g (cs, h) (cs, h ++ (a ∷ [])) (reached_in r)
        (inr (l, in_map (λ a. (cs, h ++ (a ∷ []))) a (legal n cs h (turn n h)) (legal_in cs h a l e)))

module _ (ante bet n : ℕ) (one : 1 ≤ n) where
  abbrev t : Tree
  t = tree_of_kuhn ante bet n

  abbrev ps : List Position
  ps = positions n t [] []

  follows : Follows ante bet n t [] []
  follows = kuhn-follows n one ante bet

  along : Along (Stands ante bet n) (nodes t) ps
  along = nodes_follow ante bet n t [] [] follows

  as_many : length ps ≡ size t
  as_many = along-length (Stands ante bet n) (nodes t) ps along ∙ length-nodes t

  -- the tree at a node follows the rules from its position
  pub node-follows : (a : ℕ) → a < size t → Follows ante bet n (node_of t a) (position_of t n a).0 (position_of t n a).1
  node-follows a l = along_at (Stands ante bet n) (nodes t) ps along a _ ([], []) (rw (length-nodes t) l)

pub nodes-reached : NodesReached
nodes-reached ante bet n l = (
  as_many ante bet n l,
  (λ a w. reached_of ante bet n (node_of (t ante bet n l) a) _ _ (node-follows ante bet n l a w)),
  (λ cs h r. let (a, w, e) = place_of (ps ante bet n l) (cs, h) ([], []) (reached_in ante bet n (t ante bet n l) (follows ante bet n l) r) in (a, rw (as_many ante bet n l) at w, e)),
)

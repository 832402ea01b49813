-- The units and the values of a reply tree: the members of a set have no more units than the root, so no sum over them leaves the root's range. Nothing is assumed.
-- By recall the members of a set lie behind the same own moves, so only chance and the others' moves part them, and these part the units too (`members-light`).
use mathlib.Core.Path.{◌≡◌, refl, sym, ap, ◌∙◌}
use mathlib.Core.Logic.{◌⊎◌, inl, inr}
use mathlib.Core.Bool.{Bool, true, false}
use mathlib.Core.List.{List, [], ◌∷◌, ◌++◌}
use Prim.Native.Nat.{ℕ, zero, suc, ◌+◌, ◌*◌, ◌≤◌, zero-le}
use native.Mathlib.Nat as NatL
use native.Mathlib.Omega.{arith}
use lib.IntN.{nat_abs}
use lib.ListN.{length, take, drop, length-drop}
use Rattle.game_tree.specs.Sums.{sum, sumℕ}
use Rattle.game_tree.specs.Tree.{Key}
use Rattle.game_tree.specs.Reply.{Reply, leaf, split, own, Replies, none, more, Choice, value, total}
use Rattle.game_tree.specs.Reply.{pick, Node, nodes, nodes_all, same, keep, with_key, members}
use Rattle.game_tree.specs.Recall.{Path, Recalled, RecalledAll, RecalledKids, RecallsOwn}
use Rattle.game_tree.proofs.Integers.{size_of_sum}
use Rattle.game_tree.proofs.Tests.{Tested, is, isn't, tested, T_of, same→eq}
use Rattle.game_tree.proofs.Sums.{sumℕ_append, sumℕ-take}
use Rattle.game_tree.proofs.Members.{with_key_append, with_key_none}
use Rattle.game_tree.proofs.Own.{EachNode, each_append}

-- ---- the units of a reply tree: a split's are its children's, together
unfoldable mutual
  pub weight : Reply → ℕ
  weight (leaf u v) = u
  weight (split f) = weights f
  weight (own u k f) = u

  pub weights : Replies → ℕ
  weights none = 0
  weights (more t f) = weight t + weights f

-- no child of an own node has more units than it
unfoldable mutual
  pub Carries : Reply → Type 0
  Carries (leaf u v) = Unit {0}
  Carries (split f) = CarriesAll f
  Carries (own u k f) = CarriesKids u f

  pub CarriesAll : Replies → Type 0
  CarriesAll none = Unit {0}
  CarriesAll (more t f) = Carries t × CarriesAll f

  pub CarriesKids : ℕ → Replies → Type 0
  CarriesKids u none = Unit {0}
  CarriesKids u (more t f) = Carries t × (weight t ≤ u) × CarriesKids u f

-- no end has a value of more than units × B in size
unfoldable mutual
  pub Bounded : ℕ → Reply → Type 0
  Bounded B (leaf u v) = nat_abs v ≤ u * B
  Bounded B (split f) = BoundedAll B f
  Bounded B (own u k f) = BoundedAll B f

  pub BoundedAll : ℕ → Replies → Type 0
  BoundedAll B none = Unit {0}
  BoundedAll B (more t f) = Bounded B t × BoundedAll B f

-- ---- a value is at most units × B in size
module _ (B : ℕ) (c : Choice) where
  mutual
    unfolding value weight Carries Bounded

    pub value-size : (r : Reply) → Carries r → Bounded B r → nat_abs (value c r) ≤ weight r * B
    value-size (leaf u v) h g = g
    value-size (split f) h g = total_size f h g
    value-size (own u k f) h g = pick-size f u (c k) h g

    pub total_size : (f : Replies) → CarriesAll f → BoundedAll B f → nat_abs (total c f) ≤ weights f * B
    total_size none h g = zero-le
    total_size (more t f) h g = omega (arith, size_of_sum (value c t) (total c f), value-size t h.0 g.0, total_size f h.1 g.1)

    pub pick-size : (f : Replies) (u a : ℕ) → CarriesKids u f → BoundedAll B f → nat_abs (pick c f a) ≤ u * B
    pick-size none u a h g = zero-le
    pick-size (more t f) u zero h g = NatL.le_trans (value-size t h.0 g.0) (NatL.mul-le-mul_right B h.1)
    pick-size (more t f) u (suc a) h g = pick-size f u a h.2 g.1

-- ---- one path ends another
abbrev Ends : Path → Path → Type 0
Ends π ρ = (n : ℕ) × (drop n ρ ≡ π)

drop_one : (n : ℕ) (x : Key × ℕ) (π ρ : Path) → drop n ρ ≡ x ∷ π → drop (suc n) ρ ≡ π
drop_one zero x π [] e = absurd (nil-cons e)
  where
    nil-cons : ◌≡◌ {A = Path} [] (x ∷ π) → ⊥
    nil-cons e = let z : ◌≡◌ {A = ℕ} 0 1 = cc in omega arith
drop_one zero x π (y ∷ ρ) e = tail e
  where
    tail : ◌≡◌ {A = Path} (y ∷ ρ) (x ∷ π) → ρ ≡ π
    tail e = cc
drop_one (suc n) x π [] e = absurd (nil-cons e)
  where
    nil-cons : ◌≡◌ {A = Path} [] (x ∷ π) → ⊥
    nil-cons e = let z : ◌≡◌ {A = ℕ} 0 1 = cc in omega arith
drop_one (suc n) x π (y ∷ ρ) e = drop_one n x π ρ e

-- after one path comes one action
unfoldable action : Path → ℕ
action [] = 0
action (x ∷ π) = x.1

one_action : (j : Key) (i a : ℕ) (π ρ : Path) (n n' : ℕ) → drop n ρ ≡ (j, i) ∷ π → drop n' ρ ≡ (j, a) ∷ π → i ≡ a
unfolding action
one_action j i a π ρ n n' p q = ap action (sym p ∙ ap (λ l. drop l ρ) same_place ∙ q)
  where
    same_place : n ≡ n'
    same_place = omega (arith, length-drop n ρ, length-drop n' ρ, ap length p, ap length q)

-- ---- a tree holds members of a set only if it lies on the set's path
module _ (H : Key → Path) (n : Key → ℕ) (k : Key) where
  abbrev Next : Path → Key → ℕ → Type 0
  Next π j i = (a : ℕ) × (i ≤ a) × Ends ((j, a) ∷ π) (H k)

  mutual
    unfolding nodes with_key keep Recalled

    on_path : (t : Reply) (π : Path) → Recalled H n π t → (with_key k (nodes t) ≡ []) ⊎ Ends π (H k)
    on_path (leaf u v) π h = inl refl
    on_path (split f) π h = on_path_all f π h
    on_path (own u j f) π h = at (tested (same j k)) (on_path_kids f π j 0 h.2)
      where
        at : Tested (same j k) → (with_key k (nodes_all f) ≡ []) ⊎ Next π j 0 → (keep (same j k) (u, j, f) (with_key k (nodes_all f)) ≡ []) ⊎ Ends π (H k)
        at (is e) q = inr (0, ap H (sym (same→eq j k (T_of e))) ∙ sym h.0)
        at (isn't e) (inl q) = inl (rw e q)
        at (isn't e) (inr q) = inr (suc q.2.0, drop_one q.2.0 (j, q.0) π (H k) q.2.1)

    on_path_all : (f : Replies) (π : Path) → RecalledAll H n π f → (with_key k (nodes_all f) ≡ []) ⊎ Ends π (H k)
    on_path_all none π h = inl refl
    on_path_all (more t f) π h = at (on_path t π h.0) (on_path_all f π h.1)
      where
        at : (with_key k (nodes t) ≡ []) ⊎ Ends π (H k) → (with_key k (nodes_all f) ≡ []) ⊎ Ends π (H k) → (with_key k (nodes t ++ nodes_all f) ≡ []) ⊎ Ends π (H k)
        at (inl p) (inl q) = inl (with_key_none k (nodes t) (nodes_all f) p q)
        at (inl p) (inr q) = inr q
        at (inr p) q = inr p

    on_path_kids : (f : Replies) (π : Path) (j : Key) (i : ℕ) → RecalledKids H n π j i f → (with_key k (nodes_all f) ≡ []) ⊎ Next π j i
    on_path_kids none π j i h = inl refl
    on_path_kids (more t f) π j i h = at (on_path t ((j, i) ∷ π) h.0) (on_path_kids f π j (suc i) h.1)
      where
        at : (with_key k (nodes t) ≡ []) ⊎ Ends ((j, i) ∷ π) (H k) → (with_key k (nodes_all f) ≡ []) ⊎ Next π j (suc i)
            → (with_key k (nodes t ++ nodes_all f) ≡ []) ⊎ Next π j i
        at (inl p) (inl q) = inl (with_key_none k (nodes t) (nodes_all f) p q)
        at (inl p) (inr q) = inr (q.0, NatL.le_of_suc-le q.1, q.2)
        at (inr p) q = inr (i, NatL.le_refl i, p)

  -- the units of the set's members in a list
  abbrev mass : List Node → ℕ
  mass xs = sumℕ (λ x. x.0) (with_key k xs)

  mass_append : (xs ys : List Node) → mass (xs ++ ys) ≡ mass xs + mass ys
  mass_append xs ys = ap (sumℕ (λ x. x.0)) (with_key_append k xs ys) ∙ sumℕ_append (λ x. x.0) (with_key k xs) (with_key k ys)

  mass_none : (xs : List Node) → with_key k xs ≡ [] → mass xs ≡ 0
  unfolding sumℕ
  mass_none xs e = ap (sumℕ (λ x. x.0)) e

  mutual
    unfolding nodes with_key keep Recalled weight Carries sumℕ

    pub members_light : (t : Reply) (π : Path) → Recalled H n π t → Carries t → mass (nodes t) ≤ weight t
    members_light (leaf u v) π h g = zero-le
    members_light (split f) π h g = members_light_all f π h g
    members_light (own u j f) π h g = at (tested (same j k)) (members_light_kids f π j 0 u h.2 g)
      where
        on : π ≡ H k → (with_key k (nodes_all f) ≡ []) ⊎ Next π j 0 → u + mass (nodes_all f) ≤ u
        on e (inl q) = omega (arith, mass_none (nodes_all f) q)
        on e (inr q) = absurd (omega (arith, ap length e, ap length q.2.1, length-drop q.2.0 (H k)))

        at : Tested (same j k) → mass (nodes_all f) ≤ u → sumℕ (λ x. x.0) (keep (same j k) (u, j, f) (with_key k (nodes_all f))) ≤ u
        at (is e) l = rw e (on (h.0 ∙ ap H (same→eq j k (T_of e))) (on_path_kids f π j 0 h.2))
        at (isn't e) l = rw e l

    members_light_all : (f : Replies) (π : Path) → RecalledAll H n π f → CarriesAll f → mass (nodes_all f) ≤ weights f
    members_light_all none π h g = zero-le
    members_light_all (more t f) π h g = omega (arith, mass_append (nodes t) (nodes_all f), members_light t π h.0 g.0, members_light_all f π h.1 g.1)

    members_light_kids : (f : Replies) (π : Path) (j : Key) (i u : ℕ) → RecalledKids H n π j i f → CarriesKids u f → mass (nodes_all f) ≤ u
    members_light_kids none π j i u h g = zero-le
    members_light_kids (more t f) π j i u h g = at (on_path t ((j, i) ∷ π) h.0) (on_path_kids f π j (suc i) h.1)
        (members_light t ((j, i) ∷ π) h.0 g.0) (members_light_kids f π j (suc i) u h.1 g.2)
      where
        at : (with_key k (nodes t) ≡ []) ⊎ Ends ((j, i) ∷ π) (H k) → (with_key k (nodes_all f) ≡ []) ⊎ Next π j (suc i) → mass (nodes t) ≤ weight t
            → mass (nodes_all f) ≤ u → mass (nodes t ++ nodes_all f) ≤ u
        at (inl p) q l l' = omega (arith, mass_append (nodes t) (nodes_all f), mass_none (nodes t) p)
        at (inr p) (inl q) l l' = omega (arith, mass_append (nodes t) (nodes_all f), mass_none (nodes_all f) q, g.1)
        at (inr p) (inr q) l l' = absurd (omega (arith, one_action j i q.0 π (H k) p.0 q.2.0 p.1 q.2.1, q.1))

-- ---- each node's children are within the node's range, so sums of nodes are
module _ (B : ℕ) (c : Choice) (a : ℕ) where
  abbrev Ranged : Node → Type 0
  Ranged x = nat_abs (pick c x.2 a) ≤ x.0 * B

  mutual
    unfolding EachNode Carries Bounded nodes

    nodes_ranged : (t : Reply) → Carries t → Bounded B t → EachNode Ranged (nodes t)
    nodes_ranged (leaf u v) h g = tt
    nodes_ranged (split f) h g = nodes_ranged_all f h g
    nodes_ranged (own u k f) h g = (pick-size B c f u a h g, nodes_ranged_kids f u h g)

    nodes_ranged_all : (f : Replies) → CarriesAll f → BoundedAll B f → EachNode Ranged (nodes_all f)
    nodes_ranged_all none h g = tt
    nodes_ranged_all (more t f) h g = each_append Ranged (nodes t) (nodes_all f) (nodes_ranged t h.0 g.0) (nodes_ranged_all f h.1 g.1)

    nodes_ranged_kids : (f : Replies) (u : ℕ) → CarriesKids u f → BoundedAll B f → EachNode Ranged (nodes_all f)
    nodes_ranged_kids none u h g = tt
    nodes_ranged_kids (more t f) u h g = each_append Ranged (nodes t) (nodes_all f) (nodes_ranged t h.0 g.0) (nodes_ranged_kids f u h.2 g.1)

  members_ranged : (k : Key) (xs : List Node) → EachNode Ranged xs → EachNode Ranged (with_key k xs)
  unfolding EachNode with_key keep
  members_ranged k [] h = tt
  members_ranged k (x ∷ xs) h = at (same x.1 k) (members_ranged k xs h.1)
    where
      at : (b : Bool) → EachNode Ranged (with_key k xs) → EachNode Ranged (keep b x (with_key k xs))
      at true g = (h.0, g)
      at false g = g

  prefix_size : (n : ℕ) (xs : List Node) → EachNode Ranged xs → nat_abs (sum (λ x. pick c x.2 a) (take n xs)) ≤ sumℕ (λ x. x.0) (take n xs) * B
  unfolding EachNode sum sumℕ
  prefix_size zero xs h = zero-le
  prefix_size (suc n) [] h = zero-le
  prefix_size (suc n) (x ∷ xs) h = omega (arith, size_of_sum (pick c x.2 a) (sum (λ y. pick c y.2 a) (take n xs)), prefix_size n xs h.1, h.0)

-- ---- the bounds
pub members-weight : (r : Reply) (k : Key) (n : ℕ) → RecallsOwn r → Carries r → sumℕ (λ x. x.0) (take n (members r k)) ≤ weight r
members-weight r k n h g = NatL.le_trans (sumℕ-take (λ x. x.0) n (members r k)) (members_light h.0 h.1 k r [] h.2 g)

pub set_sum_size : (r : Reply) (k : Key) (n B : ℕ) (c : Choice) (a : ℕ) → RecallsOwn r → Carries r → Bounded B r
    → nat_abs (sum (λ x. pick c x.2 a) (take n (members r k))) ≤ weight r * B
set_sum_size r k n B c a h g b = NatL.le_trans (prefix_size B c a n (members r k) (members_ranged B c a k (nodes r) (nodes_ranged B c a r g b)))
    (NatL.mul-le-mul_right B (members-weight r k n h g))

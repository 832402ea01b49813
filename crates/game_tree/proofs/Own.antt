-- Properties of the own nodes of a reply tree, and what recall says of them. Nothing is assumed.
use mathlib.Core.Path.{◌≡◌, refl, sym, ap, ap₂, ◌∙◌}
use mathlib.Core.Logic.{◌⊎◌, inl, inr}
use mathlib.Core.Bool.{Bool, true, false}
use mathlib.Core.List.{List, [], ◌∷◌, ◌++◌}
use Prim.Native.Nat.{ℕ, zero, suc, ◌+◌, ◌≤◌, ◌<◌}
use native.Mathlib.Nat as NatL
use native.Mathlib.Omega.{arith}
use lib.IntN.{◌+ℤ◌}
use lib.ListN.{length}
use Rattle.game_tree.specs.Sums.{sum}
use Rattle.game_tree.specs.Tree.{Key}
use Rattle.game_tree.specs.Reply.{Reply, leaf, split, own, Replies, none, more, count, Choice, value, total, pick, Node, nodes, nodes_all, same, keep, with_key, members, set_sum, actions, depth, depth_all}
use Rattle.game_tree.specs.Optimal.{EveryOwn, EveryOwnAll}
use Rattle.game_tree.specs.Recall.{Path, Recalled, RecalledAll, RecalledKids}
use Rattle.game_tree.proofs.Tests.{Tested, is, isn't, tested, T_of, same→eq, same_self}
use Rattle.game_tree.proofs.Members.{with_key_none}

-- ---- from two properties of each own node, a third
module _ (P R S : Key → ℕ → Type 0) (g : (k : Key) (n : ℕ) → P k n → R k n → S k n) where
  mutual
    unfolding EveryOwn

    pub own_both : (r : Reply) → EveryOwn P r → EveryOwn R r → EveryOwn S r
    own_both (leaf u v) p q = tt
    own_both (split f) p q = own_both_all f p q
    own_both (own u k f) p q = (g k (count f) p.0 q.0, own_both_all f p.1 q.1)

    pub own_both_all : (f : Replies) → EveryOwnAll P f → EveryOwnAll R f → EveryOwnAll S f
    own_both_all none p q = tt
    own_both_all (more t f) p q = (own_both t p.0 q.0, own_both_all f p.1 q.1)

pub own_map : (P S : Key → ℕ → Type 0) → ((k : Key) (n : ℕ) → P k n → S k n) → (r : Reply) → EveryOwn P r → EveryOwn S r
own_map P S g r p = own_both P P S (λ k n x y. g k n x) r p p

-- ---- two choices that are one at each own node have one value
module _ (c e : Choice) where
  mutual
    unfolding value EveryOwn

    pub value_agree : (r : Reply) → EveryOwn (λ k n. c k ≡ e k) r → value c r ≡ value e r
    value_agree (leaf u v) h = refl
    value_agree (split f) h = total_agree f h
    value_agree (own u k f) h = pick_agree f (c k) h.1 ∙ ap (pick e f) h.0

    total_agree : (f : Replies) → EveryOwnAll (λ k n. c k ≡ e k) f → total c f ≡ total e f
    total_agree none h = refl
    total_agree (more t f) h = ap₂ ◌+ℤ◌ (value_agree t h.0) (total_agree f h.1)

    pub pick_agree : (f : Replies) (a : ℕ) → EveryOwnAll (λ k n. c k ≡ e k) f → pick c f a ≡ pick e f a
    pick_agree none a h = refl
    pick_agree (more t f) zero h = value_agree t h.0
    pick_agree (more t f) (suc a) h = pick_agree f a h.1

-- ---- a property of each node of a list
unfoldable pub EachNode : (Node → Type 0) → List Node → Type 0
EachNode P [] = Unit {0}
EachNode P (x ∷ xs) = P x × EachNode P xs

pub each_append : (P : Node → Type 0) (xs ys : List Node) → EachNode P xs → EachNode P ys → EachNode P (xs ++ ys)
unfolding EachNode
each_append P [] ys h g = g
each_append P (x ∷ xs) ys h g = (h.0, each_append P xs ys h.1 g)

each_left : (P : Node → Type 0) (xs ys : List Node) → EachNode P (xs ++ ys) → EachNode P xs
unfolding EachNode
each_left P [] ys h = tt
each_left P (x ∷ xs) ys h = (h.0, each_left P xs ys h.1)

each_right : (P : Node → Type 0) (xs ys : List Node) → EachNode P (xs ++ ys) → EachNode P ys
unfolding EachNode
each_right P [] ys h = h
each_right P (x ∷ xs) ys h = each_right P xs ys h.1

pub each_both : (P R S : Node → Type 0) → ((x : Node) → P x → R x → S x) → (xs : List Node) → EachNode P xs → EachNode R xs → EachNode S xs
unfolding EachNode
each_both P R S g [] p q = tt
each_both P R S g (x ∷ xs) p q = (g x p.0 q.0, each_both P R S g xs p.1 q.1)

-- ---- each own node of a tree is each node of its list
module _ (P : Key → ℕ → Type 0) where
  abbrev AtNode : Node → Type 0
  AtNode x = P x.1 (count x.2)

  mutual
    unfolding EveryOwn EachNode nodes

    pub own→each : (r : Reply) → EveryOwn P r → EachNode AtNode (nodes r)
    own→each (leaf u v) h = tt
    own→each (split f) h = own→each_all f h
    own→each (own u k f) h = (h.0, own→each_all f h.1)

    own→each_all : (f : Replies) → EveryOwnAll P f → EachNode AtNode (nodes_all f)
    own→each_all none h = tt
    own→each_all (more t f) h = each_append AtNode (nodes t) (nodes_all f) (own→each t h.0) (own→each_all f h.1)

  mutual
    unfolding EveryOwn EachNode nodes

    pub each→own : (r : Reply) → EachNode AtNode (nodes r) → EveryOwn P r
    each→own (leaf u v) h = tt
    each→own (split f) h = each→own_all f h
    each→own (own u k f) h = (h.0, each→own_all f h.1)

    each→own_all : (f : Replies) → EachNode AtNode (nodes_all f) → EveryOwnAll P f
    each→own_all none h = tt
    each→own_all (more t f) h = (each→own t (each_left AtNode (nodes t) (nodes_all f) h), each→own_all f (each_right AtNode (nodes t) (nodes_all f) h))

-- each node of a list is a member of its set
each_member : (xs : List Node) → EachNode (λ x. 0 < length (with_key x.1 xs)) xs
unfolding EachNode with_key keep
each_member [] = tt
each_member (x ∷ xs) = (
  rw (same_self x.1) (omega arith),
  each_both (λ y. 0 < length (with_key y.1 xs)) (λ y. 0 < length (with_key y.1 xs)) (λ y. 0 < length (with_key y.1 (x ∷ xs)))
      (λ y p q. at (same x.1 y.1) (with_key y.1 xs) p) xs (each_member xs)
      (each_member xs),
)
  where
    at : (b : Bool) (ys : List Node) → 0 < length ys → 0 < length (keep b x ys)
    at true ys p = omega arith
    at false ys p = p

module _ (H : Key → Path) (n : Key → ℕ) where
  -- ---- a member has as many actions as its set
  mutual
    unfolding EveryOwn Recalled

    own_count : (r : Reply) (π : Path) → Recalled H n π r → EveryOwn (λ k a. a ≡ n k) r
    own_count (leaf u v) π h = tt
    own_count (split f) π h = own_count_all f π h
    own_count (own u k f) π h = (h.1, own_count-kids f π k 0 h.2)

    own_count_all : (f : Replies) (π : Path) → RecalledAll H n π f → EveryOwnAll (λ k a. a ≡ n k) f
    own_count_all none π h = tt
    own_count_all (more t f) π h = (own_count t π h.0, own_count_all f π h.1)

    own_count-kids : (f : Replies) (π : Path) (j : Key) (b : ℕ) → RecalledKids H n π j b f → EveryOwnAll (λ k a. a ≡ n k) f
    own_count-kids none π j b h = tt
    own_count-kids (more t f) π j b h = (own_count t ((j, b) ∷ π) h.0, own_count-kids f π j (suc b) h.1)

  actions_are : (k : Key) (xs : List Node) → EachNode (λ x. count x.2 ≡ n x.1) xs → 0 < length (with_key k xs) → actions (with_key k xs) ≡ n k
  unfolding EachNode with_key keep actions
  actions_are k [] h l = absurd (NatL.not-suc-le-zero l)
  actions_are k (x ∷ xs) h l = at (tested (same x.1 k)) l (λ w. actions_are k xs h.1 w)
    where
      at : Tested (same x.1 k) → 0 < length (keep (same x.1 k) x (with_key k xs)) → (0 < length (with_key k xs) → actions (with_key k xs) ≡ n k)
          → actions (keep (same x.1 k) x (with_key k xs)) ≡ n k
      at (is e) w f = rw e (h.0 ∙ ap n (same→eq x.1 k (T_of e)))
      at (isn't e) w f = rw e (f (rw e at w))

  pub own_actions : (r : Reply) → Recalled H n [] r → EveryOwn (λ k a. a ≡ actions (members r k)) r
  own_actions r h = each→own (λ k a. a ≡ actions (members r k)) r
      (each_both (λ x. count x.2 ≡ n x.1) (λ x. 0 < length (with_key x.1 (nodes r))) (λ x. count x.2 ≡ actions (members r x.1))
      (λ x p q. p ∙ sym (actions_are x.1 (nodes r) counted q)) (nodes r) counted (each_member (nodes r)))
    where
      counted : EachNode (λ x. count x.2 ≡ n x.1) (nodes r)
      counted = own→each (λ k a. a ≡ n k) r (own_count r [] h)

  -- what holds at each own node holds of each set that has a member, at its number of actions
  module _ (P : Key → ℕ → Type 0) (k : Key) where
    either_append : (xs ys : List Node) → (with_key k xs ≡ []) ⊎ P k (n k) → (with_key k ys ≡ []) ⊎ P k (n k) → (with_key k (xs ++ ys) ≡ []) ⊎ P k (n k)
    either_append xs ys (inl p) (inl q) = inl (with_key_none k xs ys p q)
    either_append xs ys (inl p) (inr q) = inr q
    either_append xs ys (inr p) q = inr p

    mutual
      unfolding nodes with_key EveryOwn Recalled

      pub of_set : (r : Reply) (π : Path) → EveryOwn P r → Recalled H n π r → (with_key k (nodes r) ≡ []) ⊎ P k (n k)
      of_set (leaf u v) π p h = inl refl
      of_set (split f) π p h = of_set_all f π p h
      of_set (own u j f) π p h = at (tested (same j k)) (of_set-kids f π j 0 p.1 h.2)
        where
          at : Tested (same j k) → (with_key k (nodes_all f) ≡ []) ⊎ P k (n k) → (keep (same j k) (u, j, f) (with_key k (nodes_all f)) ≡ []) ⊎ P k (n k)
          at (is e) q = inr (rw (same→eq j k (T_of e)) at (rw h.1 at p.0))
          at (isn't e) (inl q) = inl (rw e q)
          at (isn't e) (inr q) = inr q

      of_set_all : (f : Replies) (π : Path) → EveryOwnAll P f → RecalledAll H n π f → (with_key k (nodes_all f) ≡ []) ⊎ P k (n k)
      of_set_all none π p h = inl refl
      of_set_all (more t f) π p h = either_append (nodes t) (nodes_all f) (of_set t π p.0 h.0) (of_set_all f π p.1 h.1)

      of_set-kids : (f : Replies) (π : Path) (j : Key) (a : ℕ) → EveryOwnAll P f → RecalledKids H n π j a f → (with_key k (nodes_all f) ≡ []) ⊎ P k (n k)
      of_set-kids none π j a p h = inl refl
      of_set-kids (more t f) π j a p h = either_append (nodes t) (nodes_all f) (of_set t ((j, a) ∷ π) p.0 h.0) (of_set-kids f π j (suc a) p.1 h.1)

  -- ---- the level of an own node is the number of own moves before it
  mutual
    unfolding depth EveryOwn Recalled

    pub level_below : (r : Reply) (π : Path) (m : ℕ) → Recalled H n π r → depth r + length π ≤ m → EveryOwn (λ k a. length (H k) < m) r
    level_below (leaf u v) π m h l = tt
    level_below (split f) π m h l = level_below_all f π m h l
    level_below (own u k f) π m h l = (omega (arith, ap length h.0), level_below_kids f π k 0 m h.2 (omega arith))

    level_below_all : (f : Replies) (π : Path) (m : ℕ) → RecalledAll H n π f → depth_all f + length π ≤ m → EveryOwnAll (λ k a. length (H k) < m) f
    level_below_all none π m h l = tt
    level_below_all (more t f) π m h l = (level_below t π m h.0 (omega arith), level_below_all f π m h.1 (omega arith))

    level_below_kids : (f : Replies) (π : Path) (j : Key) (a m : ℕ) → RecalledKids H n π j a f → depth_all f + suc (length π) ≤ m
        → EveryOwnAll (λ k a. length (H k) < m) f
    level_below_kids none π j a m h l = tt
    level_below_kids (more t f) π j a m h l = (level_below t ((j, a) ∷ π) m h.0 (omega arith), level_below_kids f π j (suc a) m h.1 (omega arith))

  mutual
    unfolding EveryOwn Recalled

    level_from : (r : Reply) (π : Path) (d : ℕ) → Recalled H n π r → d ≤ length π → EveryOwn (λ k a. d ≤ length (H k)) r
    level_from (leaf u v) π d h l = tt
    level_from (split f) π d h l = level_from_all f π d h l
    level_from (own u k f) π d h l = (omega (arith, ap length h.0), level_from_kids f π k 0 d h.2 (omega arith))

    level_from_all : (f : Replies) (π : Path) (d : ℕ) → RecalledAll H n π f → d ≤ length π → EveryOwnAll (λ k a. d ≤ length (H k)) f
    level_from_all none π d h l = tt
    level_from_all (more t f) π d h l = (level_from t π d h.0 l, level_from_all f π d h.1 l)

    level_from_kids : (f : Replies) (π : Path) (j : Key) (a d : ℕ) → RecalledKids H n π j a f → d ≤ suc (length π) → EveryOwnAll (λ k a. d ≤ length (H k)) f
    level_from_kids none π j a d h l = tt
    level_from_kids (more t f) π j a d h l = (level_from t ((j, a) ∷ π) d h.0 l, level_from_kids f π j (suc a) d h.1 l)

  -- ---- below each own node: a property of all own nodes, and their recall
  module _ (P : Key → ℕ → Type 0) where
    abbrev Below : Node → Type 0
    Below x = EveryOwnAll P x.2 × RecalledKids H n (H x.1) x.1 0 x.2

    mutual
      unfolding EachNode EveryOwn Recalled nodes

      below_nodes : (r : Reply) (π : Path) → EveryOwn P r → Recalled H n π r → EachNode Below (nodes r)
      below_nodes (leaf u v) π p h = tt
      below_nodes (split f) π p h = below_nodes_all f π p h
      below_nodes (own u k f) π p h = ((p.1, rw (← h.0) h.2), below_nodes-kids f π k 0 p.1 h.2)

      below_nodes_all : (f : Replies) (π : Path) → EveryOwnAll P f → RecalledAll H n π f → EachNode Below (nodes_all f)
      below_nodes_all none π p h = tt
      below_nodes_all (more t f) π p h = each_append Below (nodes t) (nodes_all f) (below_nodes t π p.0 h.0) (below_nodes_all f π p.1 h.1)

      below_nodes-kids : (f : Replies) (π : Path) (k : Key) (a : ℕ) → EveryOwnAll P f → RecalledKids H n π k a f → EachNode Below (nodes_all f)
      below_nodes-kids none π k a p h = tt
      below_nodes-kids (more t f) π k a p h = each_append Below (nodes t) (nodes_all f) (below_nodes t ((k, a) ∷ π) p.0 h.0)
          (below_nodes-kids f π k (suc a) p.1 h.1)

  -- the sums of a set do not change where two choices are one at all deeper sets
  module _ (c e : Choice) (k : Key) (a : ℕ) where
    abbrev Deeper : Key → ℕ → Type 0
    Deeper j b = length (H k) < length (H j) → c j ≡ e j

    set_agree_list : (xs : List Node) → EachNode (Below Deeper) xs → sum (λ x. pick c x.2 a) (with_key k xs) ≡ sum (λ x. pick e x.2 a) (with_key k xs)
    unfolding EachNode sum with_key keep
    set_agree_list [] h = refl
    set_agree_list (x ∷ xs) h = at (tested (same x.1 k)) (set_agree_list xs h.1)
      where
        at : Tested (same x.1 k) → sum (λ x. pick c x.2 a) (with_key k xs) ≡ sum (λ x. pick e x.2 a) (with_key k xs)
            → sum (λ x. pick c x.2 a) (keep (same x.1 k) x (with_key k xs)) ≡ sum (λ x. pick e x.2 a) (keep (same x.1 k) x (with_key k xs))
        at (is q) ih = rw q (ap₂ ◌+ℤ◌ (pick_agree c e x.2 a
            (own_both_all Deeper (λ j b. length (H k) < length (H j)) (λ j b. c j ≡ e j) (λ j b f l. f l) x.2 h.0.0
            (level_from_kids x.2 (H k) k 0 (suc (length (H k))) (rw (same→eq x.1 k (T_of q)) at h.0.1) (NatL.le_refl (suc (length (H k))))))) ih)
        at (isn't q) ih = rw q ih

    pub set_agree : (r : Reply) → Recalled H n [] r → EveryOwn Deeper r → set_sum c r k a ≡ set_sum e r k a
    set_agree r h g = set_agree_list (nodes r) (below_nodes Deeper r [] g h)

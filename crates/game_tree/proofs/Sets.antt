-- Laws of the sets of a tree: each decision has its set among them, no two are one, and a property of all decisions is one of all sets. Nothing is assumed.
use mathlib.Core.Path.{◌≡◌, refl, sym, ap, ap₂, ◌∙◌}
use mathlib.Core.Bool.{Bool, true, false, cond}
use mathlib.Core.List.{List, [], ◌∷◌, ◌++◌, append_assoc}
use Prim.Native.Nat.{ℕ, suc, ◌+◌}
use native.Mathlib.Omega.{arith}
use lib.Dec.{eqb}
use lib.ListN.{length, length-append}
use Rattle.game_tree.specs.Tree.{Key, Tree, end, chance, decide, Trees, nil, cons, fan}
use Rattle.game_tree.specs.Conditions.{Every, EveryAll}
use Rattle.game_tree.specs.Reply.{same}
use Rattle.game_tree.specs.Sets.{size, sizes, preorder, preorder_all, Decision, decisions, decisions_all, is_of, met, firsts, sets}
use Rattle.game_tree.specs.Shape.{decision_of, decisions_of, SameActions}
use Rattle.game_tree.proofs.Tests.{Tested, is, isn't, tested, T_of, same→eq, same_self, eqb_is, eqb_self}

-- ---- a tree has as many nodes as its size
mutual
  unfolding size preorder

  pub preorder-length : (t : Tree) → length (preorder t) ≡ size t
  preorder-length (end p) = refl
  preorder-length (chance f) = ap suc (preorder_all_length f)
  preorder-length (decide j k f) = ap suc (preorder_all_length f)

  preorder_all_length : (f : Trees) → length (preorder_all f) ≡ sizes f
  preorder_all_length nil = refl
  preorder_all_length (cons t f) = length-append (preorder t) (preorder_all f) ∙ ap₂ ◌+◌ (preorder-length t) (preorder_all_length f)

-- ---- the decisions are those of the nodes, in their order
pub decisions_of_append : (ts us : List Tree) → decisions_of (ts ++ us) ≡ decisions_of ts ++ decisions_of us
unfolding decisions_of
decisions_of_append [] us = refl
decisions_of_append (t ∷ ts) us = ap (λ l. decision_of t ++ l) (decisions_of_append ts us) ∙ sym (append_assoc (decision_of t) (decisions_of ts) (decisions_of us))

mutual
  unfolding decisions preorder decisions_of

  pub decisions_of_nodes : (t : Tree) → decisions t ≡ decisions_of (preorder t)
  decisions_of_nodes (end p) = refl
  decisions_of_nodes (chance f) = decisions_of_nodes_all f
  decisions_of_nodes (decide j k f) = ap (λ l. (j, k, fan f) ∷ l) (decisions_of_nodes_all f)

  decisions_of_nodes_all : (f : Trees) → decisions_all f ≡ decisions_of (preorder_all f)
  decisions_of_nodes_all nil = refl
  decisions_of_nodes_all (cons t f) = ap₂ ◌++◌ (decisions_of_nodes t) (decisions_of_nodes_all f) ∙ sym (decisions_of_append (preorder t) (preorder_all f))

-- ---- properties of decisions, one by one
abbrev pub Property : Type 1
Property = ℕ → Key → ℕ → Type 0

-- P holds of each decision of a list
unfoldable pub Each : Property → List Decision → Type 0
Each P [] = Unit {0}
Each P (x ∷ xs) = P x.0 x.1 x.2 × Each P xs

module _ (P : Property) where
  pub each_append : (xs ys : List Decision) → Each P xs → Each P ys → Each P (xs ++ ys)
  unfolding Each
  each_append [] ys h g = g
  each_append (x ∷ xs) ys h g = (h.0, each_append xs ys h.1 g)

  each_left : (xs ys : List Decision) → Each P (xs ++ ys) → Each P xs
  unfolding Each
  each_left [] ys h = tt
  each_left (x ∷ xs) ys h = (h.0, each_left xs ys h.1)

  each_right : (xs ys : List Decision) → Each P (xs ++ ys) → Each P ys
  unfolding Each
  each_right [] ys h = h
  each_right (x ∷ xs) ys h = each_right xs ys h.1

  -- what holds of each decision of the tree holds of its list, and back
  mutual
    unfolding Every Each decisions

    pub every→each : (t : Tree) → Every P t → Each P (decisions t)
    every→each (end p) h = tt
    every→each (chance f) h = every→each_all f h
    every→each (decide j k f) h = (h.0, every→each_all f h.1)

    every→each_all : (f : Trees) → EveryAll P f → Each P (decisions_all f)
    every→each_all nil h = tt
    every→each_all (cons t f) h = each_append (decisions t) (decisions_all f) (every→each t h.0) (every→each_all f h.1)

  mutual
    unfolding Every Each decisions

    pub each→every : (t : Tree) → Each P (decisions t) → Every P t
    each→every (end p) h = tt
    each→every (chance f) h = each→every_all f h
    each→every (decide j k f) h = (h.0, each→every_all f h.1)

    each→every_all : (f : Trees) → Each P (decisions_all f) → EveryAll P f
    each→every_all nil h = tt
    each→every_all (cons t f) h = (each→every t (each_left (decisions t) (decisions_all f) h), each→every_all f (each_right (decisions t) (decisions_all f) h))

  -- the sets are among the decisions
  pub each_firsts : (front xs : List Decision) → Each P xs → Each P (firsts front xs)
  unfolding Each firsts
  each_firsts front [] h = tt
  each_firsts front (x ∷ xs) h = at (met x.0 x.1 front) (each_firsts (x ∷ front) xs h.1)
    where
      at : (b : Bool) → Each P (firsts (x ∷ front) xs) → Each P (cond b (firsts (x ∷ front) xs) (x ∷ firsts (x ∷ front) xs))
      at true g = g
      at false g = (h.0, g)

  pub every→sets : (t : Tree) → Every P t → Each P (sets t)
  unfolding sets
  every→sets t h = each_firsts [] (decisions t) (every→each t h)

module _ (P R : Property) (g : (j : ℕ) (k : Key) (n : ℕ) → P j k n → R j k n) where
  pub each_map : (xs : List Decision) → Each P xs → Each R xs
  unfolding Each
  each_map [] h = tt
  each_map (x ∷ xs) h = (g x.0 x.1 x.2 h.0, each_map xs h.1)

module _ (P R S : Property) (g : (j : ℕ) (k : Key) (n : ℕ) → P j k n → R j k n → S j k n) where
  pub each_both : (xs : List Decision) → Each P xs → Each R xs → Each S xs
  unfolding Each
  each_both [] h f = tt
  each_both (x ∷ xs) h f = (g x.0 x.1 x.2 h.0 f.0, each_both xs h.1 f.1)

-- ---- the test of a set
pub clash : (b : Bool) → b ≡ true → b ≡ false → ⊥
clash b p q = let z : ◌≡◌ {A = ℕ} 0 1 = cc in omega arith

pub is_of_seat : (j : ℕ) (k : Key) (x : Decision) → is_of j k x ≡ true → x.0 ≡ j
unfolding is_of
is_of_seat j k x e = at (tested (eqb x.0 j))
  where
    at : Tested (eqb x.0 j) → x.0 ≡ j
    at (is w) = eqb_is x.0 j w
    at (isn't w) = absurd (clash (cond (eqb x.0 j) (same x.1 k) false) e (rw w refl))

pub is_of_key : (j : ℕ) (k : Key) (x : Decision) → is_of j k x ≡ true → x.1 ≡ k
unfolding is_of
is_of_key j k x e = at (tested (eqb x.0 j))
  where
    at : Tested (eqb x.0 j) → x.1 ≡ k
    at (is w) = same→eq x.1 k (T_of (rw w at e))
    at (isn't w) = absurd (clash (cond (eqb x.0 j) (same x.1 k) false) e (rw w refl))

pub is_of_self : (x : Decision) → is_of x.0 x.1 x ≡ true
unfolding is_of
is_of_self x = rw (eqb_self x.0) (same_self x.1)

-- a decision is of another's set where that one is of its own
pub is_of_sym : (x y : Decision) → is_of x.0 x.1 y ≡ false → is_of y.0 y.1 x ≡ false
is_of_sym x y e = at (tested (is_of y.0 y.1 x))
  where
    at : Tested (is_of y.0 y.1 x) → is_of y.0 y.1 x ≡ false
    at (is w) = absurd (clash (is_of x.0 x.1 y) (ap₂ (λ j k. is_of j k y) (is_of_seat y.0 y.1 x w) (is_of_key y.0 y.1 x w) ∙ is_of_self y) e)
    at (isn't w) = w

-- ---- what is met
module _ (j : ℕ) (k : Key) where
  pub met_here : (x : Decision) (xs : List Decision) → is_of j k x ≡ true → met j k (x ∷ xs) ≡ true
  unfolding met
  met_here x xs e = rw e

  pub met-later : (x : Decision) (xs : List Decision) → met j k xs ≡ true → met j k (x ∷ xs) ≡ true
  unfolding met
  met-later x xs e = at (is_of j k x)
    where
      at : (b : Bool) → cond b true (met j k xs) ≡ true
      at true = refl
      at false = e

  pub met_past : (x : Decision) (xs : List Decision) → is_of j k x ≡ false → met j k (x ∷ xs) ≡ met j k xs
  unfolding met
  met_past x xs e = rw e

  pub not_here : (x : Decision) (xs : List Decision) → met j k (x ∷ xs) ≡ false → is_of j k x ≡ false
  not_here x xs e = at (tested (is_of j k x))
    where
      at : Tested (is_of j k x) → is_of j k x ≡ false
      at (is w) = absurd (clash (met j k (x ∷ xs)) (met_here x xs w) e)
      at (isn't w) = w

  -- what is not met differs from each
  pub unmet : (xs : List Decision) → met j k xs ≡ false → (n : ℕ) → Each (λ i l m. is_of i l (j, k, n) ≡ false) xs
  unfolding Each
  unmet [] e n = tt
  unmet (x ∷ xs) e n = let w : is_of j k x ≡ false = not_here x xs e in (is_of_sym (j, k, n) x w, unmet xs (sym (met_past x xs w) ∙ e) n)

each_met : (xs : List Decision) → Each (λ j k n. met j k xs ≡ true) xs
unfolding Each
each_met [] = tt
each_met (x ∷ xs) = (
  met_here x.0 x.1 x xs (is_of_self x),
  each_map (λ j k n. met j k xs ≡ true) (λ j k n. met j k (x ∷ xs) ≡ true) (λ j k n e. met-later j k x xs e) xs (each_met xs),
)

-- ---- each set once
unfoldable pub Distinct : List Decision → Type 0
Distinct [] = Unit {0}
Distinct (x ∷ xs) = (met x.0 x.1 xs ≡ false) × Distinct xs

firsts_past : (j : ℕ) (k : Key) (front xs : List Decision) → met j k front ≡ true → met j k (firsts front xs) ≡ false
unfolding firsts met
firsts_past j k front [] e = refl
firsts_past j k front (x ∷ xs) e = at (tested (met x.0 x.1 front)) (firsts_past j k (x ∷ front) xs (met-later j k x front e))
  where
    other : met x.0 x.1 front ≡ false → Tested (is_of j k x) → is_of j k x ≡ false
    other w (is v) = absurd (clash (met j k front) e (ap₂ (λ i l. met i l front) (sym (is_of_seat j k x v)) (sym (is_of_key j k x v)) ∙ w))
    other w (isn't v) = v

    at : Tested (met x.0 x.1 front) → met j k (firsts (x ∷ front) xs) ≡ false
        → met j k (cond (met x.0 x.1 front) (firsts (x ∷ front) xs) (x ∷ firsts (x ∷ front) xs)) ≡ false
    at (is w) h = rw w h
    at (isn't w) h = rw w (met_past j k x (firsts (x ∷ front) xs) (other w (tested (is_of j k x))) ∙ h)

firsts_distinct : (front xs : List Decision) → Distinct (firsts front xs)
unfolding Distinct firsts
firsts_distinct front [] = tt
firsts_distinct front (x ∷ xs) = at (met x.0 x.1 front) (firsts_distinct (x ∷ front) xs)
  where
    at : (b : Bool) → Distinct (firsts (x ∷ front) xs) → Distinct (cond b (firsts (x ∷ front) xs) (x ∷ firsts (x ∷ front) xs))
    at true h = h
    at false h = (firsts_past x.0 x.1 (x ∷ front) xs (met_here x.0 x.1 x front (is_of_self x)), h)

pub sets_distinct : (t : Tree) → Distinct (sets t)
unfolding sets
sets_distinct t = firsts_distinct [] (decisions t)

-- ---- a set that stands in the list, with n actions
abbrev pub Either : Bool → Type 0 → Type 0 → Type 0
Either true P Q = P
Either false P Q = Q

unfoldable pub Stands : ℕ → Key → ℕ → List Decision → Type 0
Stands j k n [] = ⊥
Stands j k n (x ∷ xs) = Either (is_of j k x) (x.2 ≡ n) (Stands j k n xs)

module _ (A : ℕ → Key → ℕ) (j : ℕ) (k : Key) where
  firsts-stand : (front xs : List Decision) → Each (λ i l n. n ≡ A i l) xs → met j k xs ≡ true → met j k front ≡ false → Stands j k (A j k) (firsts front xs)
  unfolding Each firsts Stands met
  firsts-stand front [] h e f = absurd (clash false e refl)
  firsts-stand front (x ∷ xs) h e f = at (tested (is_of j k x)) (λ w. firsts-stand (x ∷ front) xs h.1 (sym (met_past j k x xs w) ∙ e) (met_past j k x front w ∙ f))
    where
      new : is_of j k x ≡ true → met x.0 x.1 front ≡ false
      new w = ap₂ (λ i l. met i l front) (is_of_seat j k x w) (is_of_key j k x w) ∙ f

      older : (b : Bool) → is_of j k x ≡ false → Stands j k (A j k) (firsts (x ∷ front) xs) → Stands j k (A j k) (cond b (firsts (x ∷ front) xs) (x ∷ firsts (x ∷ front) xs))
      older true w g = g
      older false w g = rw w g

      at : Tested (is_of j k x) → (is_of j k x ≡ false → Stands j k (A j k) (firsts (x ∷ front) xs))
          → Stands j k (A j k) (cond (met x.0 x.1 front) (firsts (x ∷ front) xs) (x ∷ firsts (x ∷ front) xs))
      at (is w) g = rw (new w) (rw w (h.0 ∙ ap₂ A (is_of_seat j k x w) (is_of_key j k x w)))
      at (isn't w) g = older (met x.0 x.1 front) w (g w)

-- each decision's set stands among the sets, with its number of actions
pub sets-stand : (t : Tree) → SameActions t → Every (λ j k n. Stands j k n (sets t)) t
unfolding sets met
sets-stand t (A, h) = each→every (λ j k n. Stands j k n (sets t)) t
    (each_both (λ j k n. n ≡ A j k) (λ j k n. met j k (decisions t) ≡ true) (λ j k n. Stands j k n (sets t))
    (λ j k n e m. rw e (firsts-stand A j k [] (decisions t) (every→each (λ j k n. n ≡ A j k) t h) m refl))
    (decisions t) (every→each (λ j k n. n ≡ A j k) t h) (each_met (decisions t)))

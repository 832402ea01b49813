-- Lists in which nothing stands twice: two with the same members are as long as one another; the sets of a tree are such a list, with the decisions for members. Nothing is assumed.
use mathlib.Core.Path.{◌≡◌, refl, sym, ap, ◌∙◌}
use mathlib.Core.Logic.{◌⊎◌, inl, inr}
use mathlib.Core.Bool.{Bool, true, false, cond}
use mathlib.Core.List.{List, [], ◌∷◌, ◌++◌}
use Prim.Native.Nat.{ℕ, suc, ◌≤◌, zero-le}
use native.Mathlib.Nat as NatL
use native.Mathlib.Omega.{arith}
use lib.ListN.{length}
use Rattle.game_tree.specs.Tree.{Key, Tree}
use Rattle.game_tree.specs.Conditions.{Every}
use Rattle.game_tree.specs.Sets.{Decision, decisions, is_of, met, firsts, sets}
use Rattle.game_tree.specs.Shape.{SameActions}
use Rattle.game_tree.proofs.Tests.{Tested, is, isn't, tested}
use Rattle.game_tree.proofs.Sets.{Property, Each, every→each, each→every, clash, is_of_seat, is_of_key, is_of_self, met_here, met-later, Distinct, sets_distinct, Stands, sets-stand}

-- ---- membership
-- x stands in the list
unfoldable pub In : {A : Type 0} → A → List A → Type 0
In x [] = ⊥
In x (y ∷ ys) = (y ≡ x) ⊎ In x ys

pub in_left : {A : Type 0} (x : A) (xs ys : List A) → In x xs → In x (xs ++ ys)
unfolding In
in_left x [] ys m = absurd m
in_left x (y ∷ xs) ys (inl e) = inl e
in_left x (y ∷ xs) ys (inr m) = inr (in_left x xs ys m)

pub in_right : {A : Type 0} (x : A) (xs ys : List A) → In x ys → In x (xs ++ ys)
unfolding In
in_right x [] ys m = m
in_right x (y ∷ xs) ys m = inr (in_right x xs ys m)

pub in_append : {A : Type 0} (x : A) (xs ys : List A) → In x (xs ++ ys) → In x xs ⊎ In x ys
unfolding In
in_append x [] ys m = inr m
in_append x (y ∷ xs) ys (inl e) = inl (inl e)
in_append x (y ∷ xs) ys (inr m) = at (in_append x xs ys m)
  where
    at : In x xs ⊎ In x ys → ((y ≡ x) ⊎ In x xs) ⊎ In x ys
    at (inl q) = inl (inr q)
    at (inr q) = inr q

-- ---- nothing twice
unfoldable pub Once : {A : Type 0} → List A → Type 0
Once [] = Unit {0}
Once (x ∷ xs) = (In x xs → ⊥) × Once xs

pub once_append : {A : Type 0} (xs ys : List A) → Once xs → Once ys → ((x : A) → In x xs → In x ys → ⊥) → Once (xs ++ ys)
unfolding Once In
once_append [] ys d e f = e
once_append (x ∷ xs) ys d e f = (λ m. at (in_append x xs ys m), once_append xs ys d.1 e (λ y m w. f y (inr m) w))
  where
    at : In x xs ⊎ In x ys → ⊥
    at (inl q) = d.0 q
    at (inr q) = f x (inl refl) q

-- one member out
module _ {A : Type 0} (x : A) where
  unfoldable out : (ys : List A) → In x ys → List A
  unfolding In
  out [] m = []
  out (y ∷ ys) (inl e) = ys
  out (y ∷ ys) (inr m) = y ∷ out ys m

  out-length : (ys : List A) (m : In x ys) → suc (length (out ys m)) ≡ length ys
  unfolding In out
  out-length [] m = absurd m
  out-length (y ∷ ys) (inl e) = refl
  out-length (y ∷ ys) (inr m) = ap suc (out-length ys m)

  out_in : (z : A) (ys : List A) (m : In x ys) → In z ys → (x ≡ z) ⊎ In z (out ys m)
  unfolding In out
  out_in z [] m w = absurd m
  out_in z (y ∷ ys) (inl e) (inl q) = inl (sym e ∙ q)
  out_in z (y ∷ ys) (inl e) (inr q) = inr q
  out_in z (y ∷ ys) (inr m) (inl q) = inr (inl q)
  out_in z (y ∷ ys) (inr m) (inr q) = at (out_in z ys m q)
    where
      at : (x ≡ z) ⊎ In z (out ys m) → (x ≡ z) ⊎ ((y ≡ z) ⊎ In z (out ys m))
      at (inl w) = inl w
      at (inr w) = inr (inr w)

once_le : {A : Type 0} (xs ys : List A) → Once xs → ((x : A) → In x xs → In x ys) → length xs ≤ length ys
unfolding Once In
once_le [] ys d f = zero-le
once_le {A} (x ∷ xs) ys d f = omega (
  arith,
  out-length x ys (f x (inl refl)),
  once_le xs (out x ys (f x (inl refl))) d.1 (λ z w. at z w (out_in x z ys (f x (inl refl)) (f z (inr w)))),
)
  where
    at : (z : A) → In z xs → (x ≡ z) ⊎ In z (out x ys (f x (inl refl))) → In z (out x ys (f x (inl refl)))
    at z w (inl e) = absurd (d.0 (rw e w))
    at z w (inr e) = e

pub once_length : {A : Type 0} (xs ys : List A) → Once xs → Once ys → ((x : A) → In x xs → In x ys) → ((x : A) → In x ys → In x xs) → length xs ≡ length ys
once_length xs ys d e f g = NatL.le_antisymm (once_le xs ys d f) (once_le ys xs e g)

-- ---- the sets of a tree
pub each_in : (P : Property) (xs : List Decision) → Each P xs → (x : Decision) → In x xs → P x.0 x.1 x.2
unfolding Each In
each_in P [] h x m = absurd m
each_in P (y ∷ xs) h x (inl e) = rw e at h.0
each_in P (y ∷ xs) h x (inr m) = each_in P xs h.1 x m

-- ---- all decisions of a tree, one by one
-- a property of each decision of a list, and of each that stands in it
in→each : (P : ℕ → Key → ℕ → Type 0) (xs : List Decision) → ((x : Decision) → In x xs → P x.0 x.1 x.2) → Each P xs
unfolding Each In
in→each P [] h = tt
in→each P (x ∷ xs) h = (h x (inl refl), in→each P xs (λ y m. h y (inr m)))

pub every_in : (P : ℕ → Key → ℕ → Type 0) (t : Tree) → Every P t → (x : Decision) → In x (decisions t) → P x.0 x.1 x.2
every_in P t h x m = each_in P (decisions t) (every→each P t h) x m

pub in_every : (P : ℕ → Key → ℕ → Type 0) (t : Tree) → ((x : Decision) → In x (decisions t) → P x.0 x.1 x.2) → Every P t
in_every P t h = each→every P t (in→each P (decisions t) h)

pub in_met : (x : Decision) (xs : List Decision) → In x xs → met x.0 x.1 xs ≡ true
unfolding In
in_met x [] m = absurd m
in_met x (y ∷ xs) (inl e) = met_here x.0 x.1 y xs (ap (is_of x.0 x.1) e ∙ is_of_self x)
in_met x (y ∷ xs) (inr m) = met-later x.0 x.1 y xs (in_met x xs m)

distinct_once : (xs : List Decision) → Distinct xs → Once xs
unfolding Distinct Once
distinct_once [] d = tt
distinct_once (x ∷ xs) d = ((λ m. clash (met x.0 x.1 xs) (in_met x xs m) d.0), distinct_once xs d.1)

-- no set twice
pub sets_once : (t : Tree) → Once (sets t)
sets_once t = distinct_once (sets t) (sets_distinct t)

pub firsts_in : (front xs : List Decision) (x : Decision) → In x (firsts front xs) → In x xs
unfolding firsts In
firsts_in front [] x m = m
firsts_in front (y ∷ xs) x m = at (met y.0 y.1 front) m (λ w. firsts_in (y ∷ front) xs x w)
  where
    at : (b : Bool) → In x (cond b (firsts (y ∷ front) xs) (y ∷ firsts (y ∷ front) xs)) → (In x (firsts (y ∷ front) xs) → In x xs) → (y ≡ x) ⊎ In x xs
    at true w f = inr (f w)
    at false (inl e) f = inl e
    at false (inr w) f = inr (f w)

-- a set is a decision
pub sets_in : (t : Tree) (x : Decision) → In x (sets t) → In x (decisions t)
unfolding sets
sets_in t x m = firsts_in [] (decisions t) x m

stands_in : (j : ℕ) (k : Key) (n : ℕ) (xs : List Decision) → Stands j k n xs → In (j, k, n) xs
unfolding Stands In
stands_in j k n [] h = h
stands_in j k n (x ∷ xs) h = at (tested (is_of j k x)) (λ w. stands_in j k n xs w)
  where
    at : Tested (is_of j k x) → (Stands j k n xs → In (j, k, n) xs) → (x ≡ (j, k, n)) ⊎ In (j, k, n) xs
    at (is e) f = let q : x.2 ≡ n = rw e at h in inl (λ d. (is_of_seat j k x e d, is_of_key j k x e d, q d))
    at (isn't e) f = inr (f (rw e at h))

-- a decision's set is one
pub in_sets : (t : Tree) → SameActions t → (x : Decision) → In x (decisions t) → In x (sets t)
in_sets t h x m = stands_in x.0 x.1 x.2 (sets t)
    (each_in (λ j k n. Stands j k n (sets t)) (decisions t) (every→each (λ j k n. Stands j k n (sets t)) t (sets-stand t h)) x m)

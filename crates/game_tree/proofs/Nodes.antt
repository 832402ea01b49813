-- Places of a list, two lists whose places go together, and the nodes of a tree. Assumes nothing.
use mathlib.Core.Path.{◌≡◌, refl, ap, ap₂, ◌∙◌}
use mathlib.Core.Logic.{inl, inr}
use mathlib.Core.List.{List, [], ◌∷◌, ◌++◌, map}
use Prim.Native.Nat.{ℕ, zero, suc, ◌+◌, ◌<◌, zero-le, suc-le-suc}
use native.Mathlib.Nat as NatL
use lib.ListN.{length, get_or, length-append}
use Rattle.game_tree.specs.Tree.{Tree, end, chance, decide, Trees, nil, cons}
use Rattle.game_tree.specs.Sets.{size, sizes}
use Rattle.game_tree.specs.Nodes.{nodes, nodes_all}
use Rattle.game_tree.proofs.Counting.{In}

-- ---- places of a list
pub at_place : {A : Type 0} (xs : List A) (a : ℕ) (d : A) → a < length xs → In (get_or xs a d) xs
unfolding In
at_place [] a d l = absurd (NatL.not-suc-le-zero l)
at_place (x ∷ xs) zero d l = inl refl
at_place (x ∷ xs) (suc a) d l = inr (at_place xs a d (NatL.le_of_suc-le-suc l))

pub place_of : {A : Type 0} (xs : List A) (x d : A) → In x xs → (a : ℕ) × (a < length xs) × (get_or xs a d ≡ x)
unfolding In
place_of [] x d w = absurd w
place_of (y ∷ xs) x d (inl e) = (0, suc-le-suc zero-le, e)
place_of (y ∷ xs) x d (inr w) = let (a, l, e) = place_of xs x d w in (suc a, suc-le-suc l, e)

pub in_map : {A B : Type 0} (f : A → B) (x : A) (xs : List A) → In x xs → In (f x) (map f xs)
unfolding In
in_map f x [] w = absurd w
in_map f x (y ∷ xs) (inl e) = inl (ap f e)
in_map f x (y ∷ xs) (inr w) = inr (in_map f x xs w)

-- ---- two lists as long as one another, and R holds of what stands at the same place
module _ {A B : Type 0} (R : A → B → Type 0) where
  unfoldable pub Along : List A → List B → Type 0
  Along [] [] = Unit {0}
  Along [] (y ∷ ys) = ⊥
  Along (x ∷ xs) [] = ⊥
  Along (x ∷ xs) (y ∷ ys) = R x y × Along xs ys

  pub along_append : (xs : List A) (ys : List B) (us : List A) (vs : List B) → Along xs ys → Along us vs → Along (xs ++ us) (ys ++ vs)
  unfolding Along
  along_append [] [] us vs h k = k
  along_append [] (y ∷ ys) us vs h k = absurd h
  along_append (x ∷ xs) [] us vs h k = absurd h
  along_append (x ∷ xs) (y ∷ ys) us vs (r, h) k = (r, along_append xs ys us vs h k)

  pub along-length : (xs : List A) (ys : List B) → Along xs ys → length ys ≡ length xs
  unfolding Along
  along-length [] [] h = refl
  along-length [] (y ∷ ys) h = absurd h
  along-length (x ∷ xs) [] h = absurd h
  along-length (x ∷ xs) (y ∷ ys) (r, h) = ap suc (along-length xs ys h)

  pub along_at : (xs : List A) (ys : List B) → Along xs ys → (a : ℕ) (d : A) (e : B) → a < length xs → R (get_or xs a d) (get_or ys a e)
  unfolding Along
  along_at [] ys h a d e l = absurd (NatL.not-suc-le-zero l)
  along_at (x ∷ xs) [] h a d e l = absurd h
  along_at (x ∷ xs) (y ∷ ys) (r, h) zero d e l = r
  along_at (x ∷ xs) (y ∷ ys) (r, h) (suc a) d e l = along_at xs ys h a d e (NatL.le_of_suc-le-suc l)

-- ---- a tree has as many nodes as its size says
mutual
  unfolding nodes size

  pub length-nodes : (t : Tree) → length (nodes t) ≡ size t
  length-nodes (end p) = refl
  length-nodes (chance f) = ap suc (length-nodes_all f)
  length-nodes (decide j k f) = ap suc (length-nodes_all f)

  length-nodes_all : (f : Trees) → length (nodes_all f) ≡ sizes f
  length-nodes_all nil = refl
  length-nodes_all (cons t f) = length-append (nodes t) (nodes_all f) ∙ ap₂ ◌+◌ (length-nodes t) (length-nodes_all f)

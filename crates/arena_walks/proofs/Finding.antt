-- Where the members of a set stand. Assumes nothing.
use mathlib.Core.Path.{◌≡◌, refl, sym, ap, ap₂, ◌∙◌}
use mathlib.Core.Logic.{inl, inr}
use mathlib.Core.Bool.{Bool, true, false, cond}
use mathlib.Core.List.{List, [], ◌∷◌, ◌++◌, map, map-append}
use Prim.Native.Nat.{ℕ, suc, ◌+◌, ◌≤◌, ◌<◌}
use native.Mathlib.Nat as NatL
use native.Mathlib.Omega.{arith}
use lib.Dec.{eqb}
use lib.ListN.{length}
use Rattle.game_tree.specs.Tree.{Key, Tree, end, chance, decide, Trees, nil, cons, fan}
use Rattle.game_tree.specs.Reply.{same}
use Rattle.game_tree.specs.Sets.{size, preorder, preorder_all, decides, numbers}
use Rattle.game_tree.proofs.Sets.{preorder-length}
use Rattle.game_tree.proofs.Counting.{In}
use Rattle.arena_walks.specs.internal.Found.{Member, found, found_all}

numbers_append : (j : ℕ) (k : Key) (ts us : List Tree) (a : ℕ) → numbers j k a (ts ++ us) ≡ numbers j k a ts ++ numbers j k (a + length ts) us
unfolding numbers
numbers_append j k [] us a = ap (λ n. numbers j k n us) (sym (NatL.add-zero a))
numbers_append j k (t ∷ ts) us a = at (decides j k t) (numbers_append j k ts us (suc a) ∙ ap (λ n. numbers j k (suc a) ts ++ numbers j k n us) (omega arith))
  where
    at : (b : Bool) → numbers j k (suc a) (ts ++ us) ≡ numbers j k (suc a) ts ++ numbers j k (a + suc (length ts)) us
        → cond b (a ∷ numbers j k (suc a) (ts ++ us)) (numbers j k (suc a) (ts ++ us))
        ≡ cond b (a ∷ numbers j k (suc a) ts) (numbers j k (suc a) ts) ++ numbers j k (a + suc (length ts)) us
    at true e = ap (λ l. a ∷ l) e
    at false e = e

-- ---- the places
abbrev pub places : {W : Type 0} → List (Member W) → List ℕ
places ms = map (λ m. m.0) ms

module _ {W : Type 0} (deal : W → ℕ → W) (move : W → ℕ → Key → ℕ → W) (i : ℕ) (k : Key) where
  mutual
    unfolding found preorder numbers decides

    -- the members stand at the numbers of the set's nodes
    pub places_found : (t : Tree) (a : ℕ) (u : W) → places (found deal move i k a u t) ≡ numbers i k a (preorder t)
    places_found (end p) a u = refl
    places_found (chance f) a u = places_found_all f (suc a) (λ x. deal u (fan f)) 0
    places_found (decide j l f) a u = at (cond (eqb j i) (same l k) false) (places_found_all f (suc a) (move u j l) 0)
      where
        at : (b : Bool) → places (found_all deal move i k (suc a) (move u j l) 0 f) ≡ numbers i k (suc a) (preorder_all f)
            → places (cond b ((a, u, f) ∷ found_all deal move i k (suc a) (move u j l) 0 f) (found_all deal move i k (suc a) (move u j l) 0 f))
            ≡ cond b (a ∷ numbers i k (suc a) (preorder_all f)) (numbers i k (suc a) (preorder_all f))
        at true e = ap (λ l. a ∷ l) e
        at false e = e

    places_found_all : (f : Trees) (a : ℕ) (g : ℕ → W) (x : ℕ) → places (found_all deal move i k a g x f) ≡ numbers i k a (preorder_all f)
    places_found_all nil a g x = refl
    places_found_all (cons t f) a g x = map-append (λ (m : Member W). m.0) (found deal move i k a (g x) t) (found_all deal move i k (a + size t) g (suc x) f)
        ∙ ap₂ ◌++◌ (places_found t a (g x)) (places_found_all f (a + size t) g (suc x))
        ∙ ap (λ n. numbers i k a (preorder t) ++ numbers i k (a + n) (preorder_all f)) (sym (preorder-length t))
        ∙ sym (numbers_append i k (preorder t) (preorder_all f) a)

-- ---- each place is below those behind it
unfoldable pub Rising : List ℕ → Type 0
Rising [] = Unit {0}
Rising (a ∷ l) = ((b : ℕ) → In b l → a < b) × Rising l

numbers_from : (j : ℕ) (y : Key) (a : ℕ) (ts : List Tree) (b : ℕ) → In b (numbers j y a ts) → a ≤ b
unfolding numbers In
numbers_from j y a [] b m = absurd m
numbers_from j y a (t ∷ ts) b m = at (decides j y t) m (λ o. numbers_from j y (suc a) ts b o)
  where
    at : (x : Bool) → In b (cond x (a ∷ numbers j y (suc a) ts) (numbers j y (suc a) ts)) → (In b (numbers j y (suc a) ts) → suc a ≤ b) → a ≤ b
    at true (inl e) f = NatL.le_of_eq e
    at true (inr o) f = omega (arith, f o)
    at false o f = omega (arith, f o)

pub numbers_rise : (j : ℕ) (y : Key) (a : ℕ) (ts : List Tree) → Rising (numbers j y a ts)
unfolding numbers Rising
numbers_rise j y a [] = tt
numbers_rise j y a (t ∷ ts) = at (decides j y t) (numbers_rise j y (suc a) ts)
  where
    at : (x : Bool) → Rising (numbers j y (suc a) ts) → Rising (cond x (a ∷ numbers j y (suc a) ts) (numbers j y (suc a) ts))
    at true r = ((λ b o. numbers_from j y (suc a) ts b o), r)
    at false r = r

-- ---- a property of each member
module _ {W : Type 0} (P : Member W → Type 0) where
  unfoldable pub EachMember : List (Member W) → Type 0
  EachMember [] = Unit {0}
  EachMember (x ∷ xs) = P x × EachMember xs

  pub each_append : (xs ys : List (Member W)) → EachMember xs → EachMember ys → EachMember (xs ++ ys)
  unfolding EachMember
  each_append [] ys h g = g
  each_append (x ∷ xs) ys h g = (h.0, each_append xs ys h.1 g)

  pub each_cond : (x : Member W) (xs : List (Member W)) (b : Bool) → (b ≡ true → P x) → EachMember xs → EachMember (cond b (x ∷ xs) xs)
  unfolding EachMember
  each_cond x xs true h g = (h refl, g)
  each_cond x xs false h g = g

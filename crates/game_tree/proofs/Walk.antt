-- A walk over the nodes in their order: what it has passed, the sets it has met so far, and that their numbers, first entries and members stay. Nothing is assumed.
use mathlib.Core.Path.{◌≡◌, refl, sym, ap, ◌∙◌}
use mathlib.Core.Logic.{inl, inr}
use mathlib.Core.Bool.{Bool, true, false, cond}
use mathlib.Core.List.{List, [], ◌∷◌, ◌++◌}
use Prim.Native.Nat.{ℕ, suc, ◌+◌}
use native.Mathlib.Nat as NatL
use lib.ListN.{length}
use Rattle.game_tree.specs.Tree.{Key, Tree}
use Rattle.game_tree.specs.Sets.{Decision, is_of, met, firsts, before, decides, numbers}
use Rattle.game_tree.proofs.Tests.{Tested, is, isn't, tested}
use Rattle.game_tree.proofs.Sets.{clash, is_of_self, met_past, not_here}
use Rattle.game_tree.proofs.Counting.{In}

-- ---- the first decisions of two lists, one after the other
-- the decisions xs, passed and now in front
unfoldable pub passed : List Decision → List Decision → List Decision
passed [] front = front
passed (x ∷ xs) front = passed xs (x ∷ front)

pub firsts_append : (front xs ys : List Decision) → firsts front (xs ++ ys) ≡ firsts front xs ++ firsts (passed xs front) ys
unfolding firsts passed
firsts_append front [] ys = refl
firsts_append front (x ∷ xs) ys = at (met x.0 x.1 front) (firsts_append (x ∷ front) xs ys)
  where
    at : (b : Bool) → firsts (x ∷ front) (xs ++ ys) ≡ firsts (x ∷ front) xs ++ firsts (passed xs (x ∷ front)) ys
        → cond b (firsts (x ∷ front) (xs ++ ys)) (x ∷ firsts (x ∷ front) (xs ++ ys)) ≡ cond b (firsts (x ∷ front) xs) (x ∷ firsts (x ∷ front) xs) ++ firsts (passed xs (x ∷ front)) ys
    at true e = e
    at false e = ap (λ l. x ∷ l) e

pub met_passed : (j : ℕ) (k : Key) (xs front : List Decision) → met j k (passed xs front) ≡ cond (met j k xs) true (met j k front)
unfolding passed met
met_passed j k [] front = refl
met_passed j k (x ∷ xs) front = met_passed j k xs (x ∷ front) ∙ at (is_of j k x) (met j k xs) (met j k front)
  where
    at : (b c d : Bool) → cond c true (cond b true d) ≡ cond (cond b true c) true d
    at true true d = refl
    at true false d = refl
    at false true d = refl
    at false false d = refl

pub met_in : (j : ℕ) (k : Key) (xs : List Decision) → met j k xs ≡ true → (x : Decision) × In x xs × (is_of j k x ≡ true)
unfolding met In
met_in j k [] e = absurd (clash false e refl)
met_in j k (x ∷ xs) e = at (tested (is_of j k x)) (λ w. met_in j k xs w)
  where
    at : Tested (is_of j k x) → (met j k xs ≡ true → (y : Decision) × In y xs × (is_of j k y ≡ true)) → (y : Decision) × In y (x ∷ xs) × (is_of j k y ≡ true)
    at (is w) f = (x, inl refl, w)
    at (isn't w) f = let (y, a, b) = f (sym (met_past j k x xs w) ∙ e) in (y, inr a, b)

-- ---- a set met once keeps its place
module _ (j : ℕ) (k : Key) where
  -- the next new set stands behind those so far
  pub before_new : (n : ℕ) (xs ys : List Decision) → met j k xs ≡ false → before j k (xs ++ (j, k, n) ∷ ys) ≡ xs
  unfolding before
  before_new n [] ys e = rw (is_of_self (j, k, n))
  before_new n (x ∷ xs) ys e = let w : is_of j k x ≡ false = not_here j k x xs e in
      rw w (ap (λ l. x ∷ l) (before_new n xs ys (sym (met_past j k x xs w) ∙ e)))

  -- later sets change nothing for those so far
  pub before_append : (xs ys : List Decision) → met j k xs ≡ true → before j k (xs ++ ys) ≡ before j k xs
  unfolding before met
  before_append [] ys e = absurd (clash false e refl)
  before_append (x ∷ xs) ys e = at (tested (is_of j k x)) (λ w. before_append xs ys w)
    where
      at : Tested (is_of j k x) → (met j k xs ≡ true → before j k (xs ++ ys) ≡ before j k xs)
          → cond (is_of j k x) [] (x ∷ before j k (xs ++ ys)) ≡ cond (is_of j k x) [] (x ∷ before j k xs)
      at (is w) f = rw w
      at (isn't w) f = rw w (ap (λ l. x ∷ l) (f (sym (met_past j k x xs w) ∙ e)))

  -- the members among more nodes are those so far, and then the later ones
  pub numbers_append : (a : ℕ) (ts us : List Tree) → numbers j k a (ts ++ us) ≡ numbers j k a ts ++ numbers j k (a + length ts) us
  unfolding numbers
  numbers_append a [] us = ap (λ b. numbers j k b us) (sym (NatL.add-zero a))
  numbers_append a (t ∷ ts) us = at (decides j k t) (numbers_append (suc a) ts us ∙ ap (λ b. numbers j k (suc a) ts ++ numbers j k b us) (NatL.suc-add a (length ts) ∙ sym (NatL.add-suc a (length ts))))
    where
      at : (b : Bool) → numbers j k (suc a) (ts ++ us) ≡ numbers j k (suc a) ts ++ numbers j k (a + suc (length ts)) us
          → cond b (a ∷ numbers j k (suc a) (ts ++ us)) (numbers j k (suc a) (ts ++ us))
          ≡ cond b (a ∷ numbers j k (suc a) ts) (numbers j k (suc a) ts) ++ numbers j k (a + suc (length ts)) us
      at true e = ap (λ l. a ∷ l) e
      at false e = e

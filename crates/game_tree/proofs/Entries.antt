-- First entries on a walk over the decisions: a new set's is the number of entries so far, it lies inside the table, and no two sets share one. Nothing is assumed.
use mathlib.Core.Path.{◌≡◌, refl, sym, ap, ◌∙◌}
use mathlib.Core.Bool.{Bool, true, false, cond}
use mathlib.Core.List.{List, [], ◌∷◌, ◌++◌, append-nil}
use Prim.Native.Nat.{ℕ, ◌+◌, ◌≤◌, ◌<◌}
use native.Mathlib.Omega.{arith}
use Rattle.game_tree.specs.Sums.{sumℕ}
use Rattle.game_tree.specs.Tree.{Key, Tree}
use Rattle.game_tree.specs.Conditions.{Every}
use Rattle.game_tree.specs.Sets.{Decision, decisions, is_of, met, firsts, sets, before, entries_of, entries, first_entry}
use Rattle.game_tree.proofs.Tests.{Tested, is, isn't, tested}
use Rattle.game_tree.proofs.Sums.{sumℕ_append}
use Rattle.game_tree.proofs.Sets.{Each, every→sets, clash, is_of_seat, is_of_key, met_here, met_past, met-later}
use Rattle.game_tree.proofs.Counting.{In, firsts_in, in_met}
use Rattle.game_tree.proofs.Walk.{passed, firsts_append, met_passed, met_in, before_new}

pub entries_of_append : (xs ys : List Decision) → entries_of (xs ++ ys) ≡ entries_of xs + entries_of ys
unfolding entries_of
entries_of_append xs ys = sumℕ_append (λ x. x.2) xs ys

pub met_append : (j : ℕ) (k : Key) (xs ys : List Decision) → met j k (xs ++ ys) ≡ cond (met j k xs) true (met j k ys)
unfolding met
met_append j k [] ys = refl
met_append j k (x ∷ xs) ys = at (is_of j k x) (met_append j k xs ys)
  where
    at : (b : Bool) → met j k (xs ++ ys) ≡ cond (met j k xs) true (met j k ys) → cond b true (met j k (xs ++ ys)) ≡ cond (cond b true (met j k xs)) true (met j k ys)
    at true e = refl
    at false e = e

-- decisions of one set are met together
pub met-alike : (x y : Decision) (xs : List Decision) → is_of x.0 x.1 y ≡ true → met x.0 x.1 xs ≡ met y.0 y.1 xs
met-alike x y xs e = rw (is_of_seat x.0 x.1 y e, is_of_key x.0 x.1 y e) refl

-- a walk passes no front at its start
met_from_start : (j : ℕ) (k : Key) (xs : List Decision) → met j k (passed xs []) ≡ met j k xs
unfolding met
met_from_start j k xs = met_passed j k xs [] ∙ at (met j k xs)
  where
    at : (b : Bool) → cond b true false ≡ b
    at true = refl
    at false = refl

pub firsts-again : (x : Decision) (xs : List Decision) → met x.0 x.1 xs ≡ true → firsts [] (xs ++ x ∷ []) ≡ firsts [] xs
unfolding firsts
firsts-again x xs e = firsts_append [] xs (x ∷ []) ∙ rw (met_from_start x.0 x.1 xs ∙ e) (append-nil (firsts [] xs))

pub firsts_new : (x : Decision) (xs ys : List Decision) → met x.0 x.1 xs ≡ false → firsts [] (xs ++ x ∷ ys) ≡ firsts [] xs ++ x ∷ firsts (x ∷ passed xs []) ys
unfolding firsts
firsts_new x xs ys e = firsts_append [] xs (x ∷ ys) ∙ rw (met_from_start x.0 x.1 xs ∙ e) refl

-- the first decisions have no set that the decisions lack
unmet-firsts : (j : ℕ) (k : Key) (xs : List Decision) → met j k xs ≡ false → met j k (firsts [] xs) ≡ false
unmet-firsts j k xs e = at (tested (met j k (firsts [] xs)))
  where
    at : Tested (met j k (firsts [] xs)) → met j k (firsts [] xs) ≡ false
    at (isn't w) = w
    at (is w) = let (y, m, q) = met_in j k (firsts [] xs) w in
        absurd (clash (met j k xs) (rw (is_of_seat j k y q, is_of_key j k y q) at (in_met y xs (firsts_in [] xs y m))) e)

-- a new set's first entry is the number of entries so far
pub entry_new : (t : Tree) (x : Decision) (xs ys : List Decision) → decisions t ≡ xs ++ x ∷ ys → met x.0 x.1 xs ≡ false → first_entry t x.0 x.1 ≡ entries_of (firsts [] xs)
unfolding sets
entry_new t x xs ys e w = ap (λ l. entries_of (before x.0 x.1 l)) (ap (firsts []) e ∙ firsts_new x xs ys w)
    ∙ ap entries_of (before_new x.0 x.1 x.2 (firsts [] xs) (firsts (x ∷ passed xs []) ys) (unmet-firsts x.0 x.1 xs w))

-- ---- sets with at least one action each
-- what stands before a set, and the set's own entries, are no more than all
before-inside : (j : ℕ) (k : Key) (xs : List Decision) → Each (λ i l a. 1 ≤ a) xs → met j k xs ≡ true → entries_of (before j k xs) < entries_of xs
unfolding entries_of before met Each sumℕ
before-inside j k [] h e = absurd (clash false e refl)
before-inside j k (x ∷ xs) h e = at (tested (is_of j k x)) (λ w. before-inside j k xs h.1 w)
  where
    at : Tested (is_of j k x) → (met j k xs ≡ true → entries_of (before j k xs) < entries_of xs) → entries_of (cond (is_of j k x) [] (x ∷ before j k xs)) < x.2 + entries_of xs
    at (is w) f = rw w (omega (arith, h.0))
    at (isn't w) f = rw w (let z : entries_of (before j k xs) < entries_of xs = f (sym (met_past j k x xs w) ∙ e) in omega arith)

-- where the same number of entries stands before two sets, these are one
before-apart : (x y : Decision) (xs : List Decision) → Each (λ i l a. 1 ≤ a) xs → met x.0 x.1 xs ≡ true → met y.0 y.1 xs ≡ true
    → entries_of (before x.0 x.1 xs) ≡ entries_of (before y.0 y.1 xs) → (x.0 ≡ y.0) × (x.1 ≡ y.1)
unfolding entries_of before met Each sumℕ
before-apart x y [] h e f q = absurd (clash false e refl)
before-apart x y (z ∷ zs) h e f q = at (tested (is_of x.0 x.1 z)) (tested (is_of y.0 y.1 z)) (λ u v w. before-apart x y zs h.1 u v w)
  where
    at : Tested (is_of x.0 x.1 z) → Tested (is_of y.0 y.1 z)
        → (met x.0 x.1 zs ≡ true → met y.0 y.1 zs ≡ true → entries_of (before x.0 x.1 zs) ≡ entries_of (before y.0 y.1 zs) → (x.0 ≡ y.0) × (x.1 ≡ y.1))
        → (x.0 ≡ y.0) × (x.1 ≡ y.1)
    at (is u) (is v) g = (sym (is_of_seat x.0 x.1 z u) ∙ is_of_seat y.0 y.1 z v, sym (is_of_key x.0 x.1 z u) ∙ is_of_key y.0 y.1 z v)
    at (is u) (isn't v) g = absurd (let w : 0 ≡ z.2 + entries_of (before y.0 y.1 zs) = rw (u, v) at q in omega (arith, h.0))
    at (isn't u) (is v) g = absurd (let w : z.2 + entries_of (before x.0 x.1 zs) ≡ 0 = rw (u, v) at q in omega (arith, h.0))
    at (isn't u) (isn't v) g = g (sym (met_past x.0 x.1 z zs u) ∙ e) (sym (met_past y.0 y.1 z zs v) ∙ f)
        (let w : z.2 + entries_of (before x.0 x.1 zs) ≡ z.2 + entries_of (before y.0 y.1 zs) = rw (u, v) at q in omega arith)

-- a set that is met, and not in front, is among the first decisions
firsts_meet : (j : ℕ) (k : Key) (front xs : List Decision) → met j k xs ≡ true → met j k front ≡ false → met j k (firsts front xs) ≡ true
unfolding firsts met
firsts_meet j k front [] e f = e
firsts_meet j k front (x ∷ xs) e f = at (tested (is_of j k x)) (tested (met x.0 x.1 front)) (λ u v. firsts_meet j k (x ∷ front) xs u v)
  where
    at : Tested (is_of j k x) → Tested (met x.0 x.1 front) → (met j k xs ≡ true → met j k (x ∷ front) ≡ false → met j k (firsts (x ∷ front) xs) ≡ true)
        → met j k (cond (met x.0 x.1 front) (firsts (x ∷ front) xs) (x ∷ firsts (x ∷ front) xs)) ≡ true
    at (is w) (is v) g = absurd (clash (met j k front) (rw (is_of_seat j k x w, is_of_key j k x w) at v) f)
    at (is w) (isn't v) g = rw v (met_here j k x (firsts (x ∷ front) xs) w)
    at (isn't w) (is v) g = rw v (g (sym (met_past j k x xs w) ∙ e) (met_past j k x front w ∙ f))
    at (isn't w) (isn't v) g = rw v (met-later j k x (firsts (x ∷ front) xs) (g (sym (met_past j k x xs w) ∙ e) (met_past j k x front w ∙ f)))

module _ (t : Tree) (h : Every (λ j k a. 1 ≤ a) t) where
  sets_meet : (x : Decision) → In x (decisions t) → met x.0 x.1 (sets t) ≡ true
  unfolding sets met
  sets_meet x m = firsts_meet x.0 x.1 [] (decisions t) (in_met x (decisions t) m) refl

  -- a set's first entry lies inside the table,
  pub entry-inside : (x : Decision) → In x (decisions t) → first_entry t x.0 x.1 < entries t
  entry-inside x m = before-inside x.0 x.1 (sets t) (every→sets (λ j k a. 1 ≤ a) t h) (sets_meet x m)

  -- and no two sets share one
  pub entry-apart : (x y : Decision) → In x (decisions t) → In y (decisions t) → first_entry t x.0 x.1 ≡ first_entry t y.0 y.1 → (x.0 ≡ y.0) × (x.1 ≡ y.1)
  entry-apart x y m n e = before-apart x y (sets t) (every→sets (λ j k a. 1 ≤ a) t h) (sets_meet x m) (sets_meet y n) e

-- The rule for the first node of a set, over an array that holds the cards of n seats. Assumes nothing.
use mathlib.Core.Path.{◌≡◌, refl, sym, ap, ◌∙◌}
use mathlib.Core.Bool.{Bool, true, false, not, ◌||◌, ◌&&◌}
use mathlib.Core.List.{List, [], ◌∷◌}
use Prim.Native.Nat.{ℕ, zero, suc, ◌≤◌}
use native.Mathlib.Nat.{zero-add}
use native.Mathlib.Omega.{arith}
use lib.Dec.{eqb}
use lib.ListN.{length, get_or, take}
use borrow.Author.Tests.{le-leb}
use Rattle.std.specs.List.{list_any, list_all, range_with_len}
use Rattle.std.proofs.lemmas.List.FromFn.{length-range_with_len, get_or-range_with_len}
use Rattle.prelude.proofs.Bytes.{has_any, some_any, or_is}
use Rattle.prelude.specs.Finite.{◌and◌, ◌or◌, some, every, has}
use Rattle.prelude.proofs.Tests.{some_same}
use Rattle.kuhn_rules.specs.Rules.{left}
use Rattle.kuhn_tree.specs.Order.{lowest_but, lowest}

-- ---- tests of each number below a bound
all_not : {A : Type 0} (p : A → Bool) (xs : List A) → list_all p xs ≡ not (list_any (λ x. not (p x)) xs)
all_not p [] = refl
all_not p (x ∷ xs) = at (p x) (all_not p xs)
  where
    at : (b : Bool) → list_all p xs ≡ not (list_any (λ y. not (p y)) xs) → (b && list_all p xs) ≡ not (not b || list_any (λ y. not (p y)) xs)
    at true e = e
    at false e = refl

every_not : (n : ℕ) (p : ℕ → Bool) → every n p ≡ not (some n (λ i. not (p i)))
unfolding every some ◌and◌ ◌or◌
every_not zero p = refl
every_not (suc n) p = ap (λ b. b and p n) (every_not n p) ∙ at (some n (λ i. not (p i))) (p n)
  where
    at : (a b : Bool) → (not a and b) ≡ not (a or not b)
    at true b = refl
    at false true = refl
    at false false = refl

pub any_below : (n : ℕ) (p : ℕ → Bool) → list_any p (range_with_len 0 n) ≡ some n p
any_below n p = sym (some_any p (range_with_len 0 n)) ∙ ap (λ k. some k (λ i. p (get_or (range_with_len 0 n) i 0))) (length-range_with_len 0 n)
    ∙ some_same n _ p (λ i l. ap p (get_or-range_with_len 0 n i 0 l ∙ zero-add i))

all_below : (n : ℕ) (p : ℕ → Bool) → list_all p (range_with_len 0 n) ≡ not (some n (λ i. not (p i)))
all_below n p = all_not p (range_with_len 0 n) ∙ ap not (any_below n (λ i. not (p i)))

-- ---- the rule, by the tests that the code makes
-- each card below seat q's is card x, or was dealt before
pub all_lowest : (cards : List ℕ) (x q : ℕ) → get_or cards q 0 ≤ length cards
    → list_all (λ y. eqb y x || list_any (λ b. eqb b y) (take q cards)) (range_with_len 0 (get_or cards q 0)) ≡ lowest_but (length cards) cards x q
unfolding lowest_but left ◌and◌
all_lowest cards x q w = all_below (get_or cards q 0) (λ y. eqb y x || list_any (λ b. eqb b y) (take q cards))
    ∙ ap not (some_same (get_or cards q 0) _ _ (λ y v. ap (λ b. not (eqb y x || b)) (sym (has_any y (take q cards)))
    ∙ at (eqb y x) (has y (take q cards)) ∙ ap (λ b. (b and not (has y (take q cards))) and not (eqb y x)) (sym (le-leb y (length cards) (omega arith)))))
  where
    at : (a b : Bool) → not (a || b) ≡ ((true and not b) and not a)
    at true true = refl
    at true false = refl
    at false true = refl
    at false false = refl

-- each seat is seat j, or has the lowest card
pub all_first : (cards : List ℕ) (j x : ℕ)
    → list_all (λ q. eqb q j || lowest_but (length cards) cards x q) (range_with_len 0 (length cards)) ≡ lowest (length cards) cards j x
unfolding lowest
all_first cards j x = all_below (length cards) _
    ∙ ap not (some_same (length cards) _ _ (λ q l. ap not (or_is (eqb q j) (lowest_but (length cards) cards x q))))
    ∙ sym (every_not (length cards) (λ q. eqb q j or lowest_but (length cards) cards x q))

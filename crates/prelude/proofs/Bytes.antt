-- The list functions of the library beside those of specs/. Assumes nothing.
use mathlib.Core.Path.{◌≡◌, refl, sym, ap, ap₂, ◌∙◌}
use mathlib.Core.Bool.{Bool, true, false, not, cond, ◌||◌}
use mathlib.Core.List.{List, [], ◌∷◌, ◌++◌, append-nil, map-id}
use Prim.Native.Nat.{ℕ, zero, suc, ◌+◌, ◌≤◌, ◌<◌}
use native.Mathlib.Numerals.{add-one}
use native.Mathlib.Omega.{arith}
use lib.Dec.{eqb}
use lib.ListN.{length, get_or}
use Rattle.std.specs.Prelude.{Option, Some, None}
use Rattle.std.specs.Option.{option_map}
use Rattle.std.specs.List.{list_any, slice_get, filter, range_with_len}
use Rattle.std.proofs.lemmas.List.FromFn.{filter_of_map_range_with_len_more}
use Rattle.std.proofs.lemmas.Iterator.Adapters.{option_map_id}
use Rattle.prelude.specs.Finite.{◌or◌, some, has, those}
use Rattle.prelude.specs.internal.Places.{at_place}
use Rattle.prelude.proofs.Lists.{those_kept, those_passed}
use Rattle.prelude.proofs.Tests.{Tested, holds, fails, tested, or_none, or_assoc}

pub or_is : (a b : Bool) → (a || b) ≡ (a or b)
unfolding ◌or◌
or_is true b = refl
or_is false b = refl

-- a number is among those of which one equals it
pub has_any : (x : ℕ) (xs : List ℕ) → has x xs ≡ list_any (λ y. eqb y x) xs
unfolding has
has_any x [] = refl
has_any x (y ∷ xs) = ap (◌or◌ (eqb y x)) (has_any x xs) ∙ sym (or_is (eqb y x) _)

some_front : (n : ℕ) (p : ℕ → Bool) → some (suc n) p ≡ (p 0 or some n (λ i. p (suc i)))
unfolding some ◌or◌
some_front zero p = sym (or_none (p 0))
some_front (suc n) p = ap (λ b. b or p (suc n)) (some_front n p) ∙ sym (or_assoc (p 0) _ _)

-- a test of some place is one of some number
pub some_any : (p : ℕ → Bool) (xs : List ℕ) → some (length xs) (λ i. p (get_or xs i 0)) ≡ list_any p xs
unfolding some
some_any p [] = refl
some_any p (x ∷ xs) = some_front (length xs) (λ i. p (get_or (x ∷ xs) i 0)) ∙ ap (◌or◌ (p x)) (some_any p xs) ∙ sym (or_is (p x) _)

-- ---- what stands at a place

pub placed : (xs : List ℕ) (k d : ℕ) → k < length xs → at_place xs k ≡ Some (get_or xs k d)
placed [] k d h = absurd (omega arith)
placed (x ∷ xs) zero d h = refl
placed (x ∷ xs) (suc k) d h = placed xs k d (omega arith)

pub unplaced : (xs : List ℕ) (k : ℕ) → length xs ≤ k → at_place xs k ≡ None
unplaced [] k h = refl
unplaced (x ∷ xs) zero h = absurd (omega arith)
unplaced (x ∷ xs) (suc k) h = unplaced xs k (omega arith)

-- ---- those that a filter leaves

-- a filter of the numbers below a bound leaves those of which its test holds
those_filter : (p q : ℕ → Bool) → ((x : ℕ) → p x ≡ q x) → (n : ℕ) → filter p (range_with_len 0 n) ≡ those n q
unfolding those
those_filter p q e zero = refl
those_filter p q e (suc n) = ap (λ m. filter p (range_with_len 0 m)) (sym (add-one n)) ∙ grown ∙ ap (λ xs. xs ++ cond (q n) (n ∷ []) []) (those_filter p q e n)
    ∙ at (tested (q n))
  where
    grown : filter p (range_with_len 0 (n + 1)) ≡ filter p (range_with_len 0 n) ++ cond (q n) (n ∷ []) []
    grown = ap (filter p) (sym (map-id (range_with_len 0 (n + 1)))) ∙ filter_of_map_range_with_len_more p (λ x. x) 0 n n (omega arith)
        ∙ ap₂ (λ xs b. filter p xs ++ cond b (n ∷ []) []) (map-id (range_with_len 0 n)) (e n)

    at : Tested (q n) → (those n q ++ cond (q n) (n ∷ []) []) ≡ those (suc n) q
    at (holds t) = ap (λ b. those n q ++ cond b (n ∷ []) []) t ∙ sym (those_kept q n t)
    at (fails t) = ap (λ b. those n q ++ cond b (n ∷ []) []) t ∙ append-nil (those n q) ∙ sym (those_passed q n t)

-- what stands at a place, in the words of std
at_got : (xs : List ℕ) (k : ℕ) → slice_get xs k ≡ at_place xs k
at_got [] k = refl
at_got (x ∷ xs) zero = refl
at_got (x ∷ xs) (suc k) = at_got xs k

-- what a chain answers that passes over the bytes' numbers
pub nth_filtered : (bs : List ℕ) (n k : ℕ) (r : Option ℕ) →
    option_map (λ x. x) r ≡ slice_get (filter (λ x. not (list_any (λ b. eqb b x) bs)) (range_with_len 0 n)) k →
    r ≡ at_place (those n (λ c. not (has c bs))) k
nth_filtered bs n k r e = sym (option_map_id r) ∙ e ∙ at_got _ k
    ∙ ap (λ xs. at_place xs k) (those_filter _ (λ c. not (has c bs)) (λ x. ap not (sym (has_any x bs))) n)

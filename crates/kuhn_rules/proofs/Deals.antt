-- Laws of the deal, over the front part of the cards. Assumes nothing.
use mathlib.Core.Path.{◌≡◌, refl, sym, ap, subst, ◌∙◌}
use mathlib.Core.Bool.{Bool, not}
use mathlib.Core.List.{List, [], ◌∷◌, ◌++◌}
use Prim.Native.Nat.{ℕ, zero, suc, ◌+◌, ◌≤◌, ◌<◌}
use native.Mathlib.Omega.{arith}
use lib.Dec.{ltb}
use borrow.Author.Tests.{le-leb, ltb-true, ltb-false}
use lib.ListN.{length, get_or, take}
use lib.Seq.{take-take}
use Rattle.std.specs.Prelude.{Option, OnSome, IfSome, IfNone}
use Rattle.std.specs.List.{list_any}
use Rattle.prelude.specs.Finite.{some, has, those}
use Rattle.prelude.specs.internal.Places.{at_place}
use Rattle.prelude.proofs.Bytes.{some_any, placed, unplaced}
use Rattle.prelude.proofs.Tests.{Tested, holds, fails, tested, and-rest, some_same}
use Rattle.prelude.proofs.Lists.{some_take, those_below, those_kept, those_passed}
use Rattle.kuhn_rules.specs.Rules.{left, remaining}
use Rattle.kuhn_rules.specs.Reached.{strange, twice}

pub strange-take : (n a : ℕ) (l : List ℕ) → a ≤ length l → strange n (take a l) ≡ some a (λ i. ltb n (get_or l i 0))
unfolding strange
strange-take n a l h = some_take (λ i x. ltb n x) a l 0 h

pub twice-take : (a : ℕ) (l : List ℕ) → a ≤ length l → twice (take a l) ≡ some a (λ i. has (get_or l i 0) (take i l))
unfolding twice
twice-take a l h = some_take (λ i x. has x (take i (take a l))) a l 0 h ∙ some_same a (λ i. has (get_or l i 0) (take i (take a l))) (λ i. has (get_or l i 0) (take i l)) (λ i w. ap (has (get_or l i 0)) (take-take i a l (omega arith)))

-- some card is not in the deck
pub strange_any : (n : ℕ) (cs : List ℕ) → strange n cs ≡ list_any (λ c. ltb n c) cs
unfolding strange
strange_any n cs = some_any (ltb n) cs

-- ---- the cards left

-- numbers of which two tests say the same are those of both
those_same : (n : ℕ) (p q : ℕ → Bool) → ((i : ℕ) → i < n → p i ≡ q i) → those n p ≡ those n q
unfolding those
those_same zero p q f = refl
those_same (suc n) p q f = go (tested (p n)) (those_same n p q (λ i l. f i (omega arith)))
  where
    go : Tested (p n) → those n p ≡ those n q → those (suc n) p ≡ those (suc n) q
    go (holds t) below = those_kept p n t ∙ ap (λ xs. xs ++ (n ∷ [])) below ∙ sym (those_kept q n (sym (f n (omega arith)) ∙ t))
    go (fails t) below = those_passed p n t ∙ below ∙ sym (those_passed q n (sym (f n (omega arith)) ∙ t))

-- those of the deck that are not dealt
remaining_is : (n : ℕ) (cs : List ℕ) → remaining n cs ≡ those (n + 1) (λ c. not (has c cs))
unfolding remaining left
remaining_is n cs = those_same (n + 1) (left n cs) (λ c. not (has c cs)) (λ c l. and-rest (not (has c cs)) (le-leb c n (omega arith)))

-- one of them stands at a place just if there are so many
abbrev CardAt : ℕ → List ℕ → ℕ → Option ℕ → Type 0
CardAt n cs k found =
    OnSome found (k < length (remaining n cs)) × IfSome found (λ c. (c ≡ get_or (remaining n cs) k 0) × (c ≤ n)) × IfNone found (length (remaining n cs) ≤ k)

card_at : (n : ℕ) (cs : List ℕ) (k : ℕ) (found : Option ℕ) → found ≡ at_place (those (n + 1) (λ c. not (has c cs))) k → CardAt n cs k found
unfolding remaining
card_at n cs k found e = subst (CardAt n cs k) (sym (e ∙ ap (λ l. at_place l k) (sym (remaining_is n cs)))) (go (tested (ltb k (length (remaining n cs)))))
  where
    go : Tested (ltb k (length (remaining n cs))) → CardAt n cs k (at_place (remaining n cs) k)
    go (holds t) =
        let l : k < length (remaining n cs) = ltb-true k (length (remaining n cs)) t in
        let low = (those_below (left n cs) (n + 1) k 0 l).0 in
        subst (CardAt n cs k) (sym (placed (remaining n cs) k 0 l)) (l, (refl, omega arith), tt)
    go (fails t) = let m = ltb-false k (length (remaining n cs)) t in subst (CardAt n cs k) (sym (unplaced (remaining n cs) k m)) (tt, tt, m)

module _ (n : ℕ) (cs : List ℕ) (k : ℕ) (found : Option ℕ) (e : found ≡ at_place (those (n + 1) (λ c. not (has c cs))) k) where
  pub card_place : OnSome found (k < length (remaining n cs))
  card_place = (card_at n cs k found e).0

  pub card_is : IfSome found (λ c. (c ≡ get_or (remaining n cs) k 0) × (c ≤ n))
  card_is = (card_at n cs k found e).1

  pub card_none : IfNone found (length (remaining n cs) ≤ k)
  card_none = (card_at n cs k found e).2

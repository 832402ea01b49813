-- Laws of lists of numbers: their front part, what stands in them, and the numbers below a bound of which a test holds. Assumes nothing.
use mathlib.Core.Path.{◌≡◌, refl, sym, ap, ap₂, ◌∙◌}
use mathlib.Core.Bool.{Bool, true, false, cond}
use mathlib.Core.List.{List, [], ◌∷◌, ◌++◌, append-nil}
use Prim.Native.Nat.{ℕ, zero, suc, ◌+◌, ◌-◌, ◌≤◌, ◌<◌}
use native.Mathlib.Numerals.{add-one}
use native.Mathlib.Omega.{arith}
use lib.Dec.{eqb, ltb}
use lib.ListN.{length, get_or, take, set, replicate, length-append, length-set, length-replicate, get_or-replicate, get_or-append}
use lib.Seq.{length-take-le, take-append_seam, get_or-take, take-suc, get_or_at, get_or-set_same, get_or-set_other, ext_get_or}
use borrow.Author.Tests.{eq-eqb, ne_eqb, eqb-true, eqb-false, lt-ltb, le-ltb, ltb-true}
use Rattle.prelude.specs.Finite.{◌and◌, ◌or◌, some, sum, those, has, places}
use Rattle.prelude.proofs.Tests.{Tested, holds, fails, tested, iff, both, and_left_fails, and_right_fails, or_left, or_right, or_none, or_assoc, below_cases, some_same}

-- ---- a front part

-- a test of some place of a front part is one of some place below its length
pub some_take : (P : ℕ → ℕ → Bool) (a : ℕ) (l : List ℕ) (d : ℕ) → a ≤ length l → some (length (take a l)) (λ i. P i (get_or (take a l) i d)) ≡ some a (λ i. P i (get_or l i d))
some_take P a l d h = ap (λ n. some n (λ i. P i (get_or (take a l) i d))) (length-take-le a l h) ∙ some_same a (λ i. P i (get_or (take a l) i d)) (λ i. P i (get_or l i d)) (λ i w. ap (P i) (get_or-take a l i d w))

-- what stands within a list does not depend on what is given past its end
pub get_d_within : (l : List ℕ) (i d e : ℕ) → i < length l → get_or l i d ≡ get_or l i e
get_d_within [] i d e h = absurd (omega arith)
get_d_within (x ∷ l) zero d e h = refl
get_d_within (x ∷ l) (suc i) d e h = get_d_within l i d e (omega arith)

-- ---- what stands in a list

pub has_append : (c : ℕ) (xs ys : List ℕ) → has c (xs ++ ys) ≡ (has c xs or has c ys)
unfolding has ◌or◌
has_append c [] ys = refl
has_append c (x ∷ xs) ys = ap (◌or◌ (eqb x c)) (has_append c xs ys) ∙ or_assoc (eqb x c) (has c xs) (has c ys)

-- c stands in a front part if it stands at one of its places
pub has-take : (c a : ℕ) (l : List ℕ) → a ≤ length l → has c (take a l) ≡ some a (λ i. eqb (get_or l i 0) c)
unfolding has some
has-take c zero l h = refl
has-take c (suc a) l h = ap (has c) (take-suc l a 0 h) ∙ has_append c (take a l) (get_or l a 0 ∷ []) ∙ ap₂ ◌or◌ (has-take c a l (omega arith)) (or_none (eqb (get_or l a 0) c))

-- ---- the numbers below a bound of which a test holds

module _ (p : ℕ → Bool) where
  pub those_kept : (n : ℕ) → p n ≡ true → those (suc n) p ≡ those n p ++ (n ∷ [])
  unfolding those
  those_kept n e = rw e

  pub those_passed : (n : ℕ) → p n ≡ false → those (suc n) p ≡ those n p
  unfolding those
  those_passed n e = rw e (append-nil (those n p))

  -- every number that stands there is below the bound, and the test holds of it
  abbrev Among : ℕ → ℕ → Type 0
  Among n x = (x < n) × (p x ≡ true)

  among-wider : (n x : ℕ) → Among n x → Among (suc n) x
  among-wider n x w = (let q : x < n = w.0 in omega arith, w.1)

  pub those_below : (n i d : ℕ) → i < length (those n p) → Among n (get_or (those n p) i d)
  unfolding those
  those_below zero i d h = absurd (omega arith)
  those_below (suc n) i d h = go (tested (p n)) (those_below n i d)
    where
      last : p n ≡ true → (l : List ℕ) → l ≡ those n p ++ (n ∷ []) → i < length l → (i < length (those n p) → Among n (get_or (those n p) i d)) → Among (suc n) (get_or l i d)
      last e l q w f =
          below_cases i (length (those n p)) (omega (arith, ap length q, length-append (those n p) (n ∷ [])))
          (λ v. rw (q, get_or-append (those n p) (n ∷ []) d i v) (among-wider n (get_or (those n p) i d) (f v)))
          (λ v. rw (q, get_or_at (those n p) n [] d i (sym v)) (omega arith, e))

      same : (l : List ℕ) → l ≡ those n p → i < length l → (i < length (those n p) → Among n (get_or (those n p) i d)) → Among (suc n) (get_or l i d)
      same l q w f = rw q (among-wider n (get_or (those n p) i d) (f (omega (arith, ap length q))))

      go : Tested (p n) → (i < length (those n p) → Among n (get_or (those n p) i d)) → Among (suc n) (get_or (those (suc n) p) i d)
      go (holds e) f = last e (those (suc n) p) (those_kept n e) h f
      go (fails e) f = same (those (suc n) p) (those_passed n e) h f

  -- they stand in ascending order
  pub those-ascending : (n i j d : ℕ) → i < j → j < length (those n p) → get_or (those n p) i d < get_or (those n p) j d
  unfolding those
  those-ascending zero i j d h w = absurd (omega arith)
  those-ascending (suc n) i j d h w = go (tested (p n)) (those-ascending n i j d h)
    where
      last : p n ≡ true → (l : List ℕ) → l ≡ those n p ++ (n ∷ []) → j < length l → (j < length (those n p) → get_or (those n p) i d < get_or (those n p) j d) → get_or l i d < get_or l j d
      last e l q v f =
          below_cases j (length (those n p)) (omega (arith, ap length q, length-append (those n p) (n ∷ [])))
          (λ u. rw (q, get_or-append (those n p) (n ∷ []) d i (omega arith), get_or-append (those n p) (n ∷ []) d j u) (f u))
          (λ u. rw (q, get_or-append (those n p) (n ∷ []) d i (omega arith), get_or_at (those n p) n [] d j (sym u)) (those_below n i d (omega arith)).0)

      go : Tested (p n) → (j < length (those n p) → get_or (those n p) i d < get_or (those n p) j d) → get_or (those (suc n) p) i d < get_or (those (suc n) p) j d
      go (holds e) f = last e (those (suc n) p) (those_kept n e) w f
      go (fails e) f = rw (those_passed n e) (f (rw (those_passed n e) at w))

  -- c stands there just if it is below the bound and the test holds of it
  pub has-those : (c n : ℕ) → has c (those n p) ≡ (ltb c n and p c)
  unfolding those has
  has-those c zero = rw (le-ltb c 0 (omega arith)) (sym (and_left_fails (p c) refl))
  has-those c (suc n) = go (tested (p n)) (has-those c n)
    where
      wider : (c ≡ n → ⊥) → ltb c n ≡ ltb c (suc n)
      wider f = iff (λ t. let v = ltb-true c n t in lt-ltb c (suc n) (omega arith)) (λ t. let v = ltb-true c (suc n) t in lt-ltb c n (omega arith))

      here : p n ≡ true → Tested (eqb c n) → ((ltb c n and p c) or (eqb n c or false)) ≡ (ltb c (suc n) and p c)
      here e (holds t) = let q = eqb-true c n t in or_right (ltb c n and p c) (or_left false (eq-eqb n c (sym q))) ∙ sym (both (lt-ltb c (suc n) (omega arith)) (ap p q ∙ e))
      here e (fails t) = let q = eqb-false c n t in ap (◌or◌ (ltb c n and p c)) (or_none (eqb n c) ∙ ne_eqb n c (λ z. q (sym z))) ∙ or_none (ltb c n and p c) ∙ ap (λ b. b and p c) (wider q)

      gone : p n ≡ false → Tested (eqb c n) → (ltb c n and p c) ≡ (ltb c (suc n) and p c)
      gone e (holds t) = let q = eqb-true c n t in and_right_fails (ltb c n) (ap p q ∙ e) ∙ sym (and_right_fails (ltb c (suc n)) (ap p q ∙ e))
      gone e (fails t) = ap (λ b. b and p c) (wider (eqb-false c n t))

      go : Tested (p n) → has c (those n p) ≡ (ltb c n and p c) → has c (those (suc n) p) ≡ (ltb c (suc n) and p c)
      go (holds e) f = ap (has c) (those_kept n e) ∙ has_append c (those n p) (n ∷ []) ∙ ap (λ b. b or (eqb n c or false)) f ∙ here e (tested (eqb c n))
      go (fails e) f = ap (has c) (those_passed n e) ∙ f ∙ gone e (tested (eqb c n))

-- ---- sums

pub sum_more : (n : ℕ) (f : ℕ → ℕ) → sum (n + 1) f ≡ sum n f + f n
unfolding sum
sum_more n f = rw add-one refl

pub sum_none : (f : ℕ → ℕ) → 0 ≡ sum 0 f
unfolding sum
sum_none f = refl

pub sum_same : (n : ℕ) (f g : ℕ → ℕ) → ((i : ℕ) → i < n → f i ≡ g i) → sum n f ≡ sum n g
unfolding sum
sum_same zero f g h = refl
sum_same (suc n) f g h = ap₂ ◌+◌ (sum_same n f g (λ i w. h i (omega arith))) (h n (omega arith))

-- a sum without the term at p
pub sum_without : (n p : ℕ) (f : ℕ → ℕ) → p < n → sum n (λ q. cond (eqb q p) 0 (f q)) + f p ≡ sum n f
unfolding sum
sum_without zero p f h = absurd (omega arith)
sum_without (suc n) p f h =
    below_cases p n h
    (λ w. rw (ne_eqb n p (λ q. omega arith)) (let e = sum_without n p f w in omega arith))
    (λ w. rw w (rw (eq-eqb n n refl, sum_same n (λ q. cond (eqb q n) 0 (f q)) f (λ i v. ap (λ b. cond b 0 (f i)) (ne_eqb i n (λ q. omega arith)))) (omega arith)))

-- ---- a value at each number below a bound

module _ {A : Type 0} where
  pub length-places : (n : ℕ) (f : ℕ → A) → length (places n f) ≡ n
  unfolding places
  length-places zero f = refl
  length-places (suc n) f = length-append (places n f) (f n ∷ []) ∙ ap (λ k. k + 1) (length-places n f) ∙ add-one n

  pub get_d_places : (n : ℕ) (f : ℕ → A) (i : ℕ) (d : A) → i < n → get_or (places n f) i d ≡ f i
  unfolding places
  get_d_places zero f i d h = absurd (omega arith)
  get_d_places (suc n) f i d h =
      below_cases i n h
      (λ w. get_or-append (places n f) (f n ∷ []) d i (rw (length-places n f) w) ∙ get_d_places n f i d w)
      (λ w. get_or_at (places n f) (f n) [] d i (length-places n f ∙ sym w) ∙ ap f (sym w))

  pub places_same : (n : ℕ) (f g : ℕ → A) → ((i : ℕ) → i < n → f i ≡ g i) → places n f ≡ places n g
  unfolding places
  places_same zero f g h = refl
  places_same (suc n) f g h = ap₂ (λ xs x. xs ++ (x ∷ [])) (places_same n f g (λ i w. h i (omega arith))) (h n (omega arith))

  -- a list that holds f at each of its places
  pub places_of : (n : ℕ) (f : ℕ → A) (d : A) (l : List A) → length l ≡ n → ((i : ℕ) → i < n → get_or l i d ≡ f i) → l ≡ places n f
  places_of n f d l e h = ext_get_or d l (places n f) (e ∙ sym (length-places n f)) (λ i w. let v : i < n = rw e at w in h i v ∙ sym (get_d_places n f i d v))

  pub places-set : (n : ℕ) (f g : ℕ → A) (i : ℕ) (x : A) → i < n → g i ≡ x → ((j : ℕ) → (j ≡ i → ⊥) → g j ≡ f j) → set (places n f) i x ≡ places n g
  places-set n f g i x h e k = places_of n g x (set (places n f) i x) (length-set (places n f) i x ∙ length-places n f) (λ j w. at j w (tested (eqb j i)))
    where
      at : (j : ℕ) → j < n → Tested (eqb j i) → get_or (set (places n f) i x) j x ≡ g j
      at j w (holds t) = let q : j ≡ i = eqb-true j i t in ap (λ m. get_or (set (places n f) i x) m x) q ∙ get_or-set_same (places n f) i x x (rw (length-places n f) h) ∙ sym e ∙ ap g (sym q)
      at j w (fails t) = let q : j ≡ i → ⊥ = eqb-false j i t in get_or-set_other (places n f) i j x x q ∙ get_d_places n f j x w ∙ sym (k j q)

  -- places filled from the front, as a loop fills them
  pub filled_none : (n : ℕ) (f : ℕ → A) (z : A) → replicate n z ≡ places n (λ p. cond (ltb p 0) (f p) z)
  filled_none n f z = places_of n (λ p. cond (ltb p 0) (f p) z) z (replicate n z) (length-replicate n z) (λ i w. get_or-replicate n i z z w ∙ ap (λ b. cond b (f i) z) (sym (le-ltb i 0 (omega arith))))

  pub filled_more : (n : ℕ) (f : ℕ → A) (z : A) (k : ℕ) → k < n → set (places n (λ p. cond (ltb p k) (f p) z)) k (f k) ≡ places n (λ p. cond (ltb p (k + 1)) (f p) z)
  filled_more n f z k h =
      places-set n (λ p. cond (ltb p k) (f p) z) (λ p. cond (ltb p (k + 1)) (f p) z) k (f k) h (ap (λ b. cond b (f k) z) (lt-ltb k (k + 1) (omega arith)))
      (λ j q. ap (λ b. cond b (f j) z) (iff (λ t. lt-ltb j k (let w : j < k + 1 = ltb-true j (k + 1) t in omega arith)) (λ t. lt-ltb j (k + 1) (let w : j < k = ltb-true j k t in omega arith))))

-- the last of a list is taken off again
pub popped : (xs full rest : List ℕ) (x : ℕ) → full ≡ xs ++ (x ∷ []) → rest ≡ take (length full - 1) full → rest ≡ xs
popped xs full rest x e f = f ∙ rw e (ap (λ k. take k (xs ++ (x ∷ []))) (let n : length (xs ++ (x ∷ [])) - 1 ≡ length xs = omega (arith, length-append xs (x ∷ [])) in n) ∙ take-append_seam xs (x ∷ []))

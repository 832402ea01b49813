-- Bytes stored in runs, and the bytes of a record. Assumes nothing.
use mathlib.Core.Path.{◌≡◌, refl, sym, ap, ap₂, subst, ◌∙◌}
use mathlib.Core.List.{List, [], ◌∷◌, ◌++◌, append_assoc, append-nil, map}
use Prim.Native.Nat.{ℕ, zero, suc, ◌+◌, ◌-◌, ◌*◌, ◌≤◌}
use native.Mathlib.Omega.{arith}
use lib.ListN.{length, take, drop, set, replicate, length-append, length-replicate, length-set}
use lib.Seq.{sets, sets-eq, length-sets, paste, length-take-le, take_all, take-append-add}
use Rattle.game_tree.specs.Tree.{Tree}
use Rattle.listing_records.specs.Listing.{padded, Cards, bytes_of, first_node, flat, listing}
use Rattle.listing_records.specs.internal.Written.{joined, Wrote}
use Rattle.listing_records.specs.declared.Writer.{Writer}
use Rattle.game_tree.specs.Sets.{Decision, set_count}
use Rattle.game_tree.specs.Sets as Sets

-- ---- one more
pub joined_last : {A : Type 0} (l : List ℕ) (c : ℕ) (g : ℕ → List A) → joined (l ++ (c ∷ [])) g ≡ joined l g ++ g c
unfolding joined
joined_last [] c g = append-nil (g c)
joined_last (x ∷ l) c g = ap (λ r. g x ++ r) (joined_last l c g) ∙ sym (append_assoc (g x) (joined l g) (g c))

-- ---- runs of bytes, one after another
pub sets_append : (xs ys l : List ℕ) (i : ℕ) → sets l i (xs ++ ys) ≡ sets (sets l i xs) (i + length xs) ys
sets_append [] ys l i = let e : i + 0 ≡ i = omega arith in rw e
sets_append (a ∷ xs) ys l i =
    let e : i + suc (length xs) ≡ suc i + length xs = omega arith in
    rw e (sets_append xs ys (set l i a) (suc i))

pub wrote_as : {old new : Writer} {xs ys : List ℕ} → xs ≡ ys → Wrote old new xs → Wrote old new ys
wrote_as {old = old} {new = new} e w = subst (Wrote old new) e w

pub wrote_nothing : {old : Writer} {xs : List ℕ} → xs ≡ [] → Wrote old old xs
wrote_nothing e = wrote_as (sym e) (record { output = refl; next = omega arith; wrote = refl })

pub wrote_append : {a b d : Writer} {xs ys : List ℕ} → Wrote a b xs → Wrote b d ys → Wrote a d (xs ++ ys)
wrote_append {a = a} {xs = xs} {ys = ys} v w = record {
  output = w.output ∙ v.output;
  next = omega (arith, v.next, w.next, length-append xs ys);
  wrote = w.wrote ∙ ap₂ (λ l p. sets l p ys) v.wrote v.next ∙ sym (sets_append xs ys a.out.now a.at);
}

pub wrote-length : {old new : Writer} {xs : List ℕ} → Wrote old new xs → length new.out.now ≡ length old.out.now
wrote-length {old = old} {xs = xs} w = ap length w.wrote ∙ length-sets old.out.now old.at xs

-- from the start of an output on
pub wrote-start : {old new : Writer} {xs : List ℕ} (l : List ℕ) → (old.out.now ≡ l) × (old.at ≡ 0) → Wrote old new xs → new.out.now ≡ sets l 0 xs
wrote-start {xs = xs} l s w = w.wrote ∙ ap₂ (λ m i. sets m i xs) s.0 s.1

-- a copy is a run of its bytes
pub paste-sets : (d : List ℕ) (at : ℕ) (s : List ℕ) (n : ℕ) → at + n ≤ length d → n ≤ length s → paste d at s n ≡ sets d at (take n s)
paste-sets d at s n l w = ap (λ k. take at d ++ take n s ++ drop (at + k) d) (sym long) ∙ sym (sets-eq (take n s) d at (omega (arith, long)))
  where
    long : length (take n s) ≡ n
    long = length-take-le n s w

-- ---- padding
abbrev pub zeros : ℕ → List ℕ
zeros k = replicate k 0

pub length-padded : (k : ℕ) (l : List ℕ) → length (padded k l) ≡ k
unfolding padded
length-padded k l = length-take-le k (l ++ replicate k 0) (omega (arith, length-append l (zeros k), length-replicate {A = ℕ} k 0))

take-zeros : (n k : ℕ) → n ≤ k → take n (zeros k) ≡ zeros n
take-zeros zero k l = refl
take-zeros (suc n) zero l = absurd (omega arith)
take-zeros (suc n) (suc k) l = ap (λ r. 0 ∷ r) (take-zeros n k (omega arith))

drop-zeros : (n k : ℕ) → n ≤ k → drop n (zeros k) ≡ zeros (k - n)
drop-zeros zero k l = let e : k ≡ k - 0 = omega arith in ap zeros e
drop-zeros (suc n) zero l = absurd (omega arith)
drop-zeros (suc n) (suc k) l = let e : k - n ≡ suc k - suc n = omega arith in drop-zeros n k (omega arith) ∙ ap zeros e

-- what does not fill the places leaves zeros
padded-short : (k : ℕ) (l : List ℕ) → length l ≤ k → padded k l ≡ l ++ zeros (k - length l)
unfolding padded
padded-short k l w = ap (λ n. take n (l ++ replicate k 0)) e ∙ take-append-add l (zeros k) (k - length l) ∙ ap (λ r. l ++ r) (take-zeros (k - length l) k (omega arith))
  where
    e : k ≡ length l + (k - length l)
    e = omega arith

-- the first n of s, copied onto zeros
pub padded-paste : (k : ℕ) (s : List ℕ) (n : ℕ) → n ≤ k → n ≤ length s → paste (zeros k) 0 s n ≡ padded k (take n s)
padded-paste k s n l w = ap (λ r. take n s ++ r) (ap (λ j. drop j (zeros k)) from_start ∙ drop-zeros n k l ∙ ap (λ j. zeros (k - j)) (sym long))
    ∙ sym (padded-short k (take n s) (omega (arith, long)))
  where
    long : length (take n s) ≡ n
    long = length-take-le n s w

    from_start : 0 + n ≡ n
    from_start = omega arith

-- ---- a record has 24 bytes
pub length-bytes : (x : Decision) (cards : Cards) → length (bytes_of x cards) ≡ 24
unfolding bytes_of
length-bytes x cards = omega (
  arith,
  length-append (padded 13 x.1) (cards.0 ∷ padded 6 cards.1 ++ (x.2 ∷ 0 ∷ [])),
  length-padded 13 x.1,
  length-append (padded 6 cards.1) (x.2 ∷ 0 ∷ []),
  length-padded 6 cards.1,
)

length-flat : (ls : List Decision) (g : Decision → Cards) → length (flat (map (λ x. bytes_of x (g x)) ls)) ≡ 24 * length ls
unfolding flat
length-flat [] g = refl
length-flat (x ∷ ls) g = omega (arith, length-append (bytes_of x (g x)) (flat (map (λ y. bytes_of y (g y)) ls)), length-bytes x (g x), length-flat ls g)

-- and a listing 24 per set
pub length-listing : (t : Tree) (cards_of : ℕ → Cards) → length (listing t cards_of) ≡ 24 * set_count t
unfolding listing
length-listing t cards_of = length-flat (Sets.sets t) (λ x. cards_of (first_node t x))

pub record_long : (s p g : ℕ) (k c : List ℕ) → length (s ∷ length k ∷ padded 13 k ++ (p ∷ padded 6 c ++ (g ∷ 0 ∷ []))) ≡ 24
unfolding bytes_of
record_long s p g k c = length-bytes (s, k, g) (p, c)

-- a record stored part by part is one run
module _ (l k c : List ℕ) (at s p g : ℕ) (room : at + 24 ≤ length l) (key cards : List ℕ) (is_key : key ≡ padded 13 k) (is_cards : cards ≡ padded 6 c) where
  whole-key : length key ≡ 13
  whole-key = ap length is_key ∙ length-padded 13 k

  whole-cards : length cards ≡ 6
  whole-cards = ap length is_cards ∙ length-padded 6 c

  head : List ℕ
  head = set (set l at s) (at + 1) (length k)

  length-head : length head ≡ length l
  unfolding head
  length-head = length-set (set l at s) (at + 1) (length k) ∙ length-set l at s

  after-key : List ℕ
  after-key = sets head (at + 2) key

  length-after-key : length after-key ≡ length l
  unfolding after-key
  length-after-key = length-sets head (at + 2) key ∙ length-head

  pub record_stored : (m₁ m₂ : List ℕ) → m₁ ≡ paste (set (set l at s) (at + 1) (length k)) (at + 2) key (length key) → m₂ ≡ paste (set m₁ (at + 15) p) (at + 16) cards (length cards)
      → (set (set m₂ (at + 22) g) (at + 23) 0 ≡ sets l at (s ∷ length k ∷ padded 13 k ++ (p ∷ padded 6 c ++ (g ∷ 0 ∷ []))))
  unfolding head after-key bytes_of
  record_stored m₁ m₂ e f = ap (λ m. set (set m (at + 22) g) (at + 23) 0) (f ∙ cards_run ∙ ap (λ m. sets (set m (at + 15) p) (at + 16) cards) (e ∙ key_run)) ∙ sym whole
      ∙ ap₂ (λ x y. sets l at (s ∷ length k ∷ x ++ (p ∷ y ++ (g ∷ 0 ∷ [])))) is_key is_cards
    where
      key_run : paste (set (set l at s) (at + 1) (length k)) (at + 2) key (length key) ≡ after-key
      key_run = paste-sets head (at + 2) key (length key) (omega (arith, length-head, whole-key)) (omega arith) ∙ ap (sets head (at + 2)) (take_all (length key) key (omega arith))

      length_m₁ : length m₁ ≡ length l
      length_m₁ = ap length (e ∙ key_run) ∙ length-after-key

      cards_run : paste (set m₁ (at + 15) p) (at + 16) cards (length cards) ≡ sets (set m₁ (at + 15) p) (at + 16) cards
      cards_run = paste-sets (set m₁ (at + 15) p) (at + 16) cards (length cards) (omega (arith, length-set m₁ (at + 15) p, length_m₁, whole-cards)) (omega arith)
          ∙ ap (sets (set m₁ (at + 15) p) (at + 16)) (take_all (length cards) cards (omega arith))

      one : at + 1 ≡ suc at
      one = omega arith

      two : at + 2 ≡ suc (suc at)
      two = omega arith

      whole : sets l at (s ∷ length k ∷ key ++ (p ∷ cards ++ (g ∷ 0 ∷ []))) ≡ set (set (sets (set after-key (at + 15) p) (at + 16) cards) (at + 22) g) (at + 23) 0
      whole = ap₂ (λ i j. sets (set (set l at s) i (length k)) j (key ++ (p ∷ cards ++ (g ∷ 0 ∷ [])))) (sym one) (sym two)
          ∙ sets_append key (p ∷ cards ++ (g ∷ 0 ∷ [])) head (at + 2)
          ∙ ap₂ (λ i j. sets (set after-key i p) j (cards ++ (g ∷ 0 ∷ []))) (let e : at + 2 + length key ≡ at + 15 = omega (arith, whole-key) in e) (let e : suc (at + 2 + length key) ≡ at + 16 = omega (arith, whole-key) in e)
          ∙ sets_append cards (g ∷ 0 ∷ []) (set after-key (at + 15) p) (at + 16)
          ∙ ap₂ (λ i j. set (set (sets (set after-key (at + 15) p) (at + 16) cards) i g) j 0) (let e : at + 16 + length cards ≡ at + 22 = omega (arith, whole-cards) in e) (let e : suc (at + 16 + length cards) ≡ at + 23 = omega (arith, whole-cards) in e)

-- Laws of tables: a strategy's table holds its parts, a table's strategy plays its entries, and each gives back the other. Nothing is assumed.
use mathlib.Core.Path.{◌≡◌, refl, sym, ap, ap₂, ◌∙◌}
use mathlib.Core.Bool.{Bool, true, false, cond}
use mathlib.Core.List.{List, [], ◌∷◌, ◌++◌, map}
use Prim.Native.Nat.{ℕ, zero, suc, ◌+◌, ◌*◌, ◌-◌, ◌/◌, ◌≤◌, ◌<◌}
use native.Mathlib.Nat as NatL
use native.Mathlib.Omega.{arith}
use lib.Dec.{eqb, ltb}
use lib.IntN.{◌+ℤ◌}
use lib.ListN.{length, get_or, take, drop, replicate, length-append, length-drop, take-append-drop, length-replicate, get_or-replicate, get_or-append}
use lib.Seq.{length-take-le, get_or-append-add, get_or-drop, get_or-take, drop_at, ext_get_or}
use borrow.Author.Tests.{ltb-true, ltb-false}
use Rattle.game_tree.specs.Sums.{sumℕ, parts}
use Rattle.game_tree.specs.Tree.{Key, Tree, end, chance, decide, Trees, nil, cons, fan, Strategy, all, worth, worth_all, worth_kids}
use Rattle.game_tree.specs.Conditions.{Every, EveryAll}
use Rattle.game_tree.specs.Sets.{Decision, is_of, sets, entries_of, before, seats_of}
use Rattle.game_tree.specs.Table.{Table, listed, laid_out, add_up, KeepsTable, add_up_by}
use Rattle.game_tree.proofs.Tests.{Tested, is, isn't, tested, eqb_is, eqb_self, eqb_no}
use Rattle.game_tree.proofs.Sets.{Property, Each, each_map, clash, is_of_seat, is_of_key, is_of_self, unmet, Distinct, Stands}

-- ---- a strategy counts only where the tree has a decision
-- s and z have the same parts
abbrev pub Same : Strategy → Strategy → Property
Same s z j k n = (a : ℕ) → a < n → s j k a ≡ z j k a

module _ (D : ℕ → ℕ) (s z : Strategy) (i : ℕ) where
  mutual
    unfolding worth Every fan

    pub worth_same : (t : Tree) (u : ℕ) → Every (Same s z) t → worth D s i u t ≡ worth D z i u t
    worth_same (end p) u h = refl
    worth_same (chance f) u h = worth_same_all f (u / fan f) h
    worth_same (decide j k f) u h = worth_same_kids f u j k 0 (λ a l. h.0 a (rw (NatL.zero-add (fan f)) at l)) h.1

    worth_same_all : (f : Trees) (u : ℕ) → EveryAll (Same s z) f → worth_all D s i u f ≡ worth_all D z i u f
    worth_same_all nil u h = refl
    worth_same_all (cons t f) u h = ap₂ ◌+ℤ◌ (worth_same t u h.0) (worth_same_all f u h.1)

    worth_same_kids : (f : Trees) (u j : ℕ) (k : Key) (a : ℕ) → ((c : ℕ) → c < a + fan f → s j k c ≡ z j k c) → EveryAll (Same s z) f
        → worth_kids D s i u j k a f ≡ worth_kids D z i u j k a f
    worth_same_kids nil u j k a e h = refl
    worth_same_kids (cons t f) u j k a e h = ap₂ ◌+ℤ◌
        (ap (λ n. worth D s i (u * n / D j) t) (e a (omega arith)) ∙ worth_same t (u * z j k a / D j) h.0)
        (worth_same_kids f u j k (suc a) (λ c l. e c (omega arith)) h.1)

-- ---- the entries of one set
pub parts_same : (n : ℕ) (p q : ℕ → ℕ) → ((a : ℕ) → a < n → p a ≡ q a) → parts n p ≡ parts n q
unfolding parts
parts_same zero p q h = refl
parts_same (suc n) p q h = ap₂ ◌+◌ (h 0 (omega arith)) (parts_same n (λ a. p (suc a)) (λ a. q (suc a)) (λ a l. h (suc a) (omega arith)))

listed-length : (n : ℕ) (p : ℕ → ℕ) → length (listed n p) ≡ n
unfolding listed
listed-length zero p = refl
listed-length (suc n) p = ap suc (listed-length n (λ a. p (suc a)))

listed_at : (n : ℕ) (p : ℕ → ℕ) (a : ℕ) → a < n → get_or (listed n p) a 0 ≡ p a
unfolding listed
listed_at zero p a l = absurd (NatL.not-suc-le-zero l)
listed_at (suc n) p zero l = refl
listed_at (suc n) p (suc a) l = listed_at n (λ b. p (suc b)) a (NatL.le_of_suc-le-suc l)

listed_same : (n : ℕ) (p q : ℕ → ℕ) → ((a : ℕ) → a < n → p a ≡ q a) → listed n p ≡ listed n q
unfolding listed
listed_same zero p q h = refl
listed_same (suc n) p q h = ap₂ ◌∷◌ (h 0 (omega arith)) (listed_same n (λ a. p (suc a)) (λ a. q (suc a)) (λ a l. h (suc a) (omega arith)))

-- the first entries of a table, listed, are its front
listed-front : (n : ℕ) (table : Table) → n ≤ length table → listed n (λ a. get_or table a 0) ≡ take n table
listed-front n table l = ext_get_or 0 (listed n (λ a. get_or table a 0)) (take n table) (listed-length n (λ a. get_or table a 0) ∙ sym (length-take-le n table l))
    (λ a w. let v : a < n = rw (listed-length n (λ a. get_or table a 0)) at w in listed_at n (λ a. get_or table a 0) a v ∙ sym (get_or-take n table a 0 v))

-- an entry behind those of the first set
behind : (n : ℕ) (xs ys : List ℕ) (e : ℕ) → length xs ≡ n → get_or (xs ++ ys) (n + e) 0 ≡ get_or ys e 0
behind n xs ys e q = ap (λ m. get_or (xs ++ ys) (m + e) 0) (sym q) ∙ get_or-append-add xs ys e 0

-- ---- where a set's entries stand
module _ (j : ℕ) (k : Key) where
  -- those before the first set are none, those before a later one begin with the first
  first_here : (x : Decision) (xs : List Decision) → is_of j k x ≡ true → entries_of (before j k (x ∷ xs)) ≡ 0
  unfolding before entries_of sumℕ
  first_here x xs e = rw e

  first_past : (x : Decision) (xs : List Decision) → is_of j k x ≡ false → entries_of (before j k (x ∷ xs)) ≡ x.2 + entries_of (before j k xs)
  unfolding before entries_of sumℕ
  first_past x xs e = rw e

  stands_here : (n : ℕ) (x : Decision) (xs : List Decision) → is_of j k x ≡ true → Stands j k n (x ∷ xs) → x.2 ≡ n
  unfolding Stands
  stands_here n x xs e h = rw e at h

  stands_past : (n : ℕ) (x : Decision) (xs : List Decision) → is_of j k x ≡ false → Stands j k n (x ∷ xs) → Stands j k n xs
  unfolding Stands
  stands_past n x xs e h = rw e at h

-- ---- a strategy laid out
module _ (s : Strategy) where
  pub laid_out-length : (xs : List Decision) → length (laid_out xs s) ≡ entries_of xs
  unfolding laid_out entries_of sumℕ
  laid_out-length [] = refl
  laid_out-length (x ∷ xs) = length-append (listed x.2 (s x.0 x.1)) (laid_out xs s) ∙ ap₂ ◌+◌ (listed-length x.2 (s x.0 x.1)) (laid_out-length xs)

  -- its entries are its parts
  pub laid_out_at : (j : ℕ) (k : Key) (n : ℕ) (xs : List Decision) → Stands j k n xs → (a : ℕ) → a < n
      → get_or (laid_out xs s) (entries_of (before j k xs) + a) 0 ≡ s j k a
  unfolding laid_out Stands
  laid_out_at j k n [] h a l = absurd h
  laid_out_at j k n (x ∷ xs) h a l = at (tested (is_of j k x)) (λ w. laid_out_at j k n xs w a l)
    where
      own : List ℕ
      own = listed x.2 (s x.0 x.1)

      at : Tested (is_of j k x) → (Stands j k n xs → get_or (laid_out xs s) (entries_of (before j k xs) + a) 0 ≡ s j k a)
          → get_or (own ++ laid_out xs s) (entries_of (before j k (x ∷ xs)) + a) 0 ≡ s j k a
      at (is e) g = let l' : a < x.2 = rw (stands_here j k n x xs e h) l in
          ap (λ f. get_or (own ++ laid_out xs s) (f + a) 0) (first_here j k x xs e) ∙ ap (λ b. get_or (own ++ laid_out xs s) b 0) (NatL.zero-add a)
          ∙ get_or-append own (laid_out xs s) 0 a (rw (listed-length x.2 (s x.0 x.1)) l') ∙ listed_at x.2 (s x.0 x.1) a l'
          ∙ ap₂ (λ i l. s i l a) (is_of_seat j k x e) (is_of_key j k x e)
      at (isn't e) g = ap (λ b. get_or (own ++ laid_out xs s) b 0) (ap (λ f. f + a) (first_past j k x xs e) ∙ NatL.add_assoc x.2 (entries_of (before j k xs)) a)
          ∙ behind x.2 own (laid_out xs s) (entries_of (before j k xs) + a) (listed-length x.2 (s x.0 x.1)) ∙ g (stands_past j k n x xs e h)

  -- valid parts add up set after set
  pub laid_out_adds : (D : ℕ → ℕ) (xs : List Decision) → Each (λ j k n. parts n (s j k) ≡ D j) xs → add_up_by D xs (laid_out xs s) ≡ true
  unfolding laid_out add_up_by Each
  laid_out_adds D [] h = refl
  laid_out_adds D (x ∷ xs) h = rw (front, rest) (laid_out_adds D xs h.1)
    where
      own : List ℕ
      own = listed x.2 (s x.0 x.1)

      of_own : (a : ℕ) → a < x.2 → get_or (own ++ laid_out xs s) a 0 ≡ s x.0 x.1 a
      of_own a l = get_or-append own (laid_out xs s) 0 a (rw (listed-length x.2 (s x.0 x.1)) l) ∙ listed_at x.2 (s x.0 x.1) a l

      front : eqb (parts x.2 (λ a. get_or (own ++ laid_out xs s) a 0)) (D x.0) ≡ true
      front = rw (parts_same x.2 (λ a. get_or (own ++ laid_out xs s) a 0) (s x.0 x.1) of_own ∙ h.0) (eqb_self (D x.0))

      rest : drop x.2 (own ++ laid_out xs s) ≡ laid_out xs s
      rest = drop_at own (laid_out xs s) x.2 (listed-length x.2 (s x.0 x.1))

pub laid_out_same : (s z : Strategy) (xs : List Decision) → Each (Same s z) xs → laid_out xs s ≡ laid_out xs z
unfolding laid_out Each
laid_out_same s z [] h = refl
laid_out_same s z (x ∷ xs) h = ap₂ ◌++◌ (listed_same x.2 (s x.0 x.1) (z x.0 x.1) h.0) (laid_out_same s z xs h.1)

-- ---- the parts of a valid table
and_left : (a b : Bool) → cond a b false ≡ true → a ≡ true
and_left true b e = refl
and_left false b e = e

and_right : (a b : Bool) → cond a b false ≡ true → b ≡ true
and_right true b e = e
and_right false b e = absurd (clash false e refl)

-- with D for every seat, both ways of adding up are one
pub adds_all : (D : ℕ) (xs : List Decision) (table : Table) → add_up_by (all D) xs table ≡ add_up D (map (λ x. x.2) xs) table
unfolding add_up_by add_up
adds_all D [] table = refl
adds_all D (x ∷ xs) table = ap (λ r. cond (eqb (parts x.2 (λ a. get_or table a 0)) D) r false) (adds_all D xs (drop x.2 table))

pub adds_at : (D : ℕ → ℕ) (j : ℕ) (k : Key) (n : ℕ) (xs : List Decision) (table : Table) → add_up_by D xs table ≡ true → Stands j k n xs
    → parts n (λ a. get_or table (entries_of (before j k xs) + a) 0) ≡ D j
unfolding add_up_by Stands
adds_at D j k n [] table e h = absurd h
adds_at D j k n (x ∷ xs) table e h = at (tested (is_of j k x))
    (λ w. adds_at D j k n xs (drop x.2 table) (and_right (eqb (parts x.2 (λ a. get_or table a 0)) (D x.0)) (add_up_by D xs (drop x.2 table)) e) w)
  where
    sum_here : parts x.2 (λ a. get_or table a 0) ≡ D x.0
    sum_here = eqb_is (parts x.2 (λ a. get_or table a 0)) (D x.0) (and_left (eqb (parts x.2 (λ a. get_or table a 0)) (D x.0)) (add_up_by D xs (drop x.2 table)) e)

    at : Tested (is_of j k x) → (Stands j k n xs → parts n (λ a. get_or (drop x.2 table) (entries_of (before j k xs) + a) 0) ≡ D j)
        → parts n (λ a. get_or table (entries_of (before j k (x ∷ xs)) + a) 0) ≡ D j
    at (is w) g = parts_same n (λ a. get_or table (entries_of (before j k (x ∷ xs)) + a) 0) (λ a. get_or table a 0)
        (λ a l. ap (λ b. get_or table b 0) (ap (λ f. f + a) (first_here j k x xs w) ∙ NatL.zero-add a)) ∙ ap (λ m. parts m (λ a. get_or table a 0)) (sym (stands_here j k n x xs w h)) ∙ sum_here
        ∙ ap D (is_of_seat j k x w)
    at (isn't w) g = parts_same n (λ a. get_or table (entries_of (before j k (x ∷ xs)) + a) 0) (λ a. get_or (drop x.2 table) (entries_of (before j k xs) + a) 0)
        (λ a l. ap (λ b. get_or table b 0) (ap (λ f. f + a) (first_past j k x xs w) ∙ NatL.add_assoc x.2 (entries_of (before j k xs)) a)
        ∙ sym (get_or-drop x.2 table (entries_of (before j k xs) + a) 0)) ∙ g (stands_past j k n x xs w h)

-- ---- a table's own strategy, laid out, is the table
pub laid_out_back : (xs : List Decision) (table : Table) → Distinct xs → length table ≡ entries_of xs
    → laid_out xs (λ j k a. get_or table (entries_of (before j k xs) + a) 0) ≡ table
unfolding laid_out Distinct entries_of sumℕ
laid_out_back [] [] d e = refl
laid_out_back [] (p ∷ table) d e = absurd (omega arith)
laid_out_back (x ∷ xs) table d e =
    ap₂ ◌++◌ (listed_same x.2 (λ a. get_or table (entries_of (before x.0 x.1 (x ∷ xs)) + a) 0) (λ a. get_or table a 0)
    (λ a l. ap (λ b. get_or table b 0) (ap (λ f. f + a) (first_here x.0 x.1 x xs (is_of_self x)) ∙ NatL.zero-add a)) ∙ listed-front x.2 table (omega arith))
    (laid_out_same (λ j k a. get_or table (entries_of (before j k (x ∷ xs)) + a) 0) (λ j k a. get_or (drop x.2 table) (entries_of (before j k xs) + a) 0) xs
    (each_map (λ j k n. is_of j k x ≡ false) (Same (λ j k a. get_or table (entries_of (before j k (x ∷ xs)) + a) 0) (λ j k a. get_or (drop x.2 table) (entries_of (before j k xs) + a) 0))
    (λ j k n w a l. ap (λ b. get_or table b 0) (ap (λ f. f + a) (first_past j k x xs w) ∙ NatL.add_assoc x.2 (entries_of (before j k xs)) a)
    ∙ sym (get_or-drop x.2 table (entries_of (before j k xs) + a) 0)) xs (unmet x.0 x.1 xs d.0 x.2))
    ∙ laid_out_back xs (drop x.2 table) d.1 (length-drop x.2 table ∙ (omega arith)))
    ∙ take-append-drop x.2 table

-- ---- the seats of the entries
seats-length : (xs : List Decision) → length (seats_of xs) ≡ entries_of xs
unfolding seats_of entries_of sumℕ
seats-length [] = refl
seats-length (x ∷ xs) = length-append (replicate x.2 x.0) (seats_of xs) ∙ ap₂ ◌+◌ (length-replicate x.2 x.0) (seats-length xs)

-- an entry of seat j's set is the seat's, and stands in the table
pub seats_at : (j : ℕ) (k : Key) (n : ℕ) (xs : List Decision) → Stands j k n xs → (a : ℕ) → a < n
    → (get_or (seats_of xs) (entries_of (before j k xs) + a) 0 ≡ j) × (entries_of (before j k xs) + a < entries_of xs)
unfolding seats_of Stands entries_of sumℕ
seats_at j k n [] h a l = absurd h
seats_at j k n (x ∷ xs) h a l = at (tested (is_of j k x)) (λ w. seats_at j k n xs w a l)
  where
    own : List ℕ
    own = replicate x.2 x.0

    Seated : List Decision → List ℕ → Type 0
    Seated ys seats = (get_or seats (entries_of (before j k ys) + a) 0 ≡ j) × (entries_of (before j k ys) + a < entries_of ys)

    at : Tested (is_of j k x) → (Stands j k n xs → Seated xs (seats_of xs)) → Seated (x ∷ xs) (own ++ seats_of xs)
    at (is e) g = let l' : a < x.2 = rw (stands_here j k n x xs e h) l in (
      ap (λ f. get_or (own ++ seats_of xs) (f + a) 0) (first_here j k x xs e) ∙ ap (λ b. get_or (own ++ seats_of xs) b 0) (NatL.zero-add a)
          ∙ get_or-append own (seats_of xs) 0 a (rw (length-replicate x.2 x.0) l') ∙ get_or-replicate x.2 a x.0 0 l' ∙ is_of_seat j k x e,
      omega (arith, first_here j k x xs e),
    )
    at (isn't e) g = let w : Seated xs (seats_of xs) = g (stands_past j k n x xs e h) in (
      ap (λ b. get_or (own ++ seats_of xs) b 0) (ap (λ f. f + a) (first_past j k x xs e) ∙ NatL.add_assoc x.2 (entries_of (before j k xs)) a)
          ∙ behind x.2 own (seats_of xs) (entries_of (before j k xs) + a) (length-replicate x.2 x.0) ∙ w.0,
      omega (arith, first_past j k x xs e, w.1),
    )

-- strategies that are one in the other seats' sets have the same entries there
pub laid_out_keeps : (i : ℕ) (s z : Strategy) (xs : List Decision) → Each (λ j k n. (j ≡ i → ⊥) → Same z s j k n) xs
    → (e : ℕ) → e < entries_of xs → (get_or (seats_of xs) e 0 ≡ i → ⊥) → get_or (laid_out xs z) e 0 ≡ get_or (laid_out xs s) e 0
unfolding laid_out seats_of Each entries_of sumℕ
laid_out_keeps i s z [] h e l f = refl
laid_out_keeps i s z (x ∷ xs) h e l f = at (tested (ltb e x.2)) (λ d q m g. laid_out_keeps i s z xs h.1 d m g)
  where
    entry : Strategy → List ℕ
    entry y = listed x.2 (y x.0 x.1)

    in_own : (y : Strategy) → e < x.2 → get_or (entry y ++ laid_out xs y) e 0 ≡ y x.0 x.1 e
    in_own y w = get_or-append (entry y) (laid_out xs y) 0 e (rw (listed-length x.2 (y x.0 x.1)) w) ∙ listed_at x.2 (y x.0 x.1) e w

    seat_own : e < x.2 → get_or (replicate x.2 x.0 ++ seats_of xs) e 0 ≡ x.0
    seat_own w = get_or-append (replicate x.2 x.0) (seats_of xs) 0 e (rw (length-replicate x.2 x.0) w) ∙ get_or-replicate x.2 e x.0 0 w

    in_rest : (y : Strategy) (d : ℕ) → e ≡ x.2 + d → get_or (entry y ++ laid_out xs y) e 0 ≡ get_or (laid_out xs y) d 0
    in_rest y d q = ap (λ b. get_or (entry y ++ laid_out xs y) b 0) q ∙ behind x.2 (entry y) (laid_out xs y) d (listed-length x.2 (y x.0 x.1))

    at : Tested (ltb e x.2) → ((d : ℕ) → e ≡ x.2 + d → d < entries_of xs → (get_or (seats_of xs) d 0 ≡ i → ⊥) → get_or (laid_out xs z) d 0 ≡ get_or (laid_out xs s) d 0)
        → get_or (entry z ++ laid_out xs z) e 0 ≡ get_or (entry s ++ laid_out xs s) e 0
    at (is w) g = let v : e < x.2 = ltb-true e x.2 w in in_own z v ∙ h.0 (λ q. f (seat_own v ∙ q)) e v ∙ sym (in_own s v)
    at (isn't w) g = let v : x.2 ≤ e = ltb-false e x.2 w in let q : e ≡ x.2 + (e - x.2) = omega arith in
        in_rest z (e - x.2) q ∙ g (e - x.2) q (omega arith) (λ y. f (ap (λ b. get_or (replicate x.2 x.0 ++ seats_of xs) b 0) q
        ∙ behind x.2 (replicate x.2 x.0) (seats_of xs) (e - x.2) (length-replicate x.2 x.0) ∙ y)) ∙ sym (in_rest s (e - x.2) q)

-- ---- kept entries, by a test
-- of entries with these seats, those that are not seat i's are one in both tables
unfoldable pub keeps_in : ℕ → List ℕ → Table → Table → Bool
keeps_in i [] table z = true
keeps_in i (j ∷ js) [] z = false
keeps_in i (j ∷ js) (p ∷ table) [] = false
keeps_in i (j ∷ js) (p ∷ table) (q ∷ z) = let r : Bool = keeps_in i js table z in cond (cond (eqb j i) true (eqb q p)) r false

keeps_at : (i : ℕ) (js : List ℕ) (table z : Table) → keeps_in i js table z ≡ true
    → (e : ℕ) → e < length js → (get_or js e 0 ≡ i → ⊥) → get_or z e 0 ≡ get_or table e 0
unfolding keeps_in
keeps_at i [] table z h e l f = absurd (NatL.not-suc-le-zero l)
keeps_at i (j ∷ js) [] z h e l f = absurd (clash false h refl)
keeps_at i (j ∷ js) (p ∷ table) [] h e l f = absurd (clash false h refl)
keeps_at i (j ∷ js) (p ∷ table) (q ∷ z) h zero l f = eqb_is q p (rw (eqb_no j i f) at (and_left (cond (eqb j i) true (eqb q p)) (keeps_in i js table z) h))
keeps_at i (j ∷ js) (p ∷ table) (q ∷ z) h (suc e) l f =
    keeps_at i js table z (and_right (cond (eqb j i) true (eqb q p)) (keeps_in i js table z) h) e (NatL.le_of_suc-le-suc l) f

pub keeps_tested : (t : Tree) (i : ℕ) (table z : Table) → keeps_in i (seats_of (sets t)) table z ≡ true → KeepsTable t i table z
keeps_tested t i table z h e l f = keeps_at i (seats_of (sets t)) table z h e (rw (seats-length (sets t)) l) f

-- A walk over the nodes of a tree with what each shows: the sets are listed at the nodes that a test finds to be the first of their set. Assumes nothing.
use mathlib.Core.Path.{◌≡◌, refl, sym, ap, ap₂, ◌∙◌}
use mathlib.Core.Bool.{Bool, true, false, not, cond}
use mathlib.Core.List.{List, [], ◌∷◌, ◌++◌, append_assoc, map}
use Prim.Native.Nat.{ℕ, suc, ◌+◌}
use native.Mathlib.Nat as NatL
use native.Mathlib.Omega.{arith}
use lib.ListN.{get_or}
use Rattle.prelude.proofs.Tests.{Tested, holds, fails, tested}
use Rattle.game_tree.specs.Tree.{Key, Tree, end, chance, decide, Trees, fan}
use Rattle.game_tree.specs.Reply.{same}
use Rattle.game_tree.specs.Sets.{Decision, preorder, is_of, met, firsts, sets, decides, numbers}
use Rattle.game_tree.specs.Shape.{decision_of, decisions_of}
use Rattle.game_tree.proofs.Sets.{is_of_self, met_past, not_here, decisions_of_nodes}
use Rattle.game_tree.proofs.Walk.{passed}
use Rattle.listing_records.specs.Listing.{first_node, flat}

module _ {A : Type 0} where
  -- the nodes ts, with a mark each, have the decisions xs with theirs
  pub data Marked : List Tree → List A → List (Decision × A) → Type 0 where
    none : Marked [] [] []
    over : {v : ℕ → lib.IntN.ℤ} {ts : List Tree} {q : A} {qs : List A} {xs : List (Decision × A)} → Marked ts qs xs → Marked (end v ∷ ts) (q ∷ qs) xs
    deal : {f : Trees} {ts : List Tree} {q : A} {qs : List A} {xs : List (Decision × A)} → Marked ts qs xs → Marked (chance f ∷ ts) (q ∷ qs) xs
    act : {j : ℕ} {k : Key} {f : Trees} {ts : List Tree} {q : A} {qs : List A} {xs : List (Decision × A)} → Marked ts qs xs → Marked (decide j k f ∷ ts) (q ∷ qs) (((j, k, fan f), q) ∷ xs)

  pub marked_append : {ts us : List Tree} {qs rs : List A} {xs ys : List (Decision × A)} → Marked ts qs xs → Marked us rs ys → Marked (ts ++ us) (qs ++ rs) (xs ++ ys)
  marked_append none b = b
  marked_append (over a) b = over (marked_append a b)
  marked_append (deal a) b = deal (marked_append a b)
  marked_append (act a) b = act (marked_append a b)

  pub marked-decisions : {ts : List Tree} {qs : List A} {xs : List (Decision × A)} → Marked ts qs xs → decisions_of ts ≡ map (λ x. x.0) xs
  unfolding decisions_of decision_of
  marked-decisions none = refl
  marked-decisions (over a) = marked-decisions a
  marked-decisions (deal a) = marked-decisions a
  marked-decisions (act {j = j} {k = k} {f = f} a) = ap (λ l. (j, k, fan f) ∷ l) (marked-decisions a)

  -- the mark at the first decision of a set
  unfoldable first_mark : ℕ → Key → List (Decision × A) → A → A
  first_mark j k [] d = d
  first_mark j k (x ∷ xs) d = let r : A = first_mark j k xs d in cond (is_of j k x.0) x.1 r

  -- it is that of the set's first node
  mark_at : {ts : List Tree} {qs : List A} {xs : List (Decision × A)} (j : ℕ) (k : Key) (a z : ℕ) (g : ℕ → A) (d : A) → Marked ts qs xs
      → ((i : ℕ) → g (a + i) ≡ get_or qs i d) → g (get_or (numbers j k a ts) 0 z) ≡ first_mark j k xs (g z)
  unfolding numbers decides first_mark is_of
  mark_at j k a z g d none e = refl
  mark_at j k a z g d (over m) e = mark_at j k (suc a) z g d m (λ i. ap g (omega arith) ∙ e (suc i))
  mark_at j k a z g d (deal m) e = mark_at j k (suc a) z g d m (λ i. ap g (omega arith) ∙ e (suc i))
  mark_at j k a z g d (act {j = i} {k = l} {f = f} {ts = ts} {q = q} {xs = xs} m) e = at (cond (lib.Dec.eqb i j) (same l k) false) (mark_at j k (suc a) z g d m (λ i. ap g (omega arith) ∙ e (suc i)))
    where
      at : (b : Bool) → g (get_or (numbers j k (suc a) ts) 0 z) ≡ first_mark j k xs (g z)
          → g (get_or (cond b (a ∷ numbers j k (suc a) ts) (numbers j k (suc a) ts)) 0 z) ≡ cond b q (first_mark j k xs (g z))
      at true h = ap g (omega arith) ∙ e 0
      at false h = h

  -- ---- a test of marks
  module _ (f : A → Bool) where
    -- a decision is not met before just where the test holds of its mark
    unfoldable pub Tells : List Decision → List (Decision × A) → Type 0
    Tells front [] = Unit {0}
    Tells front (x ∷ xs) = (met x.0.0 x.0.1 front ≡ not (f x.1)) × Tells (x.0 ∷ front) xs

    pub tells_append : (front : List Decision) (xs ys : List (Decision × A)) → Tells front xs → Tells (passed (map (λ x. x.0) xs) front) ys → Tells front (xs ++ ys)
    unfolding Tells passed
    tells_append front [] ys a b = b
    tells_append front (x ∷ xs) ys a b = (a.0, tells_append (x.0 ∷ front) xs ys a.1 b)

    module _ (B : Decision → A → List ℕ) where
      -- the bytes of those of which the test holds
      unfoldable pub kept : List (Decision × A) → List ℕ
      kept [] = []
      kept (x ∷ xs) = let r : List ℕ = kept xs in cond (f x.1) (B x.0 x.1 ++ r) r

      pub kept_append : (xs ys : List (Decision × A)) → kept (xs ++ ys) ≡ kept xs ++ kept ys
      unfolding kept
      kept_append [] ys = refl
      kept_append (x ∷ xs) ys = at (f x.1) (kept_append xs ys)
        where
          at : (b : Bool) → kept (xs ++ ys) ≡ kept xs ++ kept ys → cond b (B x.0 x.1 ++ kept (xs ++ ys)) (kept (xs ++ ys)) ≡ cond b (B x.0 x.1 ++ kept xs) (kept xs) ++ kept ys
          at true e = ap (λ l. B x.0 x.1 ++ l) e ∙ sym (append_assoc (B x.0 x.1) (kept xs) (kept ys))
          at false e = e

      kept_firsts : (front : List Decision) (xs : List (Decision × A)) (g : Decision → A) (d : A)
          → ((y : Decision) → met y.0 y.1 front ≡ false → g y ≡ first_mark y.0 y.1 xs d)
          → Tells front xs → flat (map (λ y. B y (g y)) (firsts front (map (λ x. x.0) xs))) ≡ kept xs
      unfolding firsts kept flat Tells first_mark
      kept_firsts front [] g d h t = refl
      kept_firsts front (x ∷ xs) g d h t = at (tested (f x.1)) (kept_firsts (x.0 ∷ front) xs g d later t.1)
        where
          later : (y : Decision) → met y.0 y.1 (x.0 ∷ front) ≡ false → g y ≡ first_mark y.0 y.1 xs d
          later y e =
              let w : is_of y.0 y.1 x.0 ≡ false = not_here y.0 y.1 x.0 front e in
              h y (sym (met_past y.0 y.1 x.0 front w) ∙ e) ∙ ap (λ b. cond b x.1 (first_mark y.0 y.1 xs d)) w

          here : met x.0.0 x.0.1 front ≡ false → g x.0 ≡ x.1
          here e = h x.0 e ∙ ap (λ b. cond b x.1 (first_mark x.0.0 x.0.1 xs d)) (is_of_self x.0)

          ds : List Decision
          ds = firsts (x.0 ∷ front) (map (λ x. x.0) xs)

          at : Tested (f x.1) → flat (map (λ y. B y (g y)) ds) ≡ kept xs
              → flat (map (λ y. B y (g y)) (cond (met x.0.0 x.0.1 front) ds (x.0 ∷ ds))) ≡ cond (f x.1) (B x.0 x.1 ++ kept xs) (kept xs)
          at (holds e) q = let w : met x.0.0 x.0.1 front ≡ false = t.0 ∙ ap not e in
              rw (w, e) (ap₂ (λ a l. B x.0 a ++ l) (here w) q)
          at (fails e) q = let w : met x.0.0 x.0.1 front ≡ true = t.0 ∙ ap not e in rw (w, e) q

      -- the sets of a tree, each with the mark of its first node, are listed by a walk with the test
      pub listed_by_walk : (t : Tree) (qs : List A) (xs : List (Decision × A)) (d : A) → Marked (preorder t) qs xs → Tells [] xs
          → flat (map (λ y. B y (get_or qs (first_node t y) d)) (sets t)) ≡ kept xs
      unfolding sets
      listed_by_walk t qs xs d m t' = ap (λ l. flat (map (λ y. B y (get_or qs (first_node t y) d)) (firsts [] l))) (decisions_of_nodes t ∙ marked-decisions m)
          ∙ kept_firsts [] xs (λ y. get_or qs (first_node t y) d) (get_or qs 0 d) (λ y e. mark_at y.0 y.1 0 0 (λ i. get_or qs i d) d m (λ i. ap (λ n. get_or qs n d) (NatL.zero-add i))) t'

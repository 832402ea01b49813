-- What a walk stores, node by node. Assumes nothing.
use mathlib.Core.Path.{◌≡◌, refl, sym, ap, ◌∙◌, subst}
use mathlib.Core.Logic.{inl}
use mathlib.Core.List.{List}
use Prim.Native.Nat.{ℕ, suc, ◌+◌, ◌-◌, ◌≤◌, ◌<◌}
use native.Mathlib.Omega.{arith}
use lib.Dec.{eqb}
use lib.Ieee.{Float, nan, binary64, of_bits, to_bits}
use Rattle.std.proofs.Common.{ap₂}
use Rattle.std.proofs.lemmas.List.{get_or-take, get_or-drop}
use Rattle.prelude.proofs.Parts.{part_length}
use lib.ListN.{length, get_or, set, length-set, take, drop}
use lib.Seq.{get_or-set_same, get_or-set_other}
use borrow.Author.Tests.{eq-eqb, eqb-true}
use Rattle.prelude.proofs.Tests.{Tested, holds, fails, tested}
use Rattle.game_tree.specs.Tree.{Key, Tree, end, chance, decide, Trees, nil, cons, fan}
use Rattle.game_tree.specs.Conditions.{Every}
use Rattle.game_tree.specs.Sets.{size, sizes, first_entry}
use Rattle.game_tree_f64.specs.Values.{Profile, profile_of, times, weight, passed}
use Rattle.arena.specs.internal.Words.{END, CHANCE, kind_of, actor_of, actions_of, set_of, next_of}
use Rattle.arena.specs.internal.Held.{Says, Held}
use Rattle.arena.specs.internal.Walk.{Behind, Fan}
use Rattle.arena.specs.internal.Index.{Kept, Alike}
use Rattle.arena.specs.internal.Legible.{Legible, LegibleAll}
use Rattle.arena.proofs.Building.{size_some, fan-few, kept_none, kept_join, kept_set}
use Rattle.arena.proofs.Reading.{deep_some, chance-row, decide-row, first, rest, near}
use Rattle.arena.proofs.Staying.{Same, alike-join, kept_wider, alike-held, alike-row}
use Rattle.f64_collect.specs.internal.Reached.{Walkable, Marked, MarkedAll, Reached, ReachedAll, Each, Divided}

-- ---- reaches stored stay so where other words change
module _ (s : Profile) (i b : ℕ) (v w : List ℕ) where
  mutual
    unfolding Marked size

    pub marked_same : (a : ℕ) (r : Float) (t : Tree) → Same v w (b + a) (b + (a + size t)) → Marked s i b v a r t → Marked s i b w a r t
    marked_same a r (end p) e h = tt
    marked_same a r (chance f) e h = marked_same_all (suc a) (λ x. times r (weight (fan f))) 0 f (λ p l m. e p (omega arith) (omega arith)) h
    marked_same a r (decide j k f) e h = (λ o. ap (of_bits binary64) (e (b + a) (omega arith) (omega arith)) ∙ h.0 o, marked_same_all (suc a) (passed s i r j k) 0 f (λ p l m. e p (omega arith) (omega arith)) h.1)

    marked_same_all : (a : ℕ) (g : ℕ → Float) (x : ℕ) (f : Trees) → Same v w (b + a) (b + (a + sizes f)) → MarkedAll s i b v a g x f → MarkedAll s i b w a g x f
    marked_same_all a g x nil e h = tt
    marked_same_all a g x (cons t f) e h = (marked_same a (g x) t (λ p l m. e p l (omega arith)) h.0, marked_same_all (a + size t) g (suc x) f (λ p l m. e p (omega arith) (omega arith)) h.1)

-- ---- what a decision passes on
module _ (s : Profile) (i : ℕ) (r : Float) (j : ℕ) (k : Key) (x : ℕ) where
  passed_own : j ≡ i → passed s i r j k x ≡ r
  passed_own e = rw (eq-eqb j i e) refl

  passed_other : (j ≡ i → ⊥) → passed s i r j k x ≡ times r (s j k x)
  passed_other e = at (tested (eqb j i))
    where
      at : Tested (eqb j i) → passed s i r j k x ≡ times r (s j k x)
      at (holds q) = absurd (e (eqb-true j i q))
      at (fails q) = rw q refl

-- ---- a node
module _ (profile : List Float) (i b a : ℕ) (r : Float) (d : ℕ) (old : List ℕ) where
  -- no depth
  pub node_none : d ≡ 0 → Reached profile i b a r d old old
  node_none e = record { same = λ p l. refl; long = refl; is = λ w n T t l h A m k. absurd (omega (arith, deep_some t, A.within)) }

  -- a word put down for the node
  module _ (mid : List ℕ) (u : ℕ) (e : mid ≡ set old (b + a) u) where
    put_alike : Alike b old mid
    put_alike p l = ap (λ v. get_or v p 0) e ∙ get_or-set_other old (b + a) p u 0 (λ q. omega arith)

    put_long : length mid ≡ length old
    put_long = ap length e ∙ length-set old (b + a) u

    put_here : b + a < length old → get_or mid (b + a) 0 ≡ u
    put_here l = ap (λ v. get_or v (b + a) 0) e ∙ get_or-set_same old (b + a) u 0 l

    -- and then its children's
    put_kept : (new : List ℕ) (m : ℕ) → Kept (b + (a + 1)) (b + (a + 1 + m)) mid new → Kept (b + a) (b + (a + suc m)) old new
    put_kept new m k = kept_join (b + a) (suc (b + a)) (b + (a + suc m)) old mid new (omega arith) (omega arith) (rw e (kept_set (b + a) old u))
        (kept_wider (b + (a + 1)) (b + (a + 1 + m)) (suc (b + a)) (b + (a + suc m)) mid new (omega arith) (omega arith) k)

  module _ (x : ℕ) (y : x ≡ get_or old a 0) where
    module _ (w : List ℕ) (n : ℕ) (T : Tree) (l : ℕ → ℕ → Key → ℕ) (h : Alike b w old) where
      reads : a < b → x ≡ get_or w a 0
      reads m = y ∙ h a m

      -- an end
      end_is : (t : Tree) → kind_of x ≡ END → Legible n T l w (length profile) a d t → a + size t ≤ b → Marked (profile_of T profile) i b old a r t × Kept (b + a) (b + (a + size t)) old old
      unfolding Held Says Marked size
      end_is (end p) k A m = (tt, record { words = λ q o. refl; long = refl })
      end_is (chance f) k A m = absurd (omega (arith, A.held.0.0, ap kind_of (reads (omega arith))))
      end_is (decide j y f) k A m = absurd (omega (arith, A.held.0.0, ap kind_of (reads (omega arith))))

      -- a chance node
      chance_is : (t : Tree) (new : List ℕ) (s c : ℕ) (p : Float) → kind_of x ≡ CHANCE → s ≡ next_of x → Fan old (a + 1) s c → (c < 4294967296 → p ≡ weight c)
          → ReachedAll (Each (a + 1) s (times r p)) profile i b (a + 1) (d - 1) old new → Legible n T l w (length profile) a d t → a + size t ≤ b → b + (a + size t) ≤ length old
          → Marked (profile_of T profile) i b new a r t × Kept (b + a) (b + (a + size t)) old new
      unfolding Held Says Marked size
      chance_is (end q) new s c p k o F W N A m z = absurd (omega (arith, A.held.0, ap kind_of (reads (omega arith))))
      chance_is (chance f) new s c p k o F W N A m z =
          let L = chance-row n T l w (length profile) a d f A in
          let E : s ≡ a + 1 + sizes f = o ∙ ap next_of (reads (omega arith)) ∙ A.held.0.1 ∙ omega arith in
          let C : c ≡ fan f = F n (first_entry T) l f (alike-row n T l b (a + 1) w old h f (omega arith) L.held) E (omega (arith, A.room)) in
          let P : p ≡ weight (fan f) = W (omega (arith, fan-few f, A.room)) ∙ ap weight C in
          let R : Each (a + 1) s (times r p) T f (λ x. times r (weight (fan f))) = record { ends = E; gives = λ x. ap (times r) (sym P) } in
          let K = N.is w n T f (λ x. times r (weight (fan f))) l h L R (omega arith) (omega arith) in
          (subst (λ q. MarkedAll (profile_of T profile) i b new q (λ x. times r (weight (fan f))) 0 f) (omega arith) K.0, kept_wider (b + (a + 1)) (b + (a + 1 + sizes f)) (b + a) (b + (a + suc (sizes f))) old new (omega arith) (omega arith) K.1)
      chance_is (decide j y f) new s c p k o F W N A m z = absurd (omega (arith, A.held.0.0, ap kind_of (reads (omega arith))))

      -- a decision of the seat
      own_is : (t : Tree) (mid new : List ℕ) (s : ℕ) → (kind_of x ≡ END → ⊥) → (kind_of x ≡ CHANCE → ⊥) → actor_of x ≡ i → (mid ≡ set old (b + a) (to_bits binary64 r)) × (of_bits binary64 (to_bits binary64 r) ≡ r) → s ≡ next_of x
          → ReachedAll (Each (a + 1) s r) profile i b (a + 1) (d - 1) mid new → Legible n T l w (length profile) a d t → a + size t ≤ b → b + (a + size t) ≤ length old
          → Marked (profile_of T profile) i b new a r t × Kept (b + a) (b + (a + size t)) old new
      unfolding Held Says Marked size Every
      own_is (end p) mid new s k o e q u N A m z = absurd (k (ap kind_of (reads (omega arith)) ∙ A.held.0))
      own_is (chance f) mid new s k o e q u N A m z = absurd (o (ap kind_of (reads (omega arith)) ∙ A.held.0.0))
      own_is (decide j y f) mid new s k o e q u N A m z =
          let X : x ≡ get_or w a 0 = reads (omega arith) in
          let J : j ≡ i = sym (ap actor_of X ∙ A.held.0.1) ∙ e in
          let R : Each (a + 1) s r T f (passed (profile_of T profile) i r j y) = record { ends = u ∙ ap next_of X ∙ A.held.0.4 ∙ omega arith; gives = λ x. passed_own (profile_of T profile) i r j y x J } in
          let K = N.is w n T f (passed (profile_of T profile) i r j y) l (alike-join b w old mid h (put_alike mid (to_bits binary64 r) q.0))
          (decide-row n T l w (length profile) a d j y f A) R (omega arith) (omega (arith, put_long mid (to_bits binary64 r) q.0)) in
          let H : of_bits binary64 (get_or new (b + a) 0) ≡ r = ap (of_bits binary64) (K.1.words (b + a) (inl (omega arith)) ∙ put_here mid (to_bits binary64 r) q.0 (omega arith)) ∙ q.1 in
          ((λ _. H, subst (λ p. MarkedAll (profile_of T profile) i b new p (passed (profile_of T profile) i r j y) 0 f) (omega arith) K.0), put_kept mid (to_bits binary64 r) q.0 new (sizes f) K.1)

      -- a decision of another seat
      other_is : (t : Tree) (new : List ℕ) (s c : ℕ) → (kind_of x ≡ END → ⊥) → (kind_of x ≡ CHANCE → ⊥) → (actor_of x ≡ i → ⊥) → s ≡ set_of x → c ≡ actions_of x → s + c ≤ length profile
          → ReachedAll (Divided profile (take (s + c - s) (drop s profile)) r) profile i b (a + 1) (d - 1) old new → Legible n T l w (length profile) a d t → a + size t ≤ b → b + (a + size t) ≤ length old
          → Marked (profile_of T profile) i b new a r t × Kept (b + a) (b + (a + size t)) old new
      unfolding Held Says Marked size Every
      other_is (end p) new s c k o e q u v N A m z = absurd (k (ap kind_of (reads (omega arith)) ∙ A.held.0))
      other_is (chance f) new s c k o e q u v N A m z = absurd (o (ap kind_of (reads (omega arith)) ∙ A.held.0.0))
      other_is (decide j y f) new s c k o e q u v N A m z =
          let X : x ≡ get_or w a 0 = reads (omega arith) in
          let J : j ≡ i → ⊥ = λ p. e (ap actor_of X ∙ A.held.0.1 ∙ p) in
          let many : c ≡ fan f = u ∙ ap actions_of X ∙ A.held.0.2 in
          let few : s + c - s ≡ fan f = omega (arith, many) in
          let R : Divided profile (take (s + c - s) (drop s profile)) r T f (passed (profile_of T profile) i r j y) = record {
            seat = j;
            key = y;
            own = ap₂ (λ m e. take m (drop e profile)) few (q ∙ ap set_of X ∙ A.held.0.3);
            long = part_length profile s (s + c) v ∙ few;
            gives = λ x. passed_other (profile_of T profile) i r j y x J;
          } in
          let K = N.is w n T f (passed (profile_of T profile) i r j y) l h (decide-row n T l w (length profile) a d j y f A) R (omega arith) (omega arith) in (
            (λ p. absurd (J p), subst (λ p. MarkedAll (profile_of T profile) i b new p (passed (profile_of T profile) i r j y) 0 f) (omega arith) K.0),
            kept_wider (b + (a + 1)) (b + (a + 1 + sizes f)) (b + a) (b + (a + suc (sizes f))) old new (omega arith) (omega arith) K.1,
          )

      -- no decision of the tree has entries behind the profile
      short_is : (t : Tree) → (kind_of x ≡ END → ⊥) → (kind_of x ≡ CHANCE → ⊥) → length profile < set_of x + actions_of x → Legible n T l w (length profile) a d t → a + size t ≤ b → ⊥
      unfolding Held Says size Every
      short_is (end p) k o e A m = k (ap kind_of (reads (omega arith)) ∙ A.held.0)
      short_is (chance f) k o e A m = o (ap kind_of (reads (omega arith)) ∙ A.held.0.0)
      short_is (decide j y f) k o e A m = let X : x ≡ get_or w a 0 = reads (omega arith) in omega (arith, ap set_of X, ap actions_of X, A.held.0.2, A.held.0.3, A.entered.0.2)

    pub node_end : kind_of x ≡ END → Reached profile i b a r d old old
    node_end k = record { same = λ p l. refl; long = refl; is = λ w n T t l h A m z. end_is w n T l h t k A m }

    pub node-chance : (new : List ℕ) (s c : ℕ) (p : Float) → kind_of x ≡ CHANCE → s ≡ next_of x → Fan old (a + 1) s c → (c < 4294967296 → p ≡ weight c)
        → ReachedAll (Each (a + 1) s (times r p)) profile i b (a + 1) (d - 1) old new → Reached profile i b a r d old new
    node-chance new s c p k o F W N = record { same = N.same; long = N.long; is = λ w n T t l h. chance_is w n T l h t new s c p k o F W N }

    pub node_own : (mid new : List ℕ) (s : ℕ) → (kind_of x ≡ END → ⊥) → (kind_of x ≡ CHANCE → ⊥) → actor_of x ≡ i → (mid ≡ set old (b + a) (to_bits binary64 r)) × (of_bits binary64 (to_bits binary64 r) ≡ r) → s ≡ next_of x
        → ReachedAll (Each (a + 1) s r) profile i b (a + 1) (d - 1) mid new → Reached profile i b a r d old new
    node_own mid new s k o e q u N = record {
      same = alike-join b old mid new (put_alike mid (to_bits binary64 r) q.0) N.same;
      long = N.long ∙ put_long mid (to_bits binary64 r) q.0;
      is = λ w n T t l h. own_is w n T l h t mid new s k o e q u N;
    }

    pub node-other : (new : List ℕ) (s c : ℕ) → (kind_of x ≡ END → ⊥) → (kind_of x ≡ CHANCE → ⊥) → (actor_of x ≡ i → ⊥) → s ≡ set_of x → c ≡ actions_of x → s + c ≤ length profile
        → ReachedAll (Divided profile (take (s + c - s) (drop s profile)) r) profile i b (a + 1) (d - 1) old new → Reached profile i b a r d old new
    node-other new s c k o e q u v N = record { same = N.same; long = N.long; is = λ w n T t l h. other_is w n T l h t new s c k o e q u v N }

    pub node-short : (kind_of x ≡ END → ⊥) → (kind_of x ≡ CHANCE → ⊥) → length profile < set_of x + actions_of x → Reached profile i b a r d old old
    node-short k o e = record { same = λ p l. refl; long = refl; is = λ w n T t l h A m z. absurd (short_is w n T l h t k o e A m) }

-- ---- a row, tree by tree
module _ (profile : List Float) (i b a d : ℕ) (old : List ℕ) where
  -- of row f, the c trees before place p are stored in v, and the others are to come
  pub record Going (w : List ℕ) (n : ℕ) (T : Tree) (l : ℕ → ℕ → Key → ℕ) (f : Trees) (g : ℕ → Float) (p c : ℕ) (v : List ℕ) : Type 0 where
    pub left : Trees
    pub on : a ≤ p
    pub legible : LegibleAll n T l w (length profile) p d left
    pub room : a + sizes f ≡ p + sizes left
    pub count : fan f ≡ c + fan left
    pub kept : Kept (b + a) (b + p) old v
    pub filled : (x : List ℕ) → Same v x (b + a) (b + p) → MarkedAll (profile_of T profile) i b x p g c left → MarkedAll (profile_of T profile) i b x a g 0 f

  -- place p is reached: so it is of every row and its reaches of which R holds, and Q of the trees before p
  pub record SoFar (R : Tree → Trees → (ℕ → Float) → Type 0) (Q : ℕ → Type 0) (p : ℕ) (v : List ℕ) : Type 0 where
    pub same : Alike b old v
    pub long : length v ≡ length old
    pub going : (w : List ℕ) (n : ℕ) (T : Tree) (f : Trees) (g : ℕ → Float) (l : ℕ → ℕ → Key → ℕ) → Alike b w old → LegibleAll n T l w (length profile) a d f → R T f g → a + sizes f ≤ b
        → b + (a + sizes f) ≤ length old → (c : ℕ) × Q c × Going w n T l f g p c v

  module _ (w : List ℕ) (n : ℕ) (T : Tree) (l : ℕ → ℕ → Key → ℕ) (f : Trees) (g : ℕ → Float) where
    going_start : LegibleAll n T l w (length profile) a d f → Going w n T l f g a 0 old
    going_start A = record { left = f; on = omega arith; legible = A; room = refl; count = omega arith; kept = kept_none (b + a) old; filled = λ x s h. h }

    -- what is to come begins before the row ends
    going_some : (p c : ℕ) (v : List ℕ) → Going w n T l f g p c v → p < a + sizes f → c < fan f
    unfolding fan size
    going_some p c v G m = at G.left G.room G.count
      where
        at : (r : Trees) → a + sizes f ≡ p + sizes r → fan f ≡ c + fan r → c < fan f
        at nil e q = absurd (omega arith)
        at (cons t r) e q = omega arith

    -- and has no tree at its end
    going-over : (p c : ℕ) (v : List ℕ) → Going w n T l f g p c v → a + sizes f ≤ p → fan f ≤ c
    unfolding fan size
    going-over p c v G m = at G.left G.room G.count
      where
        at : (r : Trees) → a + sizes f ≡ p + sizes r → fan f ≡ c + fan r → fan f ≤ c
        at nil e q = omega arith
        at (cons t r) e q = absurd (omega (arith, size_some t))

    going_end : (p c : ℕ) (v : List ℕ) → Going w n T l f g p c v → fan f ≤ c → MarkedAll (profile_of T profile) i b v a g 0 f × Kept (b + a) (b + (a + sizes f)) old v
    unfolding fan size Marked
    going_end p c v G m = at G.left G.room G.count G.filled
      where
        at : (r : Trees) → a + sizes f ≡ p + sizes r → fan f ≡ c + fan r
            → ((x : List ℕ) → Same v x (b + a) (b + p) → MarkedAll (profile_of T profile) i b x p g c r → MarkedAll (profile_of T profile) i b x a g 0 f)
            → MarkedAll (profile_of T profile) i b v a g 0 f × Kept (b + a) (b + (a + sizes f)) old v
        at nil e q F = (F v (λ p x y. refl) tt, kept_wider (b + a) (b + p) (b + a) (b + (a + sizes f)) old v (omega arith) (omega arith) G.kept)
        at (cons t r) e q F = absurd (omega arith)

    -- the place behind the next tree, which is stored with its reach
    module _ (p c q : ℕ) (r : Float) (v x : List ℕ) (h : Alike b w old) (o : Alike b old v) (y : length v ≡ length old) (m : a + sizes f ≤ b) (z : b + (a + sizes f) ≤ length old)
        (N : Reached profile i b p r d v x) (B : Behind x p q) where
      next_place : (t : Tree) (f' : Trees) → a + sizes f ≡ p + sizes (cons t f') → LegibleAll n T l w (length profile) p d (cons t f') → q ≡ p + size t
      unfolding size
      next_place t f' e A = B.place n (first_entry T) l t
          (alike-held n T l b p w x (alike-join b w v x (alike-join b w old v h o) N.same) t (omega arith) (first n T l w (length profile) p d t f' A).held) (near n T l w (length profile) p d t f' A)

      next_stored : (t : Tree) (f' : Trees) → a + sizes f ≡ p + sizes (cons t f') → LegibleAll n T l w (length profile) p d (cons t f') → Marked (profile_of T profile) i b x p r t × Kept (b + p) (b + (p + size t)) v x
      unfolding size
      next_stored t f' e A = N.is w n T t l (alike-join b w old v h o) (first n T l w (length profile) p d t f' A) (omega arith) (omega arith)

      going_more : Going w n T l f g p c v → c < fan f → g c ≡ r → Going w n T l f g q (c + 1) x
      unfolding fan size Marked
      going_more G k e = at G.left G.legible G.room G.count G.filled
        where
          at : (f' : Trees) → LegibleAll n T l w (length profile) p d f' → a + sizes f ≡ p + sizes f' → fan f ≡ c + fan f'
              → ((x : List ℕ) → Same v x (b + a) (b + p) → MarkedAll (profile_of T profile) i b x p g c f' → MarkedAll (profile_of T profile) i b x a g 0 f) → Going w n T l f g q (c + 1) x
          at nil A E C F = absurd (omega arith)
          at (cons t f') A E C F =
              let P : q ≡ p + size t = next_place t f' E A in
              let K = next_stored t f' E A in
              let L : a ≤ p = G.on in
              record {
                left = f';
                on = omega arith;
                legible = rest n T l w (length profile) p d t f' A q P;
                room = omega arith;
                count = omega arith;
                kept = kept_join (b + a) (b + p) (b + q) old v x (omega arith) (omega arith) G.kept (kept_wider (b + p) (b + (p + size t)) (b + p) (b + q) v x (omega arith) (omega arith) K.1);
                filled = λ s j H. F s (λ i X Y. j i X (omega arith) ∙ K.1.words i (inl Y)) (
                  marked_same (profile_of T profile) i b x s p (g c) t (λ i X Y. j i (omega arith) (omega arith)) (subst (λ u. Marked (profile_of T profile) i b x p u t) (sym e) K.0),
                  subst (λ X. MarkedAll (profile_of T profile) i b s X g (suc c) f') P (subst (λ X. MarkedAll (profile_of T profile) i b s q g X f') (omega arith) H),
                );
              }

      -- no tree ends before it begins
      going_stuck : Going w n T l f g p c v → c < fan f → q ≤ p → ⊥
      unfolding fan
      going_stuck G k e = at G.left G.legible G.room G.count
        where
          at : (f' : Trees) → LegibleAll n T l w (length profile) p d f' → a + sizes f ≡ p + sizes f' → fan f ≡ c + fan f' → ⊥
          at nil A E C = omega arith
          at (cons t f') A E C = omega (arith, next_place t f' E A, size_some t)

  -- ---- each with reach r
  module _ (z : ℕ) (r : Float) where
    pub each_start : SoFar (Each a z r) (λ c. Unit {0}) a old
    each_start = record { same = λ p l. refl; long = refl; going = λ w n T f g l h A R m k. (0, tt, going_start w n T l f g A) }

    pub each_more : (p q : ℕ) (v x : List ℕ) → SoFar (Each a z r) (λ c. Unit {0}) p v → p < z → Reached profile i b p r d v x → Behind x p q → SoFar (Each a z r) (λ c. Unit {0}) q x
    each_more p q v x S m N B = record {
      same = alike-join b old v x S.same N.same;
      long = N.long ∙ S.long;
      going = λ w n T f g l h A R o k.
          let G = S.going w n T f g l h A R o k in
          (G.0 + 1, tt, going_more w n T l f g p G.0 q r v x h S.same S.long o k N B G.2 (going_some w n T l f g p G.0 v G.2 (omega (arith, R.ends))) (R.gives G.0));
    }

    pub each_end : (p : ℕ) (v : List ℕ) → SoFar (Each a z r) (λ c. Unit {0}) p v → z ≤ p → ReachedAll (Each a z r) profile i b a d old v
    each_end p v S m = record {
      same = S.same;
      long = S.long;
      is = λ w n T f g l h A R o k.
          let G = S.going w n T f g l h A R o k in
          going_end w n T l f g p G.0 v G.2 (going-over w n T l f g p G.0 v G.2 (omega (arith, R.ends)));
    }

    pub each_stuck : (p q : ℕ) (v x : List ℕ) → SoFar (Each a z r) (λ c. Unit {0}) p v → p < z → Reached profile i b p r d v x → Behind x p q → q ≤ p → ReachedAll (Each a z r) profile i b a d old x
    each_stuck p q v x S m N B s = record {
      same = alike-join b old v x S.same N.same;
      long = N.long ∙ S.long;
      is = λ w n T f g l h A R o k.
          let G = S.going w n T f g l h A R o k in
          absurd (going_stuck w n T l f g p G.0 q r v x h S.same S.long o k N B G.2 (going_some w n T l f g p G.0 v G.2 (omega (arith, R.ends))) s);
    }

  -- ---- as the profile says
  module _ (part : List Float) (r : Float) where
    pub divided_start : SoFar (Divided profile part r) (λ c. c ≡ 0) a old
    divided_start = record { same = λ p l. refl; long = refl; going = λ w n T f g l h A R m k. (0, refl, going_start w n T l f g A) }

    -- the reach of action c
    divided_gives : (c : ℕ) (s : Float) → c < length part → s ≡ get_or part c nan → (T : Tree) (f : Trees) (g : ℕ → Float) → Divided profile part r T f g → g c ≡ times r s
    unfolding profile_of
    divided_gives c s l h T f g R =
        let e = first_entry T R.seat R.key in
        let q : get_or part c nan ≡ get_or profile (e + c) nan = ap (λ p. get_or p c nan) R.own ∙ get_or-take (fan f) (drop e profile) c nan (omega (arith, l, R.long)) ∙ get_or-drop e profile c nan in
        R.gives c ∙ ap (times r) (sym q ∙ sym h)

    pub divided_more : (p c q : ℕ) (s : Float) (v x : List ℕ) → SoFar (Divided profile part r) (λ y. y ≡ c) p v → c < length part → s ≡ get_or part c nan → Reached profile i b p (times r s) d v x → Behind x p q
        → SoFar (Divided profile part r) (λ y. y ≡ c + 1) q x
    divided_more p c q s v x S m y N B = record {
      same = alike-join b old v x S.same N.same;
      long = N.long ∙ S.long;
      going = λ w n T f g l h A R o k.
          let G = S.going w n T f g l h A R o k in
          let here : g G.0 ≡ times r s = ap g G.1 ∙ divided_gives c s m y T f g R in
          (G.0 + 1, ap (λ y. y + 1) G.1, going_more w n T l f g p G.0 q (times r s) v x h S.same S.long o k N B G.2 (omega (arith, G.1, R.long)) here);
    }

    pub divided_end : (p c : ℕ) (v : List ℕ) → SoFar (Divided profile part r) (λ y. y ≡ c) p v → length part ≤ c → ReachedAll (Divided profile part r) profile i b a d old v
    divided_end p c v S m = record {
      same = S.same;
      long = S.long;
      is = λ w n T f g l h A R o k.
          let G = S.going w n T f g l h A R o k in
          going_end w n T l f g p G.0 v G.2 (omega (arith, G.1, R.long));
    }

-- ---- one step down, and one along
pub walk_along : (a p d : ℕ) → Walkable a d → p < 4194304 → Walkable p d
walk_along a p d h l = record { place = omega (arith, h.shallow); shallow = h.shallow }

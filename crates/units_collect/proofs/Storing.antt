-- What a walk stores, node by node. Assumes nothing.
use mathlib.Core.Path.{◌≡◌, refl, sym, ap, ◌∙◌, subst}
use mathlib.Core.Logic.{inl}
use mathlib.Core.List.{List}
use Prim.Native.Nat.{ℕ, suc, ◌+◌, ◌-◌, ◌*◌, ◌/◌, ◌≤◌, ◌<◌}
use native.Mathlib.Omega.{arith}
use lib.Dec.{eqb}
use Rattle.std.proofs.Common.{ap₂}
use Rattle.std.proofs.lemmas.List.{get_or-take, get_or-drop}
use Rattle.prelude.proofs.Parts.{part_length}
use lib.ListN.{length, get_or, set, take, drop, length-set}
use lib.Seq.{get_or-set_same, get_or-set_other}
use borrow.Author.Tests.{eq-eqb, eqb-true}
use Rattle.prelude.proofs.Tests.{Tested, holds, fails, tested}
use Rattle.game_tree.specs.Tree.{Key, Tree, end, chance, decide, Trees, nil, cons, fan, Strategy}
use Rattle.game_tree.specs.Conditions.{Every}
use Rattle.game_tree.specs.Sets.{size, sizes, first_entry}
use Rattle.game_tree.specs.Table.{strategy_of}
use Rattle.game_tree.specs.Reply.{share}
use Rattle.arena.specs.internal.Words.{END, CHANCE, kind_of, actor_of, actions_of, set_of, next_of}
use Rattle.arena.specs.internal.Held.{Says, Held}
use Rattle.arena.specs.internal.Walk.{Behind, Fan}
use Rattle.arena.specs.internal.Index.{Kept, Alike}
use Rattle.arena.proofs.Building.{size_some, kept_none, kept_join, kept_set}
use Rattle.units.specs.internal.Readable.{Readable, ReadableAll}
use Rattle.units.specs.internal.Gain.{given, Stocked, StockedAll}
use Rattle.arena.proofs.Reading.{deep_some}
use Rattle.units.proofs.Reading.{chance-row, decide-row, first, rest, near}
use Rattle.arena.proofs.Staying.{Same, alike-join, alike-held, alike-row}
use Rattle.units_collect.specs.internal.Collected.{Collected, CollectedAll, Each, Dealt, Moved, Shared}

-- ---- words that stay
kept_at : (a b c d : ℕ) (v w : List ℕ) → a ≡ b → c ≡ d → Kept a c v w → Kept b d v w
kept_at a b c d v w e q k = subst (λ x. Kept x d v w) e (subst (λ x. Kept a x v w) q k)

-- ---- units stored stay so where other words change
module _ (D : ℕ) (s : Strategy) (i b : ℕ) (v w : List ℕ) where
  mutual
    unfolding Stocked size

    pub stocked_same : (a u : ℕ) (t : Tree) → Same v w (b + a) (b + (a + size t)) → Stocked D s i b v a u t → Stocked D s i b w a u t
    stocked_same a u (end p) e h = e (b + a) (omega arith) (omega arith) ∙ h
    stocked_same a u (chance f) e h = (e (b + a) (omega arith) (omega arith) ∙ h.0, stocked_same_all (suc a) (λ x. u / fan f) 0 f (λ p l m. e p (omega arith) (omega arith)) h.1)
    stocked_same a u (decide j k f) e h = (e (b + a) (omega arith) (omega arith) ∙ h.0, stocked_same_all (suc a) (given D s i u j k) 0 f (λ p l m. e p (omega arith) (omega arith)) h.1)

    pub stocked_same_all : (a : ℕ) (g : ℕ → ℕ) (x : ℕ) (f : Trees) → Same v w (b + a) (b + (a + sizes f)) → StockedAll D s i b v a g x f → StockedAll D s i b w a g x f
    stocked_same_all a g x nil e h = tt
    stocked_same_all a g x (cons t f) e h = (stocked_same a (g x) t (λ p l m. e p l (omega arith)) h.0, stocked_same_all (a + size t) g (suc x) f (λ p l m. e p (omega arith) (omega arith)) h.1)

-- ---- what is read below place b is read where the words there are the same
module _ (n : ℕ) (T : Tree) (l : ℕ → ℕ → Key → ℕ) (b a : ℕ) (v w : List ℕ) (e : Alike b v w) where
  pub alike-readable : (table : List ℕ) (D d : ℕ) (t : Tree) → a + size t ≤ b → Readable n T l v table D a d t → Readable n T l w table D a d t
  alike-readable table D d t m h = record { held = alike-held n T l b a v w e t m h.held; room = h.room; entered = h.entered; few = h.few; within = h.within }

-- ---- a node: its units are put down first
module _ (table : List ℕ) (D i b a u d : ℕ) (old : List ℕ) where
  -- no depth
  pub node_none : d ≡ 0 → Collected table D i b a u d old old
  node_none e = record { same = λ p l. refl; long = refl; is = λ w n T t l h r m k. absurd (omega (arith, deep_some t, r.within)) }

  module _ (mid : List ℕ) (x : ℕ) (e : mid ≡ set old (b + a) u) (y : x ≡ get_or mid a 0) where
    put_alike : Alike b old mid
    put_alike p l = ap (λ v. get_or v p 0) e ∙ get_or-set_other old (b + a) p u 0 (λ q. omega arith)

    put_long : length mid ≡ length old
    put_long = ap length e ∙ length-set old (b + a) u

    put_here : b + a < length old → get_or mid (b + a) 0 ≡ u
    put_here l = ap (λ v. get_or v (b + a) 0) e ∙ get_or-set_same old (b + a) u 0 l

    put_kept : Kept (b + a) (suc (b + a)) old mid
    put_kept = rw e (kept_set (b + a) old u)

    reads : (w : List ℕ) → Alike b w old → a < b → x ≡ get_or w a 0
    reads w h l = y ∙ put_alike a l ∙ h a l

    -- a node whose children are stored
    above : (new : List ℕ) (f : Trees) → b + (a + suc (sizes f)) ≤ length old → Kept (b + (a + 1)) (b + (a + 1 + sizes f)) mid new
        → (get_or new (b + a) 0 ≡ u) × Kept (b + a) (b + (a + suc (sizes f))) old new
    above new f l k = (
      k.words (b + a) (inl (omega arith)) ∙ put_here (omega arith),
      kept_join (b + a) (suc (b + a)) (b + (a + suc (sizes f))) old mid new (omega arith) (omega arith) put_kept
          (kept_at (b + (a + 1)) (suc (b + a)) (b + (a + 1 + sizes f)) (b + (a + suc (sizes f))) mid new (omega arith) (omega arith) k),
    )

    module _ (w : List ℕ) (n : ℕ) (T : Tree) (l : ℕ → ℕ → Key → ℕ) (h : Alike b w old) where
      -- an end
      end_is : (t : Tree) → kind_of x ≡ END → Readable n T l w table D a d t → a + size t ≤ b → b + (a + size t) ≤ length old
          → Stocked D (strategy_of T table) i b mid a u t × Kept (b + a) (b + (a + size t)) old mid
      unfolding Held Says Stocked size
      end_is (end p) k r m z = (put_here (omega arith), kept_at (b + a) (b + a) (suc (b + a)) (b + (a + 1)) old mid refl (omega arith) put_kept)
      end_is (chance f) k r m z = absurd (omega (arith, r.held.0.0, ap kind_of (reads w h (omega arith))))
      end_is (decide j y f) k r m z = absurd (omega (arith, r.held.0.0, ap kind_of (reads w h (omega arith))))

      -- a chance node
      chance_is : (t : Tree) (new : List ℕ) (s : ℕ) → kind_of x ≡ CHANCE → s ≡ next_of x → CollectedAll (Dealt (a + 1) s u) table D i b (a + 1) (d - 1) mid new → Readable n T l w table D a d t → a + size t ≤ b
          → b + (a + size t) ≤ length old → Stocked D (strategy_of T table) i b new a u t × Kept (b + a) (b + (a + size t)) old new
      unfolding Held Says Stocked size
      chance_is (end p) new s k o q r m z = absurd (omega (arith, r.held.0, ap kind_of (reads w h (omega arith))))
      chance_is (chance f) new s k o q r m z =
          let R : Dealt (a + 1) s u T f (λ x. u / fan f) = record { ends = o ∙ ap next_of (reads w h (omega arith)) ∙ r.held.0.1 ∙ omega arith; gives = λ x. refl } in
          let K = q.is w n T f (λ x. u / fan f) l (alike-join b w old mid h put_alike) (chance-row n T l w table D a d f r) R (omega arith) (omega (arith, put_long)) in
          let A = above new f z K.1 in
          ((A.0, subst (λ p. StockedAll D (strategy_of T table) i b new p (λ x. u / fan f) 0 f) (omega arith) K.0), A.1)
      chance_is (decide j y f) new s k o q r m z = absurd (omega (arith, r.held.0.0, ap kind_of (reads w h (omega arith))))

      -- a decision
      decides_is : (t : Tree) (new : List ℕ) → (kind_of x ≡ END → ⊥) → (kind_of x ≡ CHANCE → ⊥) → CollectedAll (Moved table D i (a + 1) x u) table D i b (a + 1) (d - 1) mid new → Readable n T l w table D a d t
          → a + size t ≤ b → b + (a + size t) ≤ length old → Stocked D (strategy_of T table) i b new a u t × Kept (b + a) (b + (a + size t)) old new
      unfolding Held Says Stocked size Every
      decides_is (end p) new k o q r m z = absurd (k (ap kind_of (reads w h (omega arith)) ∙ r.held.0))
      decides_is (chance f) new k o q r m z = absurd (o (ap kind_of (reads w h (omega arith)) ∙ r.held.0.0))
      decides_is (decide j y f) new k o q r m z =
          let X : x ≡ get_or w a 0 = reads w h (omega arith) in
          let R : Moved table D i (a + 1) x u T f (given D (strategy_of T table) i u j y) = record {
            seat = j;
            key = y;
            actor = ap actor_of X ∙ r.held.0.1;
            set = ap set_of X ∙ r.held.0.3;
            actions = ap actions_of X ∙ r.held.0.2;
            ends = ap next_of X ∙ r.held.0.4 ∙ omega arith;
            entered = r.entered.0;
            gives = λ x. refl;
          } in
          let K = q.is w n T f (given D (strategy_of T table) i u j y) l (alike-join b w old mid h put_alike) (decide-row n T l w table D a d j y f r) R (omega arith) (omega (arith, put_long)) in
          let A = above new f z K.1 in
          ((A.0, subst (λ p. StockedAll D (strategy_of T table) i b new p (given D (strategy_of T table) i u j y) 0 f) (omega arith) K.0), A.1)

    pub node_end : kind_of x ≡ END → Collected table D i b a u d old mid
    node_end k = record { same = put_alike; long = put_long; is = λ w n T t l h. end_is w n T l h t k }

    pub node-chance : (new : List ℕ) (s : ℕ) → kind_of x ≡ CHANCE → s ≡ next_of x → CollectedAll (Dealt (a + 1) s u) table D i b (a + 1) (d - 1) mid new → Collected table D i b a u d old new
    node-chance new s k o q = record { same = alike-join b old mid new put_alike q.same; long = q.long ∙ put_long; is = λ w n T t l h. chance_is w n T l h t new s k o q }

    pub node-decides : (new : List ℕ) → (kind_of x ≡ END → ⊥) → (kind_of x ≡ CHANCE → ⊥) → CollectedAll (Moved table D i (a + 1) x u) table D i b (a + 1) (d - 1) mid new → Collected table D i b a u d old new
    node-decides new k o q = record { same = alike-join b old mid new put_alike q.same; long = q.long ∙ put_long; is = λ w n T t l h. decides_is w n T l h t new k o q }

  -- an end whose word is read before its units are stored
  pub node_peeked : (mid : List ℕ) (x : ℕ) → mid ≡ set old (b + a) u → x ≡ get_or old a 0 → kind_of x ≡ END → Collected table D i b a u d old mid
  node_peeked mid x e y k = record {
    same = put_alike mid (get_or mid a 0) e refl;
    long = put_long mid (get_or mid a 0) e refl;
    is = λ w n T t l h r m q. (node_end mid (get_or mid a 0) e refl (ap kind_of (ap (λ v. get_or v a 0) e ∙ get_or-set_other old (b + a) a u 0 (λ o. omega (arith, o, m, size_some t)) ∙ sym y) ∙ k)).is w n T t l h r m q;
  }

-- ---- a row by its units
module _ (table : List ℕ) (D i b a u d : ℕ) (old : List ℕ) where
  none_stored : (T : Tree) (f : Trees) (g : ℕ → ℕ) → fan f ≡ 0 → StockedAll D (strategy_of T table) i b old a g 0 f × Kept (b + a) (b + (a + sizes f)) old old
  unfolding fan size Stocked
  none_stored T nil g e = (tt, kept_at (b + a) (b + a) (b + a) (b + (a + 0)) old old refl (omega arith) (kept_none (b + a) old))
  none_stored T (cons t f) g e = absurd (omega arith)

  -- the children of a chance node
  module _ (z c : ℕ) (F : Fan old a z c) where
    counted : (w : List ℕ) (n : ℕ) (T : Tree) (f : Trees) (g : ℕ → ℕ) (l : ℕ → ℕ → Key → ℕ) → Alike b w old → ReadableAll n T l w table D a d f → Dealt a z u T f g → a + sizes f ≤ b → c ≡ fan f
    counted w n T f g l h r R m = F n (first_entry T) l f (alike-row n T l b a w old h f m r.held) R.ends (omega (arith, R.ends, r.room))

    pub deal_none : c ≡ 0 → CollectedAll (Dealt a z u) table D i b a d old old
    deal_none e = record { same = λ p l. refl; long = refl; is = λ w n T f g l h r R m k. none_stored T f g (sym (counted w n T f g l h r R m) ∙ e) }

    pub deal_some : (new : List ℕ) → CollectedAll (Each a z (u / c)) table D i b a d old new → CollectedAll (Dealt a z u) table D i b a d old new
    deal_some new q = record {
      same = q.same;
      long = q.long;
      is = λ w n T f g l h r R m k. q.is w n T f g l h r (record { ends = R.ends; gives = λ x. R.gives x ∙ ap (λ y. u / y) (sym (counted w n T f g l h r R m)) }) m k;
    }

  -- the children of a decision with word y
  module _ (y : ℕ) where
    -- the seat's own
    given_own : (s : Strategy) (j : ℕ) (k : Key) (x : ℕ) → j ≡ i → given D s i u j k x ≡ u
    unfolding share
    given_own s j k x e = rw (eq-eqb j i e) refl

    -- another's
    given-other : (s : Strategy) (j : ℕ) (k : Key) (x : ℕ) → (j ≡ i → ⊥) → given D s i u j k x ≡ u * s j k x / D
    unfolding share
    given-other s j k x e = at (tested (eqb j i))
      where
        at : Tested (eqb j i) → share D (eqb j i) u (s j k x) ≡ u * s j k x / D
        at (holds q) = absurd (e (eqb-true j i q))
        at (fails q) = rw q refl

    pub decide_own : (new : List ℕ) (z : ℕ) → actor_of y ≡ i → z ≡ next_of y → CollectedAll (Each a z u) table D i b a d old new → CollectedAll (Moved table D i a y u) table D i b a d old new
    decide_own new z e o q = record {
      same = q.same;
      long = q.long;
      is = λ w n T f g l h r R m k. q.is w n T f g l h r (record { ends = o ∙ R.ends; gives = λ x. R.gives x ∙ given_own (strategy_of T table) R.seat R.key x (sym R.actor ∙ e) }) m k;
    }

    -- no entries for it
    pub decide_none : length table < set_of y + actions_of y → CollectedAll (Moved table D i a y u) table D i b a d old old
    decide_none e = record { same = λ p l. refl; long = refl; is = λ w n T f g l h r R m k. absurd (omega (arith, R.set, R.actions, R.entered.2)) }

    pub decide-other : (new : List ℕ) (s c : ℕ) → (actor_of y ≡ i → ⊥) → s ≡ set_of y → c ≡ actions_of y → s + c ≤ length table
        → CollectedAll (Shared table (take (s + c - s) (drop s table)) D u) table D i b a d old new → CollectedAll (Moved table D i a y u) table D i b a d old new
    decide-other new s c e o p z q = record {
      same = q.same;
      long = q.long;
      is = λ w n T f g l h r R m k. q.is w n T f g l h r (record {
        seat = R.seat;
        key = R.key;
        own = ap₂ (λ m e. take m (drop e table)) (few R.actions) (o ∙ R.set);
        long = part_length table s (s + c) z ∙ few R.actions;
        gives = λ x. R.gives x ∙ given-other (strategy_of T table) R.seat R.key x (λ j. e (R.actor ∙ j));
      }) m k;
    }
      where
        few : {n : ℕ} → actions_of y ≡ n → s + c - s ≡ n
        few e = omega (arith, p, e)

-- ---- a row, tree by tree
module _ (table : List ℕ) (D i b a d : ℕ) (old : List ℕ) where
  -- of row f, the c trees before place p are stored in v, and the others are to come
  pub record Going (w : List ℕ) (n : ℕ) (T : Tree) (l : ℕ → ℕ → Key → ℕ) (f : Trees) (g : ℕ → ℕ) (p c : ℕ) (v : List ℕ) : Type 0 where
    pub rest : Trees
    pub on : a ≤ p
    pub readable : ReadableAll n T l w table D p d rest
    pub room : a + sizes f ≡ p + sizes rest
    pub count : fan f ≡ c + fan rest
    pub kept : Kept (b + a) (b + p) old v
    pub filled : (x : List ℕ) → Same v x (b + a) (b + p) → StockedAll D (strategy_of T table) i b x p g c rest → StockedAll D (strategy_of T table) i b x a g 0 f

  -- place p is reached: so it is of every row and its units of which R holds, and Q of the trees before p
  pub record SoFar (R : Tree → Trees → (ℕ → ℕ) → Type 0) (Q : ℕ → Type 0) (p : ℕ) (v : List ℕ) : Type 0 where
    pub same : Alike b old v
    pub long : length v ≡ length old
    pub going : (w : List ℕ) (n : ℕ) (T : Tree) (f : Trees) (g : ℕ → ℕ) (l : ℕ → ℕ → Key → ℕ) → Alike b w old → ReadableAll n T l w table D a d f → R T f g → a + sizes f ≤ b
        → b + (a + sizes f) ≤ length old → (c : ℕ) × Q c × Going w n T l f g p c v

  module _ (w : List ℕ) (n : ℕ) (T : Tree) (l : ℕ → ℕ → Key → ℕ) (f : Trees) (g : ℕ → ℕ) where
    going_start : ReadableAll n T l w table D a d f → Going w n T l f g a 0 old
    going_start r = record { rest = f; on = omega arith; readable = r; room = refl; count = omega arith; kept = kept_none (b + a) old; filled = λ x s h. h }

    -- what is to come begins before the row ends
    going_some : (p c : ℕ) (v : List ℕ) → Going w n T l f g p c v → p < a + sizes f → c < fan f
    unfolding fan size
    going_some p c v G m = at G.rest G.room G.count
      where
        at : (r : Trees) → a + sizes f ≡ p + sizes r → fan f ≡ c + fan r → c < fan f
        at nil e q = absurd (omega arith)
        at (cons t r) e q = omega arith

    -- and has no tree at its end
    going-over : (p c : ℕ) (v : List ℕ) → Going w n T l f g p c v → a + sizes f ≤ p → fan f ≤ c
    unfolding fan size
    going-over p c v G m = at G.rest G.room G.count
      where
        at : (r : Trees) → a + sizes f ≡ p + sizes r → fan f ≡ c + fan r → fan f ≤ c
        at nil e q = omega arith
        at (cons t r) e q = absurd (omega (arith, size_some t))

    going_end : (p c : ℕ) (v : List ℕ) → Going w n T l f g p c v → fan f ≤ c → StockedAll D (strategy_of T table) i b v a g 0 f × Kept (b + a) (b + (a + sizes f)) old v
    unfolding fan size Stocked
    going_end p c v G m = at G.rest G.room G.count G.filled
      where
        at : (r : Trees) → a + sizes f ≡ p + sizes r → fan f ≡ c + fan r → ((x : List ℕ) → Same v x (b + a) (b + p) → StockedAll D (strategy_of T table) i b x p g c r → StockedAll D (strategy_of T table) i b x a g 0 f)
            → StockedAll D (strategy_of T table) i b v a g 0 f × Kept (b + a) (b + (a + sizes f)) old v
        at nil e q F = (F v (λ p x y. refl) tt, kept_at (b + a) (b + a) (b + p) (b + (a + sizes f)) old v refl (omega arith) G.kept)
        at (cons t r) e q F = absurd (omega arith)

    -- the place behind the next tree, which is stored with its units
    module _ (p c q u : ℕ) (v x : List ℕ) (h : Alike b w old) (o : Alike b old v) (y : length v ≡ length old) (m : a + sizes f ≤ b) (z : b + (a + sizes f) ≤ length old) (N : Collected table D i b p u d v x) (B : Behind x p q) where
      next_place : (t : Tree) (r : Trees) → a + sizes f ≡ p + sizes (cons t r) → ReadableAll n T l w table D p d (cons t r) → q ≡ p + size t
      unfolding size
      next_place t r e A = B.place n (first_entry T) l t (alike-held n T l b p w x (alike-join b w v x (alike-join b w old v h o) N.same) t (omega arith) (first n T l w table D p d t r A).held) (near n T l w table D p d t r A)

      next_stored : (t : Tree) (r : Trees) → a + sizes f ≡ p + sizes (cons t r) → ReadableAll n T l w table D p d (cons t r) → Stocked D (strategy_of T table) i b x p u t × Kept (b + p) (b + (p + size t)) v x
      unfolding size
      next_stored t r e A = N.is w n T t l (alike-join b w old v h o) (first n T l w table D p d t r A) (omega arith) (omega arith)

      going_more : Going w n T l f g p c v → c < fan f → g c ≡ u → Going w n T l f g q (c + 1) x
      unfolding fan size Stocked
      going_more G k e = at G.rest G.readable G.room G.count G.filled
        where
          at : (r : Trees) → ReadableAll n T l w table D p d r → a + sizes f ≡ p + sizes r → fan f ≡ c + fan r
              → ((x : List ℕ) → Same v x (b + a) (b + p) → StockedAll D (strategy_of T table) i b x p g c r → StockedAll D (strategy_of T table) i b x a g 0 f) → Going w n T l f g q (c + 1) x
          at nil A E C F = absurd (omega arith)
          at (cons t r) A E C F =
              let P : q ≡ p + size t = next_place t r E A in
              let K = next_stored t r E A in
              let L : a ≤ p = G.on in
              record {
                rest = r;
                on = omega arith;
                readable = rest n T l w table D p d t r A q P;
                room = omega arith;
                count = omega arith;
                kept = kept_join (b + a) (b + p) (b + q) old v x (omega arith) (omega arith) G.kept (kept_at (b + p) (b + p) (b + (p + size t)) (b + q) v x refl (omega arith) K.1);
                filled = λ s j H. F s (λ i X Y. j i X (omega arith) ∙ K.1.words i (inl Y)) (
                  stocked_same D (strategy_of T table) i b x s p (g c) t (λ i X Y. j i (omega arith) (omega arith)) (subst (λ U. Stocked D (strategy_of T table) i b x p U t) (sym e) K.0),
                  subst (λ X. StockedAll D (strategy_of T table) i b s X g (suc c) r) P (subst (λ X. StockedAll D (strategy_of T table) i b s q g X r) (omega arith) H),
                );
              }

      -- no tree ends before it begins
      going_stuck : Going w n T l f g p c v → c < fan f → q ≤ p → ⊥
      unfolding fan
      going_stuck G k e = at G.rest G.readable G.room G.count
        where
          at : (r : Trees) → ReadableAll n T l w table D p d r → a + sizes f ≡ p + sizes r → fan f ≡ c + fan r → ⊥
          at nil A E C = omega arith
          at (cons t r) A E C = omega (arith, next_place t r E A, size_some t)

  -- ---- with u units each
  module _ (z u : ℕ) where
    pub each_start : SoFar (Each a z u) (λ c. Unit {0}) a old
    each_start = record { same = λ p l. refl; long = refl; going = λ w n T f g l h r R m k. (0, tt, going_start w n T l f g r) }

    pub each_more : (p q : ℕ) (v x : List ℕ) → SoFar (Each a z u) (λ c. Unit {0}) p v → p < z → Collected table D i b p u d v x → Behind x p q → SoFar (Each a z u) (λ c. Unit {0}) q x
    each_more p q v x S m N B = record {
      same = alike-join b old v x S.same N.same;
      long = N.long ∙ S.long;
      going = λ w n T f g l h r R o k.
          let G = S.going w n T f g l h r R o k in
          (G.0 + 1, tt, going_more w n T l f g p G.0 q u v x h S.same S.long o k N B G.2 (going_some w n T l f g p G.0 v G.2 (omega (arith, R.ends))) (R.gives G.0));
    }

    pub each_end : (p : ℕ) (v : List ℕ) → SoFar (Each a z u) (λ c. Unit {0}) p v → z ≤ p → CollectedAll (Each a z u) table D i b a d old v
    each_end p v S m = record {
      same = S.same;
      long = S.long;
      is = λ w n T f g l h r R o k.
          let G = S.going w n T f g l h r R o k in
          going_end w n T l f g p G.0 v G.2 (going-over w n T l f g p G.0 v G.2 (omega (arith, R.ends)));
    }

    pub each_stuck : (p q : ℕ) (v x : List ℕ) → SoFar (Each a z u) (λ c. Unit {0}) p v → p < z → Collected table D i b p u d v x → Behind x p q → q ≤ p → CollectedAll (Each a z u) table D i b a d old x
    each_stuck p q v x S m N B s = record {
      same = alike-join b old v x S.same N.same;
      long = N.long ∙ S.long;
      is = λ w n T f g l h r R o k.
          let G = S.going w n T f g l h r R o k in
          absurd (going_stuck w n T l f g p G.0 q u v x h S.same S.long o k N B G.2 (going_some w n T l f g p G.0 v G.2 (omega (arith, R.ends))) s);
    }

  -- ---- as the table says
  module _ (part : List ℕ) (u : ℕ) where
    pub shared_start : SoFar (Shared table part D u) (λ c. c ≡ 0) a old
    shared_start = record { same = λ p l. refl; long = refl; going = λ w n T f g l h r R m k. (0, refl, going_start w n T l f g r) }

    -- what action c is given
    shared_gives : (c s : ℕ) → c < length part → (get_or part c 0 ≤ D → s ≡ u * get_or part c 0 / D) → ((x : ℕ) → get_or table x 0 ≤ D) → (T : Tree) (f : Trees) (g : ℕ → ℕ)
        → Shared table part D u T f g → g c ≡ s
    unfolding strategy_of
    shared_gives c s l h few T f g R =
        let e = first_entry T R.seat R.key in
        let q : get_or part c 0 ≡ get_or table (e + c) 0 = ap (λ p. get_or p c 0) R.own ∙ get_or-take (fan f) (drop e table) c 0 (omega (arith, l, R.long)) ∙ get_or-drop e table c 0 in
        R.gives c ∙ sym (ap (λ p. u * p / D) q) ∙ sym (h (rw q (few (e + c))))

    pub shared_more : (p c q s : ℕ) (v x : List ℕ) → SoFar (Shared table part D u) (λ y. y ≡ c) p v → c < length part → (get_or part c 0 ≤ D → s ≡ u * get_or part c 0 / D) → Collected table D i b p s d v x
        → Behind x p q → SoFar (Shared table part D u) (λ y. y ≡ c + 1) q x
    shared_more p c q s v x S m y N B = record {
      same = alike-join b old v x S.same N.same;
      long = N.long ∙ S.long;
      going = λ w n T f g l h r R o k.
          let G = S.going w n T f g l h r R o k in
          let here : g G.0 ≡ s = ap g G.1 ∙ shared_gives c s m y r.few T f g R in
          (G.0 + 1, ap (λ y. y + 1) G.1, going_more w n T l f g p G.0 q s v x h S.same S.long o k N B G.2 (omega (arith, G.1, R.long)) here);
    }

    pub shared_end : (p c : ℕ) (v : List ℕ) → SoFar (Shared table part D u) (λ y. y ≡ c) p v → length part ≤ c → CollectedAll (Shared table part D u) table D i b a d old v
    shared_end p c v S m = record {
      same = S.same;
      long = S.long;
      is = λ w n T f g l h r R o k.
          let G = S.going w n T f g l h r R o k in
          going_end w n T l f g p G.0 v G.2 (omega (arith, G.1, R.long));
    }

-- Trees written one after the other: what is held stays held, a row grows by a tree, and a node is put before its row. Assumes nothing.
use mathlib.Core.Path.{◌≡◌, refl, sym, ap, ◌∙◌, subst}
use mathlib.Core.Logic.{◌⊎◌, inl, inr}
use mathlib.Core.List.{List}
use Prim.Native.Nat.{ℕ, suc, ◌+◌, ◌≤◌, ◌<◌}
use native.Mathlib.Nat as NatL
use native.Mathlib.Omega.{arith}
use lib.ListN.{length, get_or, set, length-set}
use lib.Seq.{get_or-set_same, get_or-set_other}
use Rattle.game_tree.specs.Tree.{Key, Tree, end, chance, decide, Trees, nil, cons, fan}
use Rattle.game_tree.specs.Sets.{size, sizes}
use Rattle.arena.specs.internal.Held.{Says, Held, HeldAll}
use Rattle.arena.specs.internal.Index.{unlinked, Kept}
use Rattle.arena.specs.internal.Built.{Built, Row}

-- ---- what is kept
pub kept_none : (a : ℕ) (w : List ℕ) → Kept a a w w
kept_none a w = record { words = λ i o. refl; long = refl }

pub kept_join : (a b c : ℕ) (u v w : List ℕ) → a ≤ b → b ≤ c → Kept a b u v → Kept b c v w → Kept a c u w
kept_join a b c u v w h g p q = record { words = λ i o. q.words i (second i o) ∙ p.words i (first i o); long = q.long ∙ p.long }
  where
    first : (i : ℕ) → (i < a) ⊎ (c ≤ i) → (i < a) ⊎ (b ≤ i)
    first i (inl l) = inl l
    first i (inr l) = inr (omega arith)

    second : (i : ℕ) → (i < a) ⊎ (c ≤ i) → (i < b) ⊎ (c ≤ i)
    second i (inl l) = inl (omega arith)
    second i (inr l) = inr l

pub kept_set : (a : ℕ) (w : List ℕ) (x : ℕ) → Kept a (suc a) w (set w a x)
kept_set a w x = record { words = λ i o. get_or-set_other w a i x 0 (other i o); long = length-set w a x }
  where
    other : (i : ℕ) → (i < a) ⊎ (suc a ≤ i) → i ≡ a → ⊥
    other i (inl l) e = omega arith
    other i (inr l) e = omega arith

pub size_some : (t : Tree) → 1 ≤ size t
unfolding size
size_some (end p) = omega arith
size_some (chance f) = omega arith
size_some (decide j k f) = omega arith

-- a row has no more trees than nodes
pub fan-few : (f : Trees) → fan f ≤ sizes f
unfolding fan size
fan-few nil = NatL.le_refl 0
fan-few (cons t f) = omega (arith, size_some t, fan-few f)

-- ---- what is held stays so where other words change
module _ (n : ℕ) (s : ℕ → Key → ℕ) (l : ℕ → ℕ → Key → ℕ) (v w : List ℕ) where
  -- the words from a to b are the same
  abbrev pub Same : ℕ → ℕ → Type 0
  Same a b = (i : ℕ) → a ≤ i → i < b → get_or w i 0 ≡ get_or v i 0

  mutual
    unfolding Held Says size

    pub held_same : (a : ℕ) (t : Tree) → Held n s l v a t → Same a (a + size t) → Held n s l w a t
    held_same a (end p) h e = subst (λ x. Says n s l x a (end p)) (sym (e a (omega arith) (omega arith))) h
    held_same a (chance f) h e = (subst (λ x. Says n s l x a (chance f)) (sym (e a (omega arith) (omega arith))) h.0, held_same_all (suc a) f h.1 (λ i b c. e i (omega arith) (omega arith)))
    held_same a (decide j k f) h e = (subst (λ x. Says n s l x a (decide j k f)) (sym (e a (omega arith) (omega arith))) h.0, held_same_all (suc a) f h.1 (λ i b c. e i (omega arith) (omega arith)))

    pub held_same_all : (a : ℕ) (f : Trees) → HeldAll n s l v a f → Same a (a + sizes f) → HeldAll n s l w a f
    held_same_all a nil h e = tt
    held_same_all a (cons t f) h e = (held_same a t h.0 (λ i b c. e i b (omega arith)), held_same_all (a + size t) f h.1 (λ i b c. e i (omega arith) (omega arith)))

-- ---- rows
-- a tree behind a row
unfoldable pub snoc : Trees → Tree → Trees
snoc nil u = cons u nil
snoc (cons t f) u = cons t (snoc f u)

pub sizes-snoc : (f : Trees) (u : Tree) → sizes (snoc f u) ≡ sizes f + size u
unfolding snoc size
sizes-snoc nil u = omega arith
sizes-snoc (cons t f) u = omega (arith, sizes-snoc f u)

-- two rows, one behind the other
unfoldable pub join : Trees → Trees → Trees
join nil g = g
join (cons t f) g = cons t (join f g)

pub join-nil : (f : Trees) → join f nil ≡ f
unfolding join
join-nil nil = refl
join-nil (cons t f) = ap (cons t) (join-nil f)

pub sizes-join : (f g : Trees) → sizes (join f g) ≡ sizes f + sizes g
unfolding join size
sizes-join nil g = omega arith
sizes-join (cons t f) g = omega (arith, sizes-join f g)

module _ (n : ℕ) (code : ℕ → Key → ℕ) where
  held-snoc : (w : List ℕ) (a : ℕ) (f : Trees) (u : Tree) → HeldAll n code unlinked w a f → Held n code unlinked w (a + sizes f) u → HeldAll n code unlinked w a (snoc f u)
  unfolding Held snoc size
  held-snoc w a nil u h g = (subst (λ i. Held n code unlinked w i u) (NatL.add-zero a) g, tt)
  held-snoc w a (cons t f) u h g = (h.0, held-snoc w (a + size t) f u h.1 (subst (λ i. Held n code unlinked w i u) (sym (NatL.add_assoc a (size t) (sizes f))) g))

  pub row_none : (a : ℕ) (w : List ℕ) → Row n code a w w nil a
  unfolding Held size
  row_none a w = record { next = omega arith; held = tt; kept = rw (NatL.add-zero a) (kept_none a w) }

  pub row_more : (a : ℕ) (u v w : List ℕ) (f : Trees) (t : Tree) (r q : ℕ) → Row n code a u v f r → Built n code r v w t q → Row n code a u w (snoc f t) q
  row_more a u v w f t r q h g = record {
    next = omega (arith, h.next, g.next, sizes-snoc f t);
    held = held-snoc w a f t (held_same_all n code unlinked v w a f h.held (λ i b c. g.kept.words i (inl (omega (arith, h.next))))) (rw h.next at g.held);
    kept = rw (sizes-snoc f t, ← NatL.add_assoc a (sizes f) (size t)) (kept_join a (a + sizes f) (a + sizes f + size t) u v w (omega arith) (omega arith) h.kept (rw h.next at g.kept));
  }

  held-join : (w : List ℕ) (a : ℕ) (f g : Trees) → HeldAll n code unlinked w a f → HeldAll n code unlinked w (a + sizes f) g → HeldAll n code unlinked w a (join f g)
  unfolding Held join size
  held-join w a nil g h i = subst (λ j. HeldAll n code unlinked w j g) (NatL.add-zero a) i
  held-join w a (cons t f) g h i = (h.0, held-join w (a + size t) f g h.1 (subst (λ j. HeldAll n code unlinked w j g) (sym (NatL.add_assoc a (size t) (sizes f))) i))

  pub row-join : (a : ℕ) (u v w : List ℕ) (f g : Trees) (r q : ℕ) → Row n code a u v f r → Row n code r v w g q → Row n code a u w (join f g) q
  row-join a u v w f g r q h i = record {
    next = omega (arith, h.next, i.next, sizes-join f g);
    held = held-join w a f g (held_same_all n code unlinked v w a f h.held (λ j b c. i.kept.words j (inl (omega (arith, h.next))))) (rw h.next at i.held);
    kept = rw (sizes-join f g, ← NatL.add_assoc a (sizes f) (sizes g)) (kept_join a (a + sizes f) (a + sizes f + sizes g) u v w (omega arith) (omega arith) h.kept (rw h.next at i.kept));
  }

  pub row_one : (a : ℕ) (u v : List ℕ) (t : Tree) (r : ℕ) → Built n code a u v t r → Row n code a u v (cons t nil) r
  unfolding snoc
  row_one a u v t r b = row_more a u u v nil t a r (row_none a u) b

  -- ---- a node before its row
  held_put : (a x : ℕ) (u v : List ℕ) (f : Trees) (r : ℕ) → Row n code (suc a) u v f r → HeldAll n code unlinked (set v a x) (suc a) f
  held_put a x u v f r h = held_same_all n code unlinked v (set v a x) (suc a) f h.held (λ i b c. get_or-set_other v a i x 0 (λ e. omega arith))

  room : (a : ℕ) (u v : List ℕ) (f : Trees) (r : ℕ) → Row n code (suc a) u v f r → a < length u → a < length v
  room a u v f r h g = rw h.kept.long g

  kept_put : (a x : ℕ) (u v : List ℕ) (f : Trees) (r : ℕ) → Row n code (suc a) u v f r → Kept a (a + suc (sizes f)) u (set v a x)
  kept_put a x u v f r h = record { words = λ i o. get_or-set_other v a i x 0 (other i o) ∙ h.kept.words i (inner i o); long = length-set v a x ∙ h.kept.long }
    where
      other : (i : ℕ) → (i < a) ⊎ (a + suc (sizes f) ≤ i) → i ≡ a → ⊥
      other i (inl l) e = omega arith
      other i (inr l) e = omega arith

      inner : (i : ℕ) → (i < a) ⊎ (a + suc (sizes f) ≤ i) → (i < suc a) ⊎ (suc a + sizes f ≤ i)
      inner i (inl l) = inl (omega arith)
      inner i (inr l) = inr (omega arith)

  pub built_chance : (a x : ℕ) (u v w : List ℕ) (f : Trees) (r : ℕ) → Row n code (suc a) u v f r → a < length u → w ≡ set v a x → Says n code unlinked x a (chance f) → Built n code a u w (chance f) r
  unfolding Held size
  built_chance a x u v w f r h g e s = rw e (record {
    next = omega (arith, h.next);
    held = (subst (λ y. Says n code unlinked y a (chance f)) (sym (get_or-set_same v a x 0 (room a u v f r h g))) s, held_put a x u v f r h);
    kept = kept_put a x u v f r h;
  })

  pub built_decide : (a x : ℕ) (u v w : List ℕ) (j : ℕ) (k : Key) (f : Trees) (r : ℕ) → Row n code (suc a) u v f r → a < length u → w ≡ set v a x → Says n code unlinked x a (decide j k f)
      → Built n code a u w (decide j k f) r
  unfolding Held size
  built_decide a x u v w j k f r h g e s = rw e (record {
    next = omega (arith, h.next);
    held = (subst (λ y. Says n code unlinked y a (decide j k f)) (sym (get_or-set_same v a x 0 (room a u v f r h g))) s, held_put a x u v f r h);
    kept = kept_put a x u v f r h;
  })

  pub built_end : (a x : ℕ) (u w : List ℕ) (p : _) → a < length u → w ≡ set u a x → Says n code unlinked x a (end p) → Built n code a u w (end p) (a + 1)
  unfolding Held size
  built_end a x u w p g e s = rw e (record {
    next = refl;
    held = subst (λ y. Says n code unlinked y a (end p)) (sym (get_or-set_same u a x 0 g)) s;
    kept = rw (NatL.add-suc a 0 ∙ ap suc (NatL.add-zero a)) (kept_set a u x);
  })

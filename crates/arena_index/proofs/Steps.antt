-- What a step of the index does, by cases of the word it looks at. Assumes nothing.
use mathlib.Core.Path.{◌≡◌, refl, sym, ap, ◌∙◌}
use mathlib.Core.Bool.{true, false, not}
use mathlib.Core.List.{List}
use Prim.Native.Nat.{ℕ, ◌+◌, ◌-◌, ◌%◌}
use lib.ListN.{get_or, set}
use borrow.Author.Tests.{eq-eqb, ne_eqb}
use Rattle.prelude.specs.Finite.{◌and◌}
use Rattle.prelude.proofs.Tests.{both, and_left_fails, and_right_fails}
use Rattle.arena.specs.internal.Words.{DECISION, kind_of, actions_of, set_of, PLACES}
use Rattle.arena_index.specs.internal.Indexing.{is_new, Met, is_known, entry_of, relinked, pushed, linked}

-- ---- a set is entered, or not
module _ (nodes x entry : ℕ) (old : List ℕ) where
  pub met_none : is_new old nodes x ≡ false → Met nodes x entry old old entry
  met_none e = record { words = rw e refl; count = rw e refl }

  pub met_kind : (kind_of x ≡ DECISION → ⊥) → Met nodes x entry old old entry
  unfolding is_new
  met_kind h = met_none (and_left_fails _ (ne_eqb (kind_of x) DECISION h))

  pub met-known : (get_or old (nodes + set_of x) 0 ≡ 0 → ⊥) → Met nodes x entry old old entry
  unfolding is_new
  met-known h = met_none (and_right_fails _ (ne_eqb (get_or old (nodes + set_of x) 0) 0 h))

  pub met_new : (new : List ℕ) (r : ℕ) → kind_of x ≡ DECISION → get_or old (nodes + set_of x) 0 ≡ 0 → new ≡ set old (nodes + set_of x) (entry + 1) → r ≡ entry + actions_of x
      → Met nodes x entry old new r
  unfolding is_new
  met_new new r k z e q =
      let b : is_new old nodes x ≡ true = both (eq-eqb (kind_of x) DECISION k) (eq-eqb (get_or old (nodes + set_of x) 0) 0 z) in
      record { words = rw b e; count = rw b q }

-- ---- a node is linked, or not
module _ (nodes heads a : ℕ) (w : List ℕ) where
  abbrev x : ℕ
  x = get_or w a 0

  pub linked_none : is_known w nodes x ≡ false → linked nodes heads a w ≡ w
  unfolding linked
  linked_none e = rw e refl

  pub linked_kind : (kind_of x ≡ DECISION → ⊥) → linked nodes heads a w ≡ w
  unfolding is_known
  linked_kind h = linked_none (and_left_fails _ (ne_eqb (kind_of x) DECISION h))

  pub linked-unknown : get_or w (nodes + set_of x) 0 ≡ 0 → linked nodes heads a w ≡ w
  unfolding is_known
  linked-unknown h = linked_none (and_right_fails _ (ap not (eq-eqb (get_or w (nodes + set_of x) 0) 0 h)))

  pub linked-known : kind_of x ≡ DECISION → (get_or w (nodes + set_of x) 0 ≡ 0 → ⊥) → linked nodes heads a w ≡ pushed heads a x (entry_of w nodes x) w
  unfolding linked is_known ◌and◌
  linked-known k h = rw (eq-eqb (kind_of x) DECISION k, ne_eqb (get_or w (nodes + set_of x) 0) 0 h) refl

  -- the same, of a word y that is x, and the number known that is read at its code
  pub linked_by : (y known : ℕ) (new : List ℕ) → y ≡ x → kind_of y ≡ DECISION → known ≡ get_or w (nodes + set_of y) 0 → (known ≡ 0 → ⊥)
      → new ≡ pushed heads a y ((known - 1) % 16384) w → new ≡ linked nodes heads a w
  linked_by y known new e k f z g = rw (g, f, e) (sym (linked-known (rw (← e) k) λ q. z (f ∙ rw e q)))

-- a node is put before the members of its set, by what is read and written step by step
pub pushed_by : (heads a x e l v : ℕ) (w mid new : List ℕ) → l ≡ get_or w (heads + e) 0 → v ≡ relinked x e (l % PLACES) → mid ≡ set w a v → new ≡ set mid (heads + e) a → new ≡ pushed heads a x e w
pushed_by heads a x e l v w mid new f g h i = rw (i, h, g, f) refl

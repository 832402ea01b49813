-- What is read of a tree, of its children and of a row. Assumes nothing.
use Rattle.std.proofs.Common.{◌≡◌, ℕ, ◌+◌, ◌-◌, ◌<◌, List, subst, arith}
use native.Mathlib.Nat as NatL
use Rattle.game_tree.specs.Tree.{Key, Tree, chance, decide, Trees, cons}
use Rattle.game_tree.specs.Conditions.{Every}
use Rattle.game_tree.specs.Sets.{size, first_entry}
use Rattle.arena.specs.internal.Held.{Held, HeldAll}
use Rattle.arena.specs.internal.Legible.{deep, deep_all}
use Rattle.units.specs.internal.Readable.{Readable, ReadableAll}

module _ (n : ℕ) (T : Tree) (l : ℕ → ℕ → Key → ℕ) (w table : List ℕ) (D a d : ℕ) where
  -- the children of a chance node
  pub chance-row : (f : Trees) → Readable n T l w table D a d (chance f) → ReadableAll n T l w table D (a + 1) (d - 1) f
  unfolding Held size Every deep
  chance-row f h = record {
    held = subst (λ b. HeldAll n (first_entry T) l w b f) (omega arith) h.held.1;
    room = omega (arith, h.room);
    entered = h.entered;
    few = h.few;
    within = omega (arith, h.within);
  }

  -- the children of a decision
  pub decide-row : (j : ℕ) (k : Key) (f : Trees) → Readable n T l w table D a d (decide j k f) → ReadableAll n T l w table D (a + 1) (d - 1) f
  unfolding Held size Every deep
  decide-row j k f h = record {
    held = subst (λ b. HeldAll n (first_entry T) l w b f) (omega arith) h.held.1;
    room = omega (arith, h.room);
    entered = h.entered.1;
    few = h.few;
    within = omega (arith, h.within);
  }

  -- the first tree of a row, and the rest
  module _ (t : Tree) (f : Trees) (h : ReadableAll n T l w table D a d (cons t f)) where
    pub first : Readable n T l w table D a d t
    unfolding Held size Every deep
    first = record { held = h.held.0; room = omega (arith, h.room); entered = h.entered.0; few = h.few; within = NatL.le_trans (NatL.le-max_left (deep t) (deep_all f)) h.within }

    pub rest : (q : ℕ) → q ≡ a + size t → ReadableAll n T l w table D q d f
    unfolding Held size Every deep
    rest q e = rw e (record { held = h.held.1; room = omega (arith, h.room); entered = h.entered.1; few = h.few; within = NatL.le_trans (NatL.le-max_right (deep t) (deep_all f)) h.within })

    pub near : a + size t < 4194304
    unfolding size
    near = omega (arith, h.room)

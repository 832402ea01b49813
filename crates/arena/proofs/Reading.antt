-- What is read of a tree, of its children and of a row. Assumes nothing.
use mathlib.Core.Path.{◌≡◌, subst}
use mathlib.Core.List.{List}
use Prim.Native.Nat.{ℕ, ◌+◌, ◌-◌, ◌≤◌, ◌<◌}
use native.Mathlib.Nat as NatL
use native.Mathlib.Omega.{arith}
use Rattle.game_tree.specs.Tree.{Key, Tree, end, chance, decide, Trees, cons}
use Rattle.game_tree.specs.Conditions.{Every}
use Rattle.game_tree.specs.Sets.{size, first_entry}
use Rattle.arena.specs.internal.Held.{Held, HeldAll}
use Rattle.arena.specs.internal.Legible.{deep, deep_all, Legible, LegibleAll}

pub deep_some : (t : Tree) → 1 ≤ deep t
unfolding deep
deep_some (end p) = omega arith
deep_some (chance f) = omega arith
deep_some (decide j k f) = omega arith

module _ (n : ℕ) (T : Tree) (l : ℕ → ℕ → Key → ℕ) (w : List ℕ) (E a d : ℕ) where
  -- the children of a chance node
  pub chance-row : (f : Trees) → Legible n T l w E a d (chance f) → LegibleAll n T l w E (a + 1) (d - 1) f
  unfolding Held size Every deep
  chance-row f h = record { held = subst (λ b. HeldAll n (first_entry T) l w b f) (omega arith) h.held.1; room = omega (arith, h.room); entered = h.entered; within = omega (arith, h.within) }

  -- the children of a decision
  pub decide-row : (j : ℕ) (k : Key) (f : Trees) → Legible n T l w E a d (decide j k f) → LegibleAll n T l w E (a + 1) (d - 1) f
  unfolding Held size Every deep
  decide-row j k f h = record { held = subst (λ b. HeldAll n (first_entry T) l w b f) (omega arith) h.held.1; room = omega (arith, h.room); entered = h.entered.1; within = omega (arith, h.within) }

  -- the first tree of a row, and the rest
  module _ (t : Tree) (f : Trees) (h : LegibleAll n T l w E a d (cons t f)) where
    pub first : Legible n T l w E a d t
    unfolding Held size Every deep
    first = record { held = h.held.0; room = omega (arith, h.room); entered = h.entered.0; within = NatL.le_trans (NatL.le-max_left (deep t) (deep_all f)) h.within }

    pub rest : (q : ℕ) → q ≡ a + size t → LegibleAll n T l w E q d f
    unfolding Held size Every deep
    rest q e = rw e (record { held = h.held.1; room = omega (arith, h.room); entered = h.entered.1; within = NatL.le_trans (NatL.le-max_right (deep t) (deep_all f)) h.within })

    pub near : a + size t < 4194304
    unfolding size
    near = omega (arith, h.room)

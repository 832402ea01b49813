-- The children of a node, by number. Definitions only; nothing is assumed.
use Rattle.std.specs.Prelude.{◌≡◌, List, ℕ, zero, suc, ◌+◌, ◌≤◌, ◌<◌, pos}
use Rattle.game_tree.specs.Tree.{Key, Tree, end, Trees, nil, cons, fan}
use Rattle.game_tree.specs.Sets.{size, sizes}
use Rattle.arena.specs.internal.Held.{HeldAll}

-- child c of a row
unfoldable pub nth : Trees → ℕ → Tree
nth nil c = end (λ i. pos 0)
nth (cons t f) zero = t
nth (cons t f) (suc c) = nth f c

-- its place, in a row that starts at place a
unfoldable pub place_of : ℕ → Trees → ℕ → ℕ
place_of a f zero = a
place_of a nil (suc c) = a
place_of a (cons t f) (suc c) = place_of (a + size t) f c

-- whatever row is held behind the node at place a, r is the place of its child c, if c is at most 2
pub record Child (w : List ℕ) (a c r : ℕ) : Type 0 where
  pub place : (n : ℕ) (s : ℕ → Key → ℕ) (l : ℕ → ℕ → Key → ℕ) (f : Trees) → HeldAll n s l w (suc a) f → suc a + sizes f < 4194304
      → c < fan f → c ≤ 2 → r ≡ place_of (suc a) f c
  pub near : r < 4194304

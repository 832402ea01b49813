-- Where a held tree ends, and how many stand in a row. Definitions only; nothing is assumed.
use Rattle.std.specs.Prelude.{◌≡◌, List, ℕ, ◌+◌, ◌<◌}
use Rattle.game_tree.specs.Tree.{Key, Tree, Trees, fan}
use Rattle.game_tree.specs.Sets.{size, sizes}
use Rattle.arena.specs.internal.Held.{Held, HeldAll}

-- whatever tree is held at place a, below 2^22 with its end, r is the place behind it; r is below 2^22 in any case
pub record Behind (w : List ℕ) (a r : ℕ) : Type 0 where
  pub place : (n : ℕ) (s : ℕ → Key → ℕ) (l : ℕ → ℕ → Key → ℕ) (t : Tree) → Held n s l w a t → a + size t < 4194304 → r ≡ a + size t
  pub near : r < 4194304

-- whatever row of trees is held from place a to place b, r is how many they are
abbrev pub Fan : List ℕ → (a b r : ℕ) → Type 0
Fan w a b r = (n : ℕ) (s : ℕ → Key → ℕ) (l : ℕ → ℕ → Key → ℕ) (f : Trees) → HeldAll n s l w a f → b ≡ a + sizes f → b < 4194304 → r ≡ fan f

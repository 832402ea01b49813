-- A tree, or a row of trees, written into work memory from a place on. Definitions only; nothing is assumed.
use Rattle.std.specs.Prelude.{◌≡◌, List, ℕ, ◌+◌, ◌≤◌, ◌<◌, length}
use Rattle.game_tree.specs.Tree.{Key, Tree, Trees}
use Rattle.game_tree.specs.Sets.{size, sizes}
use Rattle.arena.specs.internal.Held.{Held, HeldAll}
use Rattle.arena.specs.internal.Index.{unlinked, Kept}
use Rattle.arena.specs.internal.Words.{PLACES}

-- n seats, sets by code: t stands in new from place at on, r is the place behind it, and all other words are those of old
pub record Built (n : ℕ) (code : ℕ → Key → ℕ) (at : ℕ) (old new : List ℕ) (t : Tree) (r : ℕ) : Type 0 where
  pub next : r ≡ at + size t
  pub held : Held n code unlinked new at t
  pub kept : Kept at (at + size t) old new

-- the same of a row
pub record Row (n : ℕ) (code : ℕ → Key → ℕ) (at : ℕ) (old new : List ℕ) (f : Trees) (r : ℕ) : Type 0 where
  pub next : r ≡ at + sizes f
  pub held : HeldAll n code unlinked new at f
  pub kept : Kept at (at + sizes f) old new

-- room for a tree of z nodes from a place on, in the words and in the field of a place
pub record Room (at : ℕ) (w : List ℕ) (z : ℕ) : Type 0 where
  pub words : at + z ≤ length w
  pub places : at + z < PLACES

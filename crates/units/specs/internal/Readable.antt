-- What a walk over a tree in work memory counts on. Definitions only; nothing is assumed.
use Rattle.std.specs.Prelude.{ℕ, ◌+◌, ◌<◌, ◌≤◌, List, length, slice_index}
use Rattle.game_tree.specs.Tree.{Key, Tree, Trees}
use Rattle.game_tree.specs.Conditions.{Every, EveryAll}
use Rattle.game_tree.specs.Sets.{size, sizes, first_entry}
use Rattle.arena.specs.internal.Held.{Held, HeldAll}
use Rattle.arena.specs.internal.Legible.{deep, deep_all, Entered}
use Rattle.arena.specs.internal.Words.{PLACES}

-- units are below this number, 2^57
abbrev pub UNITS : ℕ
UNITS = 144115188075855872

-- tree t stands in the words from place a on, its sets by the first entries of T, with n seats;
-- table has at most D parts in an entry, and d is no less than t is deep
pub record Readable (n : ℕ) (T : Tree) (l : ℕ → ℕ → Key → ℕ) (w table : List ℕ) (D a d : ℕ) (t : Tree) : Type 0 where
  pub held : Held n (first_entry T) l w a t
  pub room : a + size t ≤ PLACES
  pub entered : Every (Entered T (length table)) t
  pub few : (e : ℕ) → slice_index table e ≤ D
  pub within : deep t ≤ d

-- the same of a row
pub record ReadableAll (n : ℕ) (T : Tree) (l : ℕ → ℕ → Key → ℕ) (w table : List ℕ) (D a d : ℕ) (f : Trees) : Type 0 where
  pub held : HeldAll n (first_entry T) l w a f
  pub room : a + sizes f ≤ PLACES
  pub entered : EveryAll (Entered T (length table)) f
  pub few : (e : ℕ) → slice_index table e ≤ D
  pub within : deep_all f ≤ d

-- a place, units and a depth that keep every number in range
pub record Walkable (a u d : ℕ) : Type 0 where
  pub place : a + d < 8388608
  pub shallow : d ≤ 32
  pub units : u < UNITS

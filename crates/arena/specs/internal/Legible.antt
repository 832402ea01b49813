-- What a walk over a held tree and the entries of its sets counts on. Definitions only; nothing is assumed.
use Rattle.std.specs.Prelude.{List, ℕ, suc, ◌+◌, ◌≤◌, max}
use Rattle.game_tree.specs.Tree.{Key, Tree, end, chance, decide, Trees, nil, cons}
use Rattle.game_tree.specs.Conditions.{Every, EveryAll}
use Rattle.game_tree.specs.Sets.{size, sizes, first_entry}
use Rattle.arena.specs.internal.Held.{Held, HeldAll}
use Rattle.arena.specs.internal.Words.{PLACES}

-- the most nodes on a path
unfoldable mutual
  pub deep : Tree → ℕ
  deep (end p) = 1
  deep (chance f) = suc (deep_all f)
  deep (decide j k f) = suc (deep_all f)

  pub deep_all : Trees → ℕ
  deep_all nil = 0
  deep_all (cons t f) = max (deep t) (deep_all f)

-- a set of two or three actions whose entries stand among E
abbrev pub Entered : Tree → ℕ → ℕ → Key → ℕ → Type 0
Entered T E j k m = (2 ≤ m) × (m ≤ 3) × (first_entry T j k + m ≤ E)

-- tree t stands in the words from place a on, its sets by the first entries of T, with n seats;
-- its sets' entries stand among E, and d is no less than t is deep
pub record Legible (n : ℕ) (T : Tree) (l : ℕ → ℕ → Key → ℕ) (w : List ℕ) (E a d : ℕ) (t : Tree) : Type 0 where
  pub held : Held n (first_entry T) l w a t
  pub room : a + size t ≤ PLACES
  pub entered : Every (Entered T E) t
  pub within : deep t ≤ d

-- the same of a row
pub record LegibleAll (n : ℕ) (T : Tree) (l : ℕ → ℕ → Key → ℕ) (w : List ℕ) (E a d : ℕ) (f : Trees) : Type 0 where
  pub held : HeldAll n (first_entry T) l w a f
  pub room : a + sizes f ≤ PLACES
  pub entered : EveryAll (Entered T E) f
  pub within : deep_all f ≤ d

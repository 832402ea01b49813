-- What a walk over a tree in work memory stores. Definitions only; nothing is assumed.
use Rattle.std.specs.Prelude.{◌≡◌, List, ℕ, ◌+◌, ◌*◌, ◌/◌, ◌≤◌, length, take, drop}
use Rattle.game_tree.specs.Tree.{Key, Tree, Trees, fan}
use Rattle.game_tree.specs.Sets.{size, sizes, first_entry}
use Rattle.game_tree.specs.Table.{strategy_of}
use Rattle.arena.specs.internal.Words.{actor_of, actions_of, set_of, next_of}
use Rattle.arena.specs.internal.Index.{Kept, Alike}
use Rattle.arena.specs.internal.Legible.{Entered}
use Rattle.arena_walks.specs.declared.Walk.{Walk}
use Rattle.units.specs.declared.shares.Table.{Table}
use Rattle.units.specs.internal.Readable.{Readable, ReadableAll}
use Rattle.units.specs.internal.Gain.{given, Stocked, StockedAll}

-- the words below place b, where the tree stands, stay;
-- whatever tree is read there at place a, its units are stored, from u, and no other word changes
pub record Collected (table : List ℕ) (D i b a u d : ℕ) (old new : List ℕ) : Type 0 where
  pub same : Alike b old new
  pub long : length new ≡ length old
  pub is : (w : List ℕ) (n : ℕ) (T t : Tree) (l : ℕ → ℕ → Key → ℕ) → Alike b w old → Readable n T l w table D a d t → a + size t ≤ b
      → b + (a + size t) ≤ length old
      → Stocked D (strategy_of T table) i b new a u t × Kept (b + a) (b + (a + size t)) old new

-- the same of a row, where the child with number x has g x units, for each row and g of which R holds
pub record CollectedAll (R : Tree → Trees → (ℕ → ℕ) → Type 0) (table : List ℕ) (D i b a d : ℕ) (old new : List ℕ) : Type 0 where
  pub same : Alike b old new
  pub long : length new ≡ length old
  pub is : (w : List ℕ) (n : ℕ) (T : Tree) (f : Trees) (g : ℕ → ℕ) (l : ℕ → ℕ → Key → ℕ) → Alike b w old → ReadableAll n T l w table D a d f
      → R T f g → a + sizes f ≤ b
      → b + (a + sizes f) ≤ length old → StockedAll D (strategy_of T table) i b new a g 0 f × Kept (b + a) (b + (a + sizes f)) old new

-- the same of a walk
abbrev pub Collects : (W : Walk Table) (a u d : ℕ) (old new : List ℕ) → Type 0
Collects W a u d old new = Collected W.others.entries.now W.others.parts W.seat W.reach a u d old new

abbrev pub CollectsAll : (R : Tree → Trees → (ℕ → ℕ) → Type 0) (W : Walk Table) (a d : ℕ) (old new : List ℕ) → Type 0
CollectsAll R W a d old new = CollectedAll R W.others.entries.now W.others.parts W.seat W.reach a d old new

-- a row that ends at place z, u units for each of its trees
pub record Each (a z u : ℕ) (T : Tree) (f : Trees) (g : ℕ → ℕ) : Type 0 where
  pub ends : z ≡ a + sizes f
  pub gives : (x : ℕ) → g x ≡ u

-- the same, u units for all of them
pub record Dealt (a z u : ℕ) (T : Tree) (f : Trees) (g : ℕ → ℕ) : Type 0 where
  pub ends : z ≡ a + sizes f
  pub gives : (x : ℕ) → g x ≡ u / fan f

-- the children of a decision with word y, for a reply of seat i
pub record Moved (table : List ℕ) (D i a y u : ℕ) (T : Tree) (f : Trees) (g : ℕ → ℕ) : Type 0 where
  pub seat : ℕ
  pub key : Key
  pub actor : actor_of y ≡ seat
  pub set : set_of y ≡ first_entry T seat key
  pub actions : actions_of y ≡ fan f
  pub ends : next_of y ≡ a + sizes f
  pub entered : Entered T (length table) seat key (fan f)
  pub gives : (x : ℕ) → g x ≡ given D (strategy_of T table) i u seat key x

-- the same of another seat, whose set's own part of the table is given
pub record Shared (table part : List ℕ) (D u : ℕ) (T : Tree) (f : Trees) (g : ℕ → ℕ) : Type 0 where
  pub seat : ℕ
  pub key : Key
  pub own : part ≡ take (fan f) (drop (first_entry T seat key) table)
  pub long : length part ≡ fan f
  pub gives : (x : ℕ) → g x ≡ u * strategy_of T table seat key x / D

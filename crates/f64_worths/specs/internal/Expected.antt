-- What a profile is worth to a seat, read of a tree in work memory. Definitions only; nothing is assumed.
use Rattle.std.specs.Prelude.{◌≡◌, false, List, ℕ, ◌+◌, ◌≤◌, ◌<◌, length, Float}
use Rattle.game_tree.specs.Tree.{Key, Tree, Trees, fan}
use Rattle.game_tree.specs.Sets.{sizes, first_entry}
use Rattle.game_tree_f64.specs.Values.{Profile, profile_of, nought, plus, times, weight, edge, added, worth}
use Rattle.arena.specs.internal.Words.{actions_of, set_of}
use Rattle.arena.specs.internal.Legible.{Entered, Legible, LegibleAll}
use Rattle.f64_worths.specs.declared.Two.{Two}

-- a place, a seat and a depth that keep every number in range
pub record Walkable (a i d : ℕ) : Type 0 where
  pub place : a + d < 8388608
  pub seat : i < 5
  pub shallow : d ≤ 32

-- the first of two numbers is what P asks for seat i, the second for the seat behind it
abbrev pub Both : (ℕ → Float → Type 0) → ℕ → Two → Type 0
Both P i r = P i r.first × P (i + 1) r.second

-- r is the sums v, and p × g for each seat
abbrev pub Summed : (v : Two) (p : Float) (g r : Two) → Type 0
Summed v p g r = (r.first ≡ plus v.first (times p g.first)) × (r.second ≡ plus v.second (times p g.second))

-- the sum of p × g over a row of children, where no node is own
abbrev pub total : Profile → ℕ → (ℕ → Float) → Trees → Float
total s i p f = added s i (λ j. false) (λ k. 0) p 0 nought f

-- whatever tree is held at place a, r is its worth to seat i, if it has this seat
abbrev pub Expected : (profile : List Float) (w : List ℕ) (a d i : ℕ) (r : Float) → Type 0
Expected profile w a d i r = (n : ℕ) (T t : Tree) (l : ℕ → ℕ → Key → ℕ) → i < n → Legible n T l w (length profile) a d t
    → r ≡ worth (profile_of T profile) i t

-- the same with the payoff on its edge
abbrev pub Gained : (profile : List Float) (w : List ℕ) (a d i : ℕ) (r : Float) → Type 0
Gained profile w a d i r = (n : ℕ) (T t : Tree) (l : ℕ → ℕ → Key → ℕ) → i < n → Legible n T l w (length profile) a d t
    → r ≡ plus (edge i t) (worth (profile_of T profile) i t)

-- whatever row is held from place a to place z, r is its sum as the children of a chance node
abbrev pub Dealt : (profile : List Float) (w : List ℕ) (a z d i : ℕ) (r : Float) → Type 0
Dealt profile w a z d i r = (n : ℕ) (T : Tree) (f : Trees) (l : ℕ → ℕ → Key → ℕ) → i < n
    → LegibleAll n T l w (length profile) a d f → z ≡ a + sizes f
    → r ≡ total (profile_of T profile) i (λ x. weight (fan f)) f

-- the same of a row from place a on, as the children of a decision with word y
abbrev pub Moved : (profile : List Float) (w : List ℕ) (a y d i : ℕ) (r : Float) → Type 0
Moved profile w a y d i r = (n : ℕ) (T : Tree) (j : ℕ) (k : Key) (f : Trees) (l : ℕ → ℕ → Key → ℕ) → i < n
    → LegibleAll n T l w (length profile) a d f → actions_of y ≡ fan f
    → set_of y ≡ first_entry T j k → Entered T (length profile) j k (fan f) → r ≡ total (profile_of T profile) i (profile_of T profile j k) f

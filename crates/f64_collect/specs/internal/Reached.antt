-- What a walk over a tree in work memory stores: the reach of a seat's decisions. Definitions only; nothing is assumed.
use Rattle.std.specs.Prelude.{◌≡◌, List, ℕ, suc, ◌+◌, ◌≤◌, ◌<◌, length, get_or, take, drop, Float}
use Rattle.std.specs.Float.{binary64}
use Rattle.std.specs.Float.Ieee.{of_bits}
use Rattle.game_tree.specs.Tree.{Key, Tree, end, chance, decide, Trees, nil, cons, fan}
use Rattle.game_tree.specs.Sets.{size, sizes, first_entry}
use Rattle.game_tree_f64.specs.Values.{Profile, profile_of, times, weight, passed}
use Rattle.arena.specs.internal.Index.{Kept, Alike}
use Rattle.arena.specs.internal.Legible.{Legible, LegibleAll}

-- a place and a depth that keep every place in range
pub record Walkable (a d : ℕ) : Type 0 where
  pub place : a + d < 8388608
  pub shallow : d ≤ 32

-- the words have, from place b on, the reach of each decision of seat i in a tree at place a of reach r, at its place;
-- in a row the child with number x has reach g x
module _ (s : Profile) (i b : ℕ) (w : List ℕ) where
  unfoldable mutual
    unfolding fan size

    pub Marked : ℕ → Float → Tree → Type 0
    Marked a r (end p) = Unit {0}
    Marked a r (chance f) = MarkedAll (suc a) (λ x. times r (weight (fan f))) 0 f
    Marked a r (decide j k f) = (j ≡ i → of_bits binary64 (get_or w (b + a) 0) ≡ r) × MarkedAll (suc a) (passed s i r j k) 0 f

    pub MarkedAll : ℕ → (ℕ → Float) → ℕ → Trees → Type 0
    MarkedAll a g x nil = Unit {0}
    MarkedAll a g x (cons t f) = Marked a (g x) t × MarkedAll (a + size t) g (suc x) f

-- the words below place b, where the tree stands, stay;
-- whatever tree is legible there at place a, its reaches are stored, from r, and no other word changes
pub record Reached (profile : List Float) (i b a : ℕ) (r : Float) (d : ℕ) (old new : List ℕ) : Type 0 where
  pub same : Alike b old new
  pub long : length new ≡ length old
  pub is : (w : List ℕ) (n : ℕ) (T t : Tree) (l : ℕ → ℕ → Key → ℕ) → Alike b w old → Legible n T l w (length profile) a d t → a + size t ≤ b
      → b + (a + size t) ≤ length old
      → Marked (profile_of T profile) i b new a r t × Kept (b + a) (b + (a + size t)) old new

-- the same of a row, where the child with number x has reach g x, for each row and g of which R holds
pub record ReachedAll (R : Tree → Trees → (ℕ → Float) → Type 0) (profile : List Float) (i b a d : ℕ) (old new : List ℕ) : Type 0 where
  pub same : Alike b old new
  pub long : length new ≡ length old
  pub is : (w : List ℕ) (n : ℕ) (T : Tree) (f : Trees) (g : ℕ → Float) (l : ℕ → ℕ → Key → ℕ) → Alike b w old
      → LegibleAll n T l w (length profile) a d f → R T f g → a + sizes f ≤ b
      → b + (a + sizes f) ≤ length old → MarkedAll (profile_of T profile) i b new a g 0 f × Kept (b + a) (b + (a + sizes f)) old new

-- a row that ends at place z, each of its trees with reach r
pub record Each (a z : ℕ) (r : Float) (T : Tree) (f : Trees) (g : ℕ → Float) : Type 0 where
  pub ends : z ≡ a + sizes f
  pub gives : (x : ℕ) → g x ≡ r

-- the children of another seat's decision, whose set's own part of the profile is given
pub record Divided (profile part : List Float) (r : Float) (T : Tree) (f : Trees) (g : ℕ → Float) : Type 0 where
  pub seat : ℕ
  pub key : Key
  pub own : part ≡ take (fan f) (drop (first_entry T seat key) profile)
  pub long : length part ≡ fan f
  pub gives : (x : ℕ) → g x ≡ times r (profile_of T profile seat key x)

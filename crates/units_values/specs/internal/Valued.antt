-- What a walk over a stored tree with its units finds: values and choices. Definitions only; nothing is assumed.
use Rattle.std.specs.Prelude.{◌≡◌, ℕ, suc, pred, ◌+◌, ◌%◌, ◌^◌, ◌<◌, ◌≤◌, List}
use Rattle.game_tree.specs.Tree.{Key, Tree, decide, Trees, fan, Strategy}
use Rattle.game_tree.specs.Conditions.{Every, Pays, PaysAll}
use Rattle.game_tree.specs.Sets.{size, sizes, first_entry}
use Rattle.arena.specs.internal.Words.{actions_of, set_of}
use Rattle.arena_walks.specs.internal.Stage.{Stage, Known, Memo, SubtreeAt, SubtreesAt}
use Rattle.units.specs.internal.Gain.{gain, gain_all, set_gain, Stocked, StockedAll, topmost}
use Rattle.units.specs.internal.Readable.{UNITS}

-- a place, a seat and a depth that keep every number in range
pub record Walkable (a i d : ℕ) : Type 0 where
  pub place : a + d < 8388608
  pub seat : i < 6
  pub shallow : d ≤ 32

-- a stage with the units of its nodes for seat i from place b on, whose choice takes in each set the lowest action with the greatest gains
pub record Scene (i h b k : ℕ) : Type 0 where
  pub stage : Stage i h k
  pub parts : ℕ
  pub strategy : Strategy
  pub root : ℕ
  pub stocked : Stocked parts strategy i b stage.words 0 root stage.tree
  pub pays : Pays 60 i stage.tree
  pub decided : Every (λ j y n. j ≡ i
      → stage.choice y ≡ topmost (set_gain parts strategy i stage.choice stage.tree root y) (pred n)) stage.tree
  pub bounded : (y : Key) (a : ℕ) → set_gain parts strategy i stage.choice stage.tree root y a < 2 ^ 64
  pub small : root < UNITS
  pub fair : (j : ℕ) (y : Key) (a : ℕ) → strategy j y a ≤ parts
  pub below : b + size stage.tree ≤ k

module _ {i h b k : ℕ} (S : Scene i h b k) where
  -- tree t stands at place a, with u units
  pub record Here (d a u : ℕ) (t : Tree) : Type 0 where
    pub stands : SubtreeAt S.stage d a t
    pub stocked : Stocked S.parts S.strategy i b S.stage.words a u t
    pub pays : Pays 60 i t
    pub small : u < UNITS

  -- the same of a row, whose children have units g x, g (x + 1) and so on
  pub record HereAll (d a : ℕ) (g : ℕ → ℕ) (x : ℕ) (f : Trees) : Type 0 where
    pub stands : SubtreesAt S.stage d a f
    pub stocked : StockedAll S.parts S.strategy i b S.stage.words a g x f
    pub pays : PaysAll 60 i f
    pub small : (y : ℕ) → g y < UNITS

  -- what the choices gain
  abbrev pub gained : ℕ → Tree → ℕ
  gained u t = gain S.parts S.strategy i S.stage.choice u t

  abbrev pub gained_all : (ℕ → ℕ) → ℕ → Trees → ℕ
  gained_all g x f = gain_all S.parts S.strategy i S.stage.choice g x f

  -- and behind an action of a set
  abbrev pub behind_action : Key → ℕ → ℕ
  behind_action y a = set_gain S.parts S.strategy i S.stage.choice S.stage.tree S.root y a

-- r is the value of the tree at place a, if no path of it has more than d nodes
abbrev pub Valued : (i d h b k a : ℕ) (old new : List ℕ) (r : ℕ) → Type 0
Valued i d h b k a old new r = (S : Scene i h b k) → Memo S.stage old → (t : Tree) (u x : ℕ) → x ≤ d → Here S x a u t
    → Memo S.stage new × (r ≡ gained S u t % 2 ^ 64)

-- of the row from place a to z
abbrev pub ValuedAll : (i d h b k a z : ℕ) (old new : List ℕ) (r : ℕ) → Type 0
ValuedAll i d h b k a z old new r = (S : Scene i h b k) → Memo S.stage old → (g : ℕ → ℕ) (f : Trees) (x : ℕ) → x ≤ d
    → HereAll S x a g 0 f → z ≡ a + sizes f → Memo S.stage new × (r ≡ gained_all S g 0 f % 2 ^ 64)

-- of the own node at place a with word x
abbrev pub ValuedOwn : (i d h b k a x : ℕ) (old new : List ℕ) (r : ℕ) → Type 0
ValuedOwn i d h b k a x old new r = (S : Scene i h b k) → Memo S.stage old → (y : Key) (u z : ℕ) (f : Trees) → z ≤ d
    → set_of x ≡ first_entry S.stage.tree i y → actions_of x ≡ fan f → Here S (suc z) a u (decide i y f)
    → Memo S.stage new × (r ≡ gained S u (decide i y f) % 2 ^ 64)

-- r is the choice of the set with first entry e and n actions
abbrev pub Chosen : (i d h b k e n : ℕ) (old new : List ℕ) (r : ℕ) → Type 0
Chosen i d h b k e n old new r = (S : Scene i h b k) → Memo S.stage old → (y : Key) → Known S.stage i y n
    → e ≡ first_entry S.stage.tree i y → S.stage.levels i y ≤ d → Memo S.stage new × (r ≡ S.stage.choice y)

-- r is the sum behind an action of that set
abbrev pub Totalled : (i d h b k e a : ℕ) (old new : List ℕ) (r : ℕ) → Type 0
Totalled i d h b k e a old new r = (S : Scene i h b k) → Memo S.stage old → (y : Key) (n : ℕ) → Known S.stage i y n
    → e ≡ first_entry S.stage.tree i y → S.stage.levels i y ≤ d → a < n
    → Memo S.stage new × (r ≡ behind_action S y a)

-- What is said of a tree's shape: its counts, equal actions and depths at equal keys, what holds at every end. Definitions only; nothing is
-- assumed.
use Rattle.std.specs.Prelude.{◌≡◌, List, [], ◌∷◌, ◌++◌, ℕ, pred, ◌<◌, ℤ, length}
use Rattle.game_tree.specs.Tree.{Key, Tree, end, chance, decide, Trees, nil, cons, fan}
use Rattle.game_tree.specs.Conditions.{Every}
use Rattle.game_tree.specs.Sets.{Decision, before, entries, height, set_count, sets, size}

-- the decision that a node is, if it is one
unfoldable pub decision_of : Tree → List Decision
unfolding fan
decision_of (end p) = []
decision_of (chance f) = []
decision_of (decide j k f) = (j, k, fan f) ∷ []

-- those of a list of nodes
unfoldable pub decisions_of : List Tree → List Decision
unfolding decision_of
decisions_of [] = []
decisions_of (t ∷ ts) = decision_of t ++ decisions_of ts

-- a tree with so many nodes, sets and entries
abbrev pub Sized : Tree → ℕ → ℕ → ℕ → Type 0
Sized t a b c = (size t ≡ a) × (set_count t ≡ b) × (entries t ≡ c)

-- the number of a set: how many sets stand before it
abbrev pub set_number : Tree → ℕ → Key → ℕ
set_number t j k = length (before j k (sets t))

-- decisions of one seat with equal keys have equally many actions
abbrev pub SameActions : Tree → Type 0
SameActions t = (A : ℕ → Key → ℕ) × Every (λ j k n. n ≡ A j k) t

-- d gives, by seat and key, the most decisions still to come at each decision, its own among them
unfoldable mutual
  unfolding height

  pub Heights : (ℕ → Key → ℕ) → Tree → Type 0
  Heights d (end p) = Unit {0}
  Heights d (chance f) = HeightsAll d f
  Heights d (decide j k f) = (height (decide j k f) ≡ d j k) × HeightsAll d f

  pub HeightsAll : (ℕ → Key → ℕ) → Trees → Type 0
  HeightsAll d nil = Unit {0}
  HeightsAll d (cons t f) = Heights d t × HeightsAll d f

-- decisions of one seat with equal keys have the same remaining depth
abbrev pub SameHeights : Tree → Type 0
SameHeights t = (d : ℕ → Key → ℕ) × Heights d t

-- no path has more than d nodes, and v gives, by seat and key, how many may follow a decision
unfoldable mutual
  pub Levels : (ℕ → Key → ℕ) → ℕ → Tree → Type 0
  Levels v d (end p) = 0 < d
  Levels v d (chance f) = (0 < d) × LevelsAll v (pred d) f
  Levels v d (decide j k f) = (0 < d) × (v j k ≡ pred d) × LevelsAll v (pred d) f

  pub LevelsAll : (ℕ → Key → ℕ) → ℕ → Trees → Type 0
  LevelsAll v d nil = Unit {0}
  LevelsAll v d (cons t f) = Levels v d t × LevelsAll v d f

-- P holds of the payoffs of every end
unfoldable mutual
  pub EveryEnd : ((ℕ → ℤ) → Type 0) → Tree → Type 0
  EveryEnd P (end p) = P p
  EveryEnd P (chance f) = EveryEndAll P f
  EveryEnd P (decide j k f) = EveryEndAll P f

  pub EveryEndAll : ((ℕ → ℤ) → Type 0) → Trees → Type 0
  EveryEndAll P nil = Unit {0}
  EveryEndAll P (cons t f) = EveryEnd P t × EveryEndAll P f

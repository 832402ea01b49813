-- The nodes of a tree, its sets and their entries (document 01, "The tree and its sets"). Definitions only; nothing is assumed.
use Rattle.std.specs.Prelude.{Bool, true, false, cond, List, [], ◌∷◌, ◌++◌, map, ℕ, suc, ◌+◌, max, eqb, length, replicate}
use Rattle.game_tree.specs.Sums.{sumℕ}
use Rattle.game_tree.specs.Tree.{Key, Tree, end, chance, decide, Trees, nil, cons, fan}
use Rattle.game_tree.specs.Reply.{same}

-- how many nodes a tree has, ends included
unfoldable mutual
  pub size : Tree → ℕ
  size (end p) = 1
  size (chance f) = suc (sizes f)
  size (decide j k f) = suc (sizes f)

  pub sizes : Trees → ℕ
  sizes nil = 0
  sizes (cons t f) = size t + sizes f

-- the nodes, each before its children, as the trees below them: node number a stands at place a
unfoldable mutual
  pub preorder : Tree → List Tree
  preorder (end p) = end p ∷ []
  preorder (chance f) = chance f ∷ preorder_all f
  preorder (decide j k f) = decide j k f ∷ preorder_all f

  pub preorder_all : Trees → List Tree
  preorder_all nil = []
  preorder_all (cons t f) = preorder t ++ preorder_all f

-- the most decisions on a path
unfoldable mutual
  pub height : Tree → ℕ
  height (end p) = 0
  height (chance f) = height_all f
  height (decide j k f) = suc (height_all f)

  pub height_all : Trees → ℕ
  height_all nil = 0
  height_all (cons t f) = max (height t) (height_all f)

-- a decision: the seat that acts, its key, its number of actions
abbrev pub Decision : Type 0
Decision = ℕ × Key × ℕ

-- the decisions in the order of their nodes
unfoldable mutual
  unfolding fan

  pub decisions : Tree → List Decision
  decisions (end p) = []
  decisions (chance f) = decisions_all f
  decisions (decide j k f) = (j, k, fan f) ∷ decisions_all f

  pub decisions_all : Trees → List Decision
  decisions_all nil = []
  decisions_all (cons t f) = decisions t ++ decisions_all f

-- a decision is of the set of seat j and key k
unfoldable pub is_of : ℕ → Key → Decision → Bool
unfolding same
is_of j k x = cond (eqb x.0 j) (same x.1 k) false

-- some decision of the list is of that set
unfoldable pub met : ℕ → Key → List Decision → Bool
unfolding is_of
met j k [] = false
met j k (x ∷ xs) = let r : Bool = met j k xs in cond (is_of j k x) true r

-- the decisions of xs that are first of their set: none before them, here or in front, has their seat and key
unfoldable pub firsts : List Decision → List Decision → List Decision
unfolding met
firsts front [] = []
firsts front (x ∷ xs) = let r : List Decision = firsts (x ∷ front) xs in cond (met x.0 x.1 front) r (x ∷ r)

-- the sets, each as its first decision, in the order of their first nodes
unfoldable pub sets : Tree → List Decision
unfolding decisions firsts
sets t = firsts [] (decisions t)

-- how many sets there are
abbrev pub set_count : Tree → ℕ
set_count t = length (sets t)

-- the actions of each set, in set order
abbrev pub set_actions : Tree → List ℕ
set_actions t = map (λ x. x.2) (sets t)

-- how many entries these sets have: one for each action
unfoldable pub entries_of : List Decision → ℕ
unfolding sumℕ
entries_of xs = sumℕ (λ x. x.2) xs

-- how many entries a table has
abbrev pub entries : Tree → ℕ
entries t = entries_of (sets t)

-- of these sets, those before the set of seat j and key k
unfoldable pub before : ℕ → Key → List Decision → List Decision
unfolding is_of
before j k [] = []
before j k (x ∷ xs) = let r : List Decision = x ∷ before j k xs in cond (is_of j k x) [] r

-- the first entry of a set: how many entries the sets before it have
abbrev pub first_entry : Tree → ℕ → Key → ℕ
first_entry t j k = entries_of (before j k (sets t))

-- the seat of each entry, set after set
unfoldable pub seats_of : List Decision → List ℕ
seats_of [] = []
seats_of (x ∷ xs) = replicate x.2 x.0 ++ seats_of xs

-- a node is a decision of the set of seat j and key k
unfoldable pub decides : ℕ → Key → Tree → Bool
unfolding same
decides j k (end p) = false
decides j k (chance f) = false
decides j k (decide i l f) = cond (eqb i j) (same l k) false

-- of the nodes in the list, counted from a on, the numbers of those in the set
unfoldable pub numbers : ℕ → Key → ℕ → List Tree → List ℕ
unfolding decides
numbers j k a [] = []
numbers j k a (t ∷ ts) = let r : List ℕ = numbers j k (suc a) ts in cond (decides j k t) (a ∷ r) r

-- the members of a set, by their node numbers
abbrev pub set_members : Tree → ℕ → Key → List ℕ
set_members t j k = numbers j k 0 (preorder t)

-- The nodes of a tree in their order, each before its children, as the trees that they are roots of (document 01, "The tree and its sets").
-- Definitions only; nothing is assumed.
use Rattle.std.specs.Prelude.{List, [], ◌∷◌, ◌++◌, ℕ, pos, get_or}
use Rattle.game_tree.specs.Tree.{Tree, end, chance, decide, Trees, nil, cons}

unfoldable mutual
  pub nodes : Tree → List Tree
  nodes (end p) = end p ∷ []
  nodes (chance f) = chance f ∷ nodes_all f
  nodes (decide j k f) = decide j k f ∷ nodes_all f

  pub nodes_all : Trees → List Tree
  nodes_all nil = []
  nodes_all (cons t f) = nodes t ++ nodes_all f

-- node number a; past the last one, an end that pays nothing
abbrev pub node_of : Tree → ℕ → Tree
node_of t a = get_or (nodes t) a (end (λ i. pos 0))

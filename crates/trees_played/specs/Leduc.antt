-- Leduc's tree as the calls of the crate leduc play it (document 01, "The tree and its sets"), proved in proofs/Leduc.antt.
use Rattle.std.specs.Prelude.{◌≡◌, ◌≢◌, List, [], ◌∷◌, ℕ, suc, ◌<◌, pos, replicate}
use Rattle.refusals.specs.Refusals.{accepted, unfit}
use Rattle.game_tree.specs.Tree.{Tree, end, chance, decide, Trees, nil, cons}
use Rattle.game_tree.specs.Sets.{size}
use Rattle.game_tree.specs.Nodes.{node_of}
use Rattle.leduc_rules.specs.Stakes.{ante, raise₁, raise₂}
use Rattle.leduc_positions.specs.Positions.{cards_of, round_one, round_two, legal_of}
use Rattle.leduc_positions.specs.declared.LeducState.{LeducState}
use Rattle.leduc.specs.Calls.{started, dealt, stepped, key_of, paid}
use Rattle.leduc.specs.Facts.{Fit}
use Rattle.leduc_tree.specs.Tree.{tree_of_leduc}
use Rattle.leduc_tree.specs.Positions.{position, position_of}

-- the tree below position s, played by the calls: an end pays what the payoff call answers; a chance node has a child for each outcome
-- that a deal accepts; a decision has the key of the seat that has legal actions, and a child for each of these
unfoldable mutual
  pub Played : Tree → LeducState → Type 0
  Played (end p) s = paid s ≡ record { refusal = accepted; state = s; count = 2; payoffs = p 0 ∷ p 1 ∷ replicate 8 (pos 0) }
  Played (chance f) s = Dealt f s 0
  Played (decide j k f) s = (k ≡ key_of s j) × ((i : ℕ) → i ≢ j → legal_of s i ≡ []) × Stepped f s (legal_of s j)

  -- the children of the outcomes from k on, where a deal gives the position
  pub Dealt : Trees → LeducState → ℕ → Type 0
  Dealt nil s k = (dealt s k).refusal ≡ unfit
  Dealt (cons t f) s k = ((dealt s k).refusal ≡ accepted) × Played t (dealt s k).state × Dealt f s (suc k)

  -- the children of a list of actions, where a step gives the position
  pub Stepped : Trees → LeducState → List ℕ → Type 0
  Stepped nil s [] = Unit {0}
  Stepped nil s (a ∷ l) = ⊥
  Stepped (cons t f) s [] = ⊥
  Stepped (cons t f) s (a ∷ l) = ((stepped s a).refusal ≡ accepted) × Played t (stepped s a).state × Stepped f s l

-- the tree at today's stakes
abbrev pub tree : Tree
tree = tree_of_leduc ante raise₁ raise₂

-- at the node that a reached position stands for, the tree is the one that the calls play from it
abbrev pub NodesPlayed : Type 0
NodesPlayed = (s : LeducState) (a : ℕ) → Fit s → a < size tree
    → position_of tree a ≡ position (cards_of s) s.public (round_one s) (round_two s) → Played (node_of tree a) s

-- and so it is from the start
abbrev pub TreePlayed : Type 0
TreePlayed = Played tree started.state

-- Kuhn's tree as the calls of the crate kuhn play it (document 01, "The tree and its sets"), proved in proofs/Kuhn.antt.
use Rattle.std.specs.Prelude.{◌≡◌, ◌≢◌, cond, List, [], ◌∷◌, ℕ, suc, ◌≤◌, ◌<◌, ltb, pos}
use Rattle.refusals.specs.Refusals.{accepted, unfit}
use Rattle.prelude.specs.Finite.{places}
use Rattle.game_tree.specs.Tree.{Tree, end, chance, decide, Trees, nil, cons}
use Rattle.game_tree.specs.Sets.{size}
use Rattle.game_tree.specs.Nodes.{node_of}
use Rattle.kuhn_rules.specs.Stakes.{ante, stake}
use Rattle.kuhn_positions.specs.Positions.{cards_of, history_of}
use Rattle.kuhn_positions.specs.declared.KuhnState.{KuhnState}
use Rattle.kuhn.specs.declared.KuhnPoker.{KuhnPoker}
use Rattle.kuhn.specs.Calls.{started, dealt, stepped, legal_of, key_of, paid}
use Rattle.kuhn.specs.Facts.{Fit}
use Rattle.kuhn_tree.specs.Tree.{tree_of_kuhn}
use Rattle.kuhn_tree.specs.Positions.{position_of}

-- the tree below position s, played by the calls: an end pays what the payoff call answers; a chance node has a child for each outcome
-- that a deal accepts; a decision has the key of the seat that has legal actions, and a child for each of these
module _ (g : KuhnPoker) where
  unfoldable mutual
    pub Played : Tree → KuhnState → Type 0
    Played (end p) s =
        paid g s
        ≡ record { refusal = accepted; state = s; count = g.players; payoffs = places 10 (λ i. cond (ltb i g.players) (p i) (pos 0)) }
    Played (chance f) s = Dealt f s 0
    Played (decide j k f) s = (k ≡ key_of s j) × ((i : ℕ) → i ≢ j → legal_of g s i ≡ []) × Stepped f s (legal_of g s j)

    -- the children of the outcomes from k on, where a deal gives the position
    pub Dealt : Trees → KuhnState → ℕ → Type 0
    Dealt nil s k = (dealt g s k).refusal ≡ unfit
    Dealt (cons t f) s k = ((dealt g s k).refusal ≡ accepted) × Played t (dealt g s k).state × Dealt f s (suc k)

    -- the children of a list of actions, where a step gives the position
    pub Stepped : Trees → KuhnState → List ℕ → Type 0
    Stepped nil s [] = Unit {0}
    Stepped nil s (a ∷ l) = ⊥
    Stepped (cons t f) s [] = ⊥
    Stepped (cons t f) s (a ∷ l) = ((stepped g s a).refusal ≡ accepted) × Played t (stepped g s a).state × Stepped f s l

-- the tree of a game
abbrev pub tree : KuhnPoker → Tree
tree g = tree_of_kuhn ante stake g.players

-- at the node that a reached position stands for, the tree is the one that the calls play from it
abbrev pub NodesPlayed : Type 0
NodesPlayed = (g : KuhnPoker) (s : KuhnState) (a : ℕ) → 2 ≤ g.players → g.players ≤ 10 → Fit g.players s → a < size (tree g)
    → position_of (tree g) g.players a ≡ (cards_of s, history_of s) → Played g (node_of (tree g) a) s

-- and so it is from the start
abbrev pub TreePlayed : Type 0
TreePlayed = (g : KuhnPoker) → 2 ≤ g.players → g.players ≤ 10 → Played g (tree g) (started g).state

-- The facts about Leduc's tree, statement by statement (document 01, "The tree and its sets"), each proved in proofs/Facts.antt, which
-- assumes nothing. Throughout: any ante and raises. The counts, and what the reply theorem asks of the tree, stand in leduc_tree_facts.
use Rattle.std.specs.Prelude.{◌≡◌, List, [], map, ℕ, ◌+◌, ◌<◌, ◌*◌, pos, length, Option, None}
use Rattle.prelude.specs.Finite.{sumℤ}
use Rattle.game_tree.specs.Sets.{size, sets, set_actions}
use Rattle.game_tree.specs.Shape.{EveryEnd}
use Rattle.leduc_rules.specs.Moves.{Reached}
use Rattle.leduc_tree.specs.Tree.{Position, start, payoff, next, below, fuel, tree_of_leduc}
use Rattle.leduc_tree.specs.Positions.{position, positions, position_of}
use Rattle.leduc_tree.specs.Follows.{Follows}
use Rattle.leduc_tree.specs.Turns.{first_turns, decision_at, actions_in_order}

-- 1. The tree follows the rules from the start: every node stands for a reachable position, ends just where the hand has ended.
abbrev pub FollowsRules : Type 0
FollowsRules = (ante raise₁ raise₂ : ℕ) → Follows ante raise₁ raise₂ (tree_of_leduc ante raise₁ raise₂) [] None [] []

-- Its nodes, in order, stand for the reachable positions: each for one, and each of these has its node.
abbrev pub Reachable : Position → Type 0
Reachable q = Reached q.cards q.public q.first q.second

abbrev pub NodesReached : Type 0
NodesReached = (ante raise₁ raise₂ : ℕ)
    → (length (positions (tree_of_leduc ante raise₁ raise₂) [] None [] []) ≡ size (tree_of_leduc ante raise₁ raise₂))
    × ((a : ℕ) → a < size (tree_of_leduc ante raise₁ raise₂) → Reachable (position_of (tree_of_leduc ante raise₁ raise₂) a))
    × ((cs : List ℕ) (p : Option ℕ) (h₁ h₂ : List ℕ) → Reached cs p h₁ h₂
    → (a : ℕ) × (a < size (tree_of_leduc ante raise₁ raise₂)) × (position_of (tree_of_leduc ante raise₁ raise₂) a ≡ position cs p h₁ h₂))

-- The payoffs of both seats add up to 0 at every end.
abbrev pub PayoffsBalance : Type 0
PayoffsBalance = (ante raise₁ raise₂ : ℕ) → EveryEnd (λ z. sumℤ 2 z ≡ pos 0) (tree_of_leduc ante raise₁ raise₂)

-- More fuel changes nothing.
abbrev pub FuelEnough : Type 0
FuelEnough = (ante raise₁ raise₂ x : ℕ) → below (payoff ante raise₁ raise₂) (x + fuel) (next start) start ≡ tree_of_leduc ante raise₁ raise₂

-- 2. The sets in the order of their first nodes: a position is the first of its set just if the other seat's card is the lowest
-- that is neither the own card nor the public one.
abbrev pub FirstOfSet : Type 0
FirstOfSet = (ante raise₁ raise₂ : ℕ) → sets (tree_of_leduc ante raise₁ raise₂) ≡ map decision_at first_turns

-- The actions of each set, in set order, as a list that can be computed.
abbrev pub ActionsInOrder : Type 0
ActionsInOrder = (ante raise₁ raise₂ : ℕ) → set_actions (tree_of_leduc ante raise₁ raise₂) ≡ actions_in_order

-- no seat gains or loses more: the ante and both raises of each round
abbrev pub largest_payoff : (ante raise₁ raise₂ : ℕ) → ℕ
largest_payoff ante raise₁ raise₂ = ante + 2 * raise₁ + 2 * raise₂

-- The facts about Kuhn's tree, statement by statement (document 01, "The tree and its sets" and "Whole units").
-- Each is proved in proofs/Facts.antt, which assumes nothing.
-- Throughout: n seats, any ante and bet; table a table with D parts in each set, i a seat.
use Rattle.std.specs.Prelude.{◌≡◌, List, [], ◌∷◌, map, ℕ, ◌+◌, ◌*◌, ◌^◌, ◌≤◌, ◌<◌, ◌-◌, pos, length}
use Rattle.prelude.specs.Finite.{sumℤ}
use Rattle.game_tree.specs.Tree.{Key, U}
use Rattle.game_tree.specs.Conditions.{Splits, Pays, Every}
use Rattle.game_tree.specs.Recall.{PerfectRecall}
use Rattle.game_tree.specs.Sets.{size, sets}
use Rattle.game_tree.specs.Shape.{Sized, SameActions, SameHeights, Levels, EveryEnd}
use Rattle.game_tree.specs.Table.{Table, ValidTable, table_best, reply_table, BestReply}
use Rattle.kuhn_rules.specs.Moves.{Reached}
use Rattle.kuhn_tree.specs.Tree.{next, below, m, fuel, tree_of_kuhn, C, largest_parts}
use Rattle.kuhn_tree.specs.Follows.{Follows}
use Rattle.kuhn_tree.specs.Positions.{positions, position_of}
use Rattle.kuhn_tree.specs.Order.{in_order}
use Rattle.kuhn_tree.specs.Counts.{kuhn_nodes, kuhn_sets, kuhn_entries}

-- no seat gains or loses more: what the n - 1 others can have paid
abbrev pub largest_payoff : (ante bet n : ℕ) → ℕ
largest_payoff ante bet n = (n - 1) * (ante + bet)

-- 1. The tree follows the rules from the start: every node stands for a reachable position, ends just where the hand is over.
abbrev pub FollowsRules : Type 0
FollowsRules = (ante bet n : ℕ) → 1 ≤ n → Follows ante bet n (tree_of_kuhn ante bet n) [] []

-- Its nodes, in order, stand for the reachable positions: each for one, and each of these has its node.
abbrev pub NodesReached : Type 0
NodesReached = (ante bet n : ℕ) → 1 ≤ n → (length (positions n (tree_of_kuhn ante bet n) [] []) ≡ size (tree_of_kuhn ante bet n))
    × ((a : ℕ) → a < size (tree_of_kuhn ante bet n)
    → Reached n (position_of (tree_of_kuhn ante bet n) n a).0 (position_of (tree_of_kuhn ante bet n) n a).1)
    × ((cs h : List ℕ) → Reached n cs h → (a : ℕ) × (a < size (tree_of_kuhn ante bet n)) × (position_of (tree_of_kuhn ante bet n) n a ≡ (cs, h)))

-- More fuel changes nothing.
abbrev pub FuelEnough : Type 0
FuelEnough = (ante bet n x : ℕ) → 1 ≤ n → below ante bet n (x + fuel n) (next n [] []) [] [] ≡ tree_of_kuhn ante bet n

-- 2. The nodes, sets and entries of the tree are as many as Counts says.
abbrev pub Counted : Type 0
Counted = (ante bet n : ℕ) → 1 ≤ n → Sized (tree_of_kuhn ante bet n) (kuhn_nodes n) (kuhn_sets n) (kuhn_entries n)

-- Document 01's table of counts, Kuhn's five rows.
abbrev pub Counts : Type 0
Counts = (ante bet : ℕ) → Sized (tree_of_kuhn ante bet 2) 58 12 24 × Sized (tree_of_kuhn ante bet 3) 617 48 96
    × Sized (tree_of_kuhn ante bet 4) 7886 160 320
    × Sized (tree_of_kuhn ante bet 5) 116437 480 960 × Sized (tree_of_kuhn ante bet 6) 1944020 1344 2688

-- With 7 to 10 seats there are more than 4,000,000 nodes.
abbrev pub TooLarge : Type 0
TooLarge = (ante bet : ℕ) → (size (tree_of_kuhn ante bet 7) ≡ 36196001) × (4000000 < size (tree_of_kuhn ante bet 7))
    × (4000000 < size (tree_of_kuhn ante bet 8))
    × (4000000 < size (tree_of_kuhn ante bet 9)) × (4000000 < size (tree_of_kuhn ante bet 10))

-- 3. The sets, numbered at their first nodes, are those of the rule in Order.
abbrev pub SetsInOrder : Type 0
SetsInOrder = (ante bet n : ℕ) → 1 ≤ n → sets (tree_of_kuhn ante bet n) ≡ in_order n n []

-- Kuhn 2 keys in order, from the tree and from the rule.
abbrev pub keys2 : List Key
keys2 = (0 ∷ 0 ∷ []) ∷ (1 ∷ 1 ∷ 0 ∷ []) ∷ (0 ∷ 0 ∷ 0 ∷ 1 ∷ []) ∷ (1 ∷ 1 ∷ 1 ∷ []) ∷ (1 ∷ 2 ∷ 0 ∷ []) ∷ (1 ∷ 2 ∷ 1 ∷ [])
    ∷ (0 ∷ 1 ∷ []) ∷ (1 ∷ 0 ∷ 0 ∷ [])
    ∷ (0 ∷ 1 ∷ 0 ∷ 1 ∷ []) ∷ (1 ∷ 0 ∷ 1 ∷ []) ∷ (0 ∷ 2 ∷ []) ∷ (0 ∷ 2 ∷ 0 ∷ 1 ∷ []) ∷ []

abbrev pub KeysInOrder : Type 0
KeysInOrder = (map (λ x. x.1) (sets (tree_of_kuhn 1 1 2)) ≡ keys2) × (map (λ x. x.1) (in_order 2 2 []) ≡ keys2)

-- 4. Nodes with equal keys have the same seat, the same number of actions, the same remaining depth.
abbrev pub SeatByKey : Type 0
SeatByKey = (ante bet n : ℕ) → (seat : Key → ℕ) × Every (λ j k a. j ≡ seat k) (tree_of_kuhn ante bet n)

abbrev pub ActionsByKey : Type 0
ActionsByKey = (ante bet n : ℕ) → SameActions (tree_of_kuhn ante bet n)

abbrev pub DepthByKey : Type 0
DepthByKey = (ante bet n : ℕ) → SameHeights (tree_of_kuhn ante bet n)

-- They have the same number of nodes above them: on no path are more than d nodes, if d is above n + m.
abbrev pub LevelsByKey : Type 0
LevelsByKey = (ante bet n d : ℕ) → n + m n < d → (v : ℕ → Key → ℕ) × Levels v d (tree_of_kuhn ante bet n)

-- Every decision has two actions.
abbrev pub TwoActions : Type 0
TwoActions = (ante bet n : ℕ) → Every (λ j k a. a ≡ 2) (tree_of_kuhn ante bet n)

-- 5. Every seat has perfect recall.
abbrev pub Recalls : Type 0
Recalls = (ante bet n i : ℕ) → PerfectRecall i (tree_of_kuhn ante bet n)

-- At most m decisions stand on a path, and the fans along it divide C.
abbrev pub FansDivide : Type 0
FansDivide = (ante bet n : ℕ) → Splits (C n) (m n) (tree_of_kuhn ante bet n)

-- No payoff of a seat is more than the largest in size.
abbrev pub PayoffsBounded : Type 0
PayoffsBounded = (ante bet n i : ℕ) → 2 ≤ n → i < n → Pays (largest_payoff ante bet n) i (tree_of_kuhn ante bet n)

-- The payoffs of the n seats add up to 0 at every end.
abbrev pub PayoffsBalance : Type 0
PayoffsBalance = (ante bet n : ℕ) → 1 ≤ n → EveryEnd (λ p. sumℤ n p ≡ pos 0) (tree_of_kuhn ante bet n)

-- U, for n seats and D parts
abbrev pub root_units : ℕ → ℕ → ℕ
root_units n D = U (C n) D (m n)

-- 6. The reply to a valid table is a rival table, its worth is the best value, and no rival table, nor one of any grain, is worth more.
abbrev pub ReplyBest : Type 0
ReplyBest = (ante bet n D i : ℕ) (table : Table) → 0 < D → ValidTable (tree_of_kuhn ante bet n) D table
    → BestReply (tree_of_kuhn ante bet n) (m n) D (root_units n D) i table (table_best (tree_of_kuhn ante bet n) D (root_units n D) table i)
    (reply_table (tree_of_kuhn ante bet n) D (root_units n D) table i)

-- At stakes 1 and 1 a worth and a best value fit a signed number of 64 bits,
-- and NashConv an unsigned one: all that these can be, added up, is below 2^64.
abbrev pub UnitsFit : Type 0
UnitsFit = (n D : ℕ) → 2 ≤ n → n ≤ 6 → D ≤ largest_parts n
    → (root_units n D * largest_payoff 1 1 n < 2 ^ 63) × (n * (2 * (root_units n D * largest_payoff 1 1 n)) < 2 ^ 64)

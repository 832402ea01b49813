-- The counts of Leduc's tree, what the reply theorem asks of it, and what it says,
-- statement by statement (document 01, "The tree and its sets" and "Whole units"). Each is proved in
-- proofs/Facts.antt, which assumes nothing. Throughout: any ante and raises;
-- table a table with D parts in each set, i a seat, z a rival table.
use Rattle.std.specs.Prelude.{◌≡◌, true, [], ◌∷◌, ℕ, ◌≤◌, ◌<◌}
use Rattle.game_tree.specs.Tree.{Key, U, chance}
use Rattle.game_tree.specs.Conditions.{Splits, Pays, Every}
use Rattle.game_tree.specs.Recall.{PerfectRecall}
use Rattle.game_tree.specs.Sets.{size}
use Rattle.game_tree.specs.Shape.{Sized, SameActions, SameHeights, Levels}
use Rattle.game_tree.specs.Table.{Table, ValidTable, table_best, reply_table, BestReply}
use Rattle.leduc_betting.specs.Cards.{left}
use Rattle.leduc_tree.specs.Tree.{start, after_deal, each, tree_of_leduc, C, m}
use Rattle.leduc_tree.specs.Facts.{largest_payoff}
use Rattle.leduc_tree_facts.specs.Shape.{bare, with_cards, hand}

-- 1. Document 01's table of counts, Leduc's row: nodes, sets, entries.
abbrev pub Counts : Type 0
Counts = (ante raise₁ raise₂ : ℕ) → Sized (tree_of_leduc ante raise₁ raise₂) 9457 936 2184

-- 2. Nodes with equal keys have the same seat, the same number of actions, the same remaining depth.
abbrev pub SeatByKey : Type 0
SeatByKey = (ante raise₁ raise₂ : ℕ) → (seat : Key → ℕ) × Every (λ j k n. j ≡ seat k) (tree_of_leduc ante raise₁ raise₂)

abbrev pub ActionsByKey : Type 0
ActionsByKey = (ante raise₁ raise₂ : ℕ) → SameActions (tree_of_leduc ante raise₁ raise₂)

abbrev pub DepthByKey : Type 0
DepthByKey = (ante raise₁ raise₂ : ℕ) → SameHeights (tree_of_leduc ante raise₁ raise₂)

-- They have the same number of nodes above them: on no path are more than 12 nodes.
abbrev pub LevelsByKey : Type 0
LevelsByKey = (ante raise₁ raise₂ : ℕ) → (v : ℕ → Key → ℕ) × Levels v 12 (tree_of_leduc ante raise₁ raise₂)

-- Every decision has two or three actions.
abbrev pub TwoOrThreeActions : Type 0
TwoOrThreeActions = (ante raise₁ raise₂ : ℕ) → Every (λ j k n. (2 ≤ n) × (n ≤ 3)) (tree_of_leduc ante raise₁ raise₂)

-- 3. Both seats have perfect recall.
abbrev pub Recalls : Type 0
Recalls = (ante raise₁ raise₂ i : ℕ) → i < 2 → PerfectRecall i (tree_of_leduc ante raise₁ raise₂)

-- At most m decisions stand on a path, and the fans along it divide C.
abbrev pub FansDivide : Type 0
FansDivide = (ante raise₁ raise₂ : ℕ) → Splits C m (tree_of_leduc ante raise₁ raise₂)

-- No payoff of a seat is more than the largest in size.
abbrev pub PayoffsBounded : Type 0
PayoffsBounded = (ante raise₁ raise₂ i : ℕ) → Pays (largest_payoff ante raise₁ raise₂) i (tree_of_leduc ante raise₁ raise₂)

-- 4. The reply to a valid table is a rival table, its worth is the best value, and no rival table, nor one of any grain, is worth more.
abbrev pub units : ℕ → ℕ
units D = U C D m

abbrev pub ReplyBest : Type 0
ReplyBest = (ante raise₁ raise₂ D i : ℕ) (table : Table) → i < 2 → 0 < D → ValidTable (tree_of_leduc ante raise₁ raise₂) D table
    → BestReply (tree_of_leduc ante raise₁ raise₂) m D (units D) i table (table_best (tree_of_leduc ante raise₁ raise₂) D (units D) table i)
    (reply_table (tree_of_leduc ante raise₁ raise₂) D (units D) table i)

-- 5. The tree is the deal of a card to each seat, and below each deal a hand.
abbrev pub DealsFirst : Type 0
DealsFirst = (ante raise₁ raise₂ : ℕ)
    → tree_of_leduc ante raise₁ raise₂ ≡ chance (each (after_deal start) (λ s. chance (each (after_deal s) (hand ante raise₁ raise₂))))

-- The betting shape below every deal is the same, with 315 nodes.
abbrev pub OneShape : Type 0
OneShape = (ante raise₁ raise₂ c d : ℕ) → left [] c ≡ true → left (c ∷ []) d ≡ true
    → (bare (hand ante raise₁ raise₂ (with_cards c d)) ≡ bare (hand ante raise₁ raise₂ (with_cards 0 1)))
    × (size (hand ante raise₁ raise₂ (with_cards c d)) ≡ 315)

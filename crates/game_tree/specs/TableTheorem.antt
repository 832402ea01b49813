-- The reply theorem for tables, statement by statement, of the definitions in Sets and Table (document 01, "Whole units";
-- document 02, Eight). Each is proved in proofs/TableTheorem.antt, which assumes nothing.
-- Throughout: t is a tree, table a table with D parts in each set, i a seat, z a rival table; the root has U = C × D^m units.
use Rattle.std.specs.Prelude.{◌≡◌, cond, ◌↔◌, [], ◌∷◌, ℕ, ◌*◌, ◌^◌, ◌≤◌, ◌<◌, eqb, ℤ, pos, nat_abs, length, ◌≤ℤ◌}
use Rattle.game_tree.specs.Sums.{◌·◌}
use Rattle.game_tree.specs.Tree.{Tree, Strategy, all, U}
use Rattle.game_tree.specs.Conditions.{all_but, units, Exact, Splits, Pays, Every, Valid, Rival}
use Rattle.game_tree.specs.Reply.{reply_tree, best, pure, reply}
use Rattle.game_tree.specs.Recall.{PerfectRecall}
use Rattle.game_tree.specs.Sets.{size, preorder, decisions, firsts, sets, set_members, entries, first_entry}
use Rattle.game_tree.specs.Shape.{decisions_of, set_number, SameActions}
use Rattle.game_tree.specs.Table.{Table, strategy_of, table_of, ValidTable, KeepsTable, RivalTable, table_worth, table_best, reply_table}
use Rattle.game_tree.specs.Table.{nash_conv_over, FinerRival, finer_worth, FinerUnbeaten, BestReply, Equilibrium}
use Rattle.game_tree.specs.Small.{small, given}

-- 1. A tree has as many nodes as its size says.
abbrev pub NodesCounted : Type 0
NodesCounted = (t : Tree) → length (preorder t) ≡ size t

-- Its decisions come in the order of its nodes.
abbrev pub DecisionsOfNodes : Type 0
DecisionsOfNodes = (t : Tree) → decisions t ≡ decisions_of (preorder t)

-- 2. A table is the table of its own strategy.
abbrev pub TableBack : Type 0
TableBack = (t : Tree) (table : Table) → length table ≡ entries t → table_of t (strategy_of t table) ≡ table

-- The strategy of a strategy's table has its parts at every decision.
abbrev pub StrategyBack : Type 0
StrategyBack = (t : Tree) (s : Strategy) → SameActions t → Every (λ j k n. (a : ℕ) → a < n → strategy_of t (table_of t s) j k a ≡ s j k a) t

-- 3. The strategy of a valid table is valid, and the table of a valid strategy is.
abbrev pub TableValid : Type 0
TableValid = (t : Tree) (D : ℕ) (table : Table) → SameActions t → ValidTable t D table → Valid (all D) (strategy_of t table) t

abbrev pub StrategyValid : Type 0
StrategyValid = (t : Tree) (D : ℕ) (s : Strategy) → Valid (all D) s t → ValidTable t D (table_of t s)

-- So a table is valid exactly if its length is the entry count and its strategy is valid.
abbrev pub ValidMeans : Type 0
ValidMeans = (t : Tree) (D : ℕ) (table : Table) → SameActions t → ValidTable t D table
    ↔ ((length table ≡ entries t) × Valid (all D) (strategy_of t table) t)

-- The strategy of a rival table is a rival.
abbrev pub TableRival : Type 0
TableRival = (t : Tree) (D i : ℕ) (table z : Table) → SameActions t → RivalTable t D i table z
    → Rival (all D) i (strategy_of t table) (strategy_of t z) t

-- 4. The reply table is a rival table: valid, the others' entries kept.
abbrev pub ReplyTableRival : Type 0
ReplyTableRival = (t : Tree) (D u i : ℕ) (table : Table) → 0 < D → PerfectRecall i t → SameActions t → ValidTable t D table
    → RivalTable t D i table (reply_table t D u table i)

-- Its entries are the reply's: D on each chosen action of the seat, 0 on its others, the table's for the other seats.
abbrev pub ReplyTableEntries : Type 0
ReplyTableEntries = (t : Tree) (D u i : ℕ) (table : Table) → SameActions t
    → Every (λ j k n. (a : ℕ) → a < n → strategy_of t (reply_table t D u table i) j k a ≡ reply D (strategy_of t table) i u t j k a) t

-- Its worth is the best value.
abbrev pub ReplyTableWorth : Type 0
ReplyTableWorth = (t : Tree) (C m D i : ℕ) (table : Table) → 0 < D → Splits C m t → SameActions t
    → table_worth t D (U C D m) (reply_table t D (U C D m) table i) i ≡ table_best t D (U C D m) table i

-- No rival table is worth more.
abbrev pub NoRivalTableBetter : Type 0
NoRivalTableBetter = (t : Tree) (C m D i : ℕ) (table z : Table) → 0 < D → Splits C m t → PerfectRecall i t → SameActions t
    → RivalTable t D i table z
    → table_worth t D (U C D m) z i ≤ℤ table_best t D (U C D m) table i

-- So it is a best reply.
abbrev pub ReplyTableBest : Type 0
ReplyTableBest = (t : Tree) (C m D i : ℕ) (table : Table) → 0 < D → Splits C m t → PerfectRecall i t → SameActions t → ValidTable t D table
    → BestReply t m D (U C D m) i table (table_best t D (U C D m) table i) (reply_table t D (U C D m) table i)

-- 5. Two tables that differ only in the seat's entries have the same best value.
abbrev pub OwnTableEntriesFree : Type 0
OwnTableEntriesFree = (t : Tree) (D u i : ℕ) (table z : Table) → SameActions t → KeepsTable t i table z
    → table_best t D u z i ≡ table_best t D u table i

-- Under a valid table the units of all ends add up to U,
-- and neither a worth nor a best value is more than u × the largest payoff B in size.
abbrev pub TableUnitsAddUp : Type 0
TableUnitsAddUp = (t : Tree) (C m D : ℕ) (table : Table) → 0 < D → Splits C m t → SameActions t → ValidTable t D table
    → units (all D) (strategy_of t table) (U C D m) t ≡ U C D m

abbrev pub TableBounds : Type 0
TableBounds = (t : Tree) (D u B i : ℕ) (table : Table) → 0 < D → SameActions t → ValidTable t D table → Pays B i t
    → (nat_abs (table_worth t D u table i) ≤ u * B) × (nat_abs (table_best t D u table i) ≤ u * B)

-- NashConv of a valid table is never below 0.
abbrev pub NashConvNotBelow : Type 0
NashConvNotBelow = (t : Tree) (C m D n : ℕ) (table : Table) → 0 < D → Splits C m t → ((i : ℕ) → i < n → PerfectRecall i t)
    → SameActions t → ValidTable t D table
    → pos 0 ≤ℤ nash_conv_over t D (U C D m) table n

-- 6. A rival of finer grain (document 02, Eight) has E parts in its own sets, E from 1, while the others keep D.
-- The reply still is worth at least as much.
abbrev pub NoFinerTableBetter : Type 0
NoFinerTableBetter = (t : Tree) (C m D i : ℕ) (table : Table) → 0 < D → Splits C m t → PerfectRecall i t → SameActions t
    → FinerUnbeaten t m D (U C D m) i table (table_best t D (U C D m) table i)

-- Its worth is over C × D^m × E^m, and products of whole numbers compare the two.
abbrev pub FinerProducts : Type 0
FinerProducts = (t : Tree) (C m D E i : ℕ) (table z : Table) → 0 < D → 1 ≤ E → Splits C m t → PerfectRecall i t → SameActions t
    → FinerRival t D E i table z
    → (U C D m · finer_worth t m D (U C D m) E z i) ≤ℤ ((C * D ^ m * E ^ m) · table_best t D (U C D m) table i)

-- Comparing by these products is comparing with E^m × a value in units, both ways.
abbrev pub ProductsCompare : Type 0
ProductsCompare = (C m D E : ℕ) (x v : ℤ) → 0 < C → 0 < D → (x ≤ℤ (E ^ m · v)) ↔ ((U C D m · x) ≤ℤ ((C * D ^ m * E ^ m) · v))

-- Every division that gives that worth is exact, and the units of all ends add up to E^m × U.
abbrev pub FinerTableUnits : Type 0
FinerTableUnits = (t : Tree) (C m D E i : ℕ) (table z : Table) → 0 < D → 1 ≤ E → Splits C m t → SameActions t → FinerRival t D E i table z
    → Exact (all_but i E D) (strategy_of t z) (E ^ m * U C D m) t
    × (units (all_but i E D) (strategy_of t z) (E ^ m * U C D m) t ≡ E ^ m * U C D m)

-- Of grain D are just the rival tables, and finer_worth is then D^m times their worth in units.
abbrev pub RivalsOfGrainD : Type 0
RivalsOfGrainD = (t : Tree) (D i : ℕ) (table z : Table) → FinerRival t D D i table z ↔ RivalTable t D i table z

abbrev pub WorthOfGrainD : Type 0
WorthOfGrainD = (t : Tree) (C m D i : ℕ) (z : Table) → 0 < D → Splits C m t
    → finer_worth t m D (U C D m) D z i ≡ D ^ m · table_worth t D (U C D m) z i

-- the reply in grain E: E on each chosen action of the seat and 0 on its others, the table's entries in the other seats' sets
abbrev pub finer_reply : (t : Tree) (D u E : ℕ) (table : Table) (i : ℕ) → Table
finer_reply t D u E table i = let s : Strategy = strategy_of t table in
    table_of t (λ j k a. cond (eqb j i) (pure E (best (reply_tree D s i u t)) k a) (s j k a))

-- It is a rival of that grain and worth just E^m × the best value, so any grain can copy the reply.
abbrev pub FinerReplyBest : Type 0
FinerReplyBest = (t : Tree) (C m D E i : ℕ) (table : Table) → 0 < D → 1 ≤ E → Splits C m t → PerfectRecall i t → SameActions t
    → ValidTable t D table
    → FinerRival t D E i table (finer_reply t D (U C D m) E table i)
    × (finer_worth t m D (U C D m) E (finer_reply t D (U C D m) E table i) i ≡ E ^ m · table_best t D (U C D m) table i)

-- With D parts it is the reply table. One part is enough, and then its worth is the best value itself.
abbrev pub FinerReplyOfD : Type 0
FinerReplyOfD = (t : Tree) (D u i : ℕ) (table : Table) → finer_reply t D u D table i ≡ reply_table t D u table i

abbrev pub FinerReplyOfOne : Type 0
FinerReplyOfOne = (t : Tree) (C m D i : ℕ) (table : Table) → 0 < D → Splits C m t → PerfectRecall i t → SameActions t → ValidTable t D table
    → FinerRival t D 1 i table (finer_reply t D (U C D m) 1 table i)
    × (finer_worth t m D (U C D m) 1 (finer_reply t D (U C D m) 1 table i) i ≡ table_best t D (U C D m) table i)

-- NashConv is 0 exactly if no seat has a rival of any grain worth more than its entries.
abbrev pub NashConvZero : Type 0
NashConvZero = (t : Tree) (C m D n : ℕ) (table : Table) → 0 < D → Splits C m t → ((i : ℕ) → i < n → PerfectRecall i t)
    → SameActions t → ValidTable t D table
    → (nash_conv_over t D (U C D m) table n ≡ pos 0) ↔ Equilibrium t m D (U C D m) table n

-- 7. Tried on the small tree: its sets in order of their first nodes, as seat, key and actions;
-- 16 nodes, and the members of a set by their numbers.
abbrev pub SmallSets : Type 0
SmallSets = (sets small ≡ (0, 1 ∷ [], 2) ∷ (0, 4 ∷ [], 2) ∷ (1, 2 ∷ [], 2) ∷ (0, 3 ∷ [], 2) ∷ []) × (size small ≡ 16)
    × (set_members small 0 (4 ∷ []) ≡ 3 ∷ 8 ∷ []) × (set_number small 0 (3 ∷ []) ≡ 3) × (first_entry small 0 (3 ∷ []) ≡ 6)

-- A set stands where its first decision does, not where its last does.
abbrev pub FirstNodes : Type 0
FirstNodes = firsts [] ((0, 1 ∷ [], 2) ∷ (0, 2 ∷ [], 3) ∷ (0, 1 ∷ [], 2) ∷ []) ≡ (0, 1 ∷ [], 2) ∷ (0, 2 ∷ [], 3) ∷ []

-- The table of its strategy, with two parts in each set, is valid; three parts in the last set make it no valid table.
abbrev pub small_table : Table
small_table = 1 ∷ 1 ∷ 1 ∷ 1 ∷ 2 ∷ 0 ∷ 0 ∷ 2 ∷ []

abbrev pub SmallTables : Type 0
SmallTables = (table_of small given ≡ small_table) × ValidTable small 2 small_table
    × (ValidTable small 2 (1 ∷ 1 ∷ 1 ∷ 1 ∷ 2 ∷ 0 ∷ 0 ∷ 3 ∷ []) → ⊥)

-- It is worth 2 to seat 0, whose best value is 4; the reply has seat 0's entries pure and seat 1's as they were; NashConv is 2.
abbrev pub SmallReplies : Type 0
SmallReplies = (table_worth small 2 12 small_table 0 ≡ pos 2) × (table_best small 2 12 small_table 0 ≡ pos 4)
    × (reply_table small 2 12 small_table 0 ≡ 0 ∷ 2 ∷ 2 ∷ 0 ∷ 2 ∷ 0 ∷ 2 ∷ 0 ∷ []) × (nash_conv_over small 2 12 small_table 2 ≡ pos 2)

-- The premises hold of it, and no rival table of seat 0 is worth more than 4.
abbrev pub SmallNoRivalTable : Type 0
SmallNoRivalTable = SameActions small × ((z : Table) → RivalTable small 2 0 small_table z → table_worth small 2 12 z 0 ≤ℤ pos 4)

-- A rival of seat 0 of grain 300 has 12 × 300² units and is worth 240,000, not more than 4 × 300²; of grain 1 the reply is worth 4.
abbrev pub small_finer : Table
small_finer = 100 ∷ 200 ∷ 200 ∷ 100 ∷ 2 ∷ 0 ∷ 300 ∷ 0 ∷ []

abbrev pub SmallFinerRivals : Type 0
SmallFinerRivals = FinerRival small 2 300 0 small_table small_finer × (finer_worth small 2 2 12 300 small_finer 0 ≡ pos 240000)
    × (300 ^ 2 * 12 ≡ 1080000) × (pos 240000 ≤ℤ (300 ^ 2 · pos 4))
    × (finer_reply small 2 12 1 small_table 0 ≡ 0 ∷ 1 ∷ 1 ∷ 0 ∷ 2 ∷ 0 ∷ 1 ∷ 0 ∷ [])
    × (finer_worth small 2 2 12 1 (finer_reply small 2 12 1 small_table 0) 0 ≡ pos 4)

-- Two parts more in one set, or another entry of seat 1, make it no rival; and the table is no equilibrium.
abbrev pub SmallNoFiner : Type 0
SmallNoFiner = (FinerRival small 2 300 0 small_table (100 ∷ 202 ∷ 200 ∷ 100 ∷ 2 ∷ 0 ∷ 300 ∷ 0 ∷ []) → ⊥)
    × (FinerRival small 2 300 0 small_table (100 ∷ 200 ∷ 200 ∷ 100 ∷ 1 ∷ 1 ∷ 300 ∷ 0 ∷ []) → ⊥)
    × (Equilibrium small 2 2 12 small_table 2 → ⊥)

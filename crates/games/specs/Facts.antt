-- What holds of the games by number, proved in proofs/Facts.antt:
-- their counts as numbers that a program can hold, what the reply theorem asks of their trees,
-- and what follows for rivals of any grain (document 02, Eight).
use Rattle.std.specs.Prelude.{◌≡◌, false, cond, ◌↔◌, ℕ, ◌*◌, ◌^◌, ◌≤◌, ◌<◌, pos, ◌≤ℤ◌}
use Rattle.game_tree.specs.Sums.{◌·◌}
use Rattle.game_tree.specs.Tree.{Strategy, all}
use Rattle.game_tree.specs.Conditions.{all_but, units, Exact, Splits, Pays}
use Rattle.game_tree.specs.Reply.{Reply, reply_tree, Choice, value, best}
use Rattle.game_tree.specs.Optimal.{EveryOwn, Decides}
use Rattle.game_tree.specs.Recall.{PerfectRecall}
use Rattle.game_tree.specs.Shape.{Sized, SameActions}
use Rattle.game_tree.specs.Table.{Table, strategy_of, ValidTable, KeepsTable, table_worth, table_best, reply_table, nash_conv_over, BestReply}
use Rattle.game_tree.specs.Table.{FinerRival, finer_worth, Equilibrium}
use Rattle.game_tree.specs.TableTheorem.{finer_reply}
use Rattle.kuhn_tree.specs.Counts.{kuhn_nodes, kuhn_sets, kuhn_entries}
use Rattle.games.specs.Games.{Game, is_kuhn, tree_of, C, m, root_units}
use Rattle.games.specs.Seats.{seats-out}
use Rattle.kuhn_rules.specs.Stakes as K
use Rattle.leduc_rules.specs.Stakes as L
use Rattle.kuhn_tree.specs.Facts as Kuhn
use Rattle.leduc_tree.specs.Facts as Leduc
use Rattle.leduc_tree.specs.Counts.{leduc_nodes, leduc_sets, leduc_entries}

-- the largest payoff in size
abbrev pub largest_payoff : Game → ℕ
largest_payoff g = cond (is_kuhn g) (Kuhn.largest_payoff K.ante K.stake g.seats) (Leduc.largest_payoff L.ante L.raise₁ L.raise₂)

-- the counts by game
abbrev pub nodes_of : Game → ℕ
nodes_of g = cond (is_kuhn g) (kuhn_nodes g.seats) leduc_nodes

abbrev pub sets_of : Game → ℕ
sets_of g = cond (is_kuhn g) (kuhn_sets g.seats) leduc_sets

abbrev pub entries_of : Game → ℕ
entries_of g = cond (is_kuhn g) (kuhn_entries g.seats) leduc_entries

-- every game that numbers 1 and 2 let through has so many nodes, sets and entries
abbrev pub Counted : Type 0
Counted = (g : Game) → seats-out g ≡ false → Sized (tree_of g) (nodes_of g) (sets_of g) (entries_of g)

-- document 01's table of counts
abbrev pub kuhn : ℕ → Game
kuhn n = record { number = 0; seats = n }

abbrev pub leduc : Game
leduc = record { number = 1; seats = 2 }

abbrev pub TableOfCounts : Type 0
TableOfCounts = Sized (tree_of (kuhn 2)) 58 12 24 × Sized (tree_of (kuhn 3)) 617 48 96 × Sized (tree_of (kuhn 4)) 7886 160 320
    × Sized (tree_of (kuhn 5)) 116437 480 960 × Sized (tree_of (kuhn 6)) 1944020 1344 2688 × Sized (tree_of leduc) 9457 936 2184

-- what the reply theorem asks of a tree: fans that divide C, at most m decisions on a path,
-- perfect recall, equally many actions at equal keys, bounded payoffs
pub record Fit (g : Game) : Type 0 where
  pub splits : Splits (C g) (m g) (tree_of g)
  pub recall : (i : ℕ) → i < g.seats → PerfectRecall i (tree_of g)
  pub actions : SameActions (tree_of g)
  pub pays : (i : ℕ) → i < g.seats → Pays (largest_payoff g) i (tree_of g)

abbrev pub GamesFit : Type 0
GamesFit = (g : Game) → g.number ≤ 1 → seats-out g ≡ false → Fit g

-- so the reply to a valid table is a rival table, its worth is the best value, and no rival table, nor one of any grain, is worth more
abbrev pub ReplyBest : Type 0
ReplyBest = (g : Game) (D i : ℕ) (table : Table) → g.number ≤ 1 → seats-out g ≡ false → i < g.seats → 0 < D
    → ValidTable (tree_of g) D table
    → BestReply (tree_of g) (m g) D (root_units g D) i table (table_best (tree_of g) D (root_units g D) table i)
    (reply_table (tree_of g) D (root_units g D) table i)

-- every division on the way down from the root's units is exact, whatever the parts
abbrev pub UnitsExact : Type 0
UnitsExact = (g : Game) (D : ℕ) (s : Strategy) → g.number ≤ 1 → seats-out g ≡ false → 0 < D
    → Exact (all D) s (root_units g D) (tree_of g)

-- under a valid table the units of all ends add up to the root's
abbrev pub UnitsAddUp : Type 0
UnitsAddUp = (g : Game) (D : ℕ) (table : Table) → g.number ≤ 1 → seats-out g ≡ false → 0 < D
    → ValidTable (tree_of g) D table → units (all D) (strategy_of (tree_of g) table) (root_units g D) (tree_of g) ≡ root_units g D

-- two tables that differ only in the seat's entries have the same best value
abbrev pub OwnEntriesFree : Type 0
OwnEntriesFree = (g : Game) (D i : ℕ) (table z : Table) → g.number ≤ 1 → seats-out g ≡ false
    → KeepsTable (tree_of g) i table z → table_best (tree_of g) D (root_units g D) z i ≡ table_best (tree_of g) D (root_units g D) table i

-- what seat i replies to: the others' moves of a table settled, its own open
abbrev pub open_to : Game → (D i : ℕ) → Table → Reply
open_to g D i table = reply_tree D (strategy_of (tree_of g) table) i (root_units g D) (tree_of g)

-- in each of the seat's sets the best choice is the lowest action with the greatest sum over all members
abbrev pub BestDecides : Type 0
BestDecides = (g : Game) (D i : ℕ) (table : Table) → g.number ≤ 1 → seats-out g ≡ false → i < g.seats
    → Decides (best (open_to g D i table)) (open_to g D i table)

-- any choice that decides so takes the same action in each of them, and its value is the best value
abbrev pub DecidesAlike : Type 0
DecidesAlike = (g : Game) (D i : ℕ) (table : Table) (c : Choice) → g.number ≤ 1 → seats-out g ≡ false → i < g.seats
    → Decides c (open_to g D i table)
    → EveryOwn (λ k n. c k ≡ best (open_to g D i table) k) (open_to g D i table)
    × (value c (open_to g D i table) ≡ table_best (tree_of g) D (root_units g D) table i)

-- the worth of a rival of grain E is over C × D^m × E^m: every division that gives it is exact, the units of all ends add up to just that,
-- and in products of whole numbers it is at most the best value over C × D^m
abbrev pub FinerRivals : Type 0
FinerRivals = (g : Game) (D E i : ℕ) (table z : Table) → g.number ≤ 1 → seats-out g ≡ false → i < g.seats → 0 < D → 1 ≤ E
    → FinerRival (tree_of g) D E i table z
    → Exact (all_but i E D) (strategy_of (tree_of g) z) (E ^ m g * root_units g D) (tree_of g)
    × (units (all_but i E D) (strategy_of (tree_of g) z) (E ^ m g * root_units g D) (tree_of g) ≡ E ^ m g * root_units g D)
    × ((root_units g D · finer_worth (tree_of g) (m g) D (root_units g D) E z i)
    ≤ℤ ((C g * D ^ m g * E ^ m g) · table_best (tree_of g) D (root_units g D) table i))

-- of grain D the worth is D^m times that of the table in units
abbrev pub FinerOfD : Type 0
FinerOfD = (g : Game) (D i : ℕ) (z : Table) → g.number ≤ 1 → seats-out g ≡ false → 0 < D
    → finer_worth (tree_of g) (m g) D (root_units g D) D z i ≡ D ^ m g · table_worth (tree_of g) D (root_units g D) z i

-- the reply in grain E is such a rival, and worth just E^m × the best value
abbrev pub FinerReply : Type 0
FinerReply = (g : Game) (D E i : ℕ) (table : Table) → g.number ≤ 1 → seats-out g ≡ false → i < g.seats → 0 < D → 1 ≤ E
    → ValidTable (tree_of g) D table
    → FinerRival (tree_of g) D E i table (finer_reply (tree_of g) D (root_units g D) E table i)
    × (finer_worth (tree_of g) (m g) D (root_units g D) E (finer_reply (tree_of g) D (root_units g D) E table i) i
    ≡ E ^ m g · table_best (tree_of g) D (root_units g D) table i)

-- NashConv is 0 exactly if no seat has a rival of any grain worth more than its entries
abbrev pub ConvZero : Type 0
ConvZero = (g : Game) (D : ℕ) (table : Table) → g.number ≤ 1 → seats-out g ≡ false → 0 < D → ValidTable (tree_of g) D table
    → (nash_conv_over (tree_of g) D (root_units g D) table g.seats ≡ pos 0) ↔ Equilibrium (tree_of g) (m g) D (root_units g D) table g.seats

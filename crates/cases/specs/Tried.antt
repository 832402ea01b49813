-- The reply theorem tried on a table of each game: its premises are met, and what it says of that table; then rivals of finer grain
-- (document 02, Eight) on cases k and l. Proved in proofs/Tried.antt.
use Rattle.std.specs.Prelude.{◌≡◌, cond, List, [], ◌∷◌, ◌++◌, map, ℕ, ◌*◌, ◌^◌, ◌<◌, eqb, ℤ, pos, neg_ℤ, ◌≤ℤ◌}
use Rattle.game_tree.specs.Sums.{◌·◌}
use Rattle.game_tree.specs.Table.{Table, table_worth, table_best, reply_table, FinerRival, finer_worth, Equilibrium}
use Rattle.game_tree.specs.TableTheorem.{finer_reply}
use Rattle.leduc_betting.specs.Betting.{CALL}
use Rattle.leduc_tree.specs.Tree.{Position, choices}
use Rattle.leduc_tree.specs.Turns.{first_turns}
use Rattle.games.specs.Games.{Game, game_of, tree_of, m, root_units}
use Rattle.tree_refusals.specs.Accepted.{AcceptedTable}
use Rattle.units_best.specs.Best.{BestReply}
use Rattle.cases.specs.Cases.{kuhn2_tables, passes, bluffs, settled}

-- Kuhn 2, always PASS: case k's reply of seat 0 is a rival table, it is worth 6, and no rival table, mixed or not, is worth more.
abbrev pub KuhnTried : Type 0
KuhnTried = AcceptedTable kuhn2_tables 1 passes × BestReply kuhn2_tables 1 0 passes (pos 6) bluffs

abbrev pub leduc : Game
leduc = game_of 1 2

-- the entries of the sets with these first positions: 1 on CALL, 0 on FOLD and RAISE
unfoldable pub calls_at : List Position → Table
calls_at [] = []
calls_at (q ∷ qs) = map (λ a. cond (eqb a CALL) 1 0) (choices q) ++ calls_at qs

-- Leduc, always CALL
unfoldable pub calls : Table
unfolding calls_at first_turns
calls = calls_at first_turns

-- It is accepted with D 1, and for each seat the reply is a rival table that is worth the best value, and no rival table is worth more.
abbrev pub LeducTried : Type 0
LeducTried = AcceptedTable leduc 1 calls
    × ((i : ℕ) → i < 2 → BestReply leduc 1 i calls (table_best (tree_of leduc) 1 (root_units leduc 1) calls i)
    (reply_table (tree_of leduc) 1 (root_units leduc 1) calls i))

-- what a rival of grain E is worth to a seat
abbrev pub finer : (D E : ℕ) → Table → (i : ℕ) → ℤ
finer D E z i = finer_worth (tree_of kuhn2_tables) (m kuhn2_tables) D (root_units kuhn2_tables D) E z i

-- Case k, and a rival of seat 0 of grain 10 with 5 and 5 in all its sets: of 6,000 units it is worth 3,000, at most 6 × 1,000.
abbrev pub mixes : Table
mixes = 5 ∷ 5 ∷ 1 ∷ 0 ∷ 5 ∷ 5 ∷ 1 ∷ 0 ∷ 1 ∷ 0 ∷ 1 ∷ 0 ∷ 5 ∷ 5 ∷ 1 ∷ 0 ∷ 5 ∷ 5 ∷ 1 ∷ 0 ∷ 5 ∷ 5 ∷ 5 ∷ 5 ∷ []

abbrev pub FinerTried : Type 0
FinerTried = FinerRival (tree_of kuhn2_tables) 1 10 0 passes mixes × (10 ^ m kuhn2_tables * root_units kuhn2_tables 1 ≡ 6000)
    × (finer 1 10 mixes 0 ≡ pos 3000) × (finer 1 10 mixes 0 ≤ℤ (1000 · pos 6))

-- Case l, and the reply of seat 0 with 10 parts on each choice: it is worth −9,000, which is −9 × 1,000.
abbrev pub tens : Table
tens = 10 ∷ 0 ∷ 3 ∷ 0 ∷ 10 ∷ 0 ∷ 2 ∷ 1 ∷ 0 ∷ 3 ∷ 0 ∷ 3 ∷ 10 ∷ 0 ∷ 2 ∷ 1 ∷ 10 ∷ 0 ∷ 3 ∷ 0 ∷ 10 ∷ 0 ∷ 0 ∷ 10 ∷ []

abbrev pub FinerReplyTried : Type 0
FinerReplyTried = AcceptedTable kuhn2_tables 3 settled × (finer_reply (tree_of kuhn2_tables) 3 (root_units kuhn2_tables 3) 10 settled 0 ≡ tens)
    × FinerRival (tree_of kuhn2_tables) 3 10 0 settled tens × (finer 3 10 tens 0 ≡ neg_ℤ (pos 9000)) × (neg_ℤ (pos 9000) ≡ 1000 · neg_ℤ (pos 9))

-- On case l, where NashConv is 0, neither seat has a rival of any grain worth more than its entries. On case k seat 0 has one of
-- grain 1: the reply is worth 6, and the table 0.
abbrev pub in_equilibrium : (D : ℕ) → Table → Type 0
in_equilibrium D table = Equilibrium (tree_of kuhn2_tables) (m kuhn2_tables) D (root_units kuhn2_tables D) table 2

abbrev pub EquilibriumTried : Type 0
EquilibriumTried = in_equilibrium 3 settled × (in_equilibrium 1 passes → ⊥)
    × FinerRival (tree_of kuhn2_tables) 1 1 0 passes bluffs × (finer 1 1 bluffs 0 ≡ pos 6)
    × (table_worth (tree_of kuhn2_tables) 1 (root_units kuhn2_tables 1) passes 0 ≡ pos 0)

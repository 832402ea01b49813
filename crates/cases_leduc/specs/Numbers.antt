-- Leduc, always CALL, D 1 (document 01, "Whole units"): the units of the root, both worths, both best values, NashConv.
-- Proved in proofs/Numbers.antt.
use Rattle.std.specs.Prelude.{◌≡◌, pos}
use Rattle.game_tree.specs.Table.{table_worth, table_best, nash_conv_over}
use Rattle.games.specs.Games.{tree_of, root_units}
use Rattle.cases.specs.Tried.{leduc, calls}

abbrev pub LeducCalls : Type 0
LeducCalls = (root_units leduc 1 ≡ 120)
    × (table_worth (tree_of leduc) 1 120 calls 0 ≡ pos 0) × (table_worth (tree_of leduc) 1 120 calls 1 ≡ pos 0)
    × (table_best (tree_of leduc) 1 120 calls 0 ≡ pos 176) × (table_best (tree_of leduc) 1 120 calls 1 ≡ pos 176)
    × (nash_conv_over (tree_of leduc) 1 120 calls 2 ≡ pos 352)

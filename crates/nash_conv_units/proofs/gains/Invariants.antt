-- The sum is NashConv over the seats passed. Assumes nothing.
use mathlib.Core.Path.{◌≡◌}
use lib.IntN.{pos}
use lib.ListN.{length}
use Rattle.game_tree.specs.Table.{nash_conv_over}
use Rattle.games.specs.Games.{tree_of, root_units}
use Rattle.games.specs.internal.Numbered.{numbered}
use Rattle.arena_store.specs.internal.Stored.{Stored}
use Rattle.nash_conv_units.proofs.gains.Given as goal

abbrev pub invariant-loop-seat : goal.invariant-loop-seat
invariant-loop-seat l = let g = numbered l.table.tree.game in
    (pos l.sum ≡ nash_conv_over (tree_of g) l.table.parts (root_units g l.table.parts) l.table.entries.now l.seat) × Stored g l.words
    × (length l.words ≡ length l.initial.words)

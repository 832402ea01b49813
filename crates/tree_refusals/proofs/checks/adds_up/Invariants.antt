-- Set after set, the parts add up. Assumes nothing.
use mathlib.Core.Path.{◌≡◌}
use lib.ListN.{take}
use Rattle.game_tree.specs.Table.{add_up}
use Rattle.games.specs.internal.Numbered.{numbered}
use Rattle.games.specs.internal.Actions.{actions_of}
use Rattle.games.proofs.Totals.{total}
use Rattle.tree_refusals.proofs.Parts.{rest}
use Rattle.tree_refusals.proofs.checks.adds_up.Given as goal

abbrev pub invariant-loop-set : goal.invariant-loop-set
invariant-loop-set l = (l.at ≡ total (take l.set (actions_of (numbered l.game)))) × (add_up l.d (actions_of (numbered l.game)) l.table ≡ rest l.d (actions_of (numbered l.game)) l.table l.set)

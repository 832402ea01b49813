-- The keys of Kuhn 2 in order, computed. Assumes nothing.
use mathlib.Core.Path.{refl}
use Rattle.game_tree.specs.Sets.{sets}
use Rattle.prelude.specs.Finite.{◌and◌, ◌or◌, some, every, those, has}
use Rattle.kuhn_rules.specs.Rules.{bet-made, after-bet, ended, left, remaining, legal}
use Rattle.kuhn_tree.specs.Tree.{next, each, below, tree_of_kuhn}
use Rattle.kuhn_tree.specs.Order.{in_order}
use Rattle.kuhn_tree.specs.Facts.{KeysInOrder}

pub keys_in_order : KeysInOrder
unfolding sets tree_of_kuhn below next each ◌and◌ ◌or◌ some those has bet-made after-bet ended left remaining legal every in_order
keys_in_order = (refl, refl)

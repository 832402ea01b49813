-- What the call answers of some tables, and how such quotients compare: by computing. Assumes nothing.
use mathlib.Core.Path.{refl}
use Rattle.prelude.specs.Finite as Finite
use Rattle.prelude.specs.Finite.{◌and◌, ◌or◌, some, every, those, has}
use Rattle.game_tree.specs.Sums.{◌·◌, sum, sumℕ}
use Rattle.game_tree.specs.Reply.{best, value, with_key, highest}
use Rattle.game_tree.specs.Sets.{size, sets, entries_of, before}
use Rattle.game_tree.specs.Table.{add_up, table_worth, table_best, nash_conv_over}
use Rattle.kuhn_rules.specs.Rules.{bet-made, after-bet, ended, bets, stands, left, remaining, legal, contribution, wins, paid_by_others, payoff}
use Rattle.kuhn_tree.specs.Tree as Kuhn
use Rattle.games.specs.Games.{tree_of}
use Rattle.comparison_tables.specs.Tried.{Answered, Compared}

pub answers : Answered
unfolding size add_up nash_conv_over table_best table_worth best sum with_key value highest ◌·◌ sets sumℕ before entries_of tree_of Kuhn.C Kuhn.tree_of_kuhn Kuhn.below Kuhn.next Kuhn.each ◌and◌ ◌or◌ some those has bet-made after-bet ended left remaining legal every Finite.sum bets stands contribution wins paid_by_others payoff
answers = (refl, refl, refl)

pub comparisons : Compared
comparisons = refl

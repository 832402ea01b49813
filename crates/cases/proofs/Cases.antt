-- The definitions give what document 01 says, in all its cases at once: by computing. Assumes nothing.
use mathlib.Core.Path.{refl}
use Rattle.prelude.specs.Finite.{◌and◌, ◌or◌, some, every, sum, has, places, those}
use Rattle.kuhn_rules.specs.Rules.{bet-made, after-bet, ended, overrun, bets, stands, contribution, wins, paid_by_others, payoff}
use Rattle.kuhn_rules.specs.Reached.{strange, twice, unknown, fair, played, possible}
use Rattle.kuhn_rules.specs.Stakes.{payoffs_of}
use Rattle.kuhn_positions.specs.Positions.{reachable}
use Rattle.kuhn.specs.Calls.{payoff_refusal, saved_refusal}
use Rattle.leduc_betting.specs.Betting as LeducBetting
use Rattle.leduc_betting.specs.Cards as LeducCards
use Rattle.leduc_rules.specs.Rules as LeducRules
use Rattle.leduc_rules.specs.Reached as LeducReached
use Rattle.leduc_positions.specs.Positions as LeducPositions
use Rattle.leduc.specs.Calls as LeducCalls
use Rattle.game_tree.specs.Sums as Sums
use Rattle.game_tree.specs.Reply as Reply
use Rattle.game_tree.specs.Sets as Sets
use Rattle.game_tree.specs.Table as Table
use Rattle.kuhn_rules.specs.Rules as KuhnRules
use Rattle.kuhn_tree.specs.Tree as KuhnTree
use Rattle.games.specs.Games as Games
use Rattle.units_worths.specs.Worths as Whole
use Rattle.cases.specs.Cases.{Agree, cases}

pub cases_agree : Agree cases
unfolding ◌and◌ ◌or◌ some every sum has places bet-made after-bet ended overrun bets stands contribution wins paid_by_others payoff strange twice unknown
    fair played possible reachable payoff_refusal payoffs_of saved_refusal those LeducBetting.ends_with LeducBetting.folded LeducBetting.closes
    LeducBetting.open_round LeducBetting.behind LeducBetting.raises LeducBetting.may LeducBetting.options LeducBetting.in_play LeducBetting.turn
    LeducBetting.ended LeducRules.public-due LeducRules.due LeducRules.live LeducRules.legal LeducRules.key LeducRules.after-action LeducRules.put_in
    LeducRules.contribution LeducRules.folds LeducRules.pairs LeducRules.beats LeducRules.wins LeducRules.payoff LeducCards.strange LeducCards.twice
    LeducBetting.played LeducReached.possible LeducPositions.reachable LeducCalls.payoff-refusal LeducCalls.legal-refusal LeducCalls.key-refusal
    KuhnRules.left KuhnRules.remaining KuhnRules.legal KuhnTree.next KuhnTree.each KuhnTree.below KuhnTree.tree_of_kuhn KuhnTree.C Sums.◌·◌ Sums.sum
    Sums.sumℕ Reply.best Reply.value Reply.with_key Reply.highest Sets.size Sets.sets Sets.entries_of Sets.before Table.add_up Table.table_worth
    Table.table_best Table.reply_table Table.nash_conv_over Games.tree_of Whole.worths_of
cases_agree = refl

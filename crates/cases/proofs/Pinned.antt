-- The values of specs/Pinned.antt, by computing; number 3 by the count of Kuhn 7's nodes. Assumes nothing.
use mathlib.Core.Path.{◌≡◌, refl}
use mathlib.Core.Bool.{false}
use lib.Ieee as Ieee
use Prim.Native.Nat.{ℕ, zero, suc, ◌*◌, ◌≤◌}
use native.Mathlib.Omega.{arith}
use borrow.Author.Tests.{lt-ltb, le-ltb}
use Rattle.prelude.specs.Finite.{◌and◌, ◌or◌, some, every, sum, has, places, those}
use Rattle.kuhn_rules.specs.Rules as KuhnRules
use Rattle.kuhn_rules.specs.Reached as KuhnReached
use Rattle.kuhn_positions.specs.Positions as KuhnPositions
use Rattle.kuhn.specs.Calls as KuhnCalls
use Rattle.leduc_betting.specs.Betting as LeducBetting
use Rattle.leduc_betting.specs.Cards as LeducCards
use Rattle.leduc_betting.specs.Checks as LeducChecks
use Rattle.leduc_rules.specs.Rules as LeducRules
use Rattle.leduc_rules.specs.Reached as LeducReached
use Rattle.leduc_positions.specs.Positions as LeducPositions
use Rattle.leduc.specs.Calls as LeducCalls
use Rattle.game_tree.specs.Sums as Sums
use Rattle.game_tree.specs.Sets as Sets
use Rattle.game_tree.specs.Table as Table
use Rattle.game_tree_f64.specs.Values as Values
use Rattle.kuhn_tree.specs.Tree as KuhnTree
use Rattle.kuhn_tree.proofs.Facts.{too_large}
use Rattle.kuhn_tree.specs.Counts.{kuhn_nodes, deal_nodes}
use Rattle.games.specs.Games as Games
use Rattle.games.specs.Seats.{seats-out}
use Rattle.games.proofs.Facts.{nodes_are}
use Rattle.f64_games.specs.Values as GameValues
use Rattle.cases.specs.Cases.{Agree}
use Rattle.cases.specs.Pinned.{payments, refusals, GameTwo, SevenSeats, SmallEnough, MostParts, TreesEvaluated, KuhnMoves, LeducMoves, UniformBits}

pub payments_agree : Agree payments
unfolding ◌and◌ ◌or◌ some every has those LeducBetting.ends_with LeducBetting.folded LeducBetting.closes LeducBetting.open_round LeducBetting.behind
    LeducBetting.raises LeducBetting.may LeducBetting.options LeducBetting.in_play LeducBetting.turn LeducBetting.ended LeducBetting.played LeducRules.public-due
    LeducRules.due LeducRules.live LeducRules.after-action LeducRules.put_in LeducRules.contribution LeducRules.folds LeducRules.pairs LeducRules.beats
    LeducRules.wins LeducRules.payoff LeducCards.strange LeducCards.twice LeducReached.possible LeducPositions.reachable LeducCalls.payoff-refusal
payments_agree = refl

pub refusals_agree : Agree refusals
unfolding ◌and◌ ◌or◌ some every has places those KuhnRules.bet-made KuhnRules.after-bet KuhnRules.ended KuhnRules.overrun KuhnRules.left KuhnRules.remaining
    KuhnRules.legal KuhnReached.strange KuhnReached.twice KuhnReached.unknown KuhnReached.fair KuhnReached.played KuhnReached.possible
    KuhnPositions.reachable KuhnCalls.payoff_refusal KuhnCalls.saved_refusal KuhnTree.next KuhnTree.each KuhnTree.below KuhnTree.tree_of_kuhn Sums.sumℕ
    Sets.size Sets.sets Sets.entries_of Table.add_up Games.tree_of LeducBetting.ends_with LeducBetting.folded LeducBetting.closes LeducBetting.open_round
    LeducBetting.behind LeducBetting.raises LeducBetting.may LeducBetting.options LeducBetting.in_play LeducBetting.turn LeducBetting.ended
    LeducBetting.played LeducBetting.unknown LeducRules.public-due LeducRules.due LeducRules.live LeducCards.strange LeducCards.twice
    LeducChecks.action_checks LeducChecks.barred_by LeducChecks.malformed LeducReached.possible LeducPositions.reachable LeducPositions.saved_checks
    LeducCalls.payoff-refusal LeducCalls.saved_refusal
refusals_agree = refl

pub kuhn-moves : KuhnMoves
unfolding ◌and◌ ◌or◌ some every has those KuhnRules.bet-made KuhnRules.after-bet KuhnRules.ended KuhnRules.overrun KuhnRules.left KuhnRules.remaining KuhnReached.strange
    KuhnReached.twice KuhnReached.unknown KuhnReached.fair KuhnReached.played KuhnReached.possible KuhnPositions.reachable KuhnCalls.deal_refusal KuhnCalls.step_refusal
kuhn-moves = (refl, refl)

pub leduc-moves : LeducMoves
unfolding ◌and◌ ◌or◌ some every has those LeducBetting.ends_with LeducBetting.folded LeducBetting.closes LeducBetting.open_round LeducBetting.behind
    LeducBetting.raises LeducBetting.may LeducBetting.options LeducBetting.in_play LeducBetting.turn LeducBetting.ended LeducBetting.played LeducRules.public-due
    LeducRules.due LeducRules.live LeducCards.left LeducCards.remaining LeducCards.strange LeducCards.twice LeducReached.possible LeducPositions.reachable
    LeducCalls.deal-refusal LeducCalls.step_refusal LeducBetting.counted
leduc-moves = (refl, refl, refl)

-- ---- numbers 1 and 3
pub game_two : GameTwo
game_two memory D table = refl

pub seven_seats : SevenSeats
unfolding ◌or◌ Games.tree_of
seven_seats memory D table = rw (lt-ltb 4000000 _ (too_large 1 1).1)

few-nodes : (n : ℕ) → 2 ≤ n → n ≤ 6 → kuhn_nodes n ≤ 4000000
unfolding deal_nodes
few-nodes zero l m = absurd (omega (arith, l))
few-nodes (suc zero) l m = absurd (omega (arith, l))
few-nodes (suc (suc zero)) l m = omega arith
few-nodes (suc (suc (suc zero))) l m = omega arith
few-nodes (suc (suc (suc (suc zero)))) l m = omega arith
few-nodes (suc (suc (suc (suc (suc zero))))) l m = omega arith
few-nodes (suc (suc (suc (suc (suc (suc zero)))))) l m = omega arith
few-nodes (suc (suc (suc (suc (suc (suc (suc n))))))) l m = absurd (omega (arith, m))

kuhn-seats : (n : ℕ) → 2 ≤ n → n ≤ 6 → seats-out (Games.game_of 0 n) ≡ false
unfolding ◌or◌
kuhn-seats n l m = rw (le-ltb n 2 l, le-ltb 10 n (omega (arith, m)))

pub small-enough : SmallEnough
small-enough = (
  (λ n memory l m room.
      let out = kuhn-seats n l m in
      let few = nodes_are (Games.game_of 0 n) out in
      rw (out, le-ltb 4000000 (Sets.size (Games.tree_of (Games.game_of 0 n))) (omega (arith, few, few-nodes n l m)), le-ltb memory (12 * Sets.size (Games.tree_of (Games.game_of 0 n))) room)),
  λ memory room.
      let few = nodes_are (Games.game_of 1 2) refl in
      rw (le-ltb 4000000 (Sets.size (Games.tree_of (Games.game_of 1 2))) (omega (arith, few)), le-ltb memory (12 * Sets.size (Games.tree_of (Games.game_of 1 2))) room),
)

pub most_parts : MostParts
most_parts = (refl, refl, refl, refl, refl, refl)

pub trees_evaluated : TreesEvaluated
unfolding Games.tree_of
trees_evaluated = ((λ n. refl), refl)

-- ---- bits
pub uniform_bits : UniformBits
unfolding ◌and◌ ◌or◌ some every has those sum KuhnRules.bet-made KuhnRules.after-bet KuhnRules.ended KuhnRules.left KuhnRules.remaining KuhnRules.legal KuhnRules.bets
    KuhnRules.stands KuhnRules.contribution KuhnRules.wins KuhnRules.paid_by_others KuhnRules.payoff KuhnTree.next KuhnTree.each KuhnTree.below
    KuhnTree.tree_of_kuhn Games.tree_of Sums.sumℕ Sets.sets Sets.entries_of Sets.before Values.edge Values.value Values.lead Values.actions Values.found
    Values.summed Values.set_sum Values.decided Values.best Values.best_value Values.worth Values.profile_of GameValues.best_of GameValues.worth_of GameValues.gaps
    Ieee.of_bits Ieee.to_bits Ieee.of_int Ieee.add Ieee.sub Ieee.mul Ieee.div Ieee.lt
uniform_bits = (refl, refl)

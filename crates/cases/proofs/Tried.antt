-- The premises of the reply theorem are met by a table of each game, by computing; so it holds of them. Assumes nothing.
use mathlib.Core.Path.{◌≡◌, refl, sym, ap, subst, ◌∙◌}
use mathlib.Core.Bool.{true}
use Prim.Native.Nat.{ℕ, ◌*◌, ◌^◌, ◌<◌}
use native.Mathlib.Omega.{arith}
use lib.IntN.{pos, neg_ℤ}
use lib.ListN.{length}
use lib.Signed.{◌≤ℤ◌}
use Rattle.prelude.specs.Finite as Finite
use Rattle.prelude.specs.Finite.{◌and◌, ◌or◌, some, every, those, has}
use Rattle.game_tree.specs.Sums.{◌·◌, sum, sumℕ}
use Rattle.game_tree.specs.Tree.{Tree}
use Rattle.game_tree.specs.Reply.{reply_tree, best, value, with_key, highest, pure}
use Rattle.game_tree.specs.Conditions.{all_but}
use Rattle.game_tree.specs.Sets.{sets, set_actions, entries_of, entries, before, seats_of}
use Rattle.game_tree.specs.Table.{Table, strategy_of, laid_out, add_up, table_worth, table_best, reply_table, nash_conv_over, add_up_by, FinerRival, finer_worth}
use Rattle.game_tree.specs.TableTheorem.{finer_reply}
use Rattle.game_tree.proofs.Integers.{·-zero}
use Rattle.game_tree.proofs.Tables.{keeps_in, keeps_tested}
use Rattle.game_tree.proofs.TableTheorem.{rivals_of_grain_D}
use Rattle.kuhn_rules.specs.Rules.{bet-made, after-bet, ended, bets, stands, left, remaining, legal, contribution, wins, paid_by_others, payoff}
use Rattle.kuhn_tree.specs.Tree as Kuhn
use Rattle.kuhn_tree.specs.Counts.{deal_nodes}
use Rattle.leduc_betting.specs.Betting as Betting
use Rattle.leduc_betting.specs.Cards as Cards
use Rattle.leduc_rules.specs.Rules as Rules
use Rattle.leduc_tree.specs.Tree as Leduc
use Rattle.leduc_tree.specs.Turns.{joined, turns, is_first, first_ones, first_turns, actions_in_order}
use Rattle.games.specs.Games.{Game, tree_of, m, root_units}
use Rattle.games.specs.internal.Actions.{actions_of}
use Rattle.games.proofs.Facts.{counted_games, actions-listed, reply-best, finer-reply, conv_zero}
use Rattle.tree_refusals.specs.Accepted.{AcceptedTable}
use Rattle.units_best.specs.Best.{BestReply}
use Rattle.cases.specs.Cases.{kuhn2_tables, passes, bluffs, settled}
use Rattle.cases.specs.Tried.{KuhnTried, leduc, calls_at, calls, LeducTried, finer, mixes, FinerTried, tens, FinerReplyTried, in_equilibrium, EquilibriumTried}

-- the theorem, of a table that is accepted
best-reply : (g : Game) (D i : ℕ) (table : Table) → AcceptedTable g D table → i < g.seats
    → BestReply g D i table (table_best (tree_of g) D (root_units g D) table i) (reply_table (tree_of g) D (root_units g D) table i)
best-reply g D i table a l = reply-best g D i table a.game.known a.game.seats l a.least a.valid

-- ---- Kuhn 2, always PASS

passes-valid : (length passes ≡ entries (tree_of kuhn2_tables)) × (add_up 1 (set_actions (tree_of kuhn2_tables)) passes ≡ true)
unfolding add_up sets entries_of sumℕ tree_of Kuhn.tree_of_kuhn Kuhn.below Kuhn.next Kuhn.each ◌and◌ ◌or◌ some every those has bet-made after-bet ended left remaining legal
passes-valid = (refl, refl)

passes-accepted : AcceptedTable kuhn2_tables 1 passes
unfolding ◌or◌ deal_nodes
passes-accepted = record { game = record { known = omega arith; seats = refl; small = omega arith }; least = omega arith; most = omega arith; valid = passes-valid }

best-six : table_best (tree_of kuhn2_tables) 1 (root_units kuhn2_tables 1) passes 0 ≡ pos 6
unfolding table_best best sum with_key value highest ◌·◌ sets sumℕ before entries_of tree_of Kuhn.C Kuhn.tree_of_kuhn Kuhn.below Kuhn.next Kuhn.each ◌and◌ ◌or◌
    some those has bet-made after-bet ended left remaining legal every Finite.sum bets stands contribution wins paid_by_others payoff
best-six = refl

reply-bluffs : reply_table (tree_of kuhn2_tables) 1 (root_units kuhn2_tables 1) passes 0 ≡ bluffs
unfolding reply_table best sum with_key value highest ◌·◌ sets sumℕ before entries_of tree_of Kuhn.C Kuhn.tree_of_kuhn Kuhn.below Kuhn.next Kuhn.each ◌and◌ ◌or◌
    some those has bet-made after-bet ended left remaining legal every Finite.sum bets stands contribution wins paid_by_others payoff
reply-bluffs = refl

pub kuhn_tried : KuhnTried
kuhn_tried = (
  passes-accepted,
  subst (λ v. BestReply kuhn2_tables 1 0 passes v bluffs) best-six
      (subst (BestReply kuhn2_tables 1 0 passes (table_best (tree_of kuhn2_tables) 1 (root_units kuhn2_tables 1) passes 0)) reply-bluffs (best-reply kuhn2_tables 1 0 passes passes-accepted (omega arith))),
)

-- ---- Leduc, always CALL

calls-length : length calls ≡ 2184
unfolding calls calls_at first_turns first_ones is_first turns joined Leduc.next ◌and◌ ◌or◌ some those has Betting.ends_with Betting.folded Betting.closes
    Betting.behind Betting.raises Betting.may Betting.options Betting.in_play Betting.turn Betting.ended Cards.left Cards.remaining Rules.public-due
    Rules.due
calls-length = refl

calls-add_up : add_up 1 actions_in_order calls ≡ true
unfolding add_up actions_in_order calls calls_at first_turns first_ones is_first turns joined Leduc.next ◌and◌ ◌or◌ some those has Betting.ends_with
    Betting.folded Betting.closes Betting.behind Betting.raises Betting.may Betting.options Betting.in_play Betting.turn Betting.ended Cards.left
    Cards.remaining Rules.public-due Rules.due
calls-add_up = refl

leduc-actions : set_actions (tree_of leduc) ≡ actions_in_order
unfolding actions_of
leduc-actions = actions-listed leduc refl

calls-accepted : AcceptedTable leduc 1 calls
calls-accepted = record {
  game = record { known = omega arith; seats = refl; small = omega arith };
  least = omega arith;
  most = omega arith;
  valid = (calls-length ∙ sym (counted_games leduc refl).2, subst (λ ns. add_up 1 ns calls ≡ true) (sym leduc-actions) calls-add_up);
}

pub leduc_tried : LeducTried
leduc_tried = (calls-accepted, λ i l. best-reply leduc 1 i calls calls-accepted l)

-- ---- rivals of finer grain

abbrev two : Tree
two = tree_of kuhn2_tables

added_up : (length mixes ≡ entries two) × (add_up_by (all_but 0 10 1) (sets two) mixes ≡ true) × (keeps_in 0 (seats_of (sets two)) passes mixes ≡ true)
    × (length settled ≡ entries two) × (add_up 3 (set_actions two) settled ≡ true)
unfolding add_up_by add_up keeps_in seats_of sets entries_of sumℕ tree_of Kuhn.tree_of_kuhn Kuhn.below Kuhn.next Kuhn.each ◌and◌ ◌or◌ some every those has bet-made
    after-bet ended left remaining legal
added_up = (refl, refl, refl, refl, refl)

numbers : (finer 1 10 mixes 0 ≡ pos 3000) × (finer 1 1 bluffs 0 ≡ pos 6) × (table_worth two 1 (root_units kuhn2_tables 1) passes 0 ≡ pos 0)
    × (10 ^ m kuhn2_tables * root_units kuhn2_tables 1 ≡ 6000) × (10 ^ m kuhn2_tables · neg_ℤ (pos 9) ≡ neg_ℤ (pos 9000))
    × (finer_reply two 3 (root_units kuhn2_tables 3) 10 settled 0 ≡ tens) × (table_best two 3 (root_units kuhn2_tables 3) settled 0 ≡ neg_ℤ (pos 9))
    × (nash_conv_over two 3 (root_units kuhn2_tables 3) settled 2 ≡ pos 0)
unfolding finer_worth table_worth table_best nash_conv_over strategy_of laid_out reply_tree pure best sum with_key value highest ◌·◌ sets sumℕ before entries_of
    tree_of Kuhn.C Kuhn.tree_of_kuhn Kuhn.below Kuhn.next Kuhn.each ◌and◌ ◌or◌ some those has bet-made after-bet ended left remaining legal every Finite.sum
    bets stands contribution wins paid_by_others payoff
numbers = (refl, refl, refl, refl, refl, refl, refl, refl)

mixes-rival : FinerRival two 1 10 0 passes mixes
mixes-rival = (added_up.0, added_up.1, keeps_tested two 0 passes mixes added_up.2)

pub finer_tried : FinerTried
finer_tried = (mixes-rival, numbers.3, numbers.0, kuhn_tried.1.finer 10 mixes (omega arith) mixes-rival)

settled-accepted : AcceptedTable kuhn2_tables 3 settled
unfolding ◌or◌ deal_nodes
settled-accepted = record {
  game = record { known = omega arith; seats = refl; small = omega arith };
  least = omega arith;
  most = omega arith;
  valid = (added_up.3, added_up.4);
}

pub finer-reply_tried : FinerReplyTried
finer-reply_tried =
    let a = settled-accepted in
    let (r, w) = finer-reply kuhn2_tables 3 10 0 settled a.game.known a.game.seats (omega arith) a.least (omega arith) a.valid in (
      a,
      numbers.5,
      subst (FinerRival two 3 10 0 settled) numbers.5 r,
      subst (λ z. finer 3 10 z 0 ≡ neg_ℤ (pos 9000)) numbers.5 (w ∙ ap (λ x. 10 ^ m kuhn2_tables · x) numbers.6 ∙ numbers.4),
      sym numbers.4,
    )

-- with D 1 the reply table is a rival of grain 1
bluffs-rival : FinerRival two 1 1 0 passes bluffs
bluffs-rival = (rivals_of_grain_D two 1 0 passes bluffs).1 kuhn_tried.1.rival

passes_not : in_equilibrium 1 passes → ⊥
passes_not f =
    let h = f 0 (omega arith) 1 bluffs (omega arith) bluffs-rival in
    absurd (subst (λ x. pos 6 ≤ℤ x) (·-zero (1 ^ m kuhn2_tables)) (rw (numbers.1, numbers.2) at h)).le

pub equilibrium_tried : EquilibriumTried
equilibrium_tried =
    let a = settled-accepted in
    ((conv_zero kuhn2_tables 3 settled a.game.known a.game.seats a.least a.valid).0 numbers.7, passes_not, bluffs-rival, numbers.1, numbers.2)

-- The order of the sets on a list, and the sets, tables and replies of the small tree, computed. Nothing is assumed.
use mathlib.Core.Path.{◌≡◌, refl}
use mathlib.Core.Bool.{true}
use mathlib.Core.List.{[], ◌∷◌}
use Prim.Native.Nat.{ℕ}
use native.Mathlib.Omega.{arith}
use lib.IntN.{pos}
use lib.ListN.{length}
use Rattle.game_tree.specs.Sums.{◌·◌, sum, sumℕ}
use Rattle.game_tree.specs.Conditions.{all_but}
use Rattle.game_tree.specs.Reply.{reply_tree, best, value, with_key, highest, pure}
use Rattle.game_tree.specs.Sets.{size, preorder, firsts, sets, entries_of, entries, before, seats_of, numbers}
use Rattle.game_tree.specs.Table.{Table, strategy_of, laid_out, add_up, add_up_by, finer_worth, table_worth, table_best, reply_table, nash_conv_over}
use Rattle.game_tree.specs.Small.{small, given}
use Rattle.game_tree.specs.TableTheorem.{FirstNodes, SmallSets, SmallTables, SmallReplies, finer_reply, small_table, small_finer}
use Rattle.game_tree.proofs.Tables.{keeps_in}

pub first_nodes : FirstNodes
unfolding firsts
first_nodes = refl

pub small-sets : SmallSets
unfolding sets small size preorder numbers before entries_of sumℕ
small-sets = (refl, refl, refl, refl, refl)

pub small_tables : SmallTables
unfolding sets small given laid_out add_up entries_of sumℕ
small_tables = (refl, (refl, refl), λ v. let z : ◌≡◌ {A = ℕ} 0 1 = cc v.1 in omega arith)

pub small_replies : SmallReplies
unfolding table_worth table_best reply_table nash_conv_over small best sum with_key value highest ◌·◌ sets sumℕ before entries_of
small_replies = (refl, refl, refl, refl)

-- ---- rivals of finer grain
pub small_adds : add_up_by (all_but 0 300 2) (sets small) small_finer ≡ true
unfolding add_up_by sets small
small_adds = refl

pub small_keeps : keeps_in 0 (seats_of (sets small)) small_table small_finer ≡ true
unfolding keeps_in seats_of sets small
small_keeps = refl

abbrev ones : Table
ones = finer_reply small 2 12 1 small_table 0

pub small-finer : (length small_finer ≡ entries small) × (finer_worth small 2 2 12 300 small_finer 0 ≡ pos 240000)
    × (ones ≡ 0 ∷ 1 ∷ 1 ∷ 0 ∷ 2 ∷ 0 ∷ 1 ∷ 0 ∷ []) × (finer_worth small 2 2 12 1 ones 0 ≡ pos 4)
unfolding finer_worth small reply_tree strategy_of laid_out pure best sum with_key value highest ◌·◌ sets sumℕ before entries_of
small-finer = (refl, refl, refl, refl)

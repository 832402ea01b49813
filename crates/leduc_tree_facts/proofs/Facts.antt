-- The statements of specs/Facts.antt, each by its proof: what other crates cite. Assumes nothing.
use Prim.Native.Nat.{zero, suc}
use native.Mathlib.Omega.{arith}
use lib.ListN.{get_or}
use Rattle.game_tree.proofs.TableTheorem.{reply-table-best}
use Rattle.leduc_tree.specs.Tree.{tree_of_leduc, C, m}
use Rattle.leduc_tree.proofs.Computed.{set-count, entry-count}
use Rattle.leduc_tree_facts.specs.Facts.{Counts, SeatByKey, ActionsByKey, DepthByKey, LevelsByKey, TwoOrThreeActions, Recalls, FansDivide, PayoffsBounded, ReplyBest, DealsFirst, OneShape}
use Rattle.leduc_tree_facts.proofs.Keys.{actions_of, depth_of, level_of, past}
use Rattle.leduc_tree_facts.proofs.Computed.{node-count, splitting, seats, actions, depths, leveling, few-actions, first_recalls, second-recalls}
use Rattle.leduc_tree_facts.proofs.Payoffs.{leduc-pays}
use Rattle.leduc_tree_facts.proofs.Hands as Hands

pub counts : Counts
counts ante raise₁ raise₂ = (node-count ante raise₁ raise₂, set-count ante raise₁ raise₂, entry-count ante raise₁ raise₂)

pub seat_by_key : SeatByKey
seat_by_key ante raise₁ raise₂ = ((λ k. get_or k 0 0), seats ante raise₁ raise₂)

pub actions_by_key : ActionsByKey
actions_by_key ante raise₁ raise₂ = ((λ j k. actions_of k), actions ante raise₁ raise₂)

pub depth_by_key : DepthByKey
depth_by_key ante raise₁ raise₂ = ((λ j k. depth_of k), depths ante raise₁ raise₂)

pub levels_by_key : LevelsByKey
levels_by_key ante raise₁ raise₂ = ((λ j k. level_of k), leveling ante raise₁ raise₂)

pub two_or_three_actions : TwoOrThreeActions
two_or_three_actions ante raise₁ raise₂ = few-actions ante raise₁ raise₂

pub recalls : Recalls
recalls ante raise₁ raise₂ zero l = (past, actions_of, first_recalls ante raise₁ raise₂)
recalls ante raise₁ raise₂ (suc zero) l = (past, actions_of, second-recalls ante raise₁ raise₂)
recalls ante raise₁ raise₂ (suc (suc i)) l = absurd (omega arith)

pub fans-divide : FansDivide
fans-divide ante raise₁ raise₂ = splitting ante raise₁ raise₂

pub payoffs-bounded : PayoffsBounded
payoffs-bounded ante raise₁ raise₂ i = leduc-pays ante raise₁ raise₂ i

pub reply-best : ReplyBest
reply-best ante raise₁ raise₂ D i table l d v =
    reply-table-best (tree_of_leduc ante raise₁ raise₂) C m D i table d (fans-divide ante raise₁ raise₂) (recalls ante raise₁ raise₂ i l) (actions_by_key ante raise₁ raise₂) v

pub deals_first : DealsFirst
deals_first ante raise₁ raise₂ = Hands.deals_first ante raise₁ raise₂

pub one_shape : OneShape
one_shape ante raise₁ raise₂ c d e w = Hands.one_shape ante raise₁ raise₂ c d e w

-- The statements of specs/Facts.antt, each by its proof: what other crates cite. Assumes nothing.
use mathlib.Core.Path.{◌≡◌, refl}
use lib.ListN.{get_or, drop}
use Rattle.game_tree.proofs.TableTheorem.{reply-table-best}
use Rattle.kuhn_tree.specs.Tree.{m, tree_of_kuhn, C}
use Rattle.kuhn_tree.specs.Facts.{FollowsRules, FuelEnough, SeatByKey, ActionsByKey, DepthByKey, LevelsByKey, TwoActions, Recalls, FansDivide, PayoffsBounded, PayoffsBalance, ReplyBest}
use Rattle.kuhn_tree.proofs.Growth.{kuhn-follows, kuhn-fuel}
use Rattle.kuhn_tree.proofs.Units.{kuhn-splits, kuhn-every, depth_at, kuhn-heights, level_at, kuhn-levels}
use Rattle.kuhn_tree.proofs.Recall.{kuhn-recall}
use Rattle.kuhn_tree.proofs.Payoffs.{kuhn-pays, kuhn-balance}
use Rattle.kuhn_tree.proofs.Sets.{kuhn_same_actions}
pub use Rattle.kuhn_tree.proofs.Keys.{keys_in_order}
pub use Rattle.kuhn_tree.proofs.Order.{sets_in_order}
pub use Rattle.kuhn_tree.proofs.Positions.{nodes-reached}
pub use Rattle.kuhn_tree.proofs.Range.{units-fit}
pub use Rattle.kuhn_tree.proofs.Counts.{counted, counts, too_large}

pub follows-rules : FollowsRules
follows-rules ante bet n l = kuhn-follows n l ante bet

pub fuel-enough : FuelEnough
fuel-enough ante bet n x l = kuhn-fuel n l ante bet x

pub seat_by_key : SeatByKey
seat_by_key ante bet n = ((λ k. get_or k 0 0), kuhn-every ante bet n (λ j k a. j ≡ get_or k 0 0) (λ j c h. refl))

pub actions_by_key : ActionsByKey
actions_by_key ante bet n = kuhn_same_actions ante bet n

pub depth_by_key : DepthByKey
depth_by_key ante bet n = ((λ j k. depth_at ante bet n (drop 2 k)), kuhn-heights ante bet n)

pub levels_by_key : LevelsByKey
levels_by_key ante bet n d l = (level_at ante bet n d, kuhn-levels ante bet n d l)

pub two_actions : TwoActions
two_actions ante bet n = kuhn-every ante bet n (λ j k a. a ≡ 2) (λ j c h. refl)

pub recalls : Recalls
recalls ante bet n i = kuhn-recall ante bet n i

pub fans-divide : FansDivide
fans-divide ante bet n = kuhn-splits ante bet n

pub payoffs-bounded : PayoffsBounded
payoffs-bounded ante bet n i two l = kuhn-pays ante bet n two i l

pub payoffs-balance : PayoffsBalance
payoffs-balance ante bet n l = kuhn-balance ante bet n l

pub reply-best : ReplyBest
reply-best ante bet n D i table d v = reply-table-best (tree_of_kuhn ante bet n) (C n) (m n) D i table d (fans-divide ante bet n) (recalls ante bet n i) (actions_by_key ante bet n) v

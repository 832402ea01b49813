-- The statements of specs/Facts.antt, each by its proof: what other crates cite. Assumes nothing.
use mathlib.Core.Path.{◌≡◌, refl, ap, ◌∙◌}
use mathlib.Core.List.{List, [], ◌∷◌, map}
use lib.ListN.{length}
use Rattle.leduc_tree.specs.Tree.{Position, choices}
use Rattle.leduc_tree.specs.Turns.{first_turns, decision_at, actions_in_order}
use Rattle.leduc_tree.specs.Facts.{FollowsRules, NodesReached, PayoffsBalance, FuelEnough, FirstOfSet, ActionsInOrder}
use Rattle.leduc_tree.proofs.Growth.{leduc-follows, leduc-fuel}
use Rattle.leduc_tree.proofs.Positions as Positions
use Rattle.leduc_tree.proofs.Computed as Computed

pub follows-rules : FollowsRules
follows-rules ante raise₁ raise₂ = leduc-follows ante raise₁ raise₂

pub nodes-reached : NodesReached
nodes-reached = Positions.nodes-reached

pub payoffs-balance : PayoffsBalance
payoffs-balance = Positions.payoffs-balance

pub fuel-enough : FuelEnough
fuel-enough ante raise₁ raise₂ x = leduc-fuel ante raise₁ raise₂ x

pub first_of_set : FirstOfSet
first_of_set ante raise₁ raise₂ = Computed.first_of_set ante raise₁ raise₂

actions_of_lem : (qs : List Position) → map (λ x. x.2) (map decision_at qs) ≡ map (λ q. length (choices q)) qs
actions_of_lem [] = refl
actions_of_lem (q ∷ qs) = ap (λ l. length (choices q) ∷ l) (actions_of_lem qs)

pub actions_in_order_lem : ActionsInOrder
unfolding actions_in_order
actions_in_order_lem ante raise₁ raise₂ = ap (map (λ x. x.2)) (first_of_set ante raise₁ raise₂) ∙ actions_of_lem first_turns

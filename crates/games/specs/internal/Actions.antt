-- The actions of each set in set order, by game number: a tool of private contracts, equal to set_actions of the tree (proofs/Facts.antt).
use Rattle.std.specs.Prelude.{cond, List, ℕ, replicate}
use Rattle.kuhn_tree.specs.Counts.{kuhn_sets}
use Rattle.leduc_tree.specs.Turns.{actions_in_order}
use Rattle.games.specs.Games.{Game, is_kuhn}

-- two in each of Kuhn's sets, in Leduc's those of its first positions
unfoldable pub actions_of : Game → List ℕ
actions_of g = cond (is_kuhn g) (replicate (kuhn_sets g.seats) 2) actions_in_order

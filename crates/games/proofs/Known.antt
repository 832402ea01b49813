-- The seats of a game that has a tree. Assumes nothing.
use mathlib.Core.Path.{◌≡◌}
use Prim.Native.Nat.{◌≤◌}
use native.Mathlib.Omega.{arith}
use Rattle.games.specs.Known.{Known}
use Rattle.games.specs.Games.{Game}
use Rattle.games.proofs.Counts.{kuhn_least, kuhn_most, kuhn-nodes, six-seats}
use Rattle.games.proofs.Facts as Facts

module _ (g : Game) (a : Known g) where
  module _ (k : g.number ≡ 0) where
    pub kuhn_two : 2 ≤ g.seats
    kuhn_two = kuhn_least g k a.seats

    pub kuhn-six : g.seats ≤ 6
    kuhn-six = six-seats g.seats kuhn_two (kuhn_most g k a.seats) (omega (arith, kuhn-nodes g k, a.small))

  pub leduc_two : (g.number ≡ 0 → ⊥) → g.seats ≡ 2
  leduc_two k = Facts.leduc_two g k a.seats

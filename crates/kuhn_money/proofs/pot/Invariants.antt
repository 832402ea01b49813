-- The pot: what the seats passed have paid. Assumes nothing.
use Prim.Native.Nat.{◌≤◌, ◌*◌}
use mathlib.Core.Path.{◌≡◌}
use Rattle.prelude.specs.Finite.{sum}
use Rattle.kuhn_rules.specs.Rules.{contribution}
use Rattle.kuhn_money.proofs.pot.Given as goal

abbrev pub invariant-loop-player : goal.invariant-loop-player
invariant-loop-player l = record { exact : l.total ≡ sum l.player (contribution 1 1 l.n l.history); small : l.total ≤ 2 * l.player }

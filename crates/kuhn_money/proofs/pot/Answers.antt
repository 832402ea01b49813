-- The pot: what the seats passed have paid. Assumes nothing.
use Prim.Native.Nat.{◌+◌}
use mathlib.Core.Path.{sym, ap₂, ◌∙◌}
use native.Mathlib.Omega.{arith}
use Rattle.prelude.proofs.Lists.{sum_more, sum_none}
use Rattle.kuhn_money.proofs.pot.Goals as goal

pub loop-player-init : goal.loop-player-init
loop-player-init c = record { exact = sum_none _; small = omega arith }

pub loop-player-preserved : goal.loop-player-preserved
loop-player-preserved c = record {
  exact = ap₂ ◌+◌ c.loop-player.invariant.exact c.contributed-total.ensures.exact ∙ sym (sum_more _ _);
  small = omega arith;
}

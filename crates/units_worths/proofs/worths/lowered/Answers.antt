-- A lifted sum as a worth: below the lift or not. Assumes nothing.
use Prim.Native.Nat.{◌*◌, ◌-◌}
use mathlib.Core.Path.{sym, ◌∙◌}
use native.Mathlib.Omega.{arith}
use Rattle.prelude.proofs.Amounts.{amount}
use Rattle.units_worths.proofs.Lowering.{minus_more}
use Rattle.units_worths.proofs.worths.lowered.Goals as goal

pub returns : goal.returns
returns c = amount (c.args.sum - 64 * c.args.u) (omega arith) ∙ sym (minus_more c.args.sum (64 * c.args.u) c.if-sum-lift.false)

-- The worths of the seats passed; 0 past them. Assumes nothing.
use mathlib.Core.Path.{◌≡◌, ◌∙◌}
use borrow.Author.Rules.{rules}
use native.Mathlib.Omega.{arith}
use mir.Syntax.{w64}
use mir.Val.{to_z, of_z}
use Rattle.units_worths.proofs.Lowering.{lowered_none, lowered_more}
use Rattle.units_worths.proofs.worths.lowered_all.Goals as goal

pub loop-seat-init : goal.loop-seat-init
loop-seat-init c = lowered_none _ _

pub loop-seat-preserved : goal.loop-seat-preserved
loop-seat-preserved c =
    let kept : to_z w64 (of_z w64 c.lowered.result) ≡ c.lowered.result = search rules in
    lowered_more _ _ c.loop-seat.seat _ _ (omega arith) c.loop-seat.invariant (kept ∙ c.lowered.ensures)

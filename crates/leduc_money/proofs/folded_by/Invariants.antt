-- Whether a seat has folded in a round: it has at none of the places passed. Assumes nothing.
use Prim.Native.Nat.{◌%◌}
use mathlib.Core.Path.{◌≡◌}
use mathlib.Core.Bool.{false}
use lib.Dec.{eqb}
use lib.ListN.{get_or}
use Rattle.prelude.specs.Finite.{some, ◌and◌}
use Rattle.leduc_money.proofs.folded_by.Given as goal

abbrev pub invariant-loop-i : goal.invariant-loop-i
invariant-loop-i l = some l.i (λ k. eqb (k % 2) l.seat and eqb (get_or l.h k 0) 0) ≡ false

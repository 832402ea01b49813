-- Whether a byte stands twice: none of those passed has come before. Assumes nothing.
use mathlib.Core.Path.{◌≡◌}
use mathlib.Core.Bool.{false}
use lib.ListN.{get_or, take}
use Rattle.prelude.specs.Finite.{some, has}
use Rattle.prelude.proofs.repeats.Given as goal

abbrev pub invariant-loop-i : goal.invariant-loop-i
invariant-loop-i l = some l.i (λ k. has (get_or l.bytes k 0) (take k l.bytes)) ≡ false

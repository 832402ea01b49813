-- What refuses a round's actions: none of those passed was refused. Assumes nothing.
use mathlib.Core.Path.{◌≡◌}
use mathlib.Core.List.{[]}
use lib.ListN.{drop, take}
use Rattle.refusals.specs.Refusals.{first}
use Rattle.leduc_betting.specs.Checks.{action_checks}
use Rattle.leduc_betting.proofs.betting.check_round.Given as goal

abbrev pub invariant-loop-i : goal.invariant-loop-i
invariant-loop-i l = first (action_checks l.barred l.blind [] l.h) ≡ first (action_checks l.barred l.blind (take l.i l.h) (drop l.i l.h))

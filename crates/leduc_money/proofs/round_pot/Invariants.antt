-- The pot after a round: the actions passed and those still to come give it. Assumes nothing.
use Prim.Native.Nat.{◌+◌, ◌*◌, ◌≤◌}
use mathlib.Core.Path.{◌≡◌}
use lib.ListN.{drop}
use Rattle.leduc_rules.specs.internal.Pots.{bet}
use Rattle.leduc_money.proofs.round_pot.Given as goal

abbrev pub invariant-loop-a : goal.invariant-loop-a
invariant-loop-a l = (l.turn.acting ≤ 32 + 4 * l.a-index) × (l.turn.other ≤ 32 + 4 * l.a-index) × (bet l.size l.turn (drop l.a-index l.h) ≡ bet l.size l.initial.turn l.h)

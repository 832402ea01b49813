-- The public card: the invariant is the row of the cards passed. Assumes nothing.
use Rattle.std.proofs.Common.{◌+◌}
use Rattle.arena.specs.internal.Built.{Row}
use Rattle.leduc_arena_layout.specs.internal.Layout.{plain, row_to, other, second_tree}
use Rattle.leduc_arena.proofs.first.FirstRound.close.Given as goal

abbrev pub invariant-loop-p : goal.invariant-loop-p
invariant-loop-p l =
    Row 2 plain (l.at + 1) l.initial.w l.w (row_to (other l.self.zero l.self.one) (second_tree l.self.zero l.self.one l.number l.paid) l.p) l.next

-- The deals of seat 1's card: the invariant is the row of the cards passed. Assumes nothing.
use Rattle.std.proofs.Common.{◌+◌, not, eqb}
use Rattle.arena.specs.internal.Built.{Row}
use Rattle.leduc_arena_layout.specs.internal.Layout.{plain, row_to, deal_tree}
use Rattle.leduc_arena.proofs.deal_to_one.Given as goal

abbrev pub invariant-loop-d : goal.invariant-loop-d
invariant-loop-d l = Row 2 plain (l.at + 1) l.initial.w l.w (row_to (λ d. not (eqb d l.c)) (deal_tree 0 l.c) l.d) l.next

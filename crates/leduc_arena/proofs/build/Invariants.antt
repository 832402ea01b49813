-- The deals of seat 0's card: the invariant is the row of the cards passed. Assumes nothing.
use Rattle.std.proofs.Common.{not, eqb}
use Rattle.arena.specs.internal.Built.{Row}
use Rattle.leduc_arena_layout.specs.internal.Layout.{plain, row_to, deal_tree}
use Rattle.leduc_arena.proofs.build.Given as goal

abbrev pub invariant-loop-c : goal.invariant-loop-c
invariant-loop-c l = Row 2 plain 1 l.initial.w l.w (row_to (λ c. not (eqb c 6)) (deal_tree 1 6) l.c) l.next

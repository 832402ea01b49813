-- The highest card: that of the seats passed. Assumes nothing.
use Rattle.kuhn_arena_layout.specs.internal.Layout.{Top}
use Rattle.kuhn_arena_words.proofs.highest.Given as goal

abbrev pub invariant-loop-seat : goal.invariant-loop-seat
invariant-loop-seat l = Top l.seat l.cards l.top

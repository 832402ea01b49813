-- The highest card: that of the seats passed. Assumes nothing.
use Rattle.std.proofs.Common.{subst, arith}
use Rattle.kuhn_arena_layout.specs.internal.Layout.{Top}
use Rattle.kuhn_arena_words.proofs.highest.Goals as goal

pub returns : goal.returns
returns c = subst (λ k. Top k c.args.cards.now c.loop-seat.top) (omega (arith, c.loop-seat-test.false, c.loop-seat.auto.seat-end c.requires)) c.loop-seat.invariant

-- The sum is NashConv over the seats passed. Assumes nothing.
use mathlib.Core.Path.{◌≡◌, refl, ap, ◌∙◌}
use Prim.Native.Nat.{◌<◌}
use native.Mathlib.Omega.{arith}
use borrow.Author.Rules.{rules}
use lib.IntN.{pos}
use mir.Syntax.{w64}
use mir.Val.{to_z, of_z}
use Rattle.games.specs.internal.Numbered.{numbered}
use Rattle.nash_conv_units.proofs.Seats.{few-seats, gain_is, no_seats, one_seat_more, sum_fits}
use Rattle.nash_conv_units.proofs.gains.Goals as goal

pub loop-seat-init : goal.loop-seat-init
loop-seat-init c = let t = c.args.table.now in (no_seats (numbered t.tree.game) t.parts t.entries.now t.accepted, c.table_worths-worths.ensures.1, refl)

pub bounds-worths-seat : goal.bounds-worths-seat
bounds-worths-seat c = let t = c.args.table.now in omega (arith, c.seats-seat-end.ensures, few-seats (numbered t.tree.game) t.parts t.entries.now t.accepted)

pub overflow_add-sum : goal.overflow_add-sum
overflow_add-sum c =
    let t = c.args.table.now in let g = numbered t.tree.game in
    let inside : c.loop-seat.seat < g.seats = omega (arith, c.seats-seat-end.ensures, c.loop-seat-test.true) in
    let whole : to_z w64 (of_z w64 c.best_value-best.result) ≡ c.best_value-best.result = search rules in
    let b = c.best_value-best.ensures in
    let gain = gain_is g t.parts t.entries.now t.accepted c.loop-seat.seat inside _ c.table_worths-worths.ensures.0 _ _ whole b.0 b.1 _ c.abs_diff-sum.ensures in
    sum_fits g t.parts t.entries.now t.accepted c.loop-seat.seat c.loop-seat.sum c.abs_diff-sum.result c.loop-seat.invariant.0 gain inside

pub loop-seat-preserved : goal.loop-seat-preserved
loop-seat-preserved c =
    let t = c.args.table.now in let g = numbered t.tree.game in
    let inside : c.loop-seat.seat < g.seats = omega (arith, c.seats-seat-end.ensures, c.loop-seat-test.true) in
    let whole : to_z w64 (of_z w64 c.best_value-best.result) ≡ c.best_value-best.result = search rules in
    let b = c.best_value-best.ensures in
    let gain = gain_is g t.parts t.entries.now t.accepted c.loop-seat.seat inside _ c.table_worths-worths.ensures.0 _ _ whole b.0 b.1 _ c.abs_diff-sum.ensures in (
      ap pos (grind arith) ∙ one_seat_more g t.parts t.entries.now t.accepted c.loop-seat.seat c.loop-seat.sum c.abs_diff-sum.result c.loop-seat.invariant.0 gain,
      b.3,
      c.best_value-best.auto.words ∙ c.loop-seat.invariant.2,
    )

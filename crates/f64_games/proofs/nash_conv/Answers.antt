-- The gaps of the seats passed, added up. Assumes nothing.
use mathlib.Core.Path.{refl}
use native.Mathlib.Omega.{arith}
use Rattle.games.specs.internal.Numbered.{numbered}
use Rattle.f64_games.proofs.Seats.{few-seats, worth_at, gaps_none, gaps_more}
use Rattle.f64_games.proofs.nash_conv.Goals as goal

pub loop-seat-init : goal.loop-seat-init
loop-seat-init c = let p = c.args.profile.now in (gaps_none (numbered p.tree.game) p.entries.now, c.requires.0, refl)

pub bounds-worths-seat : goal.bounds-worths-seat
bounds-worths-seat c = let p = c.args.profile.now in omega (arith, few-seats (numbered p.tree.game) p.accepted.game, c.seats-seats.ensures)

pub loop-seat-preserved : goal.loop-seat-preserved
loop-seat-preserved c = let p = c.args.profile.now in let g = numbered p.tree.game in (
  gaps_more g p.entries.now c.loop-seat.seat c.loop-seat.sum c.best_value.result _ c.loop-seat.invariant.0 c.best_value.ensures.0
      (worth_at g p.entries.now c.worths-worths.result c.loop-seat.seat (few-seats g p.accepted.game) c.worths-worths.ensures (omega (arith, c.seats-seats.ensures))),
  c.best_value.ensures.1,
  omega (arith, c.best_value.auto.words, c.loop-seat.invariant.2),
)

-- The best values of the seats passed; 0.0 past them. Assumes nothing.
use mathlib.Core.Path.{refl}
use native.Mathlib.Omega.{arith}
use Rattle.games.specs.internal.Numbered.{numbered}
use Rattle.f64_games.specs.Values.{best_of}
use Rattle.f64_games.proofs.Seats.{few-seats, front_none, front_more, all_bests}
use Rattle.f64_games.proofs.best_values.Goals as goal

pub loop-seat-init : goal.loop-seat-init
loop-seat-init c = let p = c.args.profile.now in (front_none (best_of (numbered p.tree.game) p.entries.now), c.requires.0, refl)

pub bounds-out-seat : goal.bounds-out-seat
bounds-out-seat c = let p = c.args.profile.now in omega (arith, few-seats (numbered p.tree.game) p.accepted.game, c.seats-seat-end.ensures)

pub loop-seat-preserved : goal.loop-seat-preserved
loop-seat-preserved c = let p = c.args.profile.now in (
  front_more (best_of (numbered p.tree.game) p.entries.now) c.loop-seat.seat c.loop-seat.out c.best_value.result
      (omega (arith, few-seats (numbered p.tree.game) p.accepted.game, c.seats-seat-end.ensures)) c.loop-seat.invariant.0 c.best_value.ensures.0,
  c.best_value.ensures.1,
  omega (arith, c.best_value.auto.words, c.loop-seat.invariant.2),
)

pub returns : goal.returns
returns c = let p = c.args.profile.now in
    all_bests (numbered p.tree.game) p.entries.now c.loop-seat.seat c.loop-seat.out (omega (arith, c.seats-seat-end.ensures)) (omega (arith, c.seats-seat-end.ensures)) c.loop-seat.invariant.0

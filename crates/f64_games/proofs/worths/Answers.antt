-- The worths of the seats passed, two at a time; 0.0 past them. Assumes nothing.
use native.Mathlib.Omega.{arith}
use mathlib.Core.Path.{◌≡◌, ◌∙◌}
use Prim.Native.Nat.{ℕ, ◌+◌, ◌*◌, ◌≤◌, ◌<◌}
use Rattle.std.proofs.lemmas.Grind.{div_ceil_times}
use Rattle.std.proofs.Math.Nat.{eq-or-lt_of_le}
use mathlib.Core.Logic.{inl, inr}
use Rattle.games.specs.internal.Numbered.{numbered}
use Rattle.f64_games.specs.Values.{worth_of}
use Rattle.f64_games.proofs.Seats.{few-seats, front_none, front_more, worth_is, all_worths}
use Rattle.f64_games.proofs.worths.Goals as goal
use Rattle.f64_games.proofs.worths.Goals.{then-seat-count, else-seat-count}

pub loop-pair-init : goal.loop-pair-init
loop-pair-init c = let p = c.args.profile.now in (0, omega arith, omega arith, λ l. omega arith, front_none (worth_of (numbered p.tree.game) p.entries.now))

pub worths-two-requires : goal.worths-two-requires
worths-two-requires c = let p = c.args.profile.now in let few = few-seats (numbered p.tree.game) p.accepted.game in
    record { place = omega arith; seat = omega (arith, few, c.seats-count.ensures, c.div_ceil-pair-end.ensures); shallow = omega arith }

pub bounds-out-seat : goal.bounds-out-seat
bounds-out-seat c = let p = c.args.profile.now in omega (arith, few-seats (numbered p.tree.game) p.accepted.game, c.seats-count.ensures, c.div_ceil-pair-end.ensures)

pub bounds-out-seat-then-seat-count : goal.bounds-out-seat-then-seat-count
bounds-out-seat-then-seat-count c = let p = c.args.profile.now in omega (arith, few-seats (numbered p.tree.game) p.accepted.game, c.seats-count.ensures, c.if-seat-count.true)

pub loop-pair-preserved : goal.loop-pair-preserved
loop-pair-preserved c =
    let p = c.args.profile.now in
    let g = numbered p.tree.game in
    let (k, low, most, even, o) = c.loop-pair.invariant in
    let inside : 2 * c.loop-pair.pair < g.seats = omega (arith, c.seats-count.ensures, c.div_ceil-pair-end.ensures, (div_ceil_times c.seats-count.result 2 (omega arith)).1, c.loop-pair-test.true) in
    let here : k ≡ 2 * c.loop-pair.pair = at k (2 * c.loop-pair.pair) c.seats-count.result low most even (omega (arith, c.seats-count.ensures)) in
    let first = worth_is g p.entries.now p.accepted c.args.words.now c.requires _ _ inside c.worths-two.ensures.0 in
    let one = front_more (worth_of g p.entries.now) _ c.loop-pair.out _ (omega (arith, few-seats g p.accepted.game)) (rw here at o) first in
    elim c.if-seat-count.branch [
      | then-seat-count w ↦
          let second = worth_is g p.entries.now p.accepted c.args.words.now c.requires _ _ (omega (arith, c.seats-count.ensures, w.if-seat-count.true)) c.worths-two.ensures.1 in (
            2 * c.loop-pair.pair + 1 + 1,
            omega arith,
            omega (arith, w.if-seat-count.true),
            λ l. omega arith,
            w.out-is ∙ front_more (worth_of g p.entries.now) _ _ _ (omega (arith, few-seats g p.accepted.game, c.seats-count.ensures, w.if-seat-count.true)) one second,
          )
      | else-seat-count w ↦ (2 * c.loop-pair.pair + 1, omega arith, omega (arith, c.seats-count.ensures), λ l. absurd (omega (arith, l, w.if-seat-count.false)), w.out-is ∙ one)
    ]
  where
    at : (k n m : ℕ) → k ≤ n → k ≤ m → (k < m → k ≡ n) → n < m → k ≡ n
    at k n m low most even l = even (omega arith)

pub returns : goal.returns
returns c =
    let p = c.args.profile.now in
    let (k, low, most, even, o) = c.loop-pair.invariant in
    let d = (div_ceil_times c.seats-count.result 2 (omega arith)).0 in
    all_worths (numbered p.tree.game) p.entries.now k c.loop-pair.out (omega (arith, c.seats-count.ensures))
    (full k c.loop-pair.pair (numbered p.tree.game).seats (omega (arith, c.seats-count.ensures)) (λ l. even (omega (arith, c.seats-count.ensures))) (omega (arith, c.seats-count.ensures, c.div_ceil-pair-end.ensures, d, c.loop-pair-test.false))) o
  where
    full : (k j m : ℕ) → k ≤ m → (k < m → k ≡ 2 * j) → m ≤ 2 * j → m ≤ k
    full k j m most even l = elim (eq-or-lt_of_le most) [ inl e ↦ omega arith | inr h ↦ omega (arith, even h) ]

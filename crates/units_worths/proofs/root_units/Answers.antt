-- C × D^m. Assumes nothing.
use mathlib.Core.Path.{ap₂, ◌∙◌, refl}
use Prim.Native.Nat.{◌*◌, ◌^◌}
use native.Mathlib.Omega.{arith}
use native.Mathlib.Nat.{mul-le-mul_right, one-mul}
use Rattle.games.specs.Games.{m}
use Rattle.games.specs.internal.Numbered.{numbered}
use Rattle.games.proofs.Facts.{fans-positive}
use Rattle.units_worths.proofs.Facts.{units-fit}
use Rattle.units_worths.proofs.root_units.Goals as goal

pub pow-requires : goal.pow-requires
pow-requires c = let g = numbered c.args.tree.game in let p = c.args.d ^ m g in
    rw c.turns.ensures (omega (arith, mul-le-mul_right p (fans-positive g), one-mul p, (units-fit g c.args.d c.args.tree.known c.requires.1).units))

pub overflow_mul-result : goal.overflow_mul-result
overflow_mul-result c =
    let d = c.args.d in
    let e = ap₂ (λ x y. x * y) c.fans.ensures (c.pow.ensures ∙ ap₂ (λ x y. x ^ y) refl c.turns.ensures) in
    record { fits = omega (arith, e, (units-fit (numbered c.args.tree.game) d c.args.tree.known c.requires.1).units) }

pub returns : goal.returns
returns c =
    let d = c.args.d in
    let e = ap₂ (λ x y. x * y) c.fans.ensures (c.pow.ensures ∙ ap₂ (λ x y. x ^ y) refl c.turns.ensures) in
    (e, rw e (units-fit (numbered c.args.tree.game) d c.args.tree.known c.requires.1).units)

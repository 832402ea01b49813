-- How many codes a game's sets may have. Assumes nothing.
use mathlib.Core.Path.{ap}
use native.Mathlib.Omega.{arith}
use Rattle.games.specs.internal.Numbered.{numbered}
use Rattle.games.proofs.Known.{kuhn-six}
use Rattle.arena_store.proofs.Room.{codes-kuhn}
use Rattle.arena_store.proofs.codes_of.Goals as goal

pub bounds-seats : goal.bounds-seats
bounds-seats c = let g = numbered c.args.tree.game in
    let k = ap (λ x. (numbered x).number) c.in-Kuhn.is in
    let s = ap (λ x. (numbered x).seats) c.in-Kuhn.is in omega (arith, s, kuhn-six g c.args.tree.known k)

pub returns-in-Kuhn : goal.returns-in-Kuhn
returns-in-Kuhn c = let g = numbered c.args.tree.game in
    let k = ap (λ x. (numbered x).number) c.in-Kuhn.is in
    let s = ap (λ x. (numbered x).seats) c.in-Kuhn.is in rw (← s) (codes-kuhn g c.args.tree.known k)

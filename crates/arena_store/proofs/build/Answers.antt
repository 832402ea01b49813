-- Kuhn's tree or Leduc's. Assumes nothing.
use mathlib.Core.Path.{ap}
use native.Mathlib.Omega.{arith}
use Rattle.games.specs.internal.Numbered.{numbered}
use Rattle.games.proofs.Counts.{kuhn-nodes}
use Rattle.games.proofs.Known.{kuhn_two, kuhn-six}
use Rattle.arena_store.proofs.Stored.{kuhn_built, leduc_built}
use Rattle.arena_store.proofs.build.Goals as goal

pub build-requires : goal.build-requires
build-requires c =
    let g = numbered c.args.tree.game in
    let known = c.args.tree.known in
    let k = ap (λ x. (numbered x).number) c.in-Kuhn.is in
    let s = ap (λ x. (numbered x).seats) c.in-Kuhn.is in
    (omega (arith, s, kuhn_two g known k), omega (arith, s, kuhn-six g known k), rw (← s) (omega (arith, kuhn-nodes g k, c.requires)))

pub returns-in-Kuhn : goal.returns-in-Kuhn
returns-in-Kuhn c =
    let s = ap (λ x. (numbered x).seats) c.in-Kuhn.is in
    kuhn_built (numbered c.args.tree.game) c.args.tree.known (ap (λ x. (numbered x).number) c.in-Kuhn.is) _ _ _ (rw s c.build.ensures)

pub returns-in-Leduc : goal.returns-in-Leduc
returns-in-Leduc c = leduc_built (numbered c.args.tree.game) c.args.tree.known (rw c.in-Leduc.is (λ e. omega arith)) _ _ _ c.build-in-Leduc.ensures

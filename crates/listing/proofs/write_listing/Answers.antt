-- Kuhn's listing or Leduc's. Assumes nothing.
use mathlib.Core.Path.{sym, ap, ◌∙◌}
use native.Mathlib.Omega.{arith}
use lib.ListN.{length}
use lib.Seq.{sets}
use Rattle.games.specs.internal.Numbered.{numbered}
use Rattle.games.proofs.Known.{kuhn_two, kuhn-six}
use Rattle.kuhn_listing.specs.Facts.{listing_of_kuhn}
use Rattle.listing.proofs.Games.{kuhn-listed, leduc-listed}
use Rattle.listing.proofs.write_listing.Goals as goal

pub list_sets-requires : goal.list_sets-requires
list_sets-requires c =
    let g = numbered c.args.tree.game in
    let k = ap (λ x. (numbered x).number) c.in-Kuhn.is in
    let s = ap (λ x. (numbered x).seats) c.in-Kuhn.is in (
      omega (arith, s, kuhn_two g c.args.tree.known k),
      omega (arith, s, kuhn-six g c.args.tree.known k),
      omega (arith, c.requires, ap length (kuhn-listed g k ∙ ap listing_of_kuhn s)),
    )

pub list_sets-requires-in-Leduc : goal.list_sets-requires-in-Leduc
list_sets-requires-in-Leduc c = omega (arith, c.requires, ap length (leduc-listed (numbered c.args.tree.game) (rw c.in-Leduc.is (λ e. omega arith))))

pub returns-in-Kuhn : goal.returns-in-Kuhn
returns-in-Kuhn c =
    let k = ap (λ x. (numbered x).number) c.in-Kuhn.is in
    let s = ap (λ x. (numbered x).seats) c.in-Kuhn.is in
    c.list_sets.ensures ∙ ap (sets c.args.out.now 0) (sym (kuhn-listed (numbered c.args.tree.game) k ∙ ap listing_of_kuhn s))

pub returns-in-Leduc : goal.returns-in-Leduc
returns-in-Leduc c = c.list_sets-in-Leduc.ensures
    ∙ ap (sets c.args.out.now 0) (sym (leduc-listed (numbered c.args.tree.game) (rw c.in-Leduc.is (λ e. omega arith))))

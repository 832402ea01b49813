-- The length of a table, then its parts set by set. Assumes nothing.
use mathlib.Core.Path.{refl, ap, sym, ◌∙◌}
use mathlib.Core.Bool.{not}
use Rattle.refusals.proofs.Order.{one_refuses, one_passes, settled-behind}
use Rattle.game_tree.specs.Table.{add_up}
use Rattle.games.specs.internal.Numbered.{numbered}
use Rattle.games.proofs.Numbered.{has-seats}
use Rattle.games.proofs.Facts.{entries_are, actions_are}
use Rattle.tree_refusals.proofs.Exits.{settled_exit}
use Rattle.tree_refusals.proofs.checks.check_entries.Goals as goal

pub returns-in_err-check_length : goal.returns-in_err-check_length
returns-in_err-check_length c = settled_exit _ _ _ _ c.from_residual.ensures.1 c.in_err-check_length.ensures

pub adds_up-requires : goal.adds_up-requires
adds_up-requires c = c.in_ok-check_length.ensures.passed refl ∙ entries_are (numbered c.args.game) (has-seats c.args.game)

pub returns-then-not-adds_up : goal.returns-then-not-adds_up
returns-then-not-adds_up c =
    let e = ap (λ x. add_up c.args.d x c.args.table.now) (actions_are (numbered c.args.game) (has-seats c.args.game)) ∙ sym c.adds_up.ensures ∙ c.if-not-adds_up.true in
    settled-behind _ _ tt c.in_ok-check_length.ensures refl (one_refuses (ap not e))

pub returns : goal.returns
returns c =
    let e = ap (λ x. add_up c.args.d x c.args.table.now) (actions_are (numbered c.args.game) (has-seats c.args.game)) ∙ sym c.adds_up.ensures ∙ c.if-not-adds_up.false in
    settled-behind _ _ tt c.in_ok-check_length.ensures refl (one_passes (ap not e) e)

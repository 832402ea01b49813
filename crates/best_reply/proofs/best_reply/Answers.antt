-- What stands in the output is the reply, and in the words for it the tree. Assumes nothing.
use mathlib.Core.Path.{◌≡◌, refl, sym, ◌∙◌, subst}
use mir.Val.{to_z, of_z}
use mir.Syntax.{w64}
use borrow.Author.Rules.{rules}
use Rattle.game_tree.specs.Table.{reply_table}
use Rattle.games.specs.Games.{game_of, tree_of, root_units}
use Rattle.units_best.specs.Best.{BestReply}
use Rattle.best_reply.proofs.Outcome.{was_written, demanded}
use Rattle.best_reply.proofs.best_reply.Goals as goal

pub returns-clause-output : goal.returns-clause-output
returns-clause-output c =
    let g = game_of c.args.number c.args.seats in
    let (game, parts, entries) = c.in_ok-table.ensures.made in
    let a = c.in_ok-table.ensures.refused.passed refl in
    let e = rw (game, parts, entries) at c.write_best_reply.ensures in
    was_written g c.args.seat c.args.d c.args.table.now _ c.args.out.now _ a.3 e.0 e.1

pub returns-clause-best : goal.returns-clause-best
returns-clause-best c =
    let g = game_of c.args.number c.args.seats in let d = c.args.d in let i = c.args.seat in let table = c.args.table.now in
    let (game, parts, entries) = c.in_ok-table.ensures.made in
    let a = c.in_ok-table.ensures.refused.passed refl in
    let e = rw (game, parts, entries) at c.write_best_reply.ensures in
    let best = rw (game, parts, entries) at c.best_value-value.ensures.0 in
    let whole : to_z w64 (of_z w64 c.best_value-value.result) ≡ c.best_value-value.result = search rules in
    demanded g i d table _ c.args.out.now _ a.3 e.0
    (subst (λ v. BestReply g d i table v (reply_table (tree_of g) d (root_units g d) table i)) (sym (whole ∙ best)) e.1)

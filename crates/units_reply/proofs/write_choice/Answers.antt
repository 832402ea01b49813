-- All parts on the choice, entry by entry. Assumes nothing.
use Rattle.std.proofs.Common.{cond, eqb, refl, sym, ap, ◌∙◌}
use borrow.Author.Tests.{eq-eqb, ne_eqb}
use Rattle.game_tree.specs.Table.{listed}
use Rattle.units_reply.proofs.Laying.{listing_more}
use Rattle.units_reply.proofs.write_choice.Goals as goal
use Rattle.units_reply.proofs.write_choice.Goals.{then-action-choice, else-action-choice}

pub loop-action-init : goal.loop-action-init
unfolding listed
loop-action-init c = refl

pub loop-action-preserved : goal.loop-action-preserved
loop-action-preserved c = listing_more _ _ _ _ _ _ c.put.ensures (λ a. cond (eqb a c.args.choice) c.args.parts 0) (elim c.if-action-choice.branch [
  | then-action-choice w ↦ w.part-is ∙ ap (λ t. cond t c.args.parts 0) (sym (eq-eqb _ _ w.if-action-choice.true))
  | else-action-choice w ↦ w.part-is ∙ ap (λ t. cond t c.args.parts 0) (sym (ne_eqb _ _ w.if-action-choice.false))
]) c.loop-action.invariant

use mathlib.Core.Path.{refl, ◌∙◌}
use Rattle.arena_index.proofs.Steps.{pushed_by}
use Rattle.arena_index.proofs.Layout.push.Goals as goal

pub returns : goal.returns
returns c = pushed_by _ _ _ _ _ _ c.args.w.now _ _ c.word-later.ensures
    (c.decision.ensures ∙ rw (c.actor.ensures, c.actions.ensures, c.next.ensures) refl) c.put.ensures c.put-2.ensures

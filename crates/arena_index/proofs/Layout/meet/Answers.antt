use mathlib.Core.Path.{refl, sym, ap, ◌∙◌}
use Prim.Native.Nat.{◌+◌}
use lib.ListN.{get_or, set}
use Rattle.arena_index.proofs.Steps.{met_kind, met-known, met_new}
use Rattle.arena_index.proofs.Layout.meet.Goals as goal

pub returns-in_default : goal.returns-in_default
returns-in_default c = met_kind _ _ _ _ λ e. c.in_default.not-Decision (c.kind.ensures.decision.1 e)

pub returns-then-word-ne0 : goal.returns-then-word-ne0
returns-then-word-ne0 c = met-known _ _ _ _ λ e. c.if-word-ne0.true (c.word.ensures ∙ ap (λ i. get_or c.args.w.now (c.args.self.nodes + i) 0) c.set.ensures ∙ e)

pub returns : goal.returns
returns c = let a = c.args in
    met_new _ _ _ _ _ _ (c.in-Decision.ensures.decision.0 refl)
    (sym (c.word.ensures ∙ ap (λ i. get_or (a.w).now (a.self.nodes + i) 0) c.set.ensures) ∙ c.if-word-ne0.false)
    (c.put.ensures ∙ ap (λ i. set (a.w).now (a.self.nodes + i) (a.entry + 1)) c.set.ensures) (ap (λ i. a.entry + i) c.actions.ensures)

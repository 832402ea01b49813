use mathlib.Core.Path.{refl, sym, ap, ◌∙◌}
use Prim.Native.Nat.{◌+◌}
use lib.ListN.{get_or}
use Rattle.arena.specs.internal.Words.{kind_of, set_of}
use Rattle.arena_index.proofs.Steps.{linked_kind, linked-unknown, linked_by}
use Rattle.arena_index.proofs.Layout.link_node.Goals as goal

pub returns-in_default : goal.returns-in_default
returns-in_default c = sym (linked_kind _ _ _ _ λ e. c.in_default.not-Decision (c.kind.ensures.decision.1 (ap kind_of c.word-x.ensures ∙ e)))

pub returns-then-known-eq0 : goal.returns-then-known-eq0
returns-then-known-eq0 c = let a = c.args in
    sym (linked-unknown _ _ _ _ (sym ((c.word-known.ensures ∙ ap (λ i. get_or (a.w).now (a.self.nodes + i) 0) c.set.ensures) ∙
    ap (λ y. get_or (a.w).now (a.self.nodes + set_of y) 0) c.word-x.ensures) ∙ c.if-known-eq0.true))

pub returns : goal.returns
returns c = let a = c.args in
    linked_by _ _ _ (a.w).now _ _ _ c.word-x.ensures (c.in-Decision.ensures.decision.0 refl)
    (c.word-known.ensures ∙ ap (λ i. get_or (a.w).now (a.self.nodes + i) 0) c.set.ensures) c.if-known-eq0.false c.push.ensures

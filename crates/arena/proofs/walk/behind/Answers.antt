use Rattle.std.proofs.Common.{refl, ap, ◌∙◌, sym, subst}
use Rattle.arena.specs.internal.Words.{kind_of, next_of}
use Rattle.arena.specs.internal.Walk.{Behind}
use Rattle.arena.proofs.Walking.{at_end, elsewhere}
use Rattle.arena.proofs.walk.behind.Goals as goal

pub returns-in-End : goal.returns-in-End
returns-in-End c = at_end _ _ (ap kind_of (sym c.word-x.ensures) ∙ c.in-End.ensures.end.0 refl)

pub returns-in_default : goal.returns-in_default
returns-in_default c = let a = c.args in
    subst (λ r. Behind a.w.now a.a r) (sym (c.next.ensures ∙ ap next_of c.word-x.ensures))
    (elsewhere a.w.now a.a (λ q. c.in_default.not-End (c.kind.ensures.end.1 (ap kind_of c.word-x.ensures ∙ q))))

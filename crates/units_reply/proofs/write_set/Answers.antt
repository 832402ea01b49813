-- The entries of a set, the seat's own or another's. Assumes nothing.
use mathlib.Core.Path.{refl, ◌∙◌, sym}
use Rattle.units_reply.proofs.Laying as laying
use Rattle.units_reply.proofs.write_set.Goals as goal

pub returns-then-actor-search : goal.returns-then-actor-search
returns-then-actor-search c = let a = c.args in let S = a.search.now in
    laying.laid_own S.walk.others.now a.x a.at S.walk.seat a.parts S.heads S.walk.reach S.kept a.w.now a.out.now c.actions-count.result c.actions-count.ensures
    c.choose-choice.new.w c.choose-choice.result c.write_choice.new.out (sym c.actor.ensures ∙ c.if-actor-search.true) c.choose-choice.ensures c.write_choice.ensures

pub returns-then-search-end : goal.returns-then-search-end
returns-then-search-end c = let a = c.args in let S = a.search.now in
    laying.laid-short S.walk.others.now a.x a.at S.walk.seat a.parts S.heads S.walk.reach S.kept a.w.now a.out.now c.actions-count.result c.actions-count.ensures
    _ refl c.if-search-end.true

pub returns : goal.returns
returns c = let a = c.args in let S = a.search.now in
    laying.laid_part S.walk.others.now a.x a.at S.walk.seat a.parts S.heads S.walk.reach S.kept a.w.now a.out.now c.actions-count.result c.actions-count.ensures
    _ c.write_part.new.out refl c.if-search-end.false (λ q. c.if-actor-search.false (c.actor.ensures ∙ q)) c.write_part.ensures

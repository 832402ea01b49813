-- The word of an end. Assumes nothing.
use Rattle.std.proofs.Common.{refl, ap, ◌∙◌}
use Rattle.leduc_arena_layout.specs.internal.Layout.{byte_for}
use Rattle.leduc_arena_layout.proofs.Laying.{end_place, lays_end, reversed}
use Rattle.leduc_arena_rounds.proofs.words.end.Goals as goal

pub bounds-w-at : goal.bounds-w-at
bounds-w-at c = end_place _ _ _ _ c.requires.1

pub returns : goal.returns
returns c =
    let other = c.byte-2.ensures.0 ∙ ap (λ o. byte_for o c.args.paid) (reversed c.args.outcome _ c.reverse.ensures) in
    lays_end _ _ _ _ _ _ _ c.requires.1 c.byte.ensures.0 c.byte.ensures.1 other c.byte-2.ensures.1 refl

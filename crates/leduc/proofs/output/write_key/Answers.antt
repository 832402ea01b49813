-- The key of a seat, written in four parts. Assumes nothing.
use mathlib.Core.Path.{ap, ◌∙◌}
use mathlib.Core.List.{[], ◌∷◌}
use lib.ListN.{length, get_or}
use Rattle.leduc.proofs.Writing.{key-written, public_shown}
use Rattle.leduc.proofs.output.write_key.Goals as goal

pub returns : goal.returns
returns c =
    let h = c.args.hand.now in let t = c.args.agent in
    key-written h.cards.now h.public h.first.now h.second.now t _ c.args.out.now _ _ _ _
    (ap (λ p. t ∷ get_or h.cards.now t 0 ∷ p ∷ length h.first.now ∷ []) (c.unwrap_or-public.ensures ∙ public_shown h.public))
    c.copy_at.ensures c.copy_at-2.ensures c.copy_at-3.ensures c.copy_at-4.ensures

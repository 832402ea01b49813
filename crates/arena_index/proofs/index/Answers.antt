use mathlib.Core.Path.{refl}
use Rattle.arena_index.proofs.index.Goals as goal

pub returns : goal.returns
returns c = λ n code t e k. c.link.ensures n code _ _ t e refl k
    (c.number.ensures n code _ t e k)

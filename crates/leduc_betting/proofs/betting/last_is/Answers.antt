-- Whether the round's last action is a. Assumes nothing.
use mathlib.Core.Path.{refl, ◌∙◌}
use Rattle.leduc_betting.proofs.Histories.{last_ends}
use Rattle.leduc_betting.proofs.betting.last_is.Goals as goal

pub returns : goal.returns
returns c = c.eq.ensures ∙ last_ends _ _ c.last.result _ refl c.last.ensures.value

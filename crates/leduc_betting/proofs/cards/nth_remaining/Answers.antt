-- The card of an outcome among those left. Assumes nothing.
use mathlib.Core.Path.{ap, ◌∙◌}
use mathlib.Core.Bool.{not}
use Rattle.prelude.specs.Finite.{those, has}
use Rattle.prelude.specs.internal.Places.{at_place}
use Rattle.leduc_betting.proofs.Deals.{deck_left}
use Rattle.leduc_betting.proofs.cards.nth_remaining.Goals as goal

pub returns : goal.returns
returns c = c.nth_left.ensures ∙ ap (λ n. at_place (those n (λ x. not (has x c.args.cards.now))) c.args.outcome) c.from.ensures
    ∙ ap (λ l. at_place l c.args.outcome) (deck_left c.args.cards.now)

-- Whether a card is not in the deck: one is above the last. Assumes nothing.
use mathlib.Core.Path.{sym, ap, ◌∙◌}
use Prim.Native.Nat.{◌-◌}
use lib.Dec.{ltb}
use Rattle.std.specs.List.{list_any}
use Rattle.prelude.proofs.Bytes.{some_any}
use Rattle.leduc_betting.specs.Cards.{strange}
use Rattle.leduc_betting.proofs.cards.card_outside.Goals as goal

pub returns : goal.returns
unfolding strange
returns c = c.any_above.ensures ∙ ap (λ k. list_any (ltb (k - 1)) c.args.cards.now) c.from.ensures ∙ sym (some_any (ltb 5) c.args.cards.now)

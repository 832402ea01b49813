-- Whether some action is unknown: one is above RAISE. Assumes nothing.
use mathlib.Core.Path.{sym, ap, ◌∙◌}
use lib.Dec.{ltb}
use Rattle.std.specs.List.{list_any}
use Rattle.prelude.proofs.Bytes.{some_any}
use Rattle.leduc_betting.specs.Betting.{unknown}
use Rattle.leduc_betting.proofs.betting.unknown_action.Goals as goal

pub returns : goal.returns
unfolding unknown
returns c = c.any_above.ensures ∙ ap (λ k. list_any (ltb k) c.args.h.now) c.from.ensures ∙ sym (some_any (ltb 2) c.args.h.now)

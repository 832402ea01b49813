-- Whether a seat has folded: FOLD is among the actions. Assumes nothing.
use mathlib.Core.Path.{sym, ap, ◌∙◌}
use lib.Dec.{eqb}
use Rattle.std.specs.List.{list_any}
use Rattle.prelude.proofs.Bytes.{some_any}
use Rattle.leduc_betting.specs.Betting.{folded}
use Rattle.leduc_betting.proofs.betting.has_fold.Goals as goal

pub returns : goal.returns
unfolding folded
returns c = c.contains.ensures ∙ ap (λ k. list_any (λ b. eqb b k) c.args.h.now) c.from.ensures ∙ sym (some_any (λ b. eqb b 0) c.args.h.now)

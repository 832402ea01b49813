-- Who stands, once it is known whether any seat has bet. Assumes nothing.
use mathlib.Core.Path.{sym, ◌∙◌}
use Rattle.kuhn_rules.proofs.Histories.{stands-quiet, stands-bet}
use Rattle.kuhn_money.proofs.standing.Goals as goal

pub returns-then-quiet : goal.returns-then-quiet
returns-then-quiet c = c.if-quiet.true ∙ sym (stands-quiet _ _ _ (sym c.if-quiet.true ∙ c.requires.1))

pub returns-else-quiet : goal.returns-else-quiet
returns-else-quiet c = c.bet_by.ensures ∙ sym (stands-bet _ _ _ (sym c.if-quiet.false ∙ c.requires.1))

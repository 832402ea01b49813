-- Actions after the end, by the first bet. Assumes nothing.
use mathlib.Core.Path.{sym, ◌∙◌}
use borrow.Author.Tests.{le-leb}
use Rattle.kuhn_rules.proofs.Histories.{overrun_unbet, overrun_past, overrun_after}
use Rattle.kuhn_betting.proofs.past_the_end.Goals as goal

pub returns-then-n-b : goal.returns-then-n-b
returns-then-n-b c = let bet = c.in-Some.ensures in le-leb _ _ c.if-n-b.true ∙ sym (overrun_past _ _ _ c.requires bet.before bet.within bet.found c.if-n-b.true)

pub returns-else-n-b : goal.returns-else-n-b
returns-else-n-b c = let bet = c.in-Some.ensures in sym (overrun_after _ _ _ c.requires bet.before bet.within bet.found c.if-n-b.false)

pub returns-in-None : goal.returns-in-None
returns-in-None c = sym (overrun_unbet _ _ c.requires c.in-None.ensures.none)

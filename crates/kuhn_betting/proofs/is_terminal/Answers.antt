-- The end of a hand, by its first bet. Assumes nothing.
use mathlib.Core.Path.{sym}
use Rattle.kuhn_rules.proofs.Histories.{ended_unbet, ended_after}
use Rattle.kuhn_betting.proofs.is_terminal.Goals as goal

pub returns-in-Some : goal.returns-in-Some
returns-in-Some c = let bet = c.in-Some.ensures in sym (ended_after _ _ _ c.requires bet.before bet.within bet.found)

pub returns-in-None : goal.returns-in-None
returns-in-None c = sym (ended_unbet _ _ c.in-None.ensures.none)

-- An ante, and a bet of those who bet. Assumes nothing.
use Prim.Native.Nat.{◌+◌}
use mathlib.Core.Path.{sym, ap, ◌∙◌}
use mathlib.Core.Bool.{cond}
use Rattle.kuhn_rules.specs.Rules.{contribution}
use Rattle.kuhn_money.proofs.contributed.Goals as goal

pub returns-then-bet_by-clause-exact : goal.returns-then-bet_by-clause-exact
unfolding contribution
returns-then-bet_by-clause-exact c = ap (λ b. 1 + cond b 1 0) (sym c.if-bet_by.true ∙ c.bet_by.ensures)

pub returns-else-bet_by-clause-exact : goal.returns-else-bet_by-clause-exact
unfolding contribution
returns-else-bet_by-clause-exact c = ap (λ b. 1 + cond b 1 0) (sym c.if-bet_by.false ∙ c.bet_by.ensures)

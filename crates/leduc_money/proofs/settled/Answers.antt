-- What each seat gains. Assumes nothing.
use Prim.Native.Nat.{◌≤◌}
use mathlib.Core.Path.{ap₂, ◌∙◌}
use mathlib.Core.List.{[], ◌∷◌}
use native.Mathlib.Omega.{arith}
use Rattle.leduc_rules.proofs.Gains.{gained_back}
use Rattle.leduc_rules.proofs.Pots.{payoff_zero, payoff_one}
use Rattle.leduc_money.proofs.settled.Goals as goal

pub returns : goal.returns
returns c =
    let pot = c.contributions-pot in let a : pot.result.acting ≤ 64 = omega arith in let o : pot.result.other ≤ 64 = omega arith in
    let first = c.is_winner-first in let second = c.is_winner-second in
    ap₂ (λ x y. x ∷ y ∷ [])
    (gained_back first.result second.result pot.result.acting pot.result.other a o c.gain-zero.ensures
    ∙ payoff_zero _ _ _ _ c.requires.2 _ _ _ first.ensures second.ensures pot.ensures.pot)
    (gained_back second.result first.result pot.result.other pot.result.acting o a c.gain-one.ensures
    ∙ payoff_one _ _ _ _ c.requires.2 _ _ _ first.ensures second.ensures pot.ensures.pot)

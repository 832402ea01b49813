-- An end adds to the sums, another node does not. Assumes nothing.
use mathlib.Core.Path.{refl}
use Rattle.units_collect.proofs.Summing.{with_none, with_end}
use Rattle.units_collect.proofs.ends.with_node.Goals as goal

pub returns-in-End : goal.returns-in-End
returns-in-End c = let a = c.args in
    λ f h. with_end a.x a.y f a.sums.of h _ _ (c.in-End.ensures.end.0 refl) c.earned.ensures c.plus.ensures

pub returns-in_default : goal.returns-in_default
returns-in_default c = let a = c.args in λ f h. with_none a.x a.y f a.sums.of h (λ q. c.in_default.not-End (c.kind.ensures.end.1 q))

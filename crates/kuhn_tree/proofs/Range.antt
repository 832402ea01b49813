-- Kuhn's units times its largest payoff fit 64 bits. Assumes nothing.
use Prim.Native.Nat.{ℕ, zero, suc, ◌*◌, ◌≤◌}
use native.Mathlib.Nat as NatL
use native.Mathlib.Omega.{arith}
use Rattle.kuhn_tree.specs.Tree.{m, C, largest_parts}
use Rattle.kuhn_tree.specs.Facts.{largest_payoff, root_units, UnitsFit}

-- the most that a worth can be, at the most parts
most : (n D : ℕ) → D ≤ largest_parts n → root_units n D * largest_payoff 1 1 n ≤ root_units n (largest_parts n) * largest_payoff 1 1 n
most n D l = NatL.mul-le-mul_right (largest_payoff 1 1 n) (NatL.mul-le-mul_left (C n) (NatL.pow-le-pow_left l (m n)))

pub units-fit : UnitsFit
unfolding C
units-fit zero D l w e = absurd (omega arith)
units-fit (suc zero) D l w e = absurd (omega arith)
units-fit (suc (suc zero)) D l w e = omega (arith, most 2 D e)
units-fit (suc (suc (suc zero))) D l w e = omega (arith, most 3 D e)
units-fit (suc (suc (suc (suc zero)))) D l w e = omega (arith, most 4 D e)
units-fit (suc (suc (suc (suc (suc zero))))) D l w e = omega (arith, most 5 D e)
units-fit (suc (suc (suc (suc (suc (suc zero)))))) D l w e = omega (arith, most 6 D e)
units-fit (suc (suc (suc (suc (suc (suc (suc n))))))) D l w e = absurd (omega arith)

-- A lifted worth is the worth and 64 for each unit of the ends. Assumes nothing.
use Rattle.std.proofs.Common.{◌≡◌, ℕ, suc, ◌+◌, ◌*◌, ◌/◌, ◌<◌, ◌≤◌, ltb, ℤ, pos, negsuc, ◌+ℤ◌, ◌-ℤ◌, nat_abs, sym, refl, ap, ◌∙◌, ap₂, arith, ltb-false, ltb-true, le-ltb}
use native.Mathlib.Nat as NatL
use lib.IntN.{+ℤ_assoc}
use Rattle.prelude.proofs.Tests.{Tested, holds, fails, tested}
use Rattle.game_tree.specs.Sums.{◌·◌}
use Rattle.game_tree.specs.Tree.{Key, Tree, end, chance, decide, Trees, nil, cons, fan, Strategy, all, worth, worth_all, worth_kids}
use Rattle.game_tree.specs.Conditions.{units, units_all, units_kids, Pays, PaysAll}
use Rattle.game_tree.proofs.Integers.{·-sum, +ℤ-left-comm}
use Rattle.units.specs.internal.Lifted.{lift, lifted, lifted_all, lifted_kids}

lift_is : (z : ℤ) → nat_abs z ≤ 60 → pos (lift z) ≡ z +ℤ pos 64
lift_is (pos a) h = refl
lift_is (negsuc a) h = sym (rw (le-ltb 64 (suc a) (omega arith)) refl)

-- a byte is the lifted payoff that it stands for
pub lift_back : (b : ℕ) → lift (pos b -ℤ pos 64) ≡ b
lift_back b = at (tested (ltb b 64))
  where
    at : Tested (ltb b 64) → lift (pos b -ℤ pos 64) ≡ b
    at (holds e) = let l : b < 64 = ltb-true b 64 e in rw e (omega arith)
    at (fails e) = let l : 64 ≤ b = ltb-false b 64 e in rw e (omega arith)

pub lift-times : (u : ℕ) (z : ℤ) → nat_abs z ≤ 60 → pos (u * lift z) ≡ u · z +ℤ pos (64 * u)
unfolding ◌·◌
lift-times u z h = ap (λ y. u · y) (lift_is z h) ∙ ·-sum u z (pos 64) ∙ ap (λ x. u · z +ℤ pos x) (NatL.mul_comm u 64)

-- two sums, each with its units
pub add_up : (a b : ℤ) (x y l m : ℕ) → pos l ≡ a +ℤ pos (64 * x) → pos m ≡ b +ℤ pos (64 * y) → pos (l + m) ≡ (a +ℤ b) +ℤ pos (64 * (x + y))
add_up a b x y l m p q = ap₂ ◌+ℤ◌ p q ∙ +ℤ_assoc a (pos (64 * x)) (b +ℤ pos (64 * y)) ∙ ap (λ z. a +ℤ z) (+ℤ-left-comm (pos (64 * x)) b (pos (64 * y)))
    ∙ sym (+ℤ_assoc a b (pos (64 * x) +ℤ pos (64 * y))) ∙ ap (λ z. a +ℤ b +ℤ pos z) (omega arith)

module _ (D : ℕ) (s : Strategy) (i : ℕ) where
  mutual
    unfolding lifted worth units Pays fan

    pub lifted_is : (t : Tree) (u : ℕ) → Pays 60 i t → pos (lifted D s i u t) ≡ worth (all D) s i u t +ℤ pos (64 * units (all D) s u t)
    lifted_is (end p) u h = lift-times u (p i) h
    lifted_is (chance f) u h = lifted_all_lem f (u / fan f) h
    lifted_is (decide j k f) u h = lifted-kids f u j k 0 h

    lifted_all_lem : (f : Trees) (u : ℕ) → PaysAll 60 i f → pos (lifted_all D s i u f) ≡ worth_all (all D) s i u f +ℤ pos (64 * units_all (all D) s u f)
    lifted_all_lem nil u h = refl
    lifted_all_lem (cons t f) u h = add_up (worth (all D) s i u t) (worth_all (all D) s i u f) (units (all D) s u t) (units_all (all D) s u f) (lifted D s i u t) (lifted_all D s i u f) (lifted_is t u h.0) (lifted_all_lem f u h.1)

    lifted-kids : (f : Trees) (u j : ℕ) (k : Key) (a : ℕ) → PaysAll 60 i f → pos (lifted_kids D s i u j k a f) ≡ worth_kids (all D) s i u j k a f +ℤ pos (64 * units_kids (all D) s u j k a f)
    lifted-kids nil u j k a h = refl
    lifted-kids (cons t f) u j k a h = add_up (worth (all D) s i (u * s j k a / D) t) (worth_kids (all D) s i u j k (suc a) f) (units (all D) s (u * s j k a / D) t) (units_kids (all D) s u j k (suc a) f) (lifted D s i (u * s j k a / D) t) (lifted_kids D s i u j k (suc a) f)
        (lifted_is t (u * s j k a / D) h.0) (lifted-kids f u j k (suc a) h.1)

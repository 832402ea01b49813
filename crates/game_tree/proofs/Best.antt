-- The best choice decides every set of a tree with recall as document 01 says, no single action betters it, and no other choice decides so. Nothing is assumed.
use mathlib.Core.Path.{◌≡◌, sym, ap, ◌∙◌, fun_ext}
use mathlib.Core.Bool.{Bool, cond}
use mathlib.Core.List.{[]}
use Prim.Native.Nat.{ℕ, zero, suc, pred, ◌+◌, ◌≤◌, ◌<◌, zero-le}
use native.Mathlib.Nat as NatL
use native.Mathlib.Omega.{arith}
use lib.Dec.{eqb}
use lib.IntN.{ℤ}
use lib.Signed.{lt_z, ◌≤ℤ◌, ◌<ℤ◌, ≤ℤ_refl, lt_z_no, lt_z_yes}
use lib.ListN.{length}
use Rattle.game_tree.specs.Tree.{Key}
use Rattle.game_tree.specs.Reply.{Reply, Choice, members, set_sum, highest, lowest, actions, depth, decided, best}
use Rattle.game_tree.specs.Optimal.{EveryOwn, Decides, Optimal}
use Rattle.game_tree.specs.Recall.{Path, Recalled}
use Rattle.game_tree.specs.Theorem.{LowestOfGreatest, BestDecides, DecidesAlike, BestOptimal}
use Rattle.game_tree.proofs.Integers.{≤ℤ-trans, ≤ℤ-<ℤ-trans, <ℤ-le}
use Rattle.game_tree.proofs.Tests.{Tested, is, isn't, tested, T_of, eqb_is, eqb_isn't}
use Rattle.game_tree.proofs.Own.{own_both, own_map, value_agree, level_below, own_actions, set_agree}

-- ---- the lowest action with the greatest sum
-- b is the lowest with the greatest q of the actions up to n
abbrev Lowest : (ℕ → ℤ) → ℕ → ℕ → Type 0
Lowest q n b = (b ≤ n) × ((a : ℕ) → a ≤ n → q a ≤ℤ q b) × ((a : ℕ) → a < b → q a <ℤ q b)

highest-lowest : (q : ℕ → ℤ) (n : ℕ) → Lowest q n (highest q n)
unfolding highest
highest-lowest q zero = (zero-le, (λ a l. rw (zero_is a l) (≤ℤ_refl (q 0))), λ a l. absurd (NatL.not-suc-le-zero l))
  where
    zero_is : (a : ℕ) → a ≤ 0 → a ≡ 0
    zero_is a l = omega arith
highest-lowest q (suc n) = at (tested (lt_z (q (highest q n)) (q (suc n)))) (highest-lowest q n)
  where
    B : Bool
    B = lt_z (q (highest q n)) (q (suc n))

    -- the new action, or one before it
    one_more : (b : ℕ) → q (suc n) ≤ℤ q b → ((a : ℕ) → a ≤ n → q a ≤ℤ q b) → (a : ℕ) → Tested (eqb a (suc n)) → a ≤ suc n → q a ≤ℤ q b
    one_more b x f a (is w) l = rw (eqb_is a (suc n) w) x
    one_more b x f a (isn't w) l = f a (omega (arith, eqb_isn't a (suc n) w))

    at : Tested B → Lowest q n (highest q n) → Lowest q (suc n) (cond B (suc n) (highest q n))
    at (is e) h = let g : q (highest q n) <ℤ q (suc n) = lt_z_yes (T_of e) in rw e (
      NatL.le_refl (suc n),
      (λ a l. one_more (suc n) (≤ℤ_refl (q (suc n)))
          (λ b w. ≤ℤ-trans (q b) (q (highest q n)) (q (suc n)) (h.1 b w) (<ℤ-le (q (highest q n)) (q (suc n)) (T_of e))) a (tested (eqb a (suc n))) l),
      λ a l. ≤ℤ-<ℤ-trans (q a) (q (highest q n)) (q (suc n)) (h.1 a (NatL.le_of_suc-le-suc l)) g,
    )
    at (isn't e) h = rw e (omega (arith, h.0), (λ a l. one_more (highest q n) (lt_z_no (rw e tt)) h.1 a (tested (eqb a (suc n))) l), h.2)

pub lowest_of_greatest : LowestOfGreatest
lowest_of_greatest n q l = let h : Lowest q (pred n) (lowest n q) = highest-lowest q (pred n) in (omega (arith, h.0), (λ a w. h.1 a (omega arith)), h.2)

-- ---- the choice, by the own moves to come
module _ (r : Reply) (H : Key → Path) (n : Key → ℕ) (h : Recalled H n [] r) where
  abbrev m : ℕ
  m = depth r

  levels : EveryOwn (λ k a. length (H k) < m) r
  levels = level_below H n r [] m h (NatL.le_of_eq (NatL.add-zero m))

  -- two choices that are one in the sets with at most d own moves to come have the same sums in those with one more
  same_sums : (c e : Choice) (d : ℕ) → EveryOwn (λ j b. m ≤ d + length (H j) → c j ≡ e j) r → (k : Key) → m ≤ suc d + length (H k) → set_sum c r k ≡ set_sum e r k
  same_sums c e d g k l = fun_ext (λ a. set_agree H n c e k a r h
      (own_map (λ j b. m ≤ d + length (H j) → c j ≡ e j) (λ j b. length (H k) < length (H j) → c j ≡ e j) (λ j b f w. f (omega arith)) r g))

  settled : (d : ℕ) → EveryOwn (λ k b. m ≤ d + length (H k) → decided r d k ≡ decided r (suc d) k) r
  unfolding decided
  settled zero = own_map (λ k b. length (H k) < m) (λ k b. m ≤ 0 + length (H k) → decided r 0 k ≡ decided r 1 k) (λ k b l w. absurd (omega arith)) r levels
  settled (suc d) = own_map (λ k b. length (H k) < m) (λ k b. m ≤ suc d + length (H k) → decided r (suc d) k ≡ decided r (suc (suc d)) k)
      (λ k b l w. ap (lowest (actions (members r k))) (same_sums (decided r d) (decided r (suc d)) d (settled d) k w)) r levels

  best-decides-sets : Decides (best r) r
  unfolding best decided
  best-decides-sets = own_both (λ k b. b ≡ actions (members r k)) (λ k b. m ≤ m + length (H k) → decided r m k ≡ decided r (suc m) k)
      (λ k b. decided r m k ≡ lowest b (set_sum (decided r m) r k))
      (λ k b e f. f (omega arith) ∙ ap (λ x. lowest x (set_sum (decided r m) r k)) (sym e)) r (own_actions H n r h) (settled m)

  -- two choices that decide every set are one
  module _ (c e : Choice) (p : Decides c r) (q : Decides e r) where
    alike_below : (d : ℕ) → EveryOwn (λ k b. m ≤ d + length (H k) → c k ≡ e k) r
    alike_below zero = own_map (λ k b. length (H k) < m) (λ k b. m ≤ 0 + length (H k) → c k ≡ e k) (λ k b l w. absurd (omega arith)) r levels
    alike_below (suc d) = own_both (λ k b. c k ≡ lowest b (set_sum c r k)) (λ k b. e k ≡ lowest b (set_sum e r k)) (λ k b. m ≤ suc d + length (H k) → c k ≡ e k)
        (λ k b x y w. x ∙ ap (lowest b) (same_sums c e d (alike_below d) k w) ∙ sym y) r p q

    alike : EveryOwn (λ k b. c k ≡ e k) r
    alike = own_map (λ k b. m ≤ m + length (H k) → c k ≡ e k) (λ k b. c k ≡ e k) (λ k b f. f (omega arith)) r (alike_below m)

pub best-decides : BestDecides
best-decides r h = best-decides-sets r h.0 h.1 h.2

pub decides-alike : DecidesAlike
decides-alike r c h p = (same_actions, value_agree c (best r) r same_actions)
  where
    same_actions : EveryOwn (λ k n. c k ≡ best r k) r
    same_actions = alike r h.0 h.1 h.2 c (best r) p (best-decides r h)

pub decides_optimal : (r : Reply) (c : Choice) → Decides c r → Optimal c r
decides_optimal r c p = own_map (λ k n. c k ≡ lowest n (set_sum c r k)) (λ k n. (a : ℕ) → a < n → set_sum c r k a ≤ℤ set_sum c r k (c k))
    (λ k n e a l. rw e ((highest-lowest (set_sum c r k) (pred n)).1 a (omega arith))) r p

pub best_optimal : BestOptimal
best_optimal r h = decides_optimal r (best r) (best-decides r h)

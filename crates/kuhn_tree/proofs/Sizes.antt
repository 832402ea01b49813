-- How many nodes Kuhn's tree has: a hand's size does not depend on the cards, so it is a product down the deals. Assumes nothing.
use mathlib.Core.Path.{◌≡◌, refl, sym, ap, ap₂, ◌∙◌}
use mathlib.Core.Logic.{inl, inr}
use mathlib.Core.Bool.{Bool, true, false}
use mathlib.Core.List.{List, [], ◌∷◌, ◌++◌}
use Prim.Native.Nat.{ℕ, zero, suc, pred, ◌+◌, ◌*◌}
use native.Mathlib.Nat as NatL
use native.Mathlib.Omega.{arith}
use lib.ListN.{length}
use Rattle.game_tree.specs.Tree.{Tree}
use Rattle.game_tree.specs.Sets.{size, sizes}
use Rattle.game_tree.proofs.Counting.{In}
use Rattle.kuhn_rules.specs.Rules.{PASS, BET, ended, remaining}
use Rattle.kuhn_tree.specs.Tree.{each, m, tree_of_kuhn}
use Rattle.kuhn_tree.specs.Counts.{deal_nodes}
use Rattle.kuhn_tree.proofs.Cards.{remaining_less, remaining_all}
use Rattle.kuhn_tree.proofs.Shape.{hand, deals, kuhn-deals}

each_size : (l : List ℕ) (g : ℕ → Tree) (S : ℕ) → ((c : ℕ) → In c l → size (g c) ≡ S) → sizes (each l g) ≡ length l * S
unfolding each size In
each_size [] g S h = sym (NatL.zero-mul S)
each_size (c ∷ l) g S h = ap₂ ◌+◌ (h c (inl refl)) (each_size l g S (λ x w. h x (inr w))) ∙ NatL.add_comm S (length l * S) ∙ sym (NatL.suc-mul (length l) S)

module _ (ante bet n : ℕ) where
  hand-size : (cs ds : List ℕ) (r : ℕ) (b : Bool) (h : List ℕ) → size (hand ante bet n cs r b h) ≡ size (hand ante bet n ds r b h)
  unfolding hand size
  hand-size cs ds zero b h = refl
  hand-size cs ds (suc r) true h = refl
  hand-size cs ds (suc r) false h = ap₂ (λ x y. suc (x + (y + 0))) (hand-size cs ds r (ended n (h ++ (PASS ∷ []))) (h ++ (PASS ∷ []))) (hand-size cs ds r (ended n (h ++ (BET ∷ []))) (h ++ (BET ∷ [])))

  unfoldable pub hand_size : ℕ
  unfolding hand size
  hand_size = size (hand ante bet n [] (m n) (ended n []) [])

  deals-size : (k L : ℕ) (cs : List ℕ) → length (remaining n cs) ≡ L → size (deals ante bet n k cs) ≡ deal_nodes hand_size L k
  unfolding deals size deal_nodes hand_size
  deals-size zero L cs e = hand-size cs [] (m n) (ended n []) []
  deals-size (suc k) L cs e = ap suc (each_size (remaining n cs) (λ c. deals ante bet n k (cs ++ (c ∷ []))) (deal_nodes hand_size (pred L) k)
      (λ c w. deals-size k (pred L) (cs ++ (c ∷ [])) (omega (arith, remaining_less n cs c w))) ∙ ap (λ l. l * deal_nodes hand_size (pred L) k) e)

  pub kuhn-size : size (tree_of_kuhn ante bet n) ≡ deal_nodes hand_size (suc n) n
  kuhn-size = ap size (kuhn-deals ante bet n) ∙ deals-size n (suc n) [] (remaining_all n)

-- Leduc's tree is a deal and below it hands, whose betting shape is the same. Assumes nothing.
use mathlib.Core.Path.{◌≡◌, refl, sym, ap, ap₂, subst, ◌∙◌}
use mathlib.Core.Logic.{inl, inr}
use mathlib.Core.Bool.{Bool, true}
use mathlib.Core.List.{List, [], ◌∷◌, map}
use Prim.Native.Nat.{ℕ, ◌+◌}
use Rattle.prelude.specs.Finite.{◌or◌}
use Rattle.prelude.proofs.Tests.{and_left, and_right}
use Rattle.game_tree.specs.Tree.{Tree, chance, cons}
use Rattle.game_tree.specs.Sets.{size}
use Rattle.game_tree.proofs.Counting.{In}
use Rattle.leduc_betting.specs.Cards.{left, remaining}
use Rattle.leduc_rules.specs.Rules.{due}
use Rattle.leduc_tree.specs.Tree.{Position, start, dealt, payoff, after_deal, next, each, below, m, tree_of_leduc}
use Rattle.leduc_tree.proofs.Positions.{left_in}
use Rattle.leduc_tree_facts.specs.Shape.{bare, with_cards, hand}
use Rattle.leduc_tree_facts.proofs.Shape.{fits, fits_sound, every-tree, children, hands_fit}
use Rattle.leduc_tree_facts.proofs.Computed.{hands_alike}

-- what holds of every child holds behind each move
each_holds : (p : Tree → Bool) (l : List ℕ) (move : ℕ → Position) (g : Position → Tree) → every-tree p (each (map move l) g) ≡ true → (c : ℕ) → In c l → p (g (move c)) ≡ true
unfolding every-tree each In
each_holds p [] move g e c w = absurd w
each_holds p (x ∷ l) move g e c (inl q) = ap (λ y. p (g (move y))) (sym q) ∙ and_left _ _ e
each_holds p (x ∷ l) move g e c (inr w) = each_holds p l move g (and_right _ _ e) c w

module _ (ante raise₁ raise₂ : ℕ) where
  -- ---- the deal, then a hand
  each_same : (l : List ℕ) (move : ℕ → Position) (g k : Position → Tree) → ((c : ℕ) → g (move c) ≡ k (move c)) → each (map move l) g ≡ each (map move l) k
  unfolding each
  each_same [] move g k h = refl
  each_same (c ∷ l) move g k h = ap₂ cons (h c) (each_same l move g k h)

  pub deals_first : tree_of_leduc ante raise₁ raise₂ ≡ chance (each (after_deal start) (λ s. chance (each (after_deal s) (hand ante raise₁ raise₂))))
  unfolding tree_of_leduc below next hand due ◌or◌
  deals_first = ap chance (each_same (remaining []) (dealt start) (λ s. below (payoff ante raise₁ raise₂) (2 + m) (next s) s) (λ s. chance (each (after_deal s) (hand ante raise₁ raise₂))) (λ c. refl))

  -- ---- the shape behind each deal is that behind the first
  abbrev first : Tree
  first = hand ante raise₁ raise₂ (with_cards 0 1)

  hands_of : (c : ℕ) → left [] c ≡ true → every-tree (fits first) (each (after_deal (dealt start c)) (hand ante raise₁ raise₂)) ≡ true
  unfolding hands_fit children
  hands_of c e = each_holds (λ s. every-tree (fits first) (children s)) (remaining []) (dealt start) (λ s. chance (each (after_deal s) (hand ante raise₁ raise₂)))
      (subst (λ t. hands_fit first t ≡ true) deals_first (hands_alike ante raise₁ raise₂)) c (left_in [] c e)

  pub one_shape : (c d : ℕ) → left [] c ≡ true → left (c ∷ []) d ≡ true
      → (bare (hand ante raise₁ raise₂ (with_cards c d)) ≡ bare first) × (size (hand ante raise₁ raise₂ (with_cards c d)) ≡ 315)
  one_shape c d e w = fits_sound _ _ (each_holds (fits first) (remaining (c ∷ [])) (dealt (dealt start c)) (hand ante raise₁ raise₂) (hands_of c e) d (left_in (c ∷ []) d w))

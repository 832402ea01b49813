-- What is computed over the whole of Leduc's tree, for any stakes: the payoffs are not looked at. Assumes nothing.
use mathlib.Core.Path.{◌≡◌, refl}
use mathlib.Core.Bool.{Bool, true}
use mathlib.Core.List.{[]}
use Prim.Native.Nat.{ℕ, ◌≤◌}
use lib.Dec.{eqb, leb}
use lib.ListN.{get_or}
use borrow.Author.Tests.{eqb-true, leb-true}
use Rattle.prelude.specs.Finite.{◌and◌, ◌or◌, some, those, has}
use Rattle.prelude.proofs.Tests.{and_left, and_right}
use Rattle.game_tree.specs.Tree.{Key, Tree}
use Rattle.game_tree.specs.Conditions.{Splits, Every}
use Rattle.game_tree.specs.Recall.{Recall}
use Rattle.game_tree.specs.Sets.{size}
use Rattle.game_tree.specs.Shape.{Heights, Levels}
use Rattle.game_tree.proofs.Checked.{splits, splits-sound, every, every-sound, heights, heights-sound, levels, levels_sound, recall, recall-sound}
use Rattle.leduc_betting.specs.Betting.{ends_with, folded, closes, behind, raises, may, options, in_play, turn, ended}
use Rattle.leduc_betting.specs.Cards.{left, remaining}
use Rattle.leduc_rules.specs.Rules.{public-due, due, key}
use Rattle.leduc_tree.specs.Tree.{next, each, below, tree_of_leduc, C, m}
use Rattle.leduc_tree.specs.Counts.{leduc_nodes}
use Rattle.leduc_tree_facts.specs.Shape.{with_cards, hand}
use Rattle.leduc_tree_facts.proofs.Keys.{actions_of, depth_of, level_of, past}
use Rattle.leduc_tree_facts.proofs.Shape.{shaped, hands_fit}

-- the key tells who acts and with how many actions, and those are two or three
unfoldable keyed : ℕ → Key → ℕ → Bool
keyed j k n = (eqb j (get_or k 0 0) and eqb n (actions_of k)) and (leb 2 n and leb n 3)

-- the fans and the most decisions on a path; what a key tells, the decisions to come, and the nodes that may follow
unfoldable regular : Tree → Bool
regular t = (splits C m t and every keyed t) and (heights (λ j k. depth_of k) t and levels (λ j k. level_of k) 12 t)

-- the own moves before each decision are those that its key tells
unfoldable recalled : Tree → Bool
recalled t = recall 0 past actions_of [] t and recall 1 past actions_of [] t

-- all of it, so that the tree is worked out once: the nodes too, and that the hands of t have the shape of u
unfoldable checked : Tree → Tree → Bool
checked u t = eqb (size t) leduc_nodes and (hands_fit u t and (regular t and recalled t))

module _ (ante raise₁ raise₂ : ℕ) where
  is_checked : checked (hand ante raise₁ raise₂ (with_cards 0 1)) (tree_of_leduc ante raise₁ raise₂) ≡ true
  unfolding checked size hands_fit shaped hand regular keyed recalled splits every heights levels recall actions_of depth_of level_of past tree_of_leduc
      below next each ◌and◌ ◌or◌ some those has ends_with folded closes behind raises may options in_play turn ended left remaining public-due due key
  is_checked = refl

  pub node-count : size (tree_of_leduc ante raise₁ raise₂) ≡ leduc_nodes
  unfolding checked
  node-count = eqb-true _ _ (and_left _ _ is_checked)

  pub hands_alike : hands_fit (hand ante raise₁ raise₂ (with_cards 0 1)) (tree_of_leduc ante raise₁ raise₂) ≡ true
  unfolding checked
  hands_alike = and_left _ _ (and_right _ _ is_checked)

  is_regular : regular (tree_of_leduc ante raise₁ raise₂) ≡ true
  unfolding checked
  is_regular = and_left _ _ (and_right _ _ (and_right _ _ is_checked))

  is_recalled : recalled (tree_of_leduc ante raise₁ raise₂) ≡ true
  unfolding checked
  is_recalled = and_right _ _ (and_right _ _ (and_right _ _ is_checked))

  pub splitting : Splits C m (tree_of_leduc ante raise₁ raise₂)
  unfolding regular
  splitting = splits-sound C m (tree_of_leduc ante raise₁ raise₂) (and_left _ _ (and_left _ _ is_regular))

  is_keyed : (P : ℕ → Key → ℕ → Type 0) → ((j : ℕ) (k : Key) (n : ℕ) → keyed j k n ≡ true → P j k n) → Every P (tree_of_leduc ante raise₁ raise₂)
  unfolding regular
  is_keyed P g = every-sound keyed P g (tree_of_leduc ante raise₁ raise₂) (and_right _ _ (and_left _ _ is_regular))

  pub seats : Every (λ j k n. j ≡ get_or k 0 0) (tree_of_leduc ante raise₁ raise₂)
  unfolding keyed
  seats = is_keyed _ (λ j k n e. eqb-true _ _ (and_left _ _ (and_left _ _ e)))

  pub actions : Every (λ j k n. n ≡ actions_of k) (tree_of_leduc ante raise₁ raise₂)
  unfolding keyed
  actions = is_keyed _ (λ j k n e. eqb-true _ _ (and_right _ _ (and_left _ _ e)))

  pub few-actions : Every (λ j k n. (2 ≤ n) × (n ≤ 3)) (tree_of_leduc ante raise₁ raise₂)
  unfolding keyed
  few-actions = is_keyed _ (λ j k n e. (leb-true _ _ (and_left _ _ (and_right _ _ e)), leb-true _ _ (and_right _ _ (and_right _ _ e))))

  pub depths : Heights (λ j k. depth_of k) (tree_of_leduc ante raise₁ raise₂)
  unfolding regular
  depths = heights-sound (λ j k. depth_of k) (tree_of_leduc ante raise₁ raise₂) (and_left _ _ (and_right _ _ is_regular))

  pub leveling : Levels (λ j k. level_of k) 12 (tree_of_leduc ante raise₁ raise₂)
  unfolding regular
  leveling = levels_sound (λ j k. level_of k) 12 (tree_of_leduc ante raise₁ raise₂) (and_right _ _ (and_right _ _ is_regular))

  pub first_recalls : Recall 0 past actions_of [] (tree_of_leduc ante raise₁ raise₂)
  unfolding recalled
  first_recalls = recall-sound 0 past actions_of [] (tree_of_leduc ante raise₁ raise₂) (and_left _ _ is_recalled)

  pub second-recalls : Recall 1 past actions_of [] (tree_of_leduc ante raise₁ raise₂)
  unfolding recalled
  second-recalls = recall-sound 1 past actions_of [] (tree_of_leduc ante raise₁ raise₂) (and_right _ _ is_recalled)

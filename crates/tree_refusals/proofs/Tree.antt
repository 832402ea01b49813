-- The checks of a tree, 1 to 4, by what the program has found. Assumes nothing.
use mathlib.Core.Path.{◌≡◌, sym, ◌∙◌}
use mathlib.Core.Bool.{false}
use Prim.Native.Nat.{ℕ, ◌*◌, ◌≤◌, ◌<◌}
use native.Mathlib.Omega.{arith}
use lib.Dec.{ltb}
use borrow.Author.Tests.{lt-ltb, le-ltb}
use mathlib.Core.List.{[], ◌∷◌}
use Rattle.refusals.specs.declared.Refusal.{Refusal}
use Rattle.refusals.specs.Refusals.{first}
use Rattle.refusals.specs.Outcomes.{number}
use Rattle.refusals.specs.internal.Settled.{Settled}
use Rattle.game_tree.specs.Sets.{size}
use Rattle.games.specs.Games.{Game, tree_of}
use Rattle.games.specs.Seats.{seats-out}
use Rattle.games.specs.Facts.{nodes_of}
use Rattle.games.specs.Known.{Known}
use Rattle.games.proofs.Facts.{nodes_are}
use Rattle.tree_refusals.specs.Checks.{game_check, seats_check, tree_checks}

abbrev pub Answer : (g : Game) (memory : ℕ) → ℕ → Type 0
Answer g memory r = Settled (tree_checks g memory) (Known g × (12 * nodes_of g ≤ memory)) r

-- the refusal e of a number or a seat count
pub refused_by_number : (g : Game) (e : Refusal) → number e ≡ first (game_check g ∷ seats_check g ∷ []) → Settled (game_check g ∷ seats_check g ∷ []) (Unit {0}) (number e)
refused_by_number g e w = record { number = w; passed = λ z. tt }

module _ (g : Game) (memory : ℕ) (a : g.number ≤ 1) (b : seats-out g ≡ false) (n : ℕ) (q : n ≡ nodes_of g) where
  size_is : n ≡ size (tree_of g)
  size_is = q ∙ sym (nodes_are g b)

  pub tree-refused : 4000000 < n → Answer g memory 3
  tree-refused l = record { number = rw (le-ltb 1 g.number a, b, lt-ltb 4000000 (size (tree_of g)) (omega (arith, size_is))); passed = λ z. absurd (omega arith) }

  module _ (l : n ≤ 4000000) where
    small : ltb 4000000 (size (tree_of g)) ≡ false
    small = le-ltb 4000000 (size (tree_of g)) (omega (arith, size_is))

    pub memory-refused : memory < 12 * n → Answer g memory 4
    memory-refused h = record { number = rw (le-ltb 1 g.number a, b, small, lt-ltb memory (12 * size (tree_of g)) (omega (arith, size_is))); passed = λ z. absurd (omega arith) }

    pub tree_passed : 12 * n ≤ memory → Answer g memory 0
    tree_passed h = record {
      number = rw (le-ltb 1 g.number a, b, small, le-ltb memory (12 * size (tree_of g)) (omega (arith, size_is)));
      passed = λ z. (record { known = a; seats = b; small = omega arith }, omega arith);
    }

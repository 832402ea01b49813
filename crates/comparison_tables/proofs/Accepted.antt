-- What is known of a table whose evaluation is not refused: every test of its checks fails. Assumes nothing.
use mathlib.Core.Path.{◌≡◌, refl}
use mathlib.Core.Bool.{Bool, true, false, not}
use mathlib.Core.List.{[], ◌∷◌}
use Prim.Native.Nat.{ℕ, ◌*◌, ◌≤◌}
use native.Mathlib.Omega.{arith}
use lib.Dec.{eqb, ltb}
use lib.ListN.{length}
use borrow.Author.Tests.{ltb-false, eqb-true, eqb-false, not-false}
use Rattle.refusals.specs.Refusals.{◌refuses◌, first}
use Rattle.prelude.specs.Finite.{◌or◌}
use Rattle.prelude.proofs.Tests.{or_false_left, or_false_right}
use Rattle.game_tree.specs.Sets.{size, set_actions, entries}
use Rattle.game_tree.specs.Table.{Table, add_up}
use Rattle.games.specs.Games.{Game, tree_of, most_parts}
use Rattle.games.specs.Seats.{seats-out}
use Rattle.games.proofs.Facts.{nodes_are}
use Rattle.tree_refusals.specs.Checks.{evaluation_refusal}
use Rattle.tree_refusals.specs.Accepted.{AcceptedTable}

module _ (g : Game) (words D : ℕ) (table : Table) (e : evaluation_refusal g words D table ≡ 0) where
  all_fail : (a b c d p l s : Bool)
      → first ((a refuses 1) ∷ (b refuses 2) ∷ (c refuses 3) ∷ (d refuses 4) ∷ (p refuses 6) ∷ (l refuses 7) ∷ (s refuses 8) ∷ []) ≡ 0
      → (a ≡ false) × (b ≡ false) × (c ≡ false) × (p ≡ false) × (l ≡ false) × (s ≡ false)
  all_fail true b c d p l s e = absurd (omega arith)
  all_fail false true c d p l s e = absurd (omega arith)
  all_fail false false true d p l s e = absurd (omega arith)
  all_fail false false false true p l s e = absurd (omega arith)
  all_fail false false false false true l s e = absurd (omega arith)
  all_fail false false false false false true s e = absurd (omega arith)
  all_fail false false false false false false true e = absurd (omega arith)
  all_fail false false false false false false false e = (refl, refl, refl, refl, refl, refl)

  fail : (ltb 1 g.number ≡ false) × (seats-out g ≡ false) × (ltb 4000000 (size (tree_of g)) ≡ false) × ((eqb D 0 or ltb (most_parts g) D) ≡ false)
      × (not (eqb (length table) (entries (tree_of g))) ≡ false) × (not (add_up D (set_actions (tree_of g)) table) ≡ false)
  fail = all_fail (ltb 1 g.number) (seats-out g) (ltb 4000000 (size (tree_of g))) (ltb words (12 * size (tree_of g))) (eqb D 0 or ltb (most_parts g) D)
      (not (eqb (length table) (entries (tree_of g)))) (not (add_up D (set_actions (tree_of g)) table)) e

  pub accepted-table : AcceptedTable g D table
  accepted-table = record {
    game = record {
      known = ltb-false 1 g.number fail.0;
      seats = fail.1;
      small = rw (← nodes_are g fail.1) (ltb-false 4000000 (size (tree_of g)) fail.2);
    };
    least = one_at_least (eqb-false D 0 (or_false_left (eqb D 0) (ltb (most_parts g) D) fail.3));
    most = ltb-false (most_parts g) D (or_false_right (eqb D 0) (ltb (most_parts g) D) fail.3);
    valid = (eqb-true (length table) (entries (tree_of g)) (not-false (eqb (length table) (entries (tree_of g))) fail.4), not-false (add_up D (set_actions (tree_of g)) table) fail.5);
  }
    where
      one_at_least : (D ≡ 0 → ⊥) → 1 ≤ D
      one_at_least f = omega arith

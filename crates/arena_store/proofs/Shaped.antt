-- The statements of specs/Shaped.antt, each by its proof. Assumes nothing.
use mathlib.Core.Path.{◌≡◌, refl, sym, subst, ◌∙◌}
use Prim.Native.Nat.{ℕ, ◌+◌, ◌≤◌}
use native.Mathlib.Omega.{arith}
use lib.Dec.{eqb}
use borrow.Author.Tests.{eq-eqb, ne_eqb, eqb-true, eqb-false}
use Rattle.prelude.proofs.Tests.{Tested, holds, fails, tested}
use Rattle.game_tree.specs.Tree.{Key, Tree}
use Rattle.game_tree.specs.Conditions.{Every}
use Rattle.game_tree.specs.Sets.{size, entries, first_entry}
use Rattle.game_tree.specs.Shape.{Levels, SameActions, SameHeights}
use Rattle.game_tree.proofs.Against.{every_both}
use Rattle.kuhn_tree.specs.Tree as Kuhn
use Rattle.kuhn_tree.specs.Counts.{kuhn_nodes}
use Rattle.kuhn_tree.proofs.Facts as Kuhn-proofs
use Rattle.leduc_tree.specs.Tree as Leduc
use Rattle.leduc_tree.specs.Counts.{leduc_nodes}
use Rattle.leduc_tree_facts.proofs.Facts as Leduc-proofs
use Rattle.kuhn_arena_layout.proofs.Start.{nodes-few}
use Rattle.games.specs.Games.{Game, tree_of}
use Rattle.games.specs.Known.{Known}
use Rattle.games.proofs.Facts.{nodes_are, games_fit}
use Rattle.games.proofs.Known.{kuhn_two, kuhn-six, leduc_two}
use Rattle.arena.specs.internal.Legible.{Entered}
use Rattle.arena_walks.proofs.Standing.{entries-inside}
use Rattle.arena_store.specs.internal.Shaped.{Shaped, GamesShaped, GamesLegible}
use Rattle.arena_store.proofs.Levels.{deep-levels, more_levels}

-- ---- where the entries of a set stand
module _ (t : Tree) (h : SameActions t) (f : Every (λ j k n. (2 ≤ n) × (n ≤ 3)) t) where
  all_entered : (E : ℕ) → E ≡ entries t → Every (Entered t E) t
  all_entered E e = every_both (λ j k n. (2 ≤ n) × (n ≤ 3)) (λ j k n. first_entry t j k + n ≤ entries t) (Entered t E)
      (λ j k n (a, b) i. (a, b, omega arith)) t f (entries-inside t h f)

-- ---- the games' trees
module _ (g : Game) (a : Known g) where
  module _ (k : g.number ≡ 0) where
    kuhn-tree : tree_of g ≡ Kuhn.tree_of_kuhn 1 1 g.seats
    unfolding tree_of
    kuhn-tree = rw (eq-eqb g.number 0 k) refl

    kuhn-count : size (tree_of g) ≡ kuhn_nodes g.seats
    kuhn-count = nodes_are g a.seats ∙ rw (eq-eqb g.number 0 k) refl

    two_or_three : Every (λ j k n. (2 ≤ n) × (n ≤ 3)) (Kuhn.tree_of_kuhn 1 1 g.seats)
    two_or_three =
        let h = Kuhn-proofs.two_actions 1 1 g.seats in
        every_both (λ j k n. n ≡ 2) (λ j k n. n ≡ 2) (λ j k n. (2 ≤ n) × (n ≤ 3)) (λ j k n e f. (omega arith, omega arith)) (Kuhn.tree_of_kuhn 1 1 g.seats) h h

    kuhn-actions : Every (λ j k n. (2 ≤ n) × (n ≤ 3)) (tree_of g)
    kuhn-actions = subst (Every (λ j k n. (2 ≤ n) × (n ≤ 3))) (sym kuhn-tree) two_or_three

    kuhn-shaped : Shaped g
    kuhn-shaped =
        let six = kuhn-six g a k in
        record {
          least = kuhn_two g a k;
          most = six;
          nodes = omega (arith, kuhn-count, nodes-few g.seats (kuhn_two g a k) six);
          levels = subst (λ t. (v : ℕ → Key → ℕ) × Levels v 32 t) (sym kuhn-tree) (Kuhn-proofs.levels_by_key 1 1 g.seats 32 (omega arith));
          actions = kuhn-actions;
          inside = entries-inside (tree_of g) (games_fit g a.known a.seats).actions kuhn-actions;
          payoffs = rw (eq-eqb g.number 0 k) (omega arith);
        }

  module _ (k : g.number ≡ 0 → ⊥) where
    leduc-tree : tree_of g ≡ Leduc.tree_of_leduc 1 2 4
    unfolding tree_of
    leduc-tree = rw (ne_eqb g.number 0 k) refl

    leduc-count : size (tree_of g) ≡ leduc_nodes
    leduc-count = nodes_are g a.seats ∙ rw (ne_eqb g.number 0 k) refl

    leduc-actions : Every (λ j k n. (2 ≤ n) × (n ≤ 3)) (tree_of g)
    leduc-actions = subst (Every (λ j k n. (2 ≤ n) × (n ≤ 3))) (sym leduc-tree) (Leduc-proofs.two_or_three_actions 1 2 4)

    leduc-levels : (v : ℕ → Key → ℕ) × Levels v 32 (Leduc.tree_of_leduc 1 2 4)
    leduc-levels = let (v, h) = Leduc-proofs.levels_by_key 1 2 4 in ((λ j k. v j k + 20), more_levels v 20 12 (Leduc.tree_of_leduc 1 2 4) h)

    leduc-shaped : Shaped g
    leduc-shaped = record {
      least = omega (arith, leduc_two g a k);
      most = omega (arith, leduc_two g a k);
      nodes = omega (arith, leduc-count);
      levels = subst (λ t. (v : ℕ → Key → ℕ) × Levels v 32 t) (sym leduc-tree) leduc-levels;
      actions = leduc-actions;
      inside = entries-inside (tree_of g) (games_fit g a.known a.seats).actions leduc-actions;
      payoffs = rw (ne_eqb g.number 0 k) (omega arith);
    }

pub games_shaped : GamesShaped
games_shaped g a = at (tested (eqb g.number 0))
  where
    at : Tested (eqb g.number 0) → Shaped g
    at (holds t) = kuhn-shaped g a (eqb-true g.number 0 t)
    at (fails t) = leduc-shaped g a (eqb-false g.number 0 t)

-- every decision has an action
pub some_actions : (g : Game) → Known g → Every (λ j k n. 1 ≤ n) (tree_of g)
some_actions g k = let f = (games_shaped g k).actions in every_both (λ j k n. (2 ≤ n) × (n ≤ 3)) (λ j k n. (2 ≤ n) × (n ≤ 3)) (λ j k n. 1 ≤ n) (λ j k n e f. omega (arith, e.0)) (tree_of g) f f

-- decisions of one seat with equal keys have the same remaining depth
pub same_heights : (g : Game) → SameHeights (tree_of g)
unfolding tree_of
same_heights g = at (tested (eqb g.number 0))
  where
    at : Tested (eqb g.number 0) → SameHeights (tree_of g)
    at (holds t) = rw t (Kuhn-proofs.depth_by_key 1 1 g.seats)
    at (fails t) = rw t (Leduc-proofs.depth_by_key 1 2 4)

pub games_legible : GamesLegible
games_legible g w E a s e =
    let h = games_shaped g a in
    record {
      held = s.held;
      room = omega (arith, h.nodes);
      entered = all_entered (tree_of g) (games_fit g a.known a.seats).actions h.actions E e;
      within = deep-levels h.levels.0 32 (tree_of g) h.levels.1;
    }

-- The games' trees have as many nodes and entries as the constants say, and their sets these actions. Assumes nothing.
use mathlib.Core.Path.{◌≡◌, refl, sym, ap, ap₂, subst, ◌∙◌}
use mathlib.Core.Bool.{Bool, true, false, not, cond}
use mathlib.Core.List.{List, [], ◌∷◌, map}
use Prim.Native.Nat.{ℕ, zero, suc, ◌+◌, ◌≤◌, ◌<◌}
use native.Mathlib.Nat as NatL
use native.Mathlib.Omega.{arith}
use lib.Dec.{eqb, ltb}
use borrow.Author.Tests.{eq-eqb, ne_eqb, eqb-true, eqb-false, not-false}
use lib.ListN.{length, replicate, length-map}
use Rattle.prelude.specs.Finite.{◌or◌}
use Rattle.prelude.proofs.Tests.{Tested, holds, fails, tested}
use Rattle.game_tree.specs.Conditions.{Splits, Pays}
use Rattle.game_tree.specs.Recall.{PerfectRecall}
use Rattle.game_tree.specs.Sets.{Decision, size, sets, set_count, set_actions, entries}
use Rattle.game_tree.specs.Shape.{SameActions}
use Rattle.game_tree.specs.Table.{Table, strategy_of, table_best}
use Rattle.game_tree.specs.Recall.{RecallsOwn}
use Rattle.game_tree.proofs.TableTheorem.{reply-table-best, own_table-entries-free, table-units-add_up}
use Rattle.game_tree.proofs.Theorem.{units_exact, recall_kept, best-decides, decides-alike}
use Rattle.game_tree.proofs.TableTheorem.{finer-products, finer-table-units, worth_of_grain_D, finer-reply-best, nash_conv_zero}
use Rattle.game_tree.proofs.Sets.{Each, every→sets}
use Rattle.kuhn_tree.specs.Tree.{tree_of_kuhn}
use Rattle.kuhn_tree.specs.Tree as KuhnTree
use Rattle.kuhn_tree.specs.Facts as KuhnTree-Facts
use Rattle.kuhn_tree.specs.Counts.{deal_nodes, kuhn_nodes, kuhn_sets, kuhn_entries}
use Rattle.kuhn_tree.proofs.Facts as KuhnFacts
use Rattle.kuhn_tree.proofs.Facts.{counted}
use Rattle.kuhn_tree.proofs.Units.{kuhn-every}
use Rattle.leduc_tree.specs.Tree.{tree_of_leduc}
use Rattle.leduc_tree_facts.proofs.Facts.{counts}
use Rattle.leduc_tree_facts.proofs.Facts as LeducFacts
use Rattle.leduc_tree.specs.Turns.{actions_in_order}
use Rattle.leduc_tree.proofs.Facts.{actions_in_order_lem}
use Rattle.leduc_tree.specs.Counts.{leduc_nodes, leduc_sets, leduc_entries}
use Rattle.games.specs.Games.{Game, is_kuhn, tree_of, C, m, root_units}
use Rattle.games.specs.Seats.{seats-out}
use Rattle.games.specs.Facts.{nodes_of, sets_of, entries_of, Counted, kuhn, leduc, TableOfCounts, Fit, GamesFit, ReplyBest}
use Rattle.games.specs.Facts.{UnitsExact, UnitsAddUp, OwnEntriesFree, open_to, BestDecides, DecidesAlike}
use Rattle.games.specs.Facts.{FinerRivals, FinerOfD, FinerReply, ConvZero}
use Rattle.games.specs.internal.Facts.{ActionsListed}
use Rattle.games.specs.internal.Actions.{actions_of}
use Rattle.games.proofs.Counts.{kuhn_least}

leduc-counts : (size (tree_of_leduc 1 2 4) ≡ leduc_nodes) × (length (set_actions (tree_of_leduc 1 2 4)) ≡ leduc_sets) × (entries (tree_of_leduc 1 2 4) ≡ leduc_entries)
leduc-counts = ((counts 1 2 4).0, length-map (sets (tree_of_leduc 1 2 4)) (λ x. x.2) ∙ (counts 1 2 4).1, (counts 1 2 4).2)

all_two : (xs : List Decision) → Each (λ j k a. a ≡ 2) xs → map (λ x. x.2) xs ≡ replicate (length xs) 2
unfolding Each
all_two [] h = refl
all_two (x ∷ xs) h = ap₂ ◌∷◌ h.0 (all_two xs h.1)

-- every set of Kuhn has two actions
kuhn-set-actions : (n : ℕ) → 1 ≤ n → set_actions (tree_of_kuhn 1 1 n) ≡ replicate (kuhn_sets n) 2
kuhn-set-actions n w = all_two (sets (tree_of_kuhn 1 1 n)) (every→sets (λ j k a. a ≡ 2) (tree_of_kuhn 1 1 n) (kuhn-every 1 1 n (λ j k a. a ≡ 2) (λ j c h. refl))) ∙ ap (λ k. replicate k 2) (counted 1 1 n w).1

module _ (g : Game) where
  pub leduc-out : (g.number ≡ 0 → ⊥) → seats-out g ≡ not (eqb g.seats 2)
  leduc-out k = ap (λ t. cond t (ltb g.seats 2 or ltb 10 g.seats) (not (eqb g.seats 2))) (ne_eqb g.number 0 k)

  -- Leduc has two seats, once number 2 is settled
  pub leduc_two : (g.number ≡ 0 → ⊥) → seats-out g ≡ false → g.seats ≡ 2
  leduc_two k out = eqb-true g.seats 2 (not-false (eqb g.seats 2) (sym (leduc-out k) ∙ out))

  pub kuhn-tree_is : g.number ≡ 0 → tree_of g ≡ tree_of_kuhn 1 1 g.seats
  unfolding tree_of
  kuhn-tree_is k = ap (λ t. cond t (tree_of_kuhn 1 1 g.seats) (tree_of_leduc 1 2 4)) (eq-eqb g.number 0 k)

  pub leduc-tree_is : (g.number ≡ 0 → ⊥) → tree_of g ≡ tree_of_leduc 1 2 4
  unfolding tree_of
  leduc-tree_is k = ap (λ t. cond t (tree_of_kuhn 1 1 g.seats) (tree_of_leduc 1 2 4)) (ne_eqb g.number 0 k)

  module _ (out : seats-out g ≡ false) where
    pub kuhn_one : g.number ≡ 0 → 1 ≤ g.seats
    kuhn_one k = let w = kuhn_least g k out in omega arith

    nodes_by : Tested (eqb g.number 0) → size (tree_of g) ≡ nodes_of g
    nodes_by (holds t) = ap size (kuhn-tree_is (eqb-true g.number 0 t)) ∙ (counted 1 1 g.seats (kuhn_one (eqb-true g.number 0 t))).0 ∙ ap (λ b. cond b (kuhn_nodes g.seats) leduc_nodes) (sym t)
    nodes_by (fails t) = ap size (leduc-tree_is (eqb-false g.number 0 t)) ∙ leduc-counts.0 ∙ ap (λ b. cond b (kuhn_nodes g.seats) leduc_nodes) (sym t)

    pub nodes_are : size (tree_of g) ≡ nodes_of g
    nodes_are = nodes_by (tested (eqb g.number 0))

    entries_by : Tested (eqb g.number 0) → entries (tree_of g) ≡ entries_of g
    entries_by (holds t) = ap entries (kuhn-tree_is (eqb-true g.number 0 t)) ∙ (counted 1 1 g.seats (kuhn_one (eqb-true g.number 0 t))).2 ∙ ap (λ b. cond b (kuhn_entries g.seats) leduc_entries) (sym t)
    entries_by (fails t) = ap entries (leduc-tree_is (eqb-false g.number 0 t)) ∙ leduc-counts.2 ∙ ap (λ b. cond b (kuhn_entries g.seats) leduc_entries) (sym t)

    pub entries_are : entries (tree_of g) ≡ entries_of g
    entries_are = entries_by (tested (eqb g.number 0))

    actions_by : Tested (eqb g.number 0) → set_actions (tree_of g) ≡ actions_of g
    unfolding actions_of
    actions_by (holds t) = ap set_actions (kuhn-tree_is (eqb-true g.number 0 t)) ∙ kuhn-set-actions g.seats (kuhn_one (eqb-true g.number 0 t)) ∙ ap (λ b. cond b (replicate (kuhn_sets g.seats) 2) actions_in_order) (sym t)
    actions_by (fails t) = ap set_actions (leduc-tree_is (eqb-false g.number 0 t)) ∙ actions_in_order_lem 1 2 4 ∙ ap (λ b. cond b (replicate (kuhn_sets g.seats) 2) actions_in_order) (sym t)

    pub actions_are : set_actions (tree_of g) ≡ actions_of g
    actions_are = actions_by (tested (eqb g.number 0))

pub counted_games : Counted
counted_games g out = (nodes_are g out, sets_are (tested (eqb g.number 0)), entries_are g out)
  where
    sets_are : Tested (eqb g.number 0) → set_count (tree_of g) ≡ sets_of g
    sets_are (holds t) = ap set_count (kuhn-tree_is g (eqb-true g.number 0 t)) ∙ (counted 1 1 g.seats (kuhn_one g out (eqb-true g.number 0 t))).1 ∙ ap (λ b. cond b (kuhn_sets g.seats) leduc_sets) (sym t)
    sets_are (fails t) = ap set_count (leduc-tree_is g (eqb-false g.number 0 t)) ∙ (counts 1 2 4).1 ∙ ap (λ b. cond b (kuhn_sets g.seats) leduc_sets) (sym t)

pub actions-listed : ActionsListed
actions-listed g out = actions_are g out

pub table_of_counts : TableOfCounts
unfolding deal_nodes ◌or◌
table_of_counts = (counted_games (kuhn 2) refl, counted_games (kuhn 3) refl, counted_games (kuhn 4) refl, counted_games (kuhn 5) refl, counted_games (kuhn 6) refl, counted_games leduc refl)

-- ---- what the reply theorem asks

pub games_fit : GamesFit
games_fit g known out = by (tested (eqb g.number 0))
  where
    kuhn-fit : eqb g.number 0 ≡ true → tree_of g ≡ tree_of_kuhn 1 1 g.seats → Fit g
    kuhn-fit t e = record {
      splits = subst (λ b. Splits (cond b (KuhnTree.C g.seats) 120) (cond b (KuhnTree.m g.seats) 8) (tree_of g)) (sym t) (subst (Splits (KuhnTree.C g.seats) (KuhnTree.m g.seats)) (sym e) (KuhnFacts.fans-divide 1 1 g.seats));
      recall = λ i w. subst (PerfectRecall i) (sym e) (KuhnFacts.recalls 1 1 g.seats i);
      actions = subst SameActions (sym e) (KuhnFacts.actions_by_key 1 1 g.seats);
      pays = λ i w. subst (λ b. Pays (cond b (KuhnTree-Facts.largest_payoff 1 1 g.seats) 13) i (tree_of g)) (sym t) (subst (Pays (KuhnTree-Facts.largest_payoff 1 1 g.seats) i) (sym e) (KuhnFacts.payoffs-bounded 1 1 g.seats i (kuhn_least g (eqb-true g.number 0 t) out) w));
    }

    leduc-fit : eqb g.number 0 ≡ false → tree_of g ≡ tree_of_leduc 1 2 4 → Fit g
    leduc-fit t e = record {
      splits = subst (λ b. Splits (cond b (KuhnTree.C g.seats) 120) (cond b (KuhnTree.m g.seats) 8) (tree_of g)) (sym t) (subst (Splits 120 8) (sym e) (LeducFacts.fans-divide 1 2 4));
      recall = λ i w. subst (PerfectRecall i) (sym e) (LeducFacts.recalls 1 2 4 i (let s = leduc_two g (eqb-false g.number 0 t) out in omega arith));
      actions = subst SameActions (sym e) (LeducFacts.actions_by_key 1 2 4);
      pays = λ i w. subst (λ b. Pays (cond b (KuhnTree-Facts.largest_payoff 1 1 g.seats) 13) i (tree_of g)) (sym t) (subst (Pays 13 i) (sym e) (LeducFacts.payoffs-bounded 1 2 4 i));
    }

    by : Tested (eqb g.number 0) → Fit g
    by (holds t) = kuhn-fit t (kuhn-tree_is g (eqb-true g.number 0 t))
    by (fails t) = leduc-fit t (leduc-tree_is g (eqb-false g.number 0 t))

pub reply-best : ReplyBest
reply-best g D i table known out w d v =
    let f = games_fit g known out in reply-table-best (tree_of g) (C g) (m g) D i table d f.splits (f.recall i w) f.actions v

-- ---- the paper's sentences on whole units

pub games_units_exact : UnitsExact
games_units_exact g D s known out d = units_exact (C g) (m g) D s (tree_of g) d (games_fit g known out).splits

pub games_units-add_up : UnitsAddUp
games_units-add_up g D table known out d v = let f = games_fit g known out in table-units-add_up (tree_of g) (C g) (m g) D table d f.splits f.actions v

pub own_entries-free : OwnEntriesFree
own_entries-free g D i table z known out k = own_table-entries-free (tree_of g) D (root_units g D) i table z (games_fit g known out).actions k

open_recalls : (g : Game) (D i : ℕ) (table : Table) → g.number ≤ 1 → seats-out g ≡ false → i < g.seats → RecallsOwn (open_to g D i table)
open_recalls g D i table known out w = recall_kept D i (root_units g D) (strategy_of (tree_of g) table) (tree_of g) ((games_fit g known out).recall i w)

pub games_best-decides : BestDecides
games_best-decides g D i table known out w = best-decides (open_to g D i table) (open_recalls g D i table known out w)

pub games_decides-alike : DecidesAlike
unfolding table_best
games_decides-alike g D i table c known out w = decides-alike (open_to g D i table) c (open_recalls g D i table known out w)

pub finer_rivals : FinerRivals
finer_rivals g D E i table z known out w d e r =
    let f = games_fit g known out in
    let (exact, units) = finer-table-units (tree_of g) (C g) (m g) D E i table z d e f.splits f.actions r in
    (exact, units, finer-products (tree_of g) (C g) (m g) D E i table z d e f.splits (f.recall i w) f.actions r)

pub finer_of_D : FinerOfD
finer_of_D g D i z known out d = worth_of_grain_D (tree_of g) (C g) (m g) D i z d (games_fit g known out).splits

pub finer-reply : FinerReply
finer-reply g D E i table known out w d e v =
    let f = games_fit g known out in finer-reply-best (tree_of g) (C g) (m g) D E i table d e f.splits (f.recall i w) f.actions v

pub conv_zero : ConvZero
conv_zero g D table known out d v =
    let f = games_fit g known out in nash_conv_zero (tree_of g) (C g) (m g) D g.seats table d f.splits f.recall f.actions v

-- ---- the root has units

factorial-positive : (n : ℕ) → 0 < KuhnTree.factorial n
unfolding KuhnTree.factorial
factorial-positive zero = omega arith
factorial-positive (suc n) = NatL.mul-pos {m = suc n} (omega arith) (factorial-positive n)

pub fans-positive : (g : Game) → 0 < C g
unfolding KuhnTree.C
fans-positive g = at (is_kuhn g)
  where
    at : (t : Bool) → 0 < cond t (KuhnTree.C g.seats) 120
    at true = factorial-positive (g.seats + 1)
    at false = omega arith

-- The constant counts are those of the definitions. Assumes nothing.
use mathlib.Core.Path.{◌≡◌, refl, sym, ap, ◌∙◌}
use mathlib.Core.Bool.{Bool, true, false, cond}
use mathlib.Core.List.{List}
use Prim.Native.Nat.{ℕ, zero, suc, ◌+◌, ◌≤◌, ◌<◌}
use native.Mathlib.Omega.{arith}
use lib.Dec.{eqb, ltb}
use borrow.Author.Tests.{eq-eqb, ne_eqb, eqb-true, eqb-false, ltb-false}
use lib.ListN.{length, get_or, take, replicate, length-replicate, get_or-replicate}
use Rattle.prelude.specs.Finite.{◌or◌, places}
use Rattle.prelude.proofs.Tests.{Tested, holds, fails, tested, or_false_left, or_false_right}
use Rattle.kuhn_tree.specs.Counts.{deal_nodes, kuhn_nodes, kuhn_sets, kuhn_entries}
use Rattle.leduc_tree.specs.Turns.{actions_in_order}
use Rattle.leduc_tree.specs.Counts.{leduc_nodes, leduc_sets, leduc_entries}
use Rattle.leduc_set_actions.proofs.Facts.{threes, actions_at, in_words, actions_in_all}
use Rattle.games.specs.Seats.{seats-out}
use Rattle.games.specs.Facts.{nodes_of, sets_of, entries_of}
use Rattle.games.specs.internal.Actions.{actions_of}
use Rattle.games.specs.Games.{Game, is_kuhn}
use Rattle.games.proofs.Totals.{total, total_same, total_more, total_most}

-- what holds of each number from 2 to 10
pub each_seats : (P : ℕ → Type 0) → P 2 → P 3 → P 4 → P 5 → P 6 → P 7 → P 8 → P 9 → P 10 → (n : ℕ) → 2 ≤ n → n ≤ 10 → P n
each_seats P a b c d e f g h i zero u v = absurd (omega arith)
each_seats P a b c d e f g h i (suc zero) u v = absurd (omega arith)
each_seats P a b c d e f g h i (suc (suc zero)) u v = a
each_seats P a b c d e f g h i (suc (suc (suc zero))) u v = b
each_seats P a b c d e f g h i (suc (suc (suc (suc zero)))) u v = c
each_seats P a b c d e f g h i (suc (suc (suc (suc (suc zero))))) u v = d
each_seats P a b c d e f g h i (suc (suc (suc (suc (suc (suc zero)))))) u v = e
each_seats P a b c d e f g h i (suc (suc (suc (suc (suc (suc (suc zero))))))) u v = f
each_seats P a b c d e f g h i (suc (suc (suc (suc (suc (suc (suc (suc zero)))))))) u v = g
each_seats P a b c d e f g h i (suc (suc (suc (suc (suc (suc (suc (suc (suc zero))))))))) u v = h
each_seats P a b c d e f g h i (suc (suc (suc (suc (suc (suc (suc (suc (suc (suc zero)))))))))) u v = i
each_seats P a b c d e f g h i (suc (suc (suc (suc (suc (suc (suc (suc (suc (suc (suc n))))))))))) u v = absurd (omega arith)

-- with more than six seats there are too many nodes
pub six-seats : (n : ℕ) → 2 ≤ n → n ≤ 10 → kuhn_nodes n ≤ 4000000 → n ≤ 6
unfolding deal_nodes
six-seats = each_seats (λ n. kuhn_nodes n ≤ 4000000 → n ≤ 6) (λ h. omega arith) (λ h. omega arith) (λ h. omega arith) (λ h. omega arith) (λ h. omega arith)
    (λ h. omega arith) (λ h. omega arith) (λ h. omega arith) (λ h. omega arith)

few_sets : (n : ℕ) → 2 ≤ n → n ≤ 10 → kuhn_sets n ≤ 56320
few_sets = each_seats (λ n. kuhn_sets n ≤ 56320) (omega arith) (omega arith) (omega arith) (omega arith) (omega arith) (omega arith) (omega arith) (omega arith) (omega arith)

-- the seats of Kuhn, once number 2 is settled
module _ (g : Game) (k : g.number ≡ 0) where
  seats-kuhn : seats-out g ≡ false → (ltb g.seats 2 or ltb 10 g.seats) ≡ false
  seats-kuhn e = rw (eq-eqb g.number 0 k) at e

  pub kuhn_least : seats-out g ≡ false → 2 ≤ g.seats
  kuhn_least e = ltb-false g.seats 2 (or_false_left (ltb g.seats 2) (ltb 10 g.seats) (seats-kuhn e))

  pub kuhn_most : seats-out g ≡ false → g.seats ≤ 10
  kuhn_most e = ltb-false 10 g.seats (or_false_right (ltb g.seats 2) (ltb 10 g.seats) (seats-kuhn e))

  pub kuhn-nodes : nodes_of g ≡ kuhn_nodes g.seats
  kuhn-nodes = ap (λ t. cond t (kuhn_nodes g.seats) leduc_nodes) (eq-eqb g.number 0 k)

  kuhn-sets : sets_of g ≡ kuhn_sets g.seats
  kuhn-sets = ap (λ t. cond t (kuhn_sets g.seats) leduc_sets) (eq-eqb g.number 0 k)

  pub sets_at_most : seats-out g ≡ false → sets_of g ≤ 56320
  sets_at_most e = rw kuhn-sets (few_sets g.seats (kuhn_least e) (kuhn_most e))

  pub kuhn-actions : (x : ℕ) → x < sets_of g → 2 ≡ get_or (actions_of g) x 0
  unfolding actions_of
  kuhn-actions x w = sym (get_or-replicate (kuhn_sets g.seats) x 2 0 (rw (eq-eqb g.number 0 k) at w)) ∙ ap (λ t. get_or (cond t (replicate (kuhn_sets g.seats) 2) actions_in_order) x 0) (sym (eq-eqb g.number 0 k))

module _ (g : Game) (k : g.number ≡ 0 → ⊥) where
  pub leduc-nodes : leduc_nodes ≡ nodes_of g
  leduc-nodes = ap (λ t. cond t (kuhn_nodes g.seats) leduc_nodes) (sym (ne_eqb g.number 0 k))

  pub leduc-sets : leduc_sets ≡ sets_of g
  leduc-sets = ap (λ t. cond t (kuhn_sets g.seats) leduc_sets) (sym (ne_eqb g.number 0 k))

  pub leduc-actions : (x : ℕ) → get_or actions_in_order x 0 ≡ get_or (actions_of g) x 0
  unfolding actions_of
  leduc-actions x = ap (λ t. get_or (cond t (replicate (kuhn_sets g.seats) 2) actions_in_order) x 0) (sym (ne_eqb g.number 0 k))

pub sets-bounded : (g : Game) → seats-out g ≡ false → sets_of g ≤ 56320
sets-bounded g out = at (tested (eqb g.number 0))
  where
    at : Tested (eqb g.number 0) → sets_of g ≤ 56320
    at (holds e) = sets_at_most g (eqb-true g.number 0 e) out
    at (fails e) = omega (arith, leduc-sets g (eqb-false g.number 0 e))

-- ---- the actions of all sets

words-total : total (places leduc_sets actions_at) ≡ leduc_entries
unfolding total actions_at threes places
words-total = refl

leduc-total : total actions_in_order ≡ leduc_entries
leduc-total = ap total in_words ∙ words-total

pub actions-counted : (g : Game) → length (actions_of g) ≡ sets_of g
unfolding actions_of
actions-counted g = at (is_kuhn g)
  where
    at : (b : Bool) → length (cond b (replicate (kuhn_sets g.seats) 2) actions_in_order) ≡ cond b (kuhn_sets g.seats) leduc_sets
    at true = length-replicate (kuhn_sets g.seats) 2
    at false = actions_in_all

pub actions-total : (g : Game) → total (actions_of g) ≡ entries_of g
unfolding actions_of
actions-total g = at (is_kuhn g)
  where
    at : (b : Bool) → total (cond b (replicate (kuhn_sets g.seats) 2) actions_in_order) ≡ cond b (kuhn_entries g.seats) leduc_entries
    at true = total_same (kuhn_sets g.seats) 2
    at false = leduc-total

pub in_actions : (g : Game) (i : ℕ) → i < sets_of g → i < length (actions_of g)
in_actions g i w = rw (actions-counted g) w

-- there is room for each set's part
pub part_room : (g : Game) (table : List ℕ) (i : ℕ) → length table ≡ entries_of g → i < sets_of g → total (take i (actions_of g)) + get_or (actions_of g) i 0 ≤ length table
part_room g table i e w =
    let t = total_more (actions_of g) i (rw (actions-counted g) w) in
    let u = total_most (actions_of g) (i + 1) in
    let v = actions-total g in
    omega arith

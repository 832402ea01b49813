-- Kuhn's tree from the start, laid out from place 0 on. Assumes nothing.
use mathlib.Core.Path.{◌≡◌, sym, ap, ◌∙◌}
use mathlib.Core.List.{List, []}
use Prim.Native.Nat.{ℕ, zero, suc, ◌-◌, ◌≤◌, ◌<◌}
use native.Mathlib.Omega.{arith}
use lib.ListN.{length}
use Rattle.game_tree.specs.Sets.{size}
use Rattle.arena.specs.internal.Built.{Built, Room}
use Rattle.kuhn_rules.specs.Moves.{start}
use Rattle.kuhn_rules.specs.Stakes.{ante, stake}
use Rattle.kuhn_tree.specs.Tree.{tree_of_kuhn}
use Rattle.kuhn_tree.specs.Counts.{deal_nodes, kuhn_nodes}
use Rattle.kuhn_tree.proofs.Shape.{deals, kuhn-deals}
use Rattle.kuhn_tree.proofs.Facts.{counted}
use Rattle.kuhn_arena_layout.specs.internal.Layout.{code_of, deal_at, Dealing}
use Rattle.arena.specs.internal.Words.{PLACES}

-- the five numbers of seats, one by one
pub by_seats : (P : ℕ → Type 0) → P 2 → P 3 → P 4 → P 5 → P 6 → (n : ℕ) → 2 ≤ n → n ≤ 6 → P n
by_seats P a b c d e zero l k = absurd (omega arith)
by_seats P a b c d e (suc zero) l k = absurd (omega arith)
by_seats P a b c d e (suc (suc zero)) l k = a
by_seats P a b c d e (suc (suc (suc zero))) l k = b
by_seats P a b c d e (suc (suc (suc (suc zero)))) l k = c
by_seats P a b c d e (suc (suc (suc (suc (suc zero))))) l k = d
by_seats P a b c d e (suc (suc (suc (suc (suc (suc zero)))))) l k = e
by_seats P a b c d e (suc (suc (suc (suc (suc (suc (suc n))))))) l k = absurd (omega arith)

-- with up to six seats the nodes fit the field of a place
pub nodes-few : (n : ℕ) → 2 ≤ n → n ≤ 6 → kuhn_nodes n < PLACES
unfolding deal_nodes
nodes-few = by_seats (λ n. kuhn_nodes n < PLACES) (omega arith) (omega arith) (omega arith) (omega arith) (omega arith)

module _ (n : ℕ) (two : 2 ≤ n) (six : n ≤ 6) (none : List ℕ) (empty : none ≡ []) where
  pub starts : Dealing n none
  starts = rw empty (record { least = two; most = six; few = omega arith; reached = start })

  tree_is : deal_at n none ≡ tree_of_kuhn ante stake n
  unfolding deal_at
  tree_is = rw empty (ap (λ k. deals ante stake n k []) (let z : n - 0 ≡ n = omega arith in z) ∙ sym (kuhn-deals ante stake n))

  tree-size : size (deal_at n none) ≡ kuhn_nodes n
  tree-size = ap size tree_is ∙ (counted ante stake n (omega arith)).0

  pub start_room : (w : List ℕ) → kuhn_nodes n ≤ length w → Room 0 w (size (deal_at n none))
  start_room w h = rw tree-size (record { words = omega arith; places = omega (arith, nodes-few n two six) })

  pub built_tree : {v w : List ℕ} {r : ℕ} → Built n (code_of n) 0 v w (deal_at n none) r → Built n (code_of n) 0 v w (tree_of_kuhn ante stake n) r
  built_tree b = rw tree_is at b

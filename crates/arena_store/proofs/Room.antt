-- The room of a game's stored tree, and of what stands behind it. Assumes nothing.
use mathlib.Core.Path.{◌≡◌, refl, sym, ◌∙◌, subst}
use mathlib.Core.List.{List, [], ◌∷◌}
use Prim.Native.Nat.{ℕ, zero, suc, ◌+◌, ◌-◌, ◌*◌, ◌≤◌}
use native.Mathlib.Omega.{arith}
use lib.Dec.{eqb}
use lib.ListN.{get_or}
use borrow.Author.Tests.{eq-eqb, eqb-true}
use Rattle.prelude.proofs.Tests.{Tested, holds, fails, tested}
use Rattle.game_tree.specs.Tree.{Tree, end, chance, decide}
use Rattle.kuhn_tree.specs.Counts.{deal_nodes, kuhn_nodes, kuhn_entries, kuhn_sets}
use Rattle.kuhn_tree.proofs.Shape.{deals, kuhn-deals}
use Rattle.kuhn_arena_layout.specs.internal.Layout.{code_count}
use Rattle.leduc_tree_facts.proofs.Facts as Leduc-facts
use Rattle.games.specs.Games.{Game, tree_of}
use Rattle.games.specs.Facts.{nodes_of, entries_of, sets_of}
use Rattle.games.specs.Known.{Known}
use Rattle.games.proofs.Known.{kuhn_two, kuhn-six}
use Rattle.kuhn_arena_layout.proofs.Start.{by_seats}
use Rattle.arena_store.specs.internal.Stored.{codes_of}
use Rattle.arena_store.specs.internal.Places.{kept_at}

-- a chance node
unfoldable pub Deals : Tree → Type 0
Deals (end p) = ⊥
Deals (chance f) = Unit {0}
Deals (decide j k f) = ⊥

-- everything has its room, in the words for the tree and in the numbers of places
pub record Roomy (g : Game) : Type 0 where
  pub nodes : nodes_of g ≤ 2097151
  pub codes : codes_of g ≤ 16384
  pub entries : entries_of g ≤ 16384
  pub sets : sets_of g ≤ 16384
  pub within : kept_at g + entries_of g ≤ 12 * nodes_of g
  pub near : kept_at g + entries_of g ≤ 8388608

abbrev Room : (nodes codes entries sets : ℕ) → Type 0
Room nodes codes entries sets =
    (nodes ≤ 2097151) × (codes ≤ 16384) × (entries ≤ 16384) × (sets ≤ 16384) × (nodes + codes + entries + nodes + entries ≤ 12 * nodes) × (nodes + codes + entries + nodes + entries ≤ 8388608)

kuhn_room : (n : ℕ) → 2 ≤ n → n ≤ 6 → Room (kuhn_nodes n) (code_count n) (kuhn_entries n) (kuhn_sets n)
unfolding deal_nodes
kuhn_room = by_seats (λ n. Room (kuhn_nodes n) (code_count n) (kuhn_entries n) (kuhn_sets n)) (omega arith, omega arith, omega arith, omega arith, omega arith, omega arith)
    (omega arith, omega arith, omega arith, omega arith, omega arith, omega arith) (omega arith, omega arith, omega arith, omega arith, omega arith, omega arith)
    (omega arith, omega arith, omega arith, omega arith, omega arith, omega arith) (omega arith, omega arith, omega arith, omega arith, omega arith, omega arith)

-- the codes as a program holds them
abbrev pub kuhn-codes : List ℕ
kuhn-codes = 24 ∷ 128 ∷ 640 ∷ 3072 ∷ 14336 ∷ []

kuhn-codes_are : (n : ℕ) → 2 ≤ n → n ≤ 6 → get_or kuhn-codes (n - 2) 0 ≡ code_count n
kuhn-codes_are = by_seats (λ n. get_or kuhn-codes (n - 2) 0 ≡ code_count n) refl refl refl refl refl

module _ (g : Game) (a : Known g) where
  pub codes-kuhn : g.number ≡ 0 → get_or kuhn-codes (g.seats - 2) 0 ≡ codes_of g
  codes-kuhn k = kuhn-codes_are g.seats (kuhn_two g a k) (kuhn-six g a k) ∙ sym (rw (eq-eqb g.number 0 k) refl)

  pub roomy : Roomy g
  roomy = at (tested (eqb g.number 0))
    where
      at : Tested (eqb g.number 0) → Roomy g
      at (holds t) = let k = eqb-true g.number 0 t in let r = kuhn_room g.seats (kuhn_two g a k) (kuhn-six g a k) in
          record { nodes = rw t r.0; codes = rw t r.1; entries = rw t r.2; sets = rw t r.3; within = rw t r.4; near = rw t r.5 }
      at (fails t) = record { nodes = rw t (omega arith); codes = rw t (omega arith); entries = rw t (omega arith); sets = rw t (omega arith); within = rw t (omega arith); near = rw t (omega arith) }

  -- the root deals
  pub root-deals : Deals (tree_of g)
  unfolding tree_of deals Deals
  root-deals = at (tested (eqb g.number 0))
    where
      kuhn : (n : ℕ) → 2 ≤ n → Deals (deals 1 1 n n [])
      kuhn zero l = absurd (omega arith)
      kuhn (suc n) l = tt

      at : Tested (eqb g.number 0) → Deals (tree_of g)
      at (holds t) = let k = eqb-true g.number 0 t in rw t (subst Deals (sym (kuhn-deals 1 1 g.seats)) (kuhn g.seats (kuhn_two g a k)))
      at (fails t) = rw t (subst Deals (sym (Leduc-facts.deals_first 1 2 4)) tt)

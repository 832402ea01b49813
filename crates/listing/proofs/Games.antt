-- The listing by game number, and what a call answers. Assumes nothing.
use mathlib.Core.Path.{◌≡◌, sym, ap, ◌∙◌}
use mathlib.Core.Bool.{false, cond}
use mathlib.Core.List.{List, ◌++◌}
use Prim.Native.Nat.{ℕ, zero, suc, ◌+◌, ◌*◌, ◌≤◌}
use native.Mathlib.Omega.{arith}
use lib.ListN.{length, drop}
use lib.Seq.{sets, sets-eq}
use borrow.Author.Tests.{eq-eqb, ne_eqb}
use Rattle.game_tree.specs.Sets.{size, set_count}
use Rattle.kuhn_tree.specs.Tree.{tree_of_kuhn}
use Rattle.kuhn_tree.specs.Positions as Kuhn-tree
use Rattle.leduc_tree.specs.Tree.{tree_of_leduc}
use Rattle.leduc_tree.specs.Positions as Leduc-tree
use Rattle.games.specs.Games.{Game, tree_of}
use Rattle.games.specs.Seats.{seats-out}
use Rattle.games.specs.Facts.{nodes_of, sets_of}
use Rattle.games.proofs.Facts.{counted_games}
use Rattle.listing_records.specs.Listing.{listing}
use Rattle.listing_records.proofs.Bytes.{length-listing}
use Rattle.kuhn_listing.specs.Listing as Kuhn
use Rattle.kuhn_listing.specs.Facts.{listing_of_kuhn}
use Rattle.leduc_listing.specs.Listing as Leduc
use Rattle.leduc_listing.specs.Facts.{listing_of_leduc}
use Rattle.listing.specs.Calls.{cards_at, listing_of, written}

-- ---- which game is listed
module _ (g : Game) where
  pub kuhn-listed : g.number ≡ 0 → listing_of g ≡ listing_of_kuhn g.seats
  unfolding listing_of cards_at tree_of listing_of_kuhn
  kuhn-listed e = ap (λ b. listing (cond b (tree_of_kuhn 1 1 g.seats) (tree_of_leduc 1 2 4)) (λ a. cond b (Kuhn.cards_of (Kuhn-tree.position_of (cond b (tree_of_kuhn 1 1 g.seats) (tree_of_leduc 1 2 4)) g.seats a)) (Leduc.cards_of (Leduc-tree.position_of (cond b (tree_of_kuhn 1 1 g.seats) (tree_of_leduc 1 2 4)) a)))) (eq-eqb g.number 0 e)

  pub leduc-listed : (g.number ≡ 0 → ⊥) → listing_of g ≡ listing_of_leduc
  unfolding listing_of cards_at tree_of listing_of_leduc
  leduc-listed e = ap (λ b. listing (cond b (tree_of_kuhn 1 1 g.seats) (tree_of_leduc 1 2 4)) (λ a. cond b (Kuhn.cards_of (Kuhn-tree.position_of (cond b (tree_of_kuhn 1 1 g.seats) (tree_of_leduc 1 2 4)) g.seats a)) (Leduc.cards_of (Leduc-tree.position_of (cond b (tree_of_kuhn 1 1 g.seats) (tree_of_leduc 1 2 4)) a)))) (ne_eqb g.number 0 e)

  pub listing-length : length (listing_of g) ≡ 24 * set_count (tree_of g)
  unfolding listing_of
  listing-length = length-listing (tree_of g) (cards_at g)

-- ---- the counts
module _ (g : Game) (out : seats-out g ≡ false) where
  pub nodes-counted : (n : ℕ) → n ≡ nodes_of g → n ≡ size (tree_of g)
  nodes-counted n e = e ∙ sym (counted_games g out).0

  pub sets-counted : (n : ℕ) → n ≡ sets_of g → n ≡ set_count (tree_of g)
  sets-counted n e = e ∙ sym (counted_games g out).1

-- ---- the output
pub written_on : (r : ℕ) (g : Game) (out x : List ℕ) → r ≡ 0 → length (listing_of g) ≤ length out → x ≡ sets out 0 (listing_of g) → x ≡ written r g out
written_on zero g out x z l e = e ∙ sets-eq (listing_of g) out 0 (omega arith) ∙ ap (λ n. listing_of g ++ drop n out) from_start
  where
    from_start : 0 + length (listing_of g) ≡ length (listing_of g)
    from_start = omega arith
written_on (suc r) g out x z l e = absurd (omega arith)

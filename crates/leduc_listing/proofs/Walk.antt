-- The walk over Leduc's cards and actions writes the listing of its tree. Assumes nothing.
use mathlib.Core.Path.{◌≡◌, refl, sym, ap, subst, subst₂, ◌∙◌}
use mathlib.Core.Bool.{true, cond}
use mathlib.Core.List.{List, [], ◌∷◌, ◌++◌, map, map-append}
use Prim.Native.Nat.{ℕ, zero, suc}
use lib.IntN.{ℤ}
use borrow.Author.Tests.{eq-eqb}
use Rattle.prelude.proofs.Tests.{both}
use Rattle.game_tree.specs.Tree.{Tree}
use Rattle.game_tree.specs.Sets.{Decision, preorder, preorder_all}
use Rattle.leduc_rules.specs.Rules.{legal}
use Rattle.leduc_rules.specs.Stakes.{ante, raise₁, raise₂}
use Rattle.leduc_tree.specs.Tree.{Position, start, actor, choices, payoff, after_deal, after_action, Next, card, action, nothing, next, each, below, fuel, tree_of_leduc}
use Rattle.leduc_tree.specs.internal.Tree.{acts}
use Rattle.leduc_tree.specs.Tree as Tree
use Rattle.leduc_tree.specs.Positions.{dealt, acted, positions, positions_all}
use Rattle.leduc_tree.specs.Turns.{joined, turns, is_first, decision_at}
use Rattle.leduc_tree.proofs.Growth.{Case, is_action, case}
use Rattle.leduc_tree.proofs.Firsts.{fan_each}
use Rattle.leduc_tree.proofs.Firsts as Firsts
use Rattle.leduc_tree.proofs.Computed.{turns-told}
use Rattle.listing_records.specs.Listing.{listing, bytes_of}
use Rattle.listing_records.proofs.Walk.{Marked, none, over, deal, act, marked_append, Tells, kept, listed_by_walk}
use Rattle.leduc_listing.specs.Listing.{cards_of}
use Rattle.leduc_listing.specs.Facts.{tree, listing_of_leduc}
use Rattle.leduc_listing.specs.internal.Walk.{records_of}

abbrev Mark : Type 0
Mark = Decision × Position

-- the decision of a position, with it
abbrev mark : Position → Mark
mark q = (decision_at q, q)

-- ---- the nodes of the tree, with their positions
legal-acts : (q : Position) → acts q ≡ true → acted q.cards q.public q.first q.second ≡ after_action q
unfolding acted legal
legal-acts q e = ap (λ b. map (Tree.acted q) (cond b (choices q) [])) (both e (eq-eqb (actor q) (actor q) refl))

abbrev places : Tree → Position → List Position
places t q = positions t q.cards q.public q.first q.second

each_marked : (l : List Position) (g : Position → Tree) (x : Position → List Position) → ((s : Position) → Marked (preorder (g s)) (places (g s) s) (map mark (x s)))
    → Marked (preorder_all (each l g)) (positions_all (each l g) l) (map mark (joined l x))
unfolding each preorder positions joined
each_marked [] g x f = none
each_marked (s ∷ l) g x f = subst (λ ys. Marked (preorder (g s) ++ preorder_all (each l g)) (places (g s) s ++ positions_all (each l g) l) ys) (sym (map-append mark (x s) (joined l x)))
    (marked_append (f s) (each_marked l g x f))

module _ (pay : Position → ℕ → ℤ) where
  below_marked : (r : ℕ) (x : Next) (q : Position) → Case q x → Marked (preorder (below pay r x q)) (places (below pay r x q) q) (map mark (turns r x q))
  unfolding below preorder positions turns dealt
  below_marked zero x q c = over none
  below_marked (suc r) nothing q c = over none
  below_marked (suc r) card q c = deal (each_marked (after_deal q) (λ s. below pay r (next s) s) (λ s. turns r (next s) s) (λ s. below_marked r (next s) s (case s)))
  below_marked (suc r) action q (is_action e) = at (each_marked (after_action q) g (λ s. turns r (next s) s) (λ s. below_marked r (next s) s (case s)))
    where
      g : Position → Tree
      g s = below pay r (next s) s

      ts : List Mark
      ts = map mark (joined (after_action q) (λ s. turns r (next s) s))

      at : Marked (preorder_all (each (after_action q) g)) (positions_all (each (after_action q) g) (after_action q)) ts
          → Marked (preorder (below pay (suc r) action q)) (places (below pay (suc r) action q) q) (map mark (turns (suc r) action q))
      at m = subst₂ (λ n qs. Marked (preorder (below pay (suc r) action q)) (q ∷ positions_all (each (after_action q) g) qs) (((actor q, Tree.key q, n), q) ∷ ts))
          (fan_each (Tree.acted q) (choices q) g) (sym (legal-acts q e)) (act m)

-- ---- the rule on the cards tells which decision is met for the first time
tells-marked : (front : List Decision) (qs : List Position) → Firsts.Tells front qs → Tells is_first front (map mark qs)
unfolding Firsts.Tells Tells
tells-marked front [] h = tt
tells-marked front (q ∷ qs) (e, h) = (e, tells-marked (decision_at q ∷ front) qs h)

-- ---- their bytes
abbrev B : Decision → Position → List ℕ
B x q = bytes_of x (cards_of q)

kept_records : (qs : List Position) → kept is_first B (map mark qs) ≡ records_of qs
unfolding kept records_of
kept_records [] = refl
kept_records (q ∷ qs) = ap (λ r. cond (is_first q) (B (decision_at q) q ++ r) r) (kept_records qs)

pub walked : listing_of_leduc ≡ records_of (turns fuel (next start) start)
unfolding listing_of_leduc listing tree_of_leduc
walked = listed_by_walk is_first B tree (places tree start) (map mark (turns fuel (next start) start)) start
    (below_marked (payoff ante raise₁ raise₂) fuel (next start) start (case start))
    (tells-marked [] (turns fuel (next start) start) turns-told)
    ∙ kept_records (turns fuel (next start) start)

-- Deals as the builder goes through them: the cards left, one child each, and a hand once all are dealt. Assumes nothing.
use mathlib.Core.Path.{◌≡◌, refl, sym, ap, ◌∙◌, subst, fun_ext}
use mathlib.Core.Bool.{Bool, true, false, not, cond}
use mathlib.Core.List.{List, [], ◌∷◌, ◌++◌}
use Prim.Native.Nat.{ℕ, zero, suc, ◌+◌, ◌-◌, ◌≤◌, ◌<◌}
use native.Mathlib.Nat as NatL
use native.Mathlib.Omega.{arith}
use lib.Dec.{leb}
use lib.ListN.{length, take, set, length-append}
use lib.Seq.{take-append_seam}
use borrow.Author.Tests.{le-leb, lt-ltb}
use Rattle.prelude.specs.Finite.{◌and◌, those, has}
use Rattle.prelude.proofs.Lists.{those_kept, those_passed}
use Rattle.prelude.proofs.Tests.{Tested, holds, fails, tested, both}
use Rattle.game_tree.specs.Tree.{Tree, chance, nil, cons}
use Rattle.game_tree.specs.Sets.{size, sizes}
use Rattle.arena.specs.internal.Words.{chance_word, PLACES}
use Rattle.arena.specs.internal.Held.{Says}
use Rattle.arena.specs.internal.Built.{Built, Row, Room}
use Rattle.arena.proofs.Packing.{chance_kind, chance_next}
use Rattle.arena.proofs.Building.{size_some, row_none, row_one, row-join, join, join-nil, sizes-join, built_chance}
use Rattle.kuhn_rules.specs.Rules.{bet-made, left, remaining}
use Rattle.kuhn_rules.specs.Moves.{deal}
use Rattle.kuhn_rules.specs.Stakes.{ante, stake}
use Rattle.kuhn_rules.proofs.Moves.{reached-possible}
use Rattle.kuhn_rules.proofs.Facts.{possible-fair}
use Rattle.kuhn_tree.specs.Tree.{each}
use Rattle.kuhn_tree.proofs.Shape.{deals}
use Rattle.kuhn_arena_layout.specs.internal.Layout.{code_of, last_actions, history_at, before_bet, before_at, deal_at, children_to, child_at, Passing, Dealing}
use Rattle.kuhn_arena_layout.proofs.Hands.{whole_hand}

-- ---- rows of children
each_append : (xs ys : List ℕ) (g : ℕ → Tree) → each (xs ++ ys) g ≡ join (each xs g) (each ys g)
unfolding each join
each_append [] ys g = refl
each_append (x ∷ xs) ys g = ap (cons (g x)) (each_append xs ys g)

module _ (n : ℕ) (cs : List ℕ) where
  -- the tree below one card more
  abbrev below : ℕ → Tree
  below e = deal_at n (cs ++ (e ∷ []))

  pub children_none : children_to n cs 0 ≡ nil
  unfolding children_to those each
  children_none = refl

  pub children_more : (c : ℕ) → children_to n cs (suc c) ≡ join (children_to n cs c) (child_at n cs c)
  unfolding children_to child_at each
  children_more c = at (tested (left n cs c))
    where
      at : Tested (left n cs c) → each (those (suc c) (left n cs)) below ≡ join (each (those c (left n cs)) below) (cond (left n cs c) (cons (below c) nil) nil)
      at (holds e) = rw e (ap (λ l. each l below) (those_kept (left n cs) c e) ∙ each_append (those c (left n cs)) (c ∷ []) below)
      at (fails e) = rw e (ap (λ l. each l below) (those_passed (left n cs) c e) ∙ sym (join-nil _))

  pub children-sizes : (c : ℕ) → sizes (children_to n cs (suc c)) ≡ sizes (children_to n cs c) + sizes (child_at n cs c)
  children-sizes c = ap sizes (children_more c) ∙ sizes-join (children_to n cs c) (child_at n cs c)

  pub children-grow : (c i : ℕ) → sizes (children_to n cs c) ≤ sizes (children_to n cs (i + c))
  children-grow c zero = rw (NatL.zero-add c) (NatL.le_refl _)
  children-grow c (suc i) = rw (NatL.suc-add i c) (omega (arith, children-grow c i, children-sizes (i + c)))

  -- ---- a card more
  module _ (p : Dealing n cs) (less : length cs < n) (c : ℕ) (low : c ≤ n) where
    pub child_none : has c cs ≡ true → child_at n cs c ≡ nil
    unfolding child_at left ◌and◌
    child_none e = rw e (at (leb c n))
      where
        at : (b : Bool) → cond (b and not true) (cons (below c) nil) nil ≡ nil
        at true = refl
        at false = refl

    module _ (free : has c cs ≡ false) (more : List ℕ) (q : more ≡ cs ++ (c ∷ [])) where
      pub child_some : child_at n cs c ≡ cons (deal_at n more) nil
      unfolding child_at left ◌and◌
      child_some = rw (free, le-leb c n low, q) refl

      pub deals_on : Dealing n more
      unfolding left
      deals_on = rw q (record {
        least = p.least;
        most = p.most;
        few = omega (arith, length-append cs (c ∷ []));
        reached = deal c p.reached (lt-ltb (length cs) n less) (both (le-leb c n low) (ap not free));
      })

-- ---- a deal
chance_of : (n : ℕ) (cs : List ℕ) → length cs < n → deal_at n cs ≡ chance (children_to n cs (n + 1))
unfolding deal_at deals children_to remaining
chance_of n cs l = ap (λ k. deals ante stake n k cs) one_less
    ∙ ap (λ g. chance (each (those (n + 1) (left n cs)) g)) (fun_ext (λ c. ap (λ k. deals ante stake n k (cs ++ (c ∷ []))) (let e : n - suc (length cs) ≡ n - length (cs ++ (c ∷ [])) = omega (arith, length-append cs (c ∷ [])) in e)))
  where
    one_less : n - length cs ≡ suc (n - suc (length cs))
    one_less = omega arith

module _ (n : ℕ) (cs : List ℕ) (at : ℕ) (w : List ℕ) (p : Dealing n cs) (g : Room at w (size (deal_at n cs))) where
  -- all cards are dealt, and read as a list of n
  module _ (full : length cs ≡ n) (seen : List ℕ) (reads : seen ≡ cs) where
    deal-hand : deal_at n cs ≡ before_at n cs 0 (n - 0)
    unfolding deal_at deals before_at history_at last_actions
    deal-hand = ap (λ k. deals ante stake n k cs) (let z : n - length cs ≡ 0 = omega arith in z) ∙ whole_hand n cs (omega (arith, p.least)) ∙ ap (λ k. before_bet n cs k []) (let z : n ≡ n - 0 = omega arith in z)

    pub hand_room : Room at w (size (before_at (length seen) seen 0 (length seen - 0)))
    hand_room = rw (reads, full, ← deal-hand) g

    pub hand-starts : Passing (length seen) seen (history_at 0) 0 0
    unfolding history_at last_actions bet-made
    hand-starts = rw (reads, full) (record {
      deal = record {
        least = p.least;
        most = p.most;
        full = full;
        apart = possible-fair n cs [] (reached-possible n p.reached);
      };
      acted = refl;
      few = omega arith;
      quiet = refl;
      passes = omega arith;
    })

    pub deal_ends : {v : List ℕ} {r : ℕ} → Built (length seen) (code_of (length seen)) at w v (before_at (length seen) seen 0 (length seen - 0)) r → Built n (code_of n) at w v (deal_at n cs) r
    deal_ends b = rw deal-hand (rw (reads, full) at b)

  -- a card is to deal
  module _ (less : length cs < n) where
    deal-size : size (deal_at n cs) ≡ suc (sizes (children_to n cs (n + 1)))
    unfolding size
    deal-size = ap size (chance_of n cs less)

    module _ {c r : ℕ} {v : List ℕ} (b : Row n (code_of n) (at + 1) w v (children_to n cs c) r) (l : c ≤ n) where
      grows : sizes (children_to n cs (suc c)) ≤ sizes (children_to n cs (n + 1))
      grows = subst (λ i. sizes (children_to n cs (suc c)) ≤ sizes (children_to n cs i)) (omega arith) (children-grow n cs (suc c) (n - c))

      -- that card is dealt
      module _ (free : has c cs ≡ false) (more : List ℕ) (q : more ≡ cs ++ (c ∷ [])) where
        only-child : sizes (child_at n cs c) ≡ size (deal_at n more)
        unfolding size
        only-child = ap sizes (child_some n cs p less c l free more q) ∙ NatL.add-zero (size (deal_at n more))

        pub child_room : Room r v (size (deal_at n more))
        child_room = record {
          words = rw b.kept.long (omega (arith, b.next, g.words, deal-size, grows, children-sizes n cs c, only-child));
          places = omega (arith, b.next, g.places, deal-size, grows, children-sizes n cs c, only-child);
        }

        pub child_on : {u : List ℕ} {i : ℕ} → Built n (code_of n) r v u (deal_at n more) i → Row n (code_of n) (at + 1) w u (children_to n cs (c + 1)) i
        child_on {u} {i} h = let e : c + 1 ≡ suc c = omega arith in rw (e, children_more n cs c) (row-join n (code_of n) (at + 1) w v u (children_to n cs c) (child_at n cs c) r i b
            (rw (child_some n cs p less c l free more q) (row_one n (code_of n) r v u (deal_at n more) i h)))

      -- it is not
      pub child_passed : has c cs ≡ true → Row n (code_of n) (at + 1) w v (children_to n cs (c + 1)) r
      child_passed t = let e : c + 1 ≡ suc c = omega arith in rw (e, children_more n cs c) (row-join n (code_of n) (at + 1) w v v (children_to n cs c) (child_at n cs c) r r b
          (rw (child_none n cs p less c l t) (row_none n (code_of n) r v)))

    pub children-start : Row n (code_of n) (at + 1) w w (children_to n cs 0) (at + 1)
    children-start = rw (children_none n cs) (row_none n (code_of n) (at + 1) w)

    -- all children stand
    module _ {c r : ℕ} {v : List ℕ} (b : Row n (code_of n) (at + 1) w v (children_to n cs c) r) (e : c ≡ n + 1) where
      whole : Row n (code_of n) (at + 1) w v (children_to n cs (n + 1)) r
      whole = rw e at b

      pub behind-few : r < PLACES
      behind-few = omega (arith, whole.next, g.places, deal-size)

      pub deal_goes_on : {y : ℕ} {new : List ℕ} → y ≡ chance_word r → new ≡ set v at y → Built n (code_of n) at w new (deal_at n cs) r
      unfolding Says size
      deal_goes_on {y} {new} e f = rw (chance_of n cs less) (built_chance n (code_of n) at y w v new (children_to n cs (n + 1)) r
          (subst (λ i. Row n (code_of n) i w v (children_to n cs (n + 1)) r) (omega arith) whole) (omega (arith, g.words, size_some (deal_at n cs))) f
          (rw e (chance_kind r, chance_next r behind-few ∙ omega (arith, whole.next))))

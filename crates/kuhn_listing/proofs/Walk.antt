-- The walk over Kuhn's deals and histories writes the listing of its tree. Assumes nothing.
use mathlib.Core.Path.{◌≡◌, refl, sym, ap, ap₂, subst, subst₂, ◌∙◌}
use mathlib.Core.Logic.{inl, inr}
use mathlib.Core.Bool.{Bool, true, false, not, cond}
use mathlib.Core.List.{List, [], ◌∷◌, ◌++◌, map, map-append}
use Prim.Native.Nat.{ℕ, zero, suc, ◌+◌, ◌≤◌, ◌<◌}
use native.Mathlib.Nat as NatL
use native.Mathlib.Omega.{arith}
use lib.ListN.{length, get_or, length-append}
use borrow.Author.Tests.{eq-eqb}
use Rattle.prelude.specs.Finite.{every, those}
use Rattle.prelude.proofs.Tests.{Tested, holds, fails, tested, both}
use Rattle.prelude.proofs.Lists.{those_kept, those_passed}
use Rattle.game_tree.specs.Tree.{Tree, fan, nil, cons}
use Rattle.game_tree.specs.Sets.{Decision, preorder, preorder_all, decisions, decisions_all, met}
use Rattle.game_tree.proofs.Sets.{met_past, decisions_of_nodes}
use Rattle.game_tree.proofs.Walk.{passed}
use Rattle.game_tree.proofs.Counting.{In, Once}
use Rattle.kuhn_rules.specs.Rules.{PASS, BET, ended, turn, key, left, remaining}
use Rattle.kuhn_tree.specs.Tree.{each, m}
use Rattle.kuhn_tree.specs.Positions.{Position, dealt, acted, positions, positions_all}
use Rattle.kuhn_tree.specs.Order.{turns, histories, decision_at, lowest, first}
use Rattle.kuhn_tree.proofs.Cards.{in_of_left, remaining_less, remaining_all}
use Rattle.kuhn_tree.proofs.Growth.{legal-acts}
use Rattle.kuhn_tree.proofs.Shape.{hand, deals, kuhn-deals}
use Rattle.kuhn_tree.proofs.Sets.{turns_once}
use Rattle.kuhn_tree.proofs.Order.{other-history, Meets, under, meets_more}
use Rattle.listing_records.specs.Listing.{listing, bytes_of}
use Rattle.listing_records.specs.internal.Written.{joined}
use Rattle.listing_records.proofs.Bytes.{joined_last}
use Rattle.listing_records.proofs.Walk.{Marked, none, over, deal, act, marked_append, marked-decisions, Tells, tells_append, kept, kept_append, listed_by_walk}
use Rattle.kuhn_listing.specs.Listing.{cards_of}
use Rattle.kuhn_listing.specs.Facts.{tree, listing_of_kuhn}
use Rattle.kuhn_listing.specs.internal.Walk.{records_of, deal_records}

abbrev Mark : Type 0
Mark = Decision × Position

-- the decision of a history, with its position
abbrev mark : ℕ → List ℕ → List ℕ → Mark
mark n cs h = (decision_at n cs h, (cs, h))

-- k cards to deal, then the histories of a hand
unfoldable deal_marks : ℕ → ℕ → List ℕ → List Mark
unfolding joined histories
deal_marks n zero cs = map (mark n cs) (histories n)
deal_marks n (suc k) cs = joined (remaining n cs) (λ c. deal_marks n k (cs ++ (c ∷ [])))

-- ---- the nodes of the tree, with their positions
module _ (ante bet n : ℕ) where
  module _ (cs : List ℕ) (full : length cs ≡ n) where
    acts : (h : List ℕ) → ended n h ≡ false → acted n cs h ≡ (cs, h ++ (PASS ∷ [])) ∷ (cs, h ++ (BET ∷ [])) ∷ []
    unfolding acted
    acts h e = ap (map (λ a. (cs, h ++ (a ∷ [])))) (legal-acts n cs h (both (eq-eqb (length cs) n full) (ap not e)))

    hand-marked : (r : ℕ) (b : Bool) (h : List ℕ) → ended n h ≡ b → Marked (preorder (hand ante bet n cs r b h)) (positions n (hand ante bet n cs r b h) cs h) (map (mark n cs) (turns n r b h))
    unfolding hand preorder positions turns fan
    hand-marked zero b h e = over none
    hand-marked (suc r) true h e = over none
    hand-marked (suc r) false h e = at (hand-marked r (ended n (h ++ (PASS ∷ []))) (h ++ (PASS ∷ [])) refl) (hand-marked r (ended n (h ++ (BET ∷ []))) (h ++ (BET ∷ [])) refl)
      where
        t : ℕ → Tree
        t a = hand ante bet n cs r (ended n (h ++ (a ∷ []))) (h ++ (a ∷ []))

        hs : ℕ → List (List ℕ)
        hs a = turns n r (ended n (h ++ (a ∷ []))) (h ++ (a ∷ []))

        at : Marked (preorder (t PASS)) (positions n (t PASS) cs (h ++ (PASS ∷ []))) (map (mark n cs) (hs PASS))
            → Marked (preorder (t BET)) (positions n (t BET) cs (h ++ (BET ∷ []))) (map (mark n cs) (hs BET))
            → Marked (preorder (hand ante bet n cs (suc r) false h)) (positions n (hand ante bet n cs (suc r) false h) cs h) (map (mark n cs) (turns n (suc r) false h))
        at p q = subst₂ (λ qs xs. Marked (preorder (hand ante bet n cs (suc r) false h)) ((cs, h) ∷ positions_all n (cons (t PASS) (cons (t BET) nil)) qs) (mark n cs h ∷ xs))
            (sym (acts h e)) (ap (λ l. map (mark n cs) (hs PASS) ++ l) (sym (map-append (mark n cs) (hs BET) [])) ∙ sym (map-append (mark n cs) (hs PASS) (hs BET ++ [])))
            (act (marked_append p (marked_append q none)))

  each_marked : (cs l : List ℕ) (g : ℕ → Tree) (x : ℕ → List Mark) → ((c : ℕ) → Marked (preorder (g c)) (positions n (g c) (cs ++ (c ∷ [])) []) (x c))
      → Marked (preorder_all (each l g)) (positions_all n (each l g) (map (λ c. (cs ++ (c ∷ []), [])) l)) (joined l x)
  unfolding each preorder positions joined
  each_marked cs [] g x f = none
  each_marked cs (c ∷ l) g x f = marked_append (f c) (each_marked cs l g x f)

  deals-marked : (k : ℕ) (cs : List ℕ) → length cs + k ≡ n → Marked (preorder (deals ante bet n k cs)) (positions n (deals ante bet n k cs) cs []) (deal_marks n k cs)
  unfolding deals deal_marks preorder positions dealt histories
  deals-marked zero cs e = hand-marked cs (omega arith) (m n) (ended n []) [] refl
  deals-marked (suc k) cs e = deal (each_marked cs (remaining n cs) (λ c. deals ante bet n k (cs ++ (c ∷ []))) (λ c. deal_marks n k (cs ++ (c ∷ [])))
      (λ c. deals-marked k (cs ++ (c ∷ [])) (omega (arith, length-append cs (c ∷ [])))))

  -- their decisions
  deal-decisions : (k : ℕ) (cs : List ℕ) → length cs + k ≡ n → decisions (deals ante bet n k cs) ≡ map (λ x. x.0) (deal_marks n k cs)
  deal-decisions k cs e = decisions_of_nodes (deals ante bet n k cs) ∙ marked-decisions (deals-marked k cs e)

  each_decisions : (l : List ℕ) (g : ℕ → Tree) (x : ℕ → List Mark) → ((c : ℕ) → decisions (g c) ≡ map (λ y. y.0) (x c)) → decisions_all (each l g) ≡ map (λ y. y.0) (joined l x)
  unfolding each decisions joined
  each_decisions [] g x f = refl
  each_decisions (c ∷ l) g x f = ap₂ ◌++◌ (f c) (each_decisions l g x f) ∙ sym (map-append (λ y. y.0) (x c) (joined l x))

-- ---- the rule on the cards tells which decision is met for the first time
abbrev is_first : ℕ → Position → Bool
is_first n q = first n q.0 (turn n q.1)

tells-hand : (n : ℕ) (cs : List ℕ) (front : List Decision) (hs : List (List ℕ)) → Once hs
    → ((h : List ℕ) → In h hs → met (turn n h) (key cs h (turn n h)) front ≡ not (first n cs (turn n h))) → Tells (is_first n) front (map (mark n cs) hs)
unfolding Tells Once In
tells-hand n cs front [] o f = tt
tells-hand n cs front (h ∷ hs) o f = (f h (inl refl), tells-hand n cs (decision_at n cs h ∷ front) hs o.1 later)
  where
    later : (g : List ℕ) → In g hs → met (turn n g) (key cs g (turn n g)) (decision_at n cs h ∷ front) ≡ not (first n cs (turn n g))
    later g w = met_past (turn n g) (key cs g (turn n g)) (decision_at n cs h) front (other-history n cs h g (λ e. o.0 (rw (← e) at w))) ∙ f g (inr w)

module _ (ante bet n : ℕ) (one : 1 ≤ n) where
  module _ (k : ℕ) (cs : List ℕ) (cards : length cs + suc k ≡ n) (deck : length (remaining n cs) ≡ suc (suc k)) where
    abbrev M : ℕ → List Mark
    M c = deal_marks n k (cs ++ (c ∷ []))

    abbrev G : ℕ → Tree
    G c = deals ante bet n k (cs ++ (c ∷ []))

    under_marks : (b : ℕ) → under ante bet n one k cs cards deck b ≡ map (λ x. x.0) (joined (those b (left n cs)) M)
    unfolding under
    under_marks b = each_decisions ante bet n (those b (left n cs)) G M (λ c. deal-decisions ante bet n k (cs ++ (c ∷ [])) (omega (arith, length-append cs (c ∷ []))))

    tells-under : (front : List Decision) → Meets ante bet n one front cs
        → ((c : ℕ) (now : List Decision) → In c (remaining n cs) → Meets ante bet n one now (cs ++ (c ∷ [])) → Tells (is_first n) now (M c))
        → (b : ℕ) → b ≤ n + 1 → Tells (is_first n) front (joined (those b (left n cs)) M)
    unfolding Tells joined those
    tells-under front g f zero l = tt
    tells-under front g f (suc b) l = at (tested (left n cs b)) (tells-under front g f b (omega arith))
      where
        at : Tested (left n cs b) → Tells (is_first n) front (joined (those b (left n cs)) M) → Tells (is_first n) front (joined (those (suc b) (left n cs)) M)
        at (fails e) h = subst (λ l. Tells (is_first n) front (joined l M)) (sym (those_passed (left n cs) b e)) h
        at (holds e) h = subst (λ l. Tells (is_first n) front (joined l M)) (sym (those_kept (left n cs) b e))
            (subst (Tells (is_first n) front) (sym (joined_last (those b (left n cs)) b M))
            (tells_append (is_first n) front (joined (those b (left n cs)) M) (M b) h
            (subst (λ l. Tells (is_first n) (passed l front) (M b)) (under_marks b)
            (f b (passed (under ante bet n one k cs cards deck b) front) (in_of_left n cs b e) (meets_more ante bet n one k cs cards deck front g b (in_of_left n cs b e))))))

  tells-deals : (k : ℕ) (cs : List ℕ) (front : List Decision) → length cs + k ≡ n → length (remaining n cs) ≡ suc k → Meets ante bet n one front cs → Tells (is_first n) front (deal_marks n k cs)
  unfolding deal_marks histories remaining
  tells-deals zero cs front l e g = tells-hand n cs front (histories n) (turns_once n (m n) (ended n []) [])
      (λ h w. g h (get_or cs (turn n h) 0) w (inl (let q : turn n h < n = NatL.mod-lt (length h) one in omega arith, refl)))
  tells-deals (suc k) cs front l e g = tells-under k cs l e front g
      (λ c now w q. tells-deals k (cs ++ (c ∷ [])) now (omega (arith, length-append cs (c ∷ []))) (omega (arith, remaining_less n cs c w)) q) (n + 1) (NatL.le_refl (n + 1))

-- ---- their bytes
module _ (n : ℕ) where
  abbrev B : Decision → Position → List ℕ
  B x q = bytes_of x (cards_of q)

  kept_hand : (cs : List ℕ) (hs : List (List ℕ)) → kept (is_first n) B (map (mark n cs) hs) ≡ records_of n cs hs
  unfolding kept records_of
  kept_hand cs [] = refl
  kept_hand cs (h ∷ hs) = ap (λ r. cond (first n cs (turn n h)) (B (decision_at n cs h) (cs, h) ++ r) r) (kept_hand cs hs)

  kept_joined : (l : List ℕ) (x : ℕ → List Mark) (y : ℕ → List ℕ) → ((c : ℕ) → kept (is_first n) B (x c) ≡ y c) → kept (is_first n) B (joined l x) ≡ joined l y
  unfolding kept joined
  kept_joined [] x y f = refl
  kept_joined (c ∷ l) x y f = kept_append (is_first n) B (x c) (joined l x) ∙ ap₂ ◌++◌ (f c) (kept_joined l x y f)

  kept_deals : (k : ℕ) (cs : List ℕ) → kept (is_first n) B (deal_marks n k cs) ≡ deal_records n k cs
  unfolding deal_marks deal_records
  kept_deals zero cs = kept_hand cs (histories n)
  kept_deals (suc k) cs = kept_joined (remaining n cs) (λ c. deal_marks n k (cs ++ (c ∷ []))) (λ c. deal_records n k (cs ++ (c ∷ []))) (λ c. kept_deals k (cs ++ (c ∷ [])))

pub walked : (n : ℕ) → 1 ≤ n → listing_of_kuhn n ≡ deal_records n n []
unfolding listing_of_kuhn listing met lowest every
walked n one = listed_by_walk (is_first n) (B n) (tree n) (positions n (tree n) [] []) (deal_marks n n []) ([], [])
    (subst (λ t. Marked (preorder t) (positions n t [] []) (deal_marks n n [])) (sym (kuhn-deals 1 1 n)) (deals-marked 1 1 n n [] (NatL.zero-add n)))
    (tells-deals 1 1 n one n [] [] (NatL.zero-add n) (remaining_all n) (λ h x w q. refl))
    ∙ kept_deals n n []

-- What the walk writes, step by step: a node, the histories from it on, a deal, the deals of the lower cards. Assumes nothing.
use mathlib.Core.Path.{◌≡◌, refl, sym, ap, ap₂, subst, ◌∙◌}
use mathlib.Core.Bool.{Bool, true, false, not, cond}
use mathlib.Core.List.{List, [], ◌∷◌, ◌++◌, append-nil, append_assoc}
use Prim.Native.Nat.{ℕ, zero, suc, ◌+◌, ◌-◌, ◌≤◌, ◌<◌}
use native.Mathlib.Nat as NatL
use native.Mathlib.Numerals.{add-one}
use native.Mathlib.Omega.{arith}
use lib.Dec.{leb}
use lib.ListN.{length, get_or, get_or-append, take, length-append}
use lib.Seq.{get_or-append_seam, take-append_seam}
use borrow.Author.Tests.{le-leb}
use Rattle.prelude.specs.Finite.{some, those, has}
use Rattle.prelude.proofs.Tests.{Tested, holds, fails, tested, both, and_right_fails, none_at, below_cases}
use Rattle.prelude.proofs.Lists.{those_kept, those_passed}
use Rattle.kuhn_rules.specs.Rules.{PASS, BET, ended, turn, left, remaining}
use Rattle.kuhn_tree.specs.Tree.{m}
use Rattle.kuhn_tree.specs.Order.{turns, histories, decision_at, first}
use Rattle.listing_records.specs.declared.Writer.{Writer}
use Rattle.listing_records.specs.Listing.{padded, bytes_of}
use Rattle.listing_records.specs.internal.Written.{joined, Wrote}
use Rattle.listing_records.proofs.Bytes.{joined_last, length-bytes, wrote_as, wrote_nothing, wrote_append}
use Rattle.kuhn_listing.specs.Facts.{listing_of_kuhn}
use Rattle.kuhn_listing.specs.internal.Walk.{record_at, records_of, hand_records, deal_records, next_deals, InDeck}
use Rattle.kuhn_listing.proofs.Walk.{walked}

-- ---- a node
module _ (n : ℕ) (cs : List ℕ) where
  pub node_first : (h : List ℕ) → first n cs (turn n h) ≡ true → records_of n cs (h ∷ []) ≡ record_at n cs h
  unfolding records_of
  node_first h e = rw e (append-nil (record_at n cs h))

  pub node-later : (h : List ℕ) → first n cs (turn n h) ≡ false → records_of n cs (h ∷ []) ≡ []
  unfolding records_of
  node-later h e = rw e refl

  records_append : (gs hs : List (List ℕ)) → records_of n cs (gs ++ hs) ≡ records_of n cs gs ++ records_of n cs hs
  unfolding records_of
  records_append [] hs = refl
  records_append (g ∷ gs) hs = at (first n cs (turn n g)) (records_append gs hs)
    where
      at : (b : Bool) → records_of n cs (gs ++ hs) ≡ records_of n cs gs ++ records_of n cs hs
          → cond b (record_at n cs g ++ records_of n cs (gs ++ hs)) (records_of n cs (gs ++ hs)) ≡ cond b (record_at n cs g ++ records_of n cs gs) (records_of n cs gs) ++ records_of n cs hs
      at true e = ap (λ l. record_at n cs g ++ l) e ∙ sym (append_assoc (record_at n cs g) (records_of n cs gs) (records_of n cs hs))
      at false e = e

  -- ---- the histories from one on
  pub hand_none : (r : ℕ) (h : List ℕ) → r ≡ 0 → hand_records n cs r h ≡ []
  unfolding records_of turns
  hand_none r h e = ap (λ k. hand_records n cs k h) e

  pub hand-over : (r : ℕ) (h : List ℕ) → ended n h ≡ true → hand_records n cs r h ≡ []
  unfolding records_of turns
  hand-over zero h e = refl
  hand-over (suc r) h e = ap (λ b. records_of n cs (turns n (suc r) b h)) e

  pub hand_more : (r : ℕ) (h : List ℕ) → (r ≡ 0 → ⊥) → ended n h ≡ false
      → hand_records n cs r h ≡ records_of n cs (h ∷ []) ++ (hand_records n cs (r - 1) (h ++ (PASS ∷ [])) ++ hand_records n cs (r - 1) (h ++ (BET ∷ [])))
  unfolding turns
  hand_more zero h f e = absurd (f refl)
  hand_more (suc r) h f e = ap (λ b. records_of n cs (turns n (suc r) b h)) e ∙ records_append (h ∷ []) (ts PASS ++ (ts BET ++ []))
      ∙ ap (λ l. records_of n cs (h ∷ []) ++ l) (records_append (ts PASS) (ts BET ++ []) ∙ ap (λ l. records_of n cs (ts PASS) ++ records_of n cs l)
      (append-nil (ts BET)) ∙ ap (λ k. hand_records n cs k (h ++ (PASS ∷ [])) ++ hand_records n cs k (h ++ (BET ∷ []))) one_less)
    where
      ts : ℕ → List (List ℕ)
      ts a = turns n r (ended n (h ++ (a ∷ []))) (h ++ (a ∷ []))

      one_less : r ≡ suc r - 1
      one_less = omega arith

  -- ---- a deal of which no seat's nodes are first
  pub none_first : 1 ≤ n → some n (first n cs) ≡ false → (hs : List (List ℕ)) → records_of n cs hs ≡ []
  unfolding records_of
  none_first one e [] = refl
  none_first one e (h ∷ hs) = ap (λ b. cond b (record_at n cs h ++ records_of n cs hs) (records_of n cs hs)) (none_at n (first n cs) e (turn n h) (NatL.mod-lt (length h) one)) ∙ none_first one e hs

  pub whole_hand : (h : List ℕ) → h ≡ [] → hand_records n cs (m n) h ≡ records_of n cs (histories n)
  unfolding histories
  whole_hand h e = ap (hand_records n cs (m n)) e

-- ---- one more card
pub in_deck_more : (n : ℕ) (cards more : List ℕ) (c : ℕ) → more ≡ cards ++ (c ∷ []) → c ≤ n → InDeck n (length cards) cards → InDeck n (length more) more
in_deck_more n cards more c e w d i v = rw e (below_cases i (length cards) (rw (← long) v)
    (λ u. rw (get_or-append cards (c ∷ []) 0 i u) (d i u))
    (λ u. rw (u, get_or-append_seam cards c [] 0) w))
  where
    long : length more ≡ suc (length cards)
    long = ap length e ∙ length-append cards (c ∷ []) ∙ add-one (length cards)

-- ---- the deals of the cards below a bound, once cs are dealt
module _ (n : ℕ) (cs : List ℕ) where
  -- what stands below one of them
  abbrev pub below : ℕ → List ℕ
  below c = deal_records n (n - suc (length cs)) (cs ++ (c ∷ []))

  abbrev pub lower : ℕ → List ℕ
  lower b = next_deals n (length cs) cs b

  pub deals_none : lower 0 ≡ []
  unfolding next_deals those joined
  deals_none = refl

  deals_kept : (c : ℕ) → left n cs c ≡ true → lower (suc c) ≡ lower c ++ below c
  unfolding next_deals
  deals_kept c e = ap (λ l. joined l below) (those_kept (left n cs) c e) ∙ joined_last (those c (left n cs)) c below

  deals_passed : (c : ℕ) → left n cs c ≡ false → lower (suc c) ≡ lower c
  unfolding next_deals
  deals_passed c e = ap (λ l. joined l below) (those_passed (left n cs) c e)

  deals_grow : (c : ℕ) → length (lower c) ≤ length (lower (suc c))
  deals_grow c = at (tested (left n cs c))
    where
      at : Tested (left n cs c) → length (lower c) ≤ length (lower (suc c))
      at (holds e) = omega (arith, ap length (deals_kept c e), length-append (lower c) (below c))
      at (fails e) = omega (arith, ap length (deals_passed c e))

  deals-mount : (c i : ℕ) → length (lower c) ≤ length (lower (i + c))
  deals-mount c zero = rw (NatL.zero-add c) (NatL.le_refl _)
  deals-mount c (suc i) = rw (NatL.suc-add i c) (NatL.le_trans (deals-mount c i) (deals_grow (i + c)))

  pub all_lower : length cs < n → lower (n + 1) ≡ deal_records n (n - length cs) cs
  unfolding deal_records next_deals remaining
  all_lower l = ap (λ j. joined (those (n + 1) (left n cs)) (λ c. deal_records n j (cs ++ (c ∷ [])))) refl ∙ sym (ap (λ j. deal_records n j cs) one_less)
    where
      one_less : n - length cs ≡ suc (n - suc (length cs))
      one_less = omega arith

  -- all of them dealt, and read as a list of n cards
  pub full_deal : (seen : List ℕ) → seen ≡ cs → length cs ≡ n → deal_records n (n - length cs) cs ≡ records_of (length seen) seen (histories (length seen))
  unfolding deal_records
  full_deal seen e f = ap (λ j. deal_records n j cs) (let z : n - length cs ≡ 0 = omega arith in z) ∙ rw e (ap (λ k. records_of k cs (histories k)) (sym f))

  module _ (c : ℕ) (low : c ≤ n) where
    free : has c cs ≡ false → left n cs c ≡ true
    unfolding left
    free e = both (le-leb c n low) (ap not e)

    taken : has c cs ≡ true → left n cs c ≡ false
    unfolding left
    taken e = and_right_fails (leb c n) (ap not e)

    pub deals-taken : has c cs ≡ true → lower (c + 1) ≡ lower c
    deals-taken e = ap lower (add-one c) ∙ deals_passed c (taken e)

    -- one more card, in a list that holds it
    module _ (more : List ℕ) (is-more : more ≡ cs ++ (c ∷ [])) where
      pub below_is : deal_records n (n - length more) more ≡ below c
      below_is = ap₂ (deal_records n) (let e : length more ≡ suc (length cs) = ap length is-more ∙ length-append cs (c ∷ []) ∙ add-one (length cs) in ap (λ j. n - j) e) is-more

      pub deals_left : has c cs ≡ false → lower (c + 1) ≡ lower c ++ deal_records n (n - length more) more
      deals_left e = ap lower (add-one c) ∙ deals_kept c (free e) ∙ ap (λ l. lower c ++ l) (sym below_is)

      pub deals_fit : length cs < n → has c cs ≡ false → length (lower c) + length (deal_records n (n - length more) more) ≤ length (deal_records n (n - length cs) cs)
      deals_fit l e = omega (
        arith,
        ap length (deals_left e),
        length-append (lower c) (deal_records n (n - length more) more),
        ap length (all_lower l),
        up,
      )
        where
          up : length (lower (c + 1)) ≤ length (lower (n + 1))
          up = subst (λ k. length (lower (c + 1)) ≤ length (lower k)) (let e : n - c + (c + 1) ≡ n + 1 = omega arith in e) (deals-mount (c + 1) (n - c))

-- ---- the node with cards cs and history h
module _ (n : ℕ) (cs h : List ℕ) where
  abbrev pub node : List ℕ
  node = records_of n cs (h ∷ [])

  pub wrote-later : (old : Writer) → first n cs (turn n h) ≡ false → Wrote old old node
  wrote-later old e = wrote_nothing (node-later n cs h e)

  pub node-length : first n cs (turn n h) ≡ true → length node ≡ 24
  node-length e = ap length (node_first n cs h e) ∙ length-bytes (decision_at n cs h) (255, cs)

  pub wrote_here : (old new : Writer) (key : List ℕ) → first n cs (turn n h) ≡ true → key ≡ turn n h ∷ get_or cs (turn n h) 0 ∷ h
      → Wrote old new (turn n h ∷ length key ∷ padded 13 key ++ (255 ∷ padded 6 cs ++ (2 ∷ 0 ∷ []))) → Wrote old new node
  unfolding bytes_of
  wrote_here old new key e f w = wrote_as (ap (λ k. turn n h ∷ length k ∷ padded 13 k ++ (255 ∷ padded 6 cs ++ (2 ∷ 0 ∷ []))) f ∙ sym (node_first n cs h e)) w

-- ---- the histories from one on
module _ (n : ℕ) (cs h : List ℕ) (left : ℕ) where
  abbrev pub whole : List ℕ
  whole = hand_records n cs left h

  abbrev pub here : List ℕ
  here = records_of n cs (h ∷ [])

  -- those after one action more, in a list that holds it
  abbrev pub after : List ℕ → List ℕ
  after next = hand_records n cs (left - 1) next

  module _ (more : left ≡ 0 → ⊥) (on : ended n h ≡ false) (p q : List ℕ) (is_pass : p ≡ h ++ (PASS ∷ [])) (is_bet : q ≡ h ++ (BET ∷ [])) where
    hand_parts : whole ≡ here ++ (after p ++ after q)
    hand_parts = hand_more n cs left h more on ∙ ap₂ (λ x y. here ++ (after x ++ after y)) (sym is_pass) (sym is_bet)

    pub hand-length : length whole ≡ length here + (length (after p) + length (after q))
    hand-length = ap length hand_parts ∙ length-append here (after p ++ after q) ∙ ap (λ k. length here + k) (length-append (after p) (after q))

    pub wrote-hand : {a b d e : Writer} → Wrote a b here → Wrote b d (after p) → Wrote d e (after q) → Wrote a e whole
    wrote-hand u v w = wrote_as (sym hand_parts) (wrote_append u (wrote_append v w))

-- ---- the listing: the deals from none on
pub all_deals : (n : ℕ) → 1 ≤ n → (cs : List ℕ) → cs ≡ [] → listing_of_kuhn n ≡ deal_records n (n - length cs) cs
all_deals n l cs e = walked n l ∙ rw e (ap (λ j. deal_records n j []) (let z : n ≡ n - 0 = omega arith in z))

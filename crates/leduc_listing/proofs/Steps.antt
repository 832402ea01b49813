-- What the walk writes, step by step: a node, and what follows the moves below a bound. Assumes nothing.
use mathlib.Core.Path.{◌≡◌, refl, sym, ap, ap₂, subst, ◌∙◌}
use mathlib.Core.Bool.{Bool, true, false, not, cond}
use mathlib.Core.List.{List, [], ◌∷◌, ◌++◌, append-nil, append_assoc, map}
use Prim.Native.Nat.{ℕ, zero, suc, ◌+◌, ◌-◌, ◌≤◌, ◌<◌}
use native.Mathlib.Nat as NatL
use native.Mathlib.Numerals.{add-one}
use native.Mathlib.Omega.{arith}
use lib.Dec.{ltb}
use lib.ListN.{length, length-append}
use borrow.Author.Tests.{le-ltb, lt-ltb, ltb-false, not-true}
use Rattle.std.specs.Prelude.{Option, unwrap_or}
use Rattle.prelude.specs.Finite.{◌and◌, ◌or◌, those, has}
use Rattle.prelude.proofs.Tests.{Tested, holds, fails, tested, or_false_left}
use Rattle.prelude.proofs.Lists.{those_kept, those_passed}
use Rattle.leduc_betting.specs.Cards.{seen, left, remaining}
use Rattle.leduc_betting.specs.Betting.{may, options, in_play}
use Rattle.leduc_rules.specs.Rules.{live, shown-public}
use Rattle.leduc_rules.specs.Rules as Rules
use Rattle.leduc_listing_positions.specs.declared.spot.Spot.{Spot}
use Rattle.leduc_listing_positions.specs.internal.Spots.{placed, Room}
use Rattle.leduc_listing_positions.proofs.Spots.{shown_is}
use Rattle.leduc_tree.specs.Tree.{Position, dealt, acted, due, ended, actor, key, choices, next, card, action, nothing, start}
use Rattle.leduc_tree.specs.internal.Tree.{acts}
use Rattle.leduc_tree.specs.Turns as Turns
use Rattle.leduc_tree.specs.Turns.{turns, is_first, decision_at}
use Rattle.listing_records.specs.declared.Writer.{Writer}
use Rattle.listing_records.specs.Listing.{padded, bytes_of}
use Rattle.listing_records.specs.internal.Written.{joined, Wrote}
use Rattle.listing_records.proofs.Bytes.{joined_last, length-bytes, wrote_as}
use Rattle.leduc_listing.specs.Listing.{cards_of}
use Rattle.leduc_listing.specs.Facts.{listing_of_leduc}
use Rattle.leduc_listing.specs.internal.Walk.{record_at, records_of, node_records, is_move, move_bound, moved, next_records}
use Rattle.leduc_listing.proofs.Walk.{walked}

-- ---- a node
pub node_idle : (q : Position) → acts q ≡ false → node_records q ≡ []
unfolding node_records
node_idle q e = ap (λ b. cond b (records_of (q ∷ [])) []) e

pub node-later : (q : Position) → acts q ≡ true → is_first q ≡ false → node_records q ≡ []
unfolding node_records records_of
node-later q a e = ap₂ (λ b d. cond b (cond d (record_at q ++ []) []) []) a e

pub node_first : (q : Position) → acts q ≡ true → is_first q ≡ true → node_records q ≡ record_at q
unfolding node_records records_of
node_first q a e = ap₂ (λ b d. cond b (cond d (record_at q ++ []) []) []) a e ∙ append-nil (record_at q)

pub node-length : (q : Position) → acts q ≡ true → is_first q ≡ true → length (node_records q) ≡ 24
node-length q a e = ap length (node_first q a e) ∙ length-bytes (decision_at q) (cards_of q)

-- its record, from what its parts hold
pub wrote-node : (q : Position) (old new : Writer) (seat legal : ℕ) (k cs : List ℕ) (p : Option ℕ) → acts q ≡ true → is_first q ≡ true
    → seat ≡ actor q → k ≡ key q → p ≡ q.public → cs ≡ q.cards → legal ≡ length (choices q)
    → Wrote old new (seat ∷ length k ∷ padded 13 k ++ (unwrap_or p 255 ∷ padded 6 cs ++ (legal ∷ 0 ∷ []))) → Wrote old new (node_records q)
unfolding bytes_of
wrote-node q old new seat legal k cs p a e is-seat is_key is-public is-cards is-legal w = wrote_as (
    ap₂ (λ x y. x ∷ length y ∷ padded 13 y ++ (unwrap_or p 255 ∷ padded 6 cs ++ (legal ∷ 0 ∷ []))) is-seat is_key
    ∙ ap₂ (λ x y. actor q ∷ length (key q) ∷ padded 13 (key q) ++ (x ∷ padded 6 y ++ (legal ∷ 0 ∷ []))) (ap (λ o. unwrap_or o 255) is-public ∙ shown_is q.public) is-cards
    ∙ ap (λ y. actor q ∷ length (key q) ∷ padded 13 (key q) ++ (shown-public q.public ∷ padded 6 q.cards ++ (y ∷ 0 ∷ []))) is-legal ∙ sym (node_first q a e)
    ) w

-- a seat acts once both have a card
pub both_dealt : (q : Position) → acts q ≡ true → 2 ≤ length q.cards
unfolding live Rules.due
both_dealt q e = ltb-false (length q.cards) 2 (or_false_left _ _ (or_false_left _ _ (not-true _ e)))

-- ---- whether a number is a move
module _ (q : Position) (a : ℕ) where
  pub move_card : (b : Bool) → due q ≡ true → a < 6 → b ≡ has a (seen q.cards q.public) → not b ≡ is_move q a
  unfolding is_move left ◌and◌
  move_card b d l e = rw (d, lt-ltb a 6 l, e) refl

  pub no_card : (n : ℕ) → due q ≡ true → n ≡ 6 → n ≤ a → ltb a n ≡ is_move q a
  unfolding is_move left ◌and◌
  no_card n d e l = let low : 6 ≤ a = omega (arith, e, l) in rw (d, e, le-ltb a 6 low) refl

  pub move_action : (b : Bool) → due q ≡ false → b ≡ may (in_play q.first q.second) a → b ≡ is_move q a
  unfolding is_move
  move_action b d e = rw d e

-- of three actions no more than three are legal
pub those_few : (n : ℕ) (p : ℕ → Bool) → length (those n p) ≤ n
unfolding those
those_few zero p = omega arith
those_few (suc n) p = at (tested (p n)) (those_few n p)
  where
    at : Tested (p n) → length (those n p) ≤ n → length (those (suc n) p) ≤ suc n
    at (holds e) w = omega (arith, ap length (those_kept p n e), length-append (those n p) (n ∷ []))
    at (fails e) w = omega (arith, ap length (those_passed p n e))

pub options_few : (h : List ℕ) → length (options h) ≤ 3
unfolding options
options_few h = those_few 3 (may h)

-- ---- lists of records
records_append : (ps qs : List Position) → records_of (ps ++ qs) ≡ records_of ps ++ records_of qs
unfolding records_of
records_append [] qs = refl
records_append (p ∷ ps) qs = at (is_first p) (records_append ps qs)
  where
    at : (b : Bool) → records_of (ps ++ qs) ≡ records_of ps ++ records_of qs → cond b (record_at p ++ records_of (ps ++ qs)) (records_of (ps ++ qs)) ≡ cond b (record_at p ++ records_of ps) (records_of ps) ++ records_of qs
    at true e = ap (λ l. record_at p ++ l) e ∙ sym (append_assoc (record_at p) (records_of ps) (records_of qs))
    at false e = e

records_joined : (f : ℕ → Position) (l : List ℕ) (g : Position → List Position) → records_of (Turns.joined (map f l) g) ≡ joined l (λ a. records_of (g (f a)))
unfolding joined Turns.joined records_of
records_joined f [] g = refl
records_joined f (a ∷ l) g = records_append (g (f a)) (Turns.joined (map f l) g) ∙ ap (λ r. records_of (g (f a)) ++ r) (records_joined f l g)

joined_none : (l : List ℕ) → joined {A = ℕ} l (λ a. []) ≡ []
unfolding joined
joined_none [] = refl
joined_none (a ∷ l) = joined_none l

-- ---- from a position on: its node, then its moves
module _ (r : ℕ) (q : Position) where
  abbrev T : Position → List Position
  T s = turns r (next s) s

  -- the moves, by whether a card is due and whether the hand has ended
  by : Bool → Bool → List ℕ
  by b d = joined (those (cond b 6 (cond d 0 3)) (λ a. cond b (left (seen q.cards q.public) a) (may (in_play q.first q.second) a))) (λ a. records_of (T (cond b (dealt q a) (acted q a))))

  pub from_node : records_of (turns (suc r) (next q) q) ≡ node_records q ++ next_records r q (move_bound q)
  unfolding next turns node_records next_records is_move move_bound moved live ◌or◌ remaining options by records_of those joined
  from_node = at (tested (due q)) (tested (ended q))
    where
      at : Tested (due q) → Tested (ended q)
          → records_of (turns (suc r) (cond (due q) card (cond (ended q) nothing action)) q) ≡ cond (not (due q or ended q)) (records_of (q ∷ [])) [] ++ by (due q) (ended q)
      at (holds e) w = rw e (records_joined (dealt q) (remaining (seen q.cards q.public)) T)
      at (fails e) (holds w) = rw (e, w) refl
      at (fails e) (fails w) = rw (e, w) (records_append (q ∷ []) (Turns.joined (map (acted q) (choices q)) T) ∙ ap (λ l. records_of (q ∷ []) ++ l) (records_joined (acted q) (choices q) T))

-- ---- the moves below a bound
module _ (r : ℕ) (q : Position) where
  abbrev after : ℕ → List ℕ
  after a = records_of (turns r (next (moved q a)) (moved q a))

  pub moves_none : next_records r q 0 ≡ []
  unfolding next_records those joined
  moves_none = refl

  moves_less : (a : ℕ) → is_move q a ≡ false → next_records r q (suc a) ≡ next_records r q a
  unfolding next_records
  moves_less a e = ap (λ l. joined l after) (those_passed (is_move q) a e)

  pub moves_passed : (a : ℕ) → is_move q a ≡ false → next_records r q (a + 1) ≡ next_records r q a
  moves_passed a e = ap (next_records r q) (add-one a) ∙ moves_less a e

  moves_kept : (a : ℕ) → is_move q a ≡ true → next_records r q (suc a) ≡ next_records r q a ++ after a
  unfolding next_records
  moves_kept a e = ap (λ l. joined l after) (those_kept (is_move q) a e) ∙ joined_last (those a (is_move q)) a after

  moves_grow : (a : ℕ) → length (next_records r q a) ≤ length (next_records r q (suc a))
  moves_grow a = at (tested (is_move q a))
    where
      at : Tested (is_move q a) → length (next_records r q a) ≤ length (next_records r q (suc a))
      at (holds e) = omega (arith, ap length (moves_kept a e), length-append (next_records r q a) (after a))
      at (fails e) = omega (arith, ap length (moves_less a e))

  moves-mount : (a i : ℕ) → length (next_records r q a) ≤ length (next_records r q (i + a))
  moves-mount a zero = rw (NatL.zero-add a) (NatL.le_refl _)
  moves-mount a (suc i) = rw (NatL.suc-add i a) (NatL.le_trans (moves-mount a i) (moves_grow (i + a)))

pub moves_spent : (r : ℕ) (q : Position) (b : ℕ) → r ≡ 0 → next_records r q b ≡ []
unfolding next_records turns records_of
moves_spent r q b e = ap (λ k. next_records k q b) e ∙ joined_none (those b (is_move q))

-- a move: the node after it, then that one's moves
module _ (r : ℕ) (q s : Position) (a : ℕ) (more : r ≡ 0 → ⊥) (move : is_move q a ≡ true) (is-moved : s ≡ moved q a) where
  pub moves_more : next_records r q (a + 1) ≡ next_records r q a ++ (node_records s ++ next_records (r - 1) s (move_bound s))
  moves_more = let z : suc (r - 1) ≡ r = omega (arith, more) in
      ap (next_records r q) (add-one a) ∙ moves_kept r q a move ∙ ap (λ l. next_records r q a ++ l)
      (ap₂ (λ k p. records_of (turns k (next p) p)) (sym z) (sym is-moved) ∙ from_node (r - 1) s)

  pub moves_fit : (b : ℕ) → a < b → length (next_records r q a) + (length (node_records s) + length (next_records (r - 1) s (move_bound s))) ≤ length (next_records r q b)
  moves_fit b l = omega (
    arith,
    up,
    ap length moves_more,
    length-append (next_records r q a) (node_records s ++ next_records (r - 1) s (move_bound s)),
    length-append (node_records s) (next_records (r - 1) s (move_bound s)),
  )
    where
      up : length (next_records r q (a + 1)) ≤ length (next_records r q b)
      up = subst (λ k. length (next_records r q (a + 1)) ≤ length (next_records r q k)) (let e : b - (a + 1) + (a + 1) ≡ b = omega (arith, l) in e) (moves-mount r q (a + 1) (b - (a + 1)))

-- ---- a spot that holds the same position has the same room
pub room_same : (s t : Spot) (k : ℕ) → placed s ≡ placed t → Room t k → Room s k
room_same s t k e g = record { seats = omega (arith, g.seats, ap (λ q. length q.cards) e); places = omega (arith, g.places, ap (λ q. length q.cards) e, ap (λ q. length q.first) e, ap (λ q. length q.second) e) }

-- ---- from the start: its moves alone
pub from_start : (q : Position) → q ≡ start → listing_of_leduc ≡ next_records 10 q (move_bound q)
unfolding node_records live ◌or◌ Rules.due move_bound
from_start q e = rw e (walked ∙ from_node 10 start)

-- An accepted deal adds its card and an accepted step its action, and legal moves reach what they give. Assumes nothing.
use mathlib.Core.Path.{◌≡◌, refl, sym, ap, subst, ◌∙◌}
use mathlib.Core.Logic.{◌≢◌}
use mathlib.Core.Bool.{true, false, cond}
use mathlib.Core.List.{List, [], ◌∷◌, ◌++◌}
use Prim.Native.Nat.{ℕ, zero, suc, ◌+◌, ◌≤◌, ◌<◌}
use native.Mathlib.Numerals.{add-one}
use native.Mathlib.Omega.{arith}
use lib.Dec.{ltb}
use lib.ListN.{length, get_or, take, drop, set, length-set, length-drop}
use lib.Seq.{take-suc-set, take-set-le, drop-set-lt, drop-set-add, get_or-set_other}
use borrow.Author.Tests.{lt-ltb, ltb-true, ltb-false, not-false}
use Rattle.refusals.specs.Facts.{NoneHolds}
use Rattle.prelude.specs.Finite.{◌and◌}
use Rattle.prelude.proofs.Tests.{Tested, holds, fails, tested, true≢false, and_left, and_right, neither, or_cases}
use Rattle.prelude.proofs.Lists.{those_below}
use Rattle.leduc_betting.specs.Betting.{FOLD, CALL, closes, may, counted, in_play}
use Rattle.leduc_betting.specs.Cards.{left, remaining}
use Rattle.leduc_betting.proofs.Histories.{may_call}
use Rattle.leduc_betting.proofs.Rounds.{open_short}
use Rattle.leduc_rules.specs.Rules.{public-due, due, live}
use Rattle.leduc_rules.specs.Moves.{Reached, deal, reveal, act₁, act₂}
use Rattle.leduc_rules.proofs.Reaching.{still_open}
use Rattle.leduc_rules.proofs.Moves.{reached_parts, acting}
use Rattle.leduc_positions.specs.Positions.{cards_of, seen_of, round_one, round_two, in_play_of, with_private, with_public, with_card, with_first, with_second, with_action, reachable}
use Rattle.leduc_positions.specs.declared.LeducState.{LeducState}
use Rattle.leduc_positions.proofs.Positions.{cards-counted, first_counted, second-counted, room_to_act}
use Rattle.refusals.specs.Outcomes.{moved}
use Rattle.leduc.specs.Calls.{deal-refusal, dealt, step_refusal, stepped}
use Rattle.leduc.specs.Facts.{Sized, KeptBut, OneCardMore, OneActionMore, Deals, Steps}
use Rattle.leduc.proofs.Decides.{calls-decide}
use Rattle.leduc.proofs.Facts.{reachable_by_moves}

-- ---- one place more of a list

-- x is written behind the first n places
take_more : (l : List ℕ) (n x : ℕ) → n < length l → take (n + 1) (set l n x) ≡ take n l ++ (x ∷ [])
take_more l n x h = rw add-one (take-suc-set l n x h)

-- and behind the first n from the fifth on
second_more : (l : List ℕ) (n x : ℕ) → 4 + n < length l → take (n + 1) (drop 4 (set l (4 + n) x)) ≡ take n (drop 4 l) ++ (x ∷ [])
second_more l n x h = ap (take (n + 1)) (drop-set-add 4 l n x) ∙ take_more (drop 4 l) n x (omega (arith, length-drop 4 l))

others_kept : (l : List ℕ) (n m x : ℕ) → m ≡ n → KeptBut m l (set l n x)
others_kept l n m x e j h = get_or-set_other l n j x 0 (λ q. h (q ∙ sym e))

-- ---- answers

moved_new : (r : ℕ) (s t : LeducState) → (moved r s t).refusal ≡ 0 → t ≡ (moved r s t).state
moved_new zero s t e = refl
moved_new (suc r) s t e = absurd (omega arith)

moved_old : (r : ℕ) (s t : LeducState) → (moved r s t).refusal ≢ 0 → (moved r s t).state ≡ s
moved_old zero s t e = absurd (e refl)
moved_old (suc r) s t e = refl

-- ---- deal

module _ (s : LeducState) (z : Sized s) (c : ℕ) (r : reachable s ≡ true) (l : left (seen_of s) c ≡ true) where
  card-counted : length (cards_of s) ≡ s.dealt
  card-counted = cards-counted s z.cards-size z.history-size r

  private_added : s.dealt < 2 → OneCardMore s c (with_private s c)
  private_added d =
      let (x, y, w, h) = (reachable_by_moves s).0 r in
      let cards = take_more s.cards s.dealt c (omega (arith, z.cards-size)) in
      record {
        to_seat = λ q. (cards, refl);
        to_table = λ q. absurd (omega (arith, card-counted));
        rounds_are = (refl, refl);
        cards_kept = others_kept s.cards s.dealt (length (cards_of s)) c card-counted;
        history_kept = refl;
        fit = record {
          sized = record { cards-size = length-set s.cards s.dealt c ∙ z.cards-size; history-size = z.history-size };
          within = (omega arith, y, w);
          reached = subst (λ cs. Reached cs s.public (round_one s) (round_two s)) (sym cards) (deal c h (lt-ltb (length (cards_of s)) 2 (omega (arith, card-counted))) l);
        };
      }

  public-added : 2 ≤ s.dealt → public-due s.public (round_one s) (round_two s) ≡ true → OneCardMore s c (with_public s c)
  public-added d p =
      let (x, y, w, h) = (reachable_by_moves s).0 r in
      record {
        to_seat = λ q. absurd (omega (arith, card-counted));
        to_table = λ q. (refl, refl);
        rounds_are = (refl, refl);
        cards_kept = λ j q. refl;
        history_kept = refl;
        fit = record { sized = record { cards-size = z.cards-size; history-size = z.history-size }; within = (x, y, w); reached = reveal c h p l };
      }

  card-added : due (cards_of s) s.public (round_one s) (round_two s) ≡ true → OneCardMore s c (with_card s c)
  unfolding due
  card-added d = go (tested (ltb s.dealt 2))
    where
      go : Tested (ltb s.dealt 2) → OneCardMore s c (with_card s c)
      go (holds t) = rw t (private_added (ltb-true s.dealt 2 t))
      go (fails t) =
          let u = ltb-false s.dealt 2 t in
          rw t (public-added u (or_cases (ltb (length (cards_of s)) 2) _ d (λ q. absurd (omega (arith, card-counted, ltb-true (length (cards_of s)) 2 q))) (λ q. q)))

module _ (s : LeducState) (k : ℕ) (e : (dealt s k).refusal ≡ 0) where
  deal_passed : (reachable s ≡ true) × (due (cards_of s) s.public (round_one s) (round_two s) ≡ true) × (k < length (remaining (seen_of s)))
  unfolding NoneHolds
  deal_passed =
      let (b, (c, d)) = ((calls-decide s).deal-decides k).accepts.0 e in
      let f : (due (cards_of s) s.public (round_one s) (round_two s) and ltb k (length (remaining (seen_of s)))) ≡ true = not-false _ c in
      (not-false _ b, and_left _ _ f, ltb-true _ _ (and_right (due (cards_of s) s.public (round_one s) (round_two s)) _ f))

  card_left : left (seen_of s) (get_or (remaining (seen_of s)) k 0) ≡ true
  unfolding remaining
  card_left = (those_below (left (seen_of s)) 6 k 0 deal_passed.2).1

pub deals : Deals
deals s k z =
    record {
      outcome = λ e. (deal_passed s k e).2;
      adds = λ e. subst (OneCardMore s _) (moved_new (deal-refusal s k) s _ e) (card-added s z _ (deal_passed s k e).0 (card_left s k e) (deal_passed s k e).1);
      keeps = moved_old (deal-refusal s k) s _;
    }

-- ---- step

-- what counts is legal
counted-legal : (h : List ℕ) (a : ℕ) → may h (counted h a) ≡ true
unfolding counted
counted-legal h a = go (tested (may h a)) (tested (may h FOLD))
  where
    go : Tested (may h a) → Tested (may h FOLD) → may h (cond (may h a) a (cond (may h FOLD) FOLD CALL)) ≡ true
    go (holds t) u = rw t t
    go (fails t) (holds u) = rw (t, u) u
    go (fails t) (fails u) = rw (t, u) (may_call h)

module _ (s : LeducState) (z : Sized s) (a : ℕ) (r : reachable s ≡ true) (l : live (cards_of s) s.public (round_one s) (round_two s) ≡ true) where
  first_room : closes (round_one s) ≡ false → s.acted1 < 4
  first_room c =
      let on = still_open (round_one s) (neither (acting _ _ _ _ l).first_unfolded c) in
      let (x, y, w, h) = (reachable_by_moves s).0 r in
      omega (arith, open_short (round_one s) (reached_parts h).first_played on, first_counted s z.cards-size z.history-size r)

  first_added : closes (round_one s) ≡ false → may (round_one s) a ≡ true → OneActionMore s a (with_first s a)
  first_added c m =
      let (x, y, w, h) = (reachable_by_moves s).0 r in
      let room = first_room c in
      let one = take_more s.history s.acted1 a (omega (arith, z.history-size)) in
      let two = ap (take s.acted2) (drop-set-lt 4 s.history s.acted1 a room) in
      record {
        round = record {
          in_one = λ q. (one, two);
          in_two = λ q. true≢false _ q c;
          kept_one = λ q. others_kept s.history s.acted1 (length (round_one s)) a (first_counted s z.cards-size z.history-size r);
          kept_two = λ q. true≢false _ q c;
        };
        cards_are = refl;
        public_is = refl;
        cards_kept = refl;
        fit = record {
          sized = record { cards-size = z.cards-size; history-size = length-set s.history s.acted1 a ∙ z.history-size };
          within = (x, omega arith, w);
          reached = subst (Reached (cards_of s) s.public _) (sym two) (subst (λ t. Reached (cards_of s) s.public t (round_two s)) (sym one) (act₁ a h l c m));
        };
      }

  second-added : closes (round_one s) ≡ true → may (round_two s) a ≡ true → OneActionMore s a (with_second s a)
  second-added c m =
      let (x, y, w, h) = (reachable_by_moves s).0 r in
      let room = room_to_act s z.cards-size z.history-size r l in
      let one = take-set-le s.acted1 s.history (4 + s.acted2) a (omega arith) in
      let two = second_more s.history s.acted2 a (omega (arith, z.history-size)) in
      record {
        round = record {
          in_one = λ q. true≢false _ c q;
          in_two = λ q. (one, two);
          kept_one = λ q. true≢false _ c q;
          kept_two = λ q. others_kept s.history (4 + s.acted2) (4 + length (round_two s)) a (ap (λ n. 4 + n) (second-counted s z.cards-size z.history-size r));
        };
        cards_are = refl;
        public_is = refl;
        cards_kept = refl;
        fit = record {
          sized = record { cards-size = z.cards-size; history-size = length-set s.history (4 + s.acted2) a ∙ z.history-size };
          within = (x, y, omega arith);
          reached = subst (Reached (cards_of s) s.public _) (sym two) (subst (λ t. Reached (cards_of s) s.public t (round_two s ++ (a ∷ []))) (sym one) (act₂ a h l c m));
        };
      }

  action-added : may (in_play_of s) a ≡ true → OneActionMore s a (with_action s a)
  unfolding in_play
  action-added m = go (tested (closes (round_one s))) m
    where
      go : Tested (closes (round_one s)) → may (cond (closes (round_one s)) (round_two s) (round_one s)) a ≡ true → OneActionMore s a (with_action s a)
      go (holds t) m = rw t (second-added t (rw t at m))
      go (fails t) m = rw t (first_added t (rw t at m))

step_passed : (s : LeducState) (a : ℕ) → (stepped s a).refusal ≡ 0 → (reachable s ≡ true) × (live (cards_of s) s.public (round_one s) (round_two s) ≡ true)
unfolding NoneHolds
step_passed s a e = let (b, (c, d)) = ((calls-decide s).step_decides a).accepts.0 e in (not-false _ b, not-false _ c)

pub steps : Steps
steps s a z =
    record {
      adds = λ e. subst (OneActionMore s _) (moved_new (step_refusal s) s _ e) (action-added s z _ (step_passed s a e).0 (step_passed s a e).1 (counted-legal (in_play_of s) a));
      keeps = moved_old (step_refusal s) s _;
    }

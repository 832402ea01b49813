-- An accepted deal adds its card and an accepted step its action, and legal moves reach what they give. Assumes nothing.
use mathlib.Core.Path.{◌≡◌, refl, sym, subst, ◌∙◌}
use mathlib.Core.Logic.{◌≢◌}
use mathlib.Core.Bool.{true, cond}
use mathlib.Core.List.{List, [], ◌∷◌, ◌++◌}
use Prim.Native.Nat.{ℕ, zero, suc, ◌+◌, ◌≤◌, ◌<◌}
use native.Mathlib.Numerals.{add-one}
use native.Mathlib.Omega.{arith}
use lib.Dec.{leb, ltb}
use lib.ListN.{length, get_or, take, set, length-set}
use lib.Seq.{take-suc-set, get_or-set_other}
use borrow.Author.Tests.{le-leb, ltb-true, ltb-false, not-false}
use Rattle.refusals.specs.Facts.{NoneHolds}
use Rattle.refusals.specs.Outcomes.{moved}
use Rattle.prelude.specs.Finite.{◌and◌}
use Rattle.prelude.proofs.Tests.{Tested, holds, fails, tested, and_left, and_right}
use Rattle.prelude.proofs.Lists.{those_below}
use Rattle.kuhn_rules.specs.Rules.{BET, due, live, left, remaining}
use Rattle.kuhn_rules.specs.Moves.{Reached, deal, act}
use Rattle.kuhn_positions.specs.Positions.{cards_of, history_of, with_card, with_action, counted, reachable}
use Rattle.kuhn_positions.proofs.Positions.{dealt_is, acted_is, room_to_act, seats_least, seats_most}
use Rattle.kuhn.specs.Calls.{deal_refusal, dealt, step_refusal, stepped}
use Rattle.kuhn.specs.Facts.{Sized, KeptBut, OneCardMore, OneActionMore, Deals, Steps}
use Rattle.kuhn.specs.declared.KuhnPoker.{KuhnPoker}
use Rattle.kuhn_positions.specs.declared.KuhnState.{KuhnState}
use Rattle.kuhn.proofs.Decides.{calls-decide}
use Rattle.kuhn.proofs.Facts.{reachable_by_moves}

-- ---- one place more of a list

-- x is written behind the first n places
take_more : (l : List ℕ) (n x : ℕ) → n < length l → take (n + 1) (set l n x) ≡ take n l ++ (x ∷ [])
take_more l n x h = rw add-one (take-suc-set l n x h)

others_kept : (l : List ℕ) (n m x : ℕ) → m ≡ n → KeptBut m l (set l n x)
others_kept l n m x e j h = get_or-set_other l n j x 0 (λ q. h (q ∙ sym e))

-- ---- answers

moved_new : (r : ℕ) (s t : KuhnState) → (moved r s t).refusal ≡ 0 → t ≡ (moved r s t).state
moved_new zero s t e = refl
moved_new (suc r) s t e = absurd (omega arith)

moved_old : (r : ℕ) (s t : KuhnState) → (moved r s t).refusal ≢ 0 → (moved r s t).state ≡ s
moved_old zero s t e = absurd (e refl)
moved_old (suc r) s t e = refl

-- ---- deal

module _ (g : KuhnPoker) (s : KuhnState) (z : Sized s) where
  abbrev n : ℕ
  n = g.players

  module _ (k : ℕ) (e : (dealt g s k).refusal ≡ 0) where
    abbrev card : ℕ
    card = get_or (remaining n (cards_of s)) k 0

    deal_passed : (n ≤ 10) × (reachable n s ≡ true) × (due n (cards_of s) ≡ true) × (k < length (remaining n (cards_of s)))
    unfolding NoneHolds
    deal_passed =
        let (a, (b, (c, d))) = ((calls-decide g s).deal-decides k).accepts.0 e in
        let f : (due n (cards_of s) and ltb k (length (remaining n (cards_of s)))) ≡ true = not-false _ c in
        (seats_most n a, not-false _ b, and_left _ _ f, ltb-true _ _ (and_right (due n (cards_of s)) _ f))

    card_left : left n (cards_of s) card ≡ true
    unfolding remaining
    card_left = (those_below (left n (cards_of s)) (n + 1) k 0 deal_passed.3).1

    card-added : OneCardMore n s card (with_card s card)
    card-added =
        let (most, r, d, l) = deal_passed in
        let (x, y, h) = (reachable_by_moves n s).0 r in
        let size = dealt_is s z.cards-size z.history-size x y in
        let few = ltb-true (length (cards_of s)) n d in
        let cards = take_more s.cards s.dealt card (omega (arith, z.cards-size)) in
        record {
          cards_are = cards;
          history_is = refl;
          cards_kept = others_kept s.cards s.dealt (length (cards_of s)) card size;
          history_kept = refl;
          fit = record {
            sized = record { cards-size = length-set s.cards s.dealt card ∙ z.cards-size; history-size = z.history-size };
            within = (omega arith, y);
            reached = subst (λ cs. Reached n cs (history_of s)) (sym cards) (deal card h d card_left);
          };
        }

pub deals : Deals
deals g s k z =
    record {
      outcome = λ e. (deal_passed g s z k e).3;
      adds = λ e. subst (OneCardMore g.players s _) (moved_new (deal_refusal g s k) s _ e) (card-added g s z k e);
      keeps = moved_old (deal_refusal g s k) s _;
    }

-- ---- step

counted-known : (a : ℕ) → leb (counted a) BET ≡ true
counted-known a = go (tested (ltb BET a))
  where
    go : Tested (ltb BET a) → leb (cond (ltb BET a) BET a) BET ≡ true
    go (holds t) = rw t refl
    go (fails t) = rw t (le-leb a BET (ltb-false BET a t))

module _ (g : KuhnPoker) (s : KuhnState) (z : Sized s) (a : ℕ) (e : (stepped g s a).refusal ≡ 0) where
  step_passed : (2 ≤ g.players) × (g.players ≤ 10) × (reachable g.players s ≡ true) × (live g.players (cards_of s) (history_of s) ≡ true)
  unfolding NoneHolds
  step_passed =
      let (x, (b, (c, d))) = ((calls-decide g s).step_decides a).accepts.0 e in
      (seats_least g.players x, seats_most g.players x, not-false _ b, not-false _ c)

  action-added : OneActionMore g.players s (counted a) (with_action s (counted a))
  action-added =
      let (least, most, r, l) = step_passed in
      let (x, y, h) = (reachable_by_moves g.players s).0 r in
      let size = acted_is s z.cards-size z.history-size x y in
      let room = room_to_act g.players s z.cards-size z.history-size (omega arith) most r l in
      let history = take_more s.history s.acted (counted a) (omega (arith, z.history-size)) in
      record {
        history_is = history;
        cards_are = refl;
        history_kept = others_kept s.history s.acted (length (history_of s)) (counted a) size;
        cards_kept = refl;
        fit = record {
          sized = record { cards-size = z.cards-size; history-size = length-set s.history s.acted (counted a) ∙ z.history-size };
          within = (x, omega arith);
          reached = subst (Reached g.players (cards_of s)) (sym history) (act (counted a) h l (counted-known a));
        };
      }

pub steps : Steps
steps g s a z =
    record {
      adds = λ e. subst (OneActionMore g.players s (counted a)) (moved_new (step_refusal g s) s _ e) (action-added g s z a e);
      keeps = moved_old (step_refusal g s) s _;
    }

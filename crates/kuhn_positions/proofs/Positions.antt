-- Laws of positions: their tests by the lengths they hold. Assumes nothing.
use mathlib.Core.Path.{◌≡◌, sym, ap₂, ◌∙◌}
use mathlib.Core.Bool.{true, false, not}
use Prim.Native.Nat.{ℕ, ◌≤◌, ◌<◌}
use native.Mathlib.Omega.{arith}
use lib.Dec.{eqb, leb, ltb}
use borrow.Author.Tests.{le-leb, leb-true, ltb-false, not-true}
use lib.ListN.{length}
use lib.Seq.{length-take-le}
use Rattle.prelude.specs.Finite.{◌and◌, ◌or◌}
use Rattle.prelude.proofs.Tests.{both, and_left, and_right, and-rest, or_false_left, or_false_right}
use Rattle.kuhn_rules.specs.Rules.{ended, overrun, live}
use Rattle.kuhn_rules.specs.Reached.{unknown, fair, played, possible}
use Rattle.kuhn_rules.proofs.Histories.{hand-lasts}
use Rattle.kuhn_positions.specs.Positions.{cards_of, history_of, seats-out, reachable}
use Rattle.kuhn_positions.specs.declared.KuhnState.{KuhnState}

-- a position with as many places as it should have: the lengths are what the cards and the history have
module _ (s : KuhnState) (tens : length s.cards ≡ 10) (nineteen : length s.history ≡ 19) (a : s.dealt ≤ 10) (b : s.acted ≤ 19) where
  pub dealt_is : length (cards_of s) ≡ s.dealt
  dealt_is = length-take-le s.dealt s.cards (omega arith)

  pub acted_is : length (history_of s) ≡ s.acted
  acted_is = length-take-le s.acted s.history (omega arith)

  pub reachable_is : (n : ℕ) → reachable n s ≡ (fair n (cards_of s) and ((eqb s.acted 0 or eqb s.dealt n) and played n (history_of s)))
  unfolding reachable possible
  reachable_is n =
      and-rest _ (both (le-leb s.dealt 10 a) (le-leb s.acted 19 b))
      ∙ ap₂ (λ i j. fair n (cards_of s) and ((eqb i 0 or eqb j n) and played n (history_of s))) acted_is dealt_is

-- a reachable position's lengths are within its arrays
pub reachable-dealt : (n : ℕ) (s : KuhnState) → reachable n s ≡ true → s.dealt ≤ 10
unfolding reachable
reachable-dealt n s e = leb-true s.dealt 10 (and_left (leb s.dealt 10) (leb s.acted 19) (and_left _ _ e))

pub reachable-acted : (n : ℕ) (s : KuhnState) → reachable n s ≡ true → s.acted ≤ 19
unfolding reachable
reachable-acted n s e = leb-true s.acted 19 (and_right (leb s.dealt 10) (leb s.acted 19) (and_left _ _ e))

-- a live hand has room for one action more
pub room_to_act : (n : ℕ) (s : KuhnState) → length s.cards ≡ 10 → length s.history ≡ 19 → 1 ≤ n → n ≤ 10 → reachable n s ≡ true
    → live n (cards_of s) (history_of s) ≡ true → s.acted < 19
unfolding played
room_to_act n s tens nineteen least most e l =
    let dealt = reachable-dealt n s e in
    let acted = reachable-acted n s e in
    let play = and_right (eqb s.acted 0 or eqb s.dealt n) _ (and_right (fair n (cards_of s)) _ (sym (reachable_is s tens nineteen dealt acted n) ∙ e)) in
    let over = not-true (overrun n (history_of s)) (and_right (not (unknown (history_of s))) _ play) in
    let on = not-true (ended n (history_of s)) (and_right (eqb (length (cards_of s)) n) _ l) in
    let more = (hand-lasts n (history_of s) least over).1 on in
    let long = acted_is s tens nineteen dealt acted in
    omega arith

-- a seat count that is not outside 2 to 10
pub seats_least : (n : ℕ) → seats-out n ≡ false → 2 ≤ n
seats_least n e = ltb-false n 2 (or_false_left (ltb n 2) (ltb 10 n) e)

pub seats_most : (n : ℕ) → seats-out n ≡ false → n ≤ 10
seats_most n e = ltb-false 10 n (or_false_right (ltb n 2) (ltb 10 n) e)

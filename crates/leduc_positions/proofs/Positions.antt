-- Laws of positions: what the test of number 19 comes to, and what it gives. Assumes nothing.
use mathlib.Core.Path.{◌≡◌, refl}
use mathlib.Core.Bool.{true, false}
use mathlib.Core.List.{List}
use Prim.Native.Nat.{ℕ, ◌-◌, ◌≤◌, ◌<◌}
use native.Mathlib.Omega.{arith}
use lib.Dec.{leb}
use lib.ListN.{length, take, drop, length-drop}
use lib.Seq.{length-take-le}
use borrow.Author.Tests.{le-leb, leb-true}
use Rattle.std.specs.Prelude.{Option, slice_range}
use Rattle.std.proofs.lemmas.List.{length-take, take-take}
use Rattle.prelude.specs.Finite.{◌and◌}
use Rattle.prelude.proofs.Tests.{Tested, holds, fails, tested, and_left, and_right}
use Rattle.leduc_rules.specs.Rules.{live}
use Rattle.leduc_rules.proofs.Reaching.{Possible, possible_parts, live_open}
use Rattle.leduc_rules.proofs.Moves.{closed_or_none}
use Rattle.leduc_rules.specs.internal.Pots.{BeginsLevel}
use Rattle.leduc_rules.specs.Reached.{possible}
use Rattle.leduc_positions.specs.Positions.{cards_of, round_one, round_two, reachable}
use Rattle.leduc_positions.specs.Hands.{IsShort, Holds}
use Rattle.leduc_rules.specs.declared.hand.Hand.{Hand}
use Rattle.leduc_positions.specs.declared.LeducState.{LeducState}

pub reachable-short : (s : LeducState) → reachable s ≡ true → IsShort s
unfolding reachable
reachable-short s e =
    let l : (leb s.dealt 2 and (leb s.acted1 4 and leb s.acted2 4)) ≡ true = and_left _ _ e in
    (leb-true _ _ (and_left _ _ l), leb-true _ _ (and_left _ _ (and_right _ _ l)), leb-true _ _ (and_right _ _ (and_right _ _ l)))

pub reachable-possible : (s : LeducState) → reachable s ≡ true → possible (cards_of s) s.public (round_one s) (round_two s) ≡ true
unfolding reachable
reachable-possible s e = and_right _ _ e

-- a position with a length above its part is not reachable,
pub too_long : (s : LeducState) → (IsShort s → ⊥) → reachable s ≡ false
too_long s f = go (tested (reachable s))
  where
    go : Tested (reachable s) → reachable s ≡ false
    go (holds e) = absurd (f (reachable-short s e))
    go (fails e) = e

-- and any other is just if its hand is possible
pub held : (s : LeducState) (h : Hand) → Holds s h → possible h.cards.now h.public h.first.now h.second.now ≡ reachable s
unfolding reachable ◌and◌
held s h w =
    rw (w.cards, w.public, w.first, w.second, le-leb s.dealt 2 w.short.0, le-leb s.acted1 4 w.short.1, le-leb s.acted2 4 w.short.2) refl

-- what is said of its hand is said of the position
pub of_hand : {A : Type 0} (F : List ℕ → Option ℕ → List ℕ → List ℕ → A) {s : LeducState} {h : Hand} → Holds s h
    → F h.cards.now h.public h.first.now h.second.now ≡ F (cards_of s) s.public (round_one s) (round_two s)
of_hand F w = rw (w.cards, w.public, w.first, w.second) refl

-- ---- the parts of a position's arrays

-- a front part of one part of an array
pub front_of_part : (k n : ℕ) (l : List ℕ) → n ≤ length (take k l) → slice_range (take k l) 0 n ≡ take n l
front_of_part k n l h =
    let z : n - 0 ≡ n = omega arith in
    rw z (take-take n k l (omega (arith, length-take k l)))

pub second-length : (l : List ℕ) (n : ℕ) → length l ≡ 8 → n ≤ 4 → length (take n (drop 4 l)) ≡ n
second-length l n e h = length-take-le n (drop 4 l) (omega (arith, length-drop 4 l))

-- ---- what a reachable position gives the calls

module _ (s : LeducState) (two : length s.cards ≡ 2) (eight : length s.history ≡ 8) (e : reachable s ≡ true) where
  parts : Possible (cards_of s) s.public (round_one s) (round_two s)
  parts = possible_parts _ _ _ _ (reachable-possible s e)

  pub cards-counted : length (cards_of s) ≡ s.dealt
  cards-counted = let d : s.dealt ≤ 2 = (reachable-short s e).0 in length-take-le s.dealt s.cards (omega arith)

  pub first_counted : length (round_one s) ≡ s.acted1
  first_counted = let d : s.acted1 ≤ 4 = (reachable-short s e).1 in length-take-le s.acted1 s.history (omega arith)

  pub second-counted : length (round_two s) ≡ s.acted2
  second-counted = second-length s.history s.acted2 eight (reachable-short s e).2

  pub room_to_act : live (cards_of s) s.public (round_one s) (round_two s) ≡ true → s.acted2 < 4
  room_to_act l = omega (arith, live_open parts l, second-counted)

  pub begins-level : BeginsLevel (round_one s) (round_two s)
  begins-level = closed_or_none parts

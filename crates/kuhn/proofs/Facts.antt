-- The facts of specs/Facts.antt, proved. Assumes nothing.
use mathlib.Core.Path.{◌≡◌, refl, ap, ◌∙◌}
use mathlib.Core.Bool.{Bool, true, false, not}
use mathlib.Core.List.{[], ◌∷◌}
use Prim.Native.Nat.{ℕ, ◌*◌, ◌-◌, ◌≤◌}
use native.Mathlib.Omega.{arith}
use lib.Dec.{eqb, ltb, leb}
use borrow.Author.Tests.{le-ltb, le-leb, eq-eqb, ltb-false, eqb-true, not-false}
use lib.ListN.{length}
use Rattle.refusals.specs.Refusals.{first, ◌refuses◌}
use Rattle.prelude.specs.Finite.{◌and◌, ◌or◌}
use Rattle.prelude.proofs.Tests.{both, neither, and_right, or_right, or_false_left, or_false_right}
use Rattle.kuhn_rules.specs.Rules.{ended, overrun}
use Rattle.kuhn_rules.specs.Reached.{strange, twice, unknown, fair, played, possible}
use Rattle.kuhn_positions.specs.Positions.{seats-out, cards_of, history_of, reachable, mark}
use Rattle.kuhn.specs.Calls.{saved_refusal}
use Rattle.kuhn.specs.Facts.{Sized, ReachableByMoves, SavedAccepts}
use Rattle.kuhn.specs.declared.KuhnPoker.{KuhnPoker}
use Rattle.kuhn_positions.specs.declared.KuhnState.{KuhnState}
use Rattle.kuhn_rules.proofs.Histories.{hand-lasts}
use Rattle.kuhn_positions.proofs.Positions.{dealt_is, acted_is, reachable_is, reachable-dealt, reachable-acted, seats_least, seats_most}
use Rattle.kuhn_rules.proofs.Moves.{reached-possible, possible-reached}
use Rattle.kuhn_rules.proofs.Facts.{possible-fair, possible-played, fair_tests, played_tests}

-- ---- positions

pub reachable_by_moves : ReachableByMoves
unfolding reachable
reachable_by_moves n s = (
  (λ e. (reachable-dealt n s e, reachable-acted n s e, possible-reached n (cards_of s) (history_of s) (and_right (leb s.dealt 10 and leb s.acted 19) _ e))),
  (λ (a, b, r). both (both (le-leb s.dealt 10 a) (le-leb s.acted 19 b)) (reached-possible n r)),
)

-- the checks of a saved position, and its mark
module _ (g : KuhnPoker) (s : KuhnState) (m : ℕ) (z : Sized s) where
  abbrev n : ℕ
  n = g.players

  abbrev long : Bool
  long = ltb (2 * n - 1) s.acted or unknown (history_of s)

  abbrev marked : Bool
  marked = eqb m (mark (ended n (history_of s)))

  -- every test fails just if the number is 0
  all_pass : (a b c d e f h : Bool)
      → first ((a refuses 2) ∷ (b refuses 10) ∷ (c refuses 11) ∷ (d refuses 12) ∷ (e refuses 13) ∷ (f refuses 14) ∷ (h refuses 18) ∷ []) ≡ 0
      → (a ≡ false) × (b ≡ false) × (c ≡ false) × (d ≡ false) × (e ≡ false) × (f ≡ false) × (h ≡ false)
  all_pass true b c d e f h q = absurd (omega arith)
  all_pass false true c d e f h q = absurd (omega arith)
  all_pass false false true d e f h q = absurd (omega arith)
  all_pass false false false true e f h q = absurd (omega arith)
  all_pass false false false false true f h q = absurd (omega arith)
  all_pass false false false false false true h q = absurd (omega arith)
  all_pass false false false false false false true q = absurd (omega arith)
  all_pass false false false false false false false q = (refl, refl, refl, refl, refl, refl, refl)

  pass_all : seats-out n ≡ false → not (eqb s.dealt n) ≡ false → strange n (cards_of s) ≡ false → twice (cards_of s) ≡ false → long ≡ false → overrun n (history_of s) ≡ false → not marked ≡ false → saved_refusal g s m ≡ 0
  unfolding saved_refusal
  pass_all a b c d e f h = rw (a, b, c, d, e, f, h)

  abbrev Sound : Type 0
  Sound = (2 ≤ n) × (n ≤ 10) × (s.dealt ≡ n) × (reachable n s ≡ true) × (m ≡ mark (ended n (history_of s)))

  saved_sound : saved_refusal g s m ≡ 0 → Sound
  unfolding saved_refusal fair played
  saved_sound q =
      let (a, b, c, d, e, f, h) = all_pass (seats-out n) (not (eqb s.dealt n)) (strange n (cards_of s)) (twice (cards_of s)) long (overrun n (history_of s)) (not marked) q in
      let least = seats_least n a in
      let most = seats_most n a in
      let full = eqb-true s.dealt n (not-false (eqb s.dealt n) b) in
      let short = ltb-false (2 * n - 1) s.acted (or_false_left (ltb (2 * n - 1) s.acted) (unknown (history_of s)) e) in
      let cards : s.dealt ≤ 10 = omega arith in
      let actions : s.acted ≤ 19 = omega arith in
      let size = dealt_is s z.cards-size z.history-size cards actions in (
        least,
        most,
        full,
        reachable_is s z.cards-size z.history-size cards actions n
            ∙ both (both (le-leb (length (cards_of s)) n (omega arith)) (both (ap not c) (ap not d)))
            (both (or_right (eqb s.acted 0) (eq-eqb s.dealt n full)) (both (ap not (or_false_right (ltb (2 * n - 1) s.acted) (unknown (history_of s)) e)) (ap not f))),
        eqb-true m (mark (ended n (history_of s))) (not-false marked h),
      )

  saved_complete : Sound → saved_refusal g s m ≡ 0
  saved_complete (least, most, full, r, e) =
      pass_all
      (neither (le-ltb n 2 least) (le-ltb 10 n most))
      (ap not (eq-eqb s.dealt n full))
      fair-known.0
      fair-known.1
      (neither (le-ltb (2 * n - 1) s.acted short) play_known.0)
      play_known.1
      (ap not (eq-eqb m (mark (ended n (history_of s))) e))
    where
      reached : possible n (cards_of s) (history_of s) ≡ true
      reached = reached-possible n ((reachable_by_moves n s).0 r).2

      fair-known : (strange n (cards_of s) ≡ false) × (twice (cards_of s) ≡ false)
      fair-known = fair_tests n (cards_of s) (possible-fair n (cards_of s) (history_of s) reached)

      play_known : (unknown (history_of s) ≡ false) × (overrun n (history_of s) ≡ false)
      play_known = played_tests n (history_of s) (possible-played n (cards_of s) (history_of s) reached)

      short : s.acted ≤ 2 * n - 1
      short =
          let last = (hand-lasts n (history_of s) (omega arith) play_known.1).0 in
          let size = acted_is s z.cards-size z.history-size (reachable-dealt n s r) (reachable-acted n s r) in
          omega arith

pub saved_accepts : SavedAccepts
saved_accepts g s m z = (saved_sound g s m z, saved_complete g s m z)

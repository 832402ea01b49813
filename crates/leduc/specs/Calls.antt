-- What each call answers, and what it leaves in lent memory.
-- A refused answer holds its number, the position handed in, and 0 in every other field.
use Rattle.std.specs.Prelude.{not, List, [], ◌∷◌, ◌++◌, ℕ, zero, suc, eqb, leb, ltb, pos, length, get_or, replicate}
use Rattle.refusals.specs.Refusals.{Check, first, ◌refuses◌}
use Rattle.refusals.specs.Refusals as Refusals
use Rattle.refusals.specs.Outcomes.{Moved, Written, Paid, moved, wrote}
use Rattle.prelude.specs.Finite.{◌and◌}
use Rattle.leduc_betting.specs.Betting.{counted, ended}
use Rattle.leduc_betting.specs.Cards.{remaining}
use Rattle.leduc_rules.specs.Rules.{due, live, key}
use Rattle.leduc_positions.specs.Positions.{cards_of, seen_of, round_one, round_two, initial, with_card, with_action}
use Rattle.leduc_positions.specs.Positions.{position_checks, in_play_of, legal_of, payoff_of, saved_checks, mark}
use Rattle.leduc_positions.specs.declared.LeducState.{LeducState}

-- ---- the calls

-- start
abbrev pub started : Moved LeducState
started = record { refusal = Refusals.accepted; state = initial }

-- deal: the card of an outcome is the one that stands there among those left
abbrev pub deal_checks : LeducState → ℕ → List Check
deal_checks s k =
    (not (due (cards_of s) s.public (round_one s) (round_two s) and ltb k (length (remaining (seen_of s)))) refuses Refusals.unfit) ∷ []

unfoldable pub deal-refusal : LeducState → ℕ → ℕ
deal-refusal s k = first (position_checks s ++ deal_checks s k)

abbrev pub dealt : LeducState → ℕ → Moved LeducState
dealt s k = moved (deal-refusal s k) s (with_card s (get_or (remaining (seen_of s)) k 0))

-- step: an illegal action becomes FOLD if that is legal, else CALL
abbrev pub step_checks : LeducState → List Check
step_checks s = (not (live (cards_of s) s.public (round_one s) (round_two s)) refuses Refusals.unfit) ∷ []

unfoldable pub step_refusal : LeducState → ℕ
step_refusal s = first (position_checks s ++ step_checks s)

abbrev pub stepped : LeducState → ℕ → Moved LeducState
stepped s a = moved (step_refusal s) s (with_action s (counted (in_play_of s) a))

-- legal list, of a seat t, into an output of room bytes
abbrev pub legal_checks : LeducState → ℕ → ℕ → List Check
legal_checks s t room = (ltb room (length (legal_of s t)) refuses Refusals.output) ∷ []

unfoldable pub legal-refusal : LeducState → ℕ → ℕ → ℕ
legal-refusal s t room = first (position_checks s ++ legal_checks s t room)

abbrev pub listed : LeducState → ℕ → ℕ → Written LeducState
listed s t room = wrote (legal-refusal s t room) s (length (legal_of s t))

-- key, of a seat t that has a card
abbrev pub key_of : LeducState → ℕ → List ℕ
key_of s t = key (cards_of s) s.public (round_one s) (round_two s) t

abbrev pub key_checks : LeducState → ℕ → ℕ → List Check
key_checks s t room = (leb (length (cards_of s)) t refuses Refusals.unfit) ∷ (ltb room (length (key_of s t)) refuses Refusals.output) ∷ []

unfoldable pub key-refusal : LeducState → ℕ → ℕ → ℕ
key-refusal s t room = first (position_checks s ++ key_checks s t room)

abbrev pub keyed : LeducState → ℕ → ℕ → Written LeducState
keyed s t room = wrote (key-refusal s t room) s (length (key_of s t))

-- payoff, at the end of a hand: a number for each seat, 0 past the seats
abbrev pub payoff_checks : LeducState → List Check
payoff_checks s = (not (ended (round_one s) (round_two s)) refuses Refusals.unfit) ∷ []

unfoldable pub payoff-refusal : LeducState → ℕ
payoff-refusal s = first (position_checks s ++ payoff_checks s)

abbrev pub payoff-answer : ℕ → LeducState → Paid LeducState
payoff-answer zero s = record { refusal = zero; state = s; count = 2; payoffs = payoff_of s 0 ∷ payoff_of s 1 ∷ replicate 8 (pos 0) }
payoff-answer (suc r) s = record { refusal = suc r; state = s; count = 0; payoffs = replicate 10 (pos 0) }

abbrev pub paid : LeducState → Paid LeducState
paid s = payoff-answer (payoff-refusal s) s

-- saved position, with its end mark m
abbrev pub mark_checks : LeducState → ℕ → List Check
mark_checks s m = (not (eqb m (mark (ended (round_one s) (round_two s)))) refuses Refusals.end_mark) ∷ []

unfoldable pub saved_refusal : LeducState → ℕ → ℕ
saved_refusal s m = first (saved_checks s ++ mark_checks s m)

abbrev pub checked : LeducState → ℕ → Moved LeducState
checked s m = record { refusal = saved_refusal s m; state = s }

-- What each call answers, and what it leaves in lent memory.
-- A refused answer holds its number, the position handed in (a refused start: the initial one, all zero), and 0 in every other field.
use Rattle.std.specs.Prelude.{not, List, [], ◌∷◌, ◌++◌, ℕ, zero, suc, eqb, leb, ltb, pos, length, get_or, replicate}
use Rattle.refusals.specs.Refusals.{Check, first, ◌refuses◌}
use Rattle.refusals.specs.Refusals as Refusals
use Rattle.refusals.specs.Outcomes.{Moved, Written, Paid, moved, wrote}
use Rattle.prelude.specs.Finite.{◌and◌}
use Rattle.kuhn_rules.specs.Rules.{due, live, over, ended, legal, key, remaining}
use Rattle.kuhn_rules.specs.Stakes.{payoffs_of}
use Rattle.kuhn_positions.specs.Positions.{cards_of, history_of, initial, with_card, with_action}
use Rattle.kuhn_positions.specs.Positions.{counted, seats-out, position_checks, saved_checks, mark}
use Rattle.kuhn.specs.declared.KuhnPoker.{KuhnPoker}
use Rattle.kuhn_positions.specs.declared.KuhnState.{KuhnState}

-- start
abbrev pub start_refusal : KuhnPoker → ℕ
start_refusal g = first ((seats-out g.players refuses Refusals.seats) ∷ [])

abbrev pub started : KuhnPoker → Moved KuhnState
started g = record { refusal = start_refusal g; state = initial }

-- deal: the card of an outcome is the one that stands there among those left
abbrev pub deal_checks : ℕ → KuhnState → ℕ → List Check
deal_checks n s k = (not (due n (cards_of s) and ltb k (length (remaining n (cards_of s)))) refuses Refusals.unfit) ∷ []

unfoldable pub deal_refusal : KuhnPoker → KuhnState → ℕ → ℕ
deal_refusal g s k = first (position_checks g.players s ++ deal_checks g.players s k)

abbrev pub dealt : KuhnPoker → KuhnState → ℕ → Moved KuhnState
dealt g s k = moved (deal_refusal g s k) s (with_card s (get_or (remaining g.players (cards_of s)) k 0))

-- step
abbrev pub step_checks : ℕ → KuhnState → List Check
step_checks n s = (not (live n (cards_of s) (history_of s)) refuses Refusals.unfit) ∷ []

unfoldable pub step_refusal : KuhnPoker → KuhnState → ℕ
step_refusal g s = first (position_checks g.players s ++ step_checks g.players s)

abbrev pub stepped : KuhnPoker → KuhnState → ℕ → Moved KuhnState
stepped g s a = moved (step_refusal g s) s (with_action s (counted a))

-- legal list, of a seat p, into an output of room bytes
unfoldable pub legal_of : KuhnPoker → KuhnState → ℕ → List ℕ
legal_of g s p = legal g.players (cards_of s) (history_of s) p

abbrev pub legal_checks : KuhnPoker → KuhnState → ℕ → ℕ → List Check
legal_checks g s p room = (ltb room (length (legal_of g s p)) refuses Refusals.output) ∷ []

unfoldable pub legal_refusal : KuhnPoker → KuhnState → ℕ → ℕ → ℕ
legal_refusal g s p room = first (position_checks g.players s ++ legal_checks g s p room)

abbrev pub listed : KuhnPoker → KuhnState → ℕ → ℕ → Written KuhnState
listed g s p room = wrote (legal_refusal g s p room) s (length (legal_of g s p))

-- key, of a seat p that has a card
unfoldable pub key_of : KuhnState → ℕ → List ℕ
key_of s p = key (cards_of s) (history_of s) p

abbrev pub key_checks : KuhnState → ℕ → ℕ → List Check
key_checks s p room = (leb (length (cards_of s)) p refuses Refusals.unfit) ∷ (ltb room (length (key_of s p)) refuses Refusals.output) ∷ []

unfoldable pub key_refusal : KuhnPoker → KuhnState → ℕ → ℕ → ℕ
key_refusal g s p room = first (position_checks g.players s ++ key_checks s p room)

abbrev pub keyed : KuhnPoker → KuhnState → ℕ → ℕ → Written KuhnState
keyed g s p room = wrote (key_refusal g s p room) s (length (key_of s p))

-- payoff, at the end of a hand: a number for each seat, 0 past the seats
abbrev pub payoff_checks : ℕ → KuhnState → List Check
payoff_checks n s = (not (over n (cards_of s) (history_of s)) refuses Refusals.unfit) ∷ []

unfoldable pub payoff_refusal : KuhnPoker → KuhnState → ℕ
payoff_refusal g s = first (position_checks g.players s ++ payoff_checks g.players s)

abbrev pub payoff-answer : ℕ → KuhnPoker → KuhnState → Paid KuhnState
payoff-answer zero g s =
    record { refusal = zero; state = s; count = g.players; payoffs = payoffs_of g.players (cards_of s) (history_of s) }
payoff-answer (suc r) g s = record { refusal = suc r; state = s; count = 0; payoffs = replicate 10 (pos 0) }

abbrev pub paid : KuhnPoker → KuhnState → Paid KuhnState
paid g s = payoff-answer (payoff_refusal g s) g s

-- saved position, with its end mark m
abbrev pub mark_checks : ℕ → KuhnState → ℕ → List Check
mark_checks n s m = (not (eqb m (mark (ended n (history_of s)))) refuses Refusals.end_mark) ∷ []

unfoldable pub saved_refusal : KuhnPoker → KuhnState → ℕ → ℕ
saved_refusal g s m = first (saved_checks g.players s ++ mark_checks g.players s m)

abbrev pub checked : KuhnPoker → KuhnState → ℕ → Moved KuhnState
checked g s m = record { refusal = saved_refusal g s m; state = s }

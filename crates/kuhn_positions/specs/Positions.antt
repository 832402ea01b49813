-- Positions, and what is checked of them (document 01, "The two games" and numbers 2, 10 to 14 and 19).
use Rattle.std.specs.Prelude.{Bool, not, cond, List, [], ◌∷◌, ℕ, ◌+◌, ◌*◌, ◌-◌, eqb, leb, ltb, take, set, replicate}
use Rattle.refusals.specs.Refusals.{Check, ◌refuses◌}
use Rattle.refusals.specs.Refusals as Refusals
use Rattle.prelude.specs.Finite.{◌and◌, ◌or◌}
use Rattle.kuhn_rules.specs.Rules.{BET, overrun}
use Rattle.kuhn_rules.specs.Reached.{possible, strange, twice, unknown}
use Rattle.kuhn_positions.specs.declared.KuhnState.{KuhnState}

-- ---- positions

-- the cards and the actions of a position; places past a length are no part of it
abbrev pub cards_of : KuhnState → List ℕ
cards_of s = take s.dealt s.cards

abbrev pub history_of : KuhnState → List ℕ
history_of s = take s.acted s.history

-- the initial position
abbrev pub initial : KuhnState
initial = record { cards = replicate 10 0; dealt = 0; history = replicate 19 0; acted = 0 }

-- one card more; one action more
abbrev pub with_card : KuhnState → ℕ → KuhnState
with_card s c = record { cards = set s.cards s.dealt c; dealt = s.dealt + 1; history = s.history; acted = s.acted }

abbrev pub with_action : KuhnState → ℕ → KuhnState
with_action s a = record { cards = s.cards; dealt = s.dealt; history = set s.history s.acted a; acted = s.acted + 1 }

-- every action above 1 counts as a bet
abbrev pub counted : ℕ → ℕ
counted a = cond (ltb BET a) BET a

-- ---- checks

-- number 2: the seat count is outside 2 to 10
abbrev pub seats-out : ℕ → Bool
seats-out n = ltb n 2 or ltb 10 n

-- number 19: no length is above its array, and the cards and actions can be reached by legal moves
unfoldable pub reachable : ℕ → KuhnState → Bool
reachable n s = (leb s.dealt 10 and leb s.acted 19) and possible n (cards_of s) (history_of s)

-- the checks of every rules call on a position, before its own
abbrev pub position_checks : ℕ → KuhnState → List Check
position_checks n s = (seats-out n refuses Refusals.seats) ∷ (not (reachable n s) refuses Refusals.unreachable) ∷ []

-- saved position: what is wrong with it, whatever its end mark says
abbrev pub saved_checks : ℕ → KuhnState → List Check
saved_checks n s =
    (seats-out n refuses Refusals.seats)
    ∷ (not (eqb s.dealt n) refuses Refusals.card-count)
    ∷ (strange n (cards_of s) refuses Refusals.card)
    ∷ (twice (cards_of s) refuses Refusals.card-twice)
    ∷ ((ltb (2 * n - 1) s.acted or unknown (history_of s)) refuses Refusals.history)
    ∷ (overrun n (history_of s) refuses Refusals.closed)
    ∷ []

-- its end mark: 0 for a live hand, 1 for one that has ended
abbrev pub mark : Bool → ℕ
mark b = cond b 1 0

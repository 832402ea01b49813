-- Positions, and what is checked of them: numbers 10 to 17 and 19.
use Rattle.std.specs.Prelude.{Bool, false, not, cond, List, [], ◌∷◌, ◌++◌, ℕ, ◌+◌, eqb, leb, ltb, ℤ, take, drop, set, replicate, None, Some}
use Rattle.refusals.specs.Refusals.{Check, ◌refuses◌}
use Rattle.refusals.specs.Refusals as Refusals
use Rattle.prelude.specs.Finite.{◌and◌}
use Rattle.leduc_betting.specs.Betting.{closes, in_play}
use Rattle.leduc_betting.specs.Cards.{hidden, seen}
use Rattle.leduc_betting.specs.Checks.{barred_by, card_checks, round_checks, public_checks}
use Rattle.leduc_rules.specs.Rules.{legal, payoff}
use Rattle.leduc_rules.specs.Stakes.{ante, raise₁, raise₂}
use Rattle.leduc_rules.specs.Reached.{possible}
use Rattle.leduc_positions.specs.declared.LeducState.{LeducState}

-- ---- positions

-- the seats' cards, all cards dealt, and the actions of each round; places past a length are no part of them
abbrev pub cards_of : LeducState → List ℕ
cards_of s = take s.dealt s.cards

abbrev pub seen_of : LeducState → List ℕ
seen_of s = seen (cards_of s) s.public

abbrev pub round_one : LeducState → List ℕ
round_one s = take s.acted1 s.history

abbrev pub round_two : LeducState → List ℕ
round_two s = take s.acted2 (drop 4 s.history)

-- the initial position
abbrev pub initial : LeducState
initial = record { cards = replicate 2 0; dealt = 0; public = None; history = replicate 8 0; acted1 = 0; acted2 = 0 }

-- one card more: a seat's, or the public one once both have theirs
abbrev pub with_private : LeducState → ℕ → LeducState
with_private s c = record {
  cards = set s.cards s.dealt c;
  dealt = s.dealt + 1;
  public = s.public;
  history = s.history;
  acted1 = s.acted1;
  acted2 = s.acted2;
}

abbrev pub with_public : LeducState → ℕ → LeducState
with_public s c =
    record { cards = s.cards; dealt = s.dealt; public = Some c; history = s.history; acted1 = s.acted1; acted2 = s.acted2 }

abbrev pub with_card : LeducState → ℕ → LeducState
with_card s c = cond (ltb s.dealt 2) (with_private s c) (with_public s c)

-- one action more: of round 1, or of round 2 once round 1 has closed
abbrev pub with_first : LeducState → ℕ → LeducState
with_first s a = record {
  cards = s.cards;
  dealt = s.dealt;
  public = s.public;
  history = set s.history s.acted1 a;
  acted1 = s.acted1 + 1;
  acted2 = s.acted2;
}

abbrev pub with_second : LeducState → ℕ → LeducState
with_second s a = record {
  cards = s.cards;
  dealt = s.dealt;
  public = s.public;
  history = set s.history (4 + s.acted2) a;
  acted1 = s.acted1;
  acted2 = s.acted2 + 1;
}

abbrev pub with_action : LeducState → ℕ → LeducState
with_action s a = cond (closes (round_one s)) (with_second s a) (with_first s a)

-- the history of the round in play
abbrev pub in_play_of : LeducState → List ℕ
in_play_of s = in_play (round_one s) (round_two s)

-- what seat t may do
abbrev pub legal_of : LeducState → ℕ → List ℕ
legal_of s t = legal (cards_of s) s.public (round_one s) (round_two s) t

-- what seat t gains at the end
abbrev pub payoff_of : LeducState → ℕ → ℤ
payoff_of s t = payoff ante raise₁ raise₂ (cards_of s) s.public (round_one s) (round_two s) t

-- ---- checks

-- number 19: no length is above its part of the array, and the cards and actions can be reached by legal moves
unfoldable pub reachable : LeducState → Bool
reachable s =
    (leb s.dealt 2 and (leb s.acted1 4 and leb s.acted2 4))
    and possible (cards_of s) s.public (round_one s) (round_two s)

-- the check of every rules call on a position, before its own
abbrev pub position_checks : LeducState → List Check
position_checks s = (not (reachable s) refuses Refusals.unreachable) ∷ []

-- numbers 10 to 17 of a saved position; without the public card no action of round 2 is legal
unfoldable pub saved_checks : LeducState → List Check
saved_checks s =
    (not (eqb s.dealt 2) refuses Refusals.card-count)
    ∷ card_checks (seen_of s)
    ++ (round_checks false false s.acted1 (round_one s)
    ++ (round_checks (barred_by (round_one s)) (hidden s.public) s.acted2 (round_two s)
    ++ public_checks (hidden s.public) (round_one s) (round_two s)))

-- its end mark: 0 for a live hand, 1 for one that has ended
abbrev pub mark : Bool → ℕ
mark b = cond b 1 0

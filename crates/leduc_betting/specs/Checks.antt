-- The checks of a saved position's cards and histories, numbers 11 to 17, in the order in which they are made.
use Rattle.std.specs.Prelude.{Bool, not, List, [], ◌∷◌, ◌++◌, ℕ, ltb}
use Rattle.refusals.specs.Refusals.{Check, ◌refuses◌}
use Rattle.refusals.specs.Refusals as Refusals
use Rattle.prelude.specs.Finite.{◌and◌, ◌or◌}
use Rattle.leduc_betting.specs.Betting.{open_round, folded, closes, may, ended, unknown}
use Rattle.leduc_betting.specs.Cards.{strange, twice}

-- numbers 11 and 12
abbrev pub card_checks : List ℕ → List Check
card_checks cs = (strange cs refuses Refusals.card) ∷ (twice cs refuses Refusals.card-twice) ∷ []

-- the checks of a round's actions, each after those made before it: 14, then 15
-- barred: no action may stand in the round; blind: none is legal there, for lack of the public card
unfoldable pub action_checks : (barred blind : Bool) (before h : List ℕ) → List Check
action_checks barred blind before [] = []
action_checks barred blind before (a ∷ h) =
    ((barred or not (open_round before)) refuses Refusals.closed)
    ∷ ((blind or not (may before a)) refuses Refusals.illegal)
    ∷ action_checks barred blind (before ++ (a ∷ [])) h

-- no action may stand in round 2: the hand has ended in round 1, or round 1 has not closed
unfoldable pub barred_by : List ℕ → Bool
barred_by h₁ = folded h₁ or not (closes h₁)

-- a round's history is too long or holds an unknown action
unfoldable pub malformed : ℕ → List ℕ → Bool
malformed n h = ltb 4 n or unknown h

-- numbers 13 to 15 of a round of n actions
abbrev pub round_checks : (barred blind : Bool) (n : ℕ) (h : List ℕ) → List Check
round_checks barred blind n h = (malformed n h refuses Refusals.history) ∷ action_checks barred blind [] h

-- numbers 16 and 17: a live second round is blind; a public card lies there before round 1 closed
abbrev pub public_checks : (blind : Bool) (h₁ h₂ : List ℕ) → List Check
public_checks blind h₁ h₂ =
    ((blind and (closes h₁ and not (ended h₁ h₂))) refuses Refusals.no_public)
    ∷ ((not blind and not (closes h₁)) refuses Refusals.early-public)
    ∷ []

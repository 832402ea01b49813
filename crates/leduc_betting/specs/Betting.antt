-- Leduc's betting (Southey et al. 2005): what depends on the histories alone.
-- A history lists the actions of one round, from the first; h₁ and h₂ are those of the two rounds.
-- `abbrev` and `unfoldable` tell the prover when it may put a definition in place of its name; a reader may pass over both.
use Rattle.std.specs.Prelude.{Bool, true, not, cond, List, [], ◌∷◌, ◌++◌, ℕ, ◌-◌, ◌%◌, eqb, leb, ltb, length, get_or, ◌==◌, count_by}
use Rattle.prelude.specs.Finite.{◌and◌, ◌or◌, some, those}

-- ---- one round

abbrev pub FOLD : ℕ
FOLD = 0

abbrev pub CALL : ℕ
CALL = 1

abbrev pub RAISE : ℕ
RAISE = 2

-- the round's last action is a
unfoldable pub ends_with : ℕ → List ℕ → Bool
ends_with a h = ltb 0 (length h) and eqb (get_or h (length h - 1) 0) a

-- a seat has folded
unfoldable pub folded : List ℕ → Bool
folded h = some (length h) (λ i. eqb (get_or h i 0) FOLD)

-- the round closes at a CALL that is its second or later action
unfoldable pub closes : List ℕ → Bool
closes h = leb 2 (length h) and ends_with CALL h

-- the round goes on
unfoldable pub open_round : List ℕ → Bool
open_round h = not (folded h or closes h)

-- the seat to act is behind: the other has just raised
unfoldable pub behind : List ℕ → Bool
behind h = ends_with RAISE h

-- how often the round was raised
unfoldable pub raises : List ℕ → ℕ
raises h = count_by (λ a. a == RAISE) h

-- FOLD is legal only when behind, CALL always, RAISE while the round has fewer than 2 raises
unfoldable pub may : List ℕ → ℕ → Bool
may h a = (eqb a FOLD and behind h) or (eqb a CALL or (eqb a RAISE and ltb (raises h) 2))

-- the legal actions, in ascending order
unfoldable pub options : List ℕ → List ℕ
options h = those 3 (may h)

-- what a step makes of an action: an illegal one becomes FOLD if that is legal, else CALL
unfoldable pub counted : List ℕ → ℕ → ℕ
counted h a = cond (may h a) a (cond (may h FOLD) FOLD CALL)

-- ---- whole rounds

-- some action is none of FOLD, CALL and RAISE
unfoldable pub unknown : List ℕ → Bool
unknown h = some (length h) (λ i. ltb RAISE (get_or h i 0))

-- after the actions before of a round come those of h, each legal when made and none after the round closed
unfoldable pub played : (before h : List ℕ) → Bool
played before [] = true
played before (a ∷ h) = (open_round before and may before a) and played (before ++ (a ∷ [])) h

-- ---- both rounds

-- the history of the round in play: round 2 once round 1 has closed
unfoldable pub in_play : List ℕ → List ℕ → List ℕ
in_play h₁ h₂ = cond (closes h₁) h₂ h₁

-- the seat whose turn it is
unfoldable pub turn : List ℕ → List ℕ → ℕ
turn h₁ h₂ = length (in_play h₁ h₂) % 2

-- the hand ends when a seat folds, or round 2 closes
unfoldable pub ended : List ℕ → List ℕ → Bool
ended h₁ h₂ = folded h₁ or (folded h₂ or closes h₂)

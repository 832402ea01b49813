-- The positions that can be reached from the start by legal moves (document 01, number 19), by moves.
use Rattle.std.specs.Prelude.{◌≡◌, true, List, [], ◌∷◌, ◌++◌, ℕ, leb}
use Rattle.kuhn_rules.specs.Rules.{BET, due, left, live}

-- the start; a deal of a card that is left, while one is due; an action, while a seat acts
pub data Reached (n : ℕ) : List ℕ → List ℕ → Type 0 where
  start : Reached n [] []
  deal : {cs h : List ℕ} (c : ℕ) → Reached n cs h → due n cs ≡ true → left n cs c ≡ true → Reached n (cs ++ (c ∷ [])) h
  act : {cs h : List ℕ} (a : ℕ) → Reached n cs h → live n cs h ≡ true → leb a BET ≡ true → Reached n cs (h ++ (a ∷ []))

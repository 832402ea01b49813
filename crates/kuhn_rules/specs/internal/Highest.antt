-- What the code's search for the winner finds: a tool of private contracts, no rule of the game (those are in Rules).
use Rattle.std.specs.Prelude.{◌≡◌, true, ◌⊎◌, List, ℕ, ◌≤◌, ◌<◌, get_or}
use Rattle.kuhn_rules.specs.Rules.{stands}

-- top is the highest card among those of the first m of n seats that stand; 0 if none of them does
pub record Highest (n : ℕ) (h cards : List ℕ) (m top : ℕ) : Type 0 where
  pub bound : (q : ℕ) → q < m → stands n h q ≡ true → get_or cards q 0 ≤ top
  pub attained : (top ≡ 0) ⊎ ((q : ℕ) × (q < m) × (stands n h q ≡ true) × (get_or cards q 0 ≡ top))

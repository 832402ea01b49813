-- What a function that makes checks tells its caller: a tool of private contracts. Definitions only; nothing is assumed.
use Rattle.std.specs.Prelude.{◌≡◌, List, ℕ}
use Rattle.refusals.specs.Refusals.{Check, first}

-- r is the number of the first check that refuses; where none does, P holds
pub record Settled (cs : List Check) (P : Type 0) (r : ℕ) : Type 0 where
  pub number : r ≡ first cs
  pub passed : r ≡ 0 → P

-- Today's stakes.
use Rattle.std.specs.Prelude.{ℕ}

-- every seat pays 1 before the deal,
abbrev pub ante : ℕ
ante = 1

-- a raise adds 2 in round 1,
abbrev pub raise₁ : ℕ
raise₁ = 2

-- and 4 in round 2
abbrev pub raise₂ : ℕ
raise₂ = 4

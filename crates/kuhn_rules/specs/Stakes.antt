-- Today's stakes, and the payoffs at them (document 01, "The two games").
use Rattle.std.specs.Prelude.{cond, List, ℕ, ltb, ℤ, pos}
use Rattle.prelude.specs.Finite.{places}
use Rattle.kuhn_rules.specs.Rules.{payoff}

-- every seat pays 1 before the deal
abbrev pub ante : ℕ
ante = 1

-- and 1 more with a bet
abbrev pub stake : ℕ
stake = 1

-- a payoff for each of ten places, 0 past the n seats
unfoldable pub payoffs_of : ℕ → List ℕ → List ℕ → List ℤ
payoffs_of n cs h = places 10 (λ p. cond (ltb p n) (payoff ante stake n cs h p) (pos 0))

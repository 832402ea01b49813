-- Sums that are lifted by 64, as worths. Definitions only; nothing is assumed.
use Rattle.std.specs.Prelude.{cond, List, ℕ, ◌*◌, ltb, ℤ, pos, ◌-ℤ◌, get_or}
use Rattle.prelude.specs.Finite.{places}

-- sums of u units lifted by 64, as worths of n seats: a tool of private contracts
unfoldable pub lowered_of : List ℕ → ℕ → ℕ → List ℤ
unfolding places
lowered_of sums u n = places 6 (λ i. cond (ltb i n) (pos (get_or sums i 0) -ℤ pos (64 * u)) (pos 0))

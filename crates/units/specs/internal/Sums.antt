-- Six sums modulo 2^64, one for each seat. Definitions only; nothing is assumed.
use Rattle.std.specs.Prelude.{◌≡◌, ℕ, ◌%◌, ◌^◌, ◌<◌, List, slice_index}
use Rattle.prelude.specs.Finite.{places}

-- the sums f
unfoldable pub wrapped : (ℕ → ℕ) → List ℕ
unfolding places
wrapped f = places 6 (λ i. f i % 2 ^ 64)

-- r has the sums f
abbrev pub Summed : (ℕ → ℕ) → List ℕ → Type 0
Summed f r = (i : ℕ) → i < 6 → slice_index r i ≡ f i % 2 ^ 64

-- The cards or the actions of a spot, as a list.
use Rattle.std.specs.Prelude.{ℕ, List, take}
use Rattle.leduc_listing_positions.specs.declared.moves.Moves.{Moves}

-- those that the array holds from its first on
unfoldable pub items : {n : ℕ} → Moves n → List ℕ
items m = take m.count m.bytes

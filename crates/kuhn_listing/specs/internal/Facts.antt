-- What holds of the walk, proved in proofs/Facts.antt.
use Rattle.std.specs.Prelude.{◌≡◌, [], ℕ, ◌≤◌}
use Rattle.kuhn_listing.specs.Facts.{listing_of_kuhn}
use Rattle.kuhn_listing.specs.internal.Walk.{deal_records}

-- the walk by the rule on the cards writes the listing
abbrev pub Walked : Type 0
Walked = (n : ℕ) → 1 ≤ n → listing_of_kuhn n ≡ deal_records n n []

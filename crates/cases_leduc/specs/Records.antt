-- Records of Leduc's listing (document 01, "The tree and its sets"): seat, key length, key in 13 bytes, public card, cards in 6 bytes,
-- legal count, 0. Proved in proofs/Records.antt.
use Rattle.std.specs.Prelude.{◌≡◌, [], ◌∷◌, ◌*◌, take, drop}
use Rattle.listing.specs.Calls.{listing_of}
use Rattle.cases.specs.Tried.{leduc}

-- the third and the last
abbrev pub LeducRecords : Type 0
LeducRecords = (take 24 (drop 48 (listing_of leduc))
    ≡ 0 ∷ 7 ∷ 0 ∷ 0 ∷ 2 ∷ 2 ∷ 1 ∷ 1 ∷ 0 ∷ 0 ∷ 0 ∷ 0 ∷ 0 ∷ 0 ∷ 0 ∷ 2 ∷ 0 ∷ 1 ∷ 0 ∷ 0 ∷ 0 ∷ 0 ∷ 2 ∷ 0 ∷ [])
    × (drop (24 * 935) (listing_of leduc)
    ≡ 0 ∷ 10 ∷ 0 ∷ 5 ∷ 0 ∷ 3 ∷ 2 ∷ 2 ∷ 1 ∷ 2 ∷ 2 ∷ 2 ∷ 0 ∷ 0 ∷ 0 ∷ 0 ∷ 5 ∷ 1 ∷ 0 ∷ 0 ∷ 0 ∷ 0 ∷ 2 ∷ 0 ∷ [])

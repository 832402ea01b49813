-- The records of specs/Records.antt, by the walk that writes the listing. Assumes nothing.
use mathlib.Core.Path.{◌≡◌, refl, ap, ◌∙◌}
use mathlib.Core.List.{[], ◌∷◌}
use Prim.Native.Nat.{◌*◌}
use lib.ListN.{take, drop}
use Rattle.prelude.specs.Finite.{◌and◌, ◌or◌, some, those, has}
use Rattle.leduc_betting.specs.Betting as LeducBetting
use Rattle.leduc_betting.specs.Cards as LeducCards
use Rattle.leduc_rules.specs.Rules as LeducRules
use Rattle.leduc_tree.specs.Tree.{start, next, fuel}
use Rattle.leduc_tree.specs.Turns.{turns, is_first, joined}
use Rattle.listing_records.specs.Listing.{bytes_of, padded}
use Rattle.leduc_listing.specs.internal.Walk.{records_of}
use Rattle.leduc_listing.proofs.Facts.{walked}
use Rattle.listing.specs.Calls.{listing_of}
use Rattle.listing.proofs.Facts.{by_number}
use Rattle.cases.specs.Tried.{leduc}
use Rattle.cases_leduc.specs.Records.{LeducRecords}

by_walk : listing_of leduc ≡ records_of (turns fuel (next start) start)
by_walk = by_number.leduc ∙ walked

third : take 24 (drop 48 (records_of (turns fuel (next start) start))) ≡ 0 ∷ 7 ∷ 0 ∷ 0 ∷ 2 ∷ 2 ∷ 1 ∷ 1 ∷ 0 ∷ 0 ∷ 0 ∷ 0 ∷ 0 ∷ 0 ∷ 0 ∷ 2 ∷ 0 ∷ 1 ∷ 0 ∷ 0 ∷ 0 ∷ 0 ∷ 2 ∷ 0 ∷ []
unfolding records_of turns next joined is_first bytes_of padded ◌and◌ ◌or◌ some those has LeducBetting.ends_with LeducBetting.folded LeducBetting.closes LeducBetting.behind LeducBetting.raises LeducBetting.may
    LeducBetting.options LeducBetting.in_play LeducBetting.turn LeducBetting.ended LeducCards.left LeducCards.remaining LeducRules.public-due LeducRules.due LeducRules.key
third = refl

last : drop (24 * 935) (records_of (turns fuel (next start) start)) ≡ 0 ∷ 10 ∷ 0 ∷ 5 ∷ 0 ∷ 3 ∷ 2 ∷ 2 ∷ 1 ∷ 2 ∷ 2 ∷ 2 ∷ 0 ∷ 0 ∷ 0 ∷ 0 ∷ 5 ∷ 1 ∷ 0 ∷ 0 ∷ 0 ∷ 0 ∷ 2 ∷ 0 ∷ []
unfolding records_of turns next joined is_first bytes_of padded ◌and◌ ◌or◌ some those has LeducBetting.ends_with LeducBetting.folded LeducBetting.closes LeducBetting.behind LeducBetting.raises LeducBetting.may
    LeducBetting.options LeducBetting.in_play LeducBetting.turn LeducBetting.ended LeducCards.left LeducCards.remaining LeducRules.public-due LeducRules.due LeducRules.key
last = refl

pub leduc_records : LeducRecords
leduc_records = (ap (λ l. take 24 (drop 48 l)) by_walk ∙ third, ap (drop (24 * 935)) by_walk ∙ last)

-- The statements of specs/Facts.antt, each by its proof. Assumes nothing.
use mathlib.Core.Path.{refl}
use Rattle.prelude.specs.Finite.{◌and◌, ◌or◌, some, every, those, has}
use Rattle.game_tree.specs.Tree.{fan}
use Rattle.game_tree.specs.Reply.{same}
use Rattle.game_tree.specs.Sets.{preorder, decisions, is_of, met, firsts, sets, decides, numbers}
use Rattle.kuhn_rules.specs.Rules.{bet-made, after-bet, ended, left, remaining, legal}
use Rattle.kuhn_rules.specs.Stakes.{ante, stake}
use Rattle.kuhn_tree.specs.Tree.{next, each, below, tree_of_kuhn}
use Rattle.kuhn_tree.specs.Positions.{dealt, acted, positions, position_of}
use Rattle.listing_records.specs.Listing.{padded, bytes_of, flat, listing}
use Rattle.listing_records.proofs.Bytes.{length-listing}
use Rattle.kuhn_listing.specs.Listing.{cards_of}
use Rattle.kuhn_listing.specs.Facts.{tree, listing_of_kuhn, KeysFit, Long, TwoSeats}
use Rattle.kuhn_listing.specs.internal.Facts.{Walked}
use Rattle.kuhn_listing.proofs.Fit.{keys_short}
use Rattle.kuhn_listing.proofs.Walk as Walk

pub walked : Walked
walked = Walk.walked

pub keys_fit : KeysFit
keys_fit n = keys_short ante stake n

pub long : Long
unfolding listing_of_kuhn
long n = length-listing (tree n) (λ a. cards_of (position_of (tree n) n a))

pub two_seats : TwoSeats
unfolding listing_of_kuhn listing flat bytes_of padded positions dealt acted tree_of_kuhn below next each preorder decisions fan same is_of met firsts sets decides numbers bet-made after-bet ended left remaining legal ◌and◌ ◌or◌ some every those has
two_seats = refl

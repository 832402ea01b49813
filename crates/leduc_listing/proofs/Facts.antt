-- The statements of specs/Facts.antt, each by its proof. Assumes nothing.
use mathlib.Core.Path.{◌≡◌, refl}
use mathlib.Core.Bool.{true}
use lib.Dec.{leb}
use lib.ListN.{length}
use borrow.Author.Tests.{leb-true}
use Rattle.prelude.specs.Finite.{◌and◌, ◌or◌, some, those, has}
use Rattle.game_tree.proofs.Checked.{every, every-sound}
use Rattle.leduc_betting.specs.Betting.{ends_with, folded, closes, behind, raises, may, options, in_play, turn, ended}
use Rattle.leduc_betting.specs.Cards.{left, remaining}
use Rattle.leduc_rules.specs.Rules.{public-due, due, key}
use Rattle.leduc_tree.specs.Tree.{next, each, below, tree_of_leduc}
use Rattle.listing_records.proofs.Bytes.{length-listing}
use Rattle.leduc_tree.specs.Positions.{position_of}
use Rattle.leduc_listing.specs.Listing.{cards_of}
use Rattle.leduc_listing.specs.Facts.{tree, listing_of_leduc, KeysFit, Long}
use Rattle.leduc_listing.specs.internal.Facts.{Walked}
use Rattle.leduc_listing.proofs.Walk as Walk

pub walked : Walked
walked = Walk.walked

-- computed over the whole tree
all_short : every (λ j k a. leb (length k) 13) tree ≡ true
unfolding every tree_of_leduc below next each ◌and◌ ◌or◌ some those has ends_with folded closes behind raises may options in_play turn ended left remaining public-due due key
all_short = refl

pub keys_fit : KeysFit
keys_fit = every-sound (λ j k a. leb (length k) 13) _ (λ j k a e. leb-true (length k) 13 e) tree all_short

pub long : Long
unfolding listing_of_leduc
long = length-listing tree (λ a. cards_of (position_of tree a))

-- What the walk of the code writes, by the rule on the cards: a tool of private contracts, equal to the listing (proofs/Facts.antt).
use Rattle.std.specs.Prelude.{Bool, cond, List, [], ◌∷◌, ◌++◌, ℕ}
use Rattle.prelude.specs.Finite.{those}
use Rattle.leduc_betting.specs.Cards.{seen, left}
use Rattle.leduc_betting.specs.Betting.{in_play, may}
use Rattle.leduc_tree.specs.Tree.{Position, dealt, acted, due, ended, next}
use Rattle.leduc_tree.specs.internal.Tree.{acts}
use Rattle.leduc_tree.specs.Turns.{turns, is_first, decision_at}
use Rattle.listing_records.specs.Listing.{bytes_of}
use Rattle.listing_records.specs.internal.Written.{joined}
use Rattle.leduc_listing.specs.Listing.{cards_of}

-- the record of a position at which a seat acts
abbrev pub record_at : Position → List ℕ
record_at q = bytes_of (decision_at q) (cards_of q)

-- of these positions the records of those that are first of their set
unfoldable pub records_of : List Position → List ℕ
unfolding is_first bytes_of
records_of [] = []
records_of (q ∷ qs) = let r : List ℕ = records_of qs in cond (is_first q) (record_at q ++ r) r

-- that of one position, if a seat acts there
unfoldable pub node_records : Position → List ℕ
unfolding records_of
node_records q = cond (acts q) (records_of (q ∷ [])) []

-- the moves of a position by number: the cards left while one is due, else the legal actions
unfoldable pub is_move : Position → ℕ → Bool
is_move q a = cond (due q) (left (seen q.cards q.public) a) (may (in_play q.first q.second) a)

-- their numbers are below this
unfoldable pub move_bound : Position → ℕ
move_bound q = cond (due q) 6 (cond (ended q) 0 3)

-- the position after one
unfoldable pub moved : Position → ℕ → Position
moved q a = cond (due q) (dealt q a) (acted q a)

-- the records after the moves below a bound, lower ones first, with at most r moves to come after each
unfoldable pub next_records : ℕ → Position → ℕ → List ℕ
unfolding records_of turns next is_move moved joined
next_records r q bound = joined (those bound (is_move q)) (λ a. records_of (turns r (next (moved q a)) (moved q a)))

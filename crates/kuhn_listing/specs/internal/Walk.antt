-- What the walk of the code writes, by the rule on the cards: a tool of private contracts, equal to the listing (proofs/Facts.antt).
use Rattle.std.specs.Prelude.{cond, List, [], ◌∷◌, ◌++◌, ℕ, zero, suc, ◌-◌, ◌≤◌, ◌<◌, get_or}
use Rattle.prelude.specs.Finite.{those}
use Rattle.kuhn_rules.specs.Rules.{ended, turn, left, remaining}
use Rattle.kuhn_tree.specs.Order.{turns, histories, decision_at, lowest, first}
use Rattle.listing_records.specs.Listing.{bytes_of}
use Rattle.listing_records.specs.internal.Written.{joined}

-- the record of the node with cards cs and history h
abbrev pub record_at : ℕ → List ℕ → List ℕ → List ℕ
record_at n cs h = bytes_of (decision_at n cs h) (255, cs)

-- of these histories the records of those that are first of their set
unfoldable pub records_of : ℕ → List ℕ → List (List ℕ) → List ℕ
unfolding lowest bytes_of
records_of n cs [] = []
records_of n cs (h ∷ hs) = let r : List ℕ = records_of n cs hs in cond (first n cs (turn n h)) (record_at n cs h ++ r) r

-- those from history h on, with at most r actions still to come
abbrev pub hand_records : ℕ → List ℕ → ℕ → List ℕ → List ℕ
hand_records n cs r h = records_of n cs (turns n r (ended n h) h)

-- k cards to deal, then the histories of a hand
unfoldable pub deal_records : ℕ → ℕ → List ℕ → List ℕ
unfolding records_of joined histories
deal_records n zero cs = records_of n cs (histories n)
deal_records n (suc k) cs = joined (remaining n cs) (λ c. deal_records n k (cs ++ (c ∷ [])))

-- the cards cs dealt to so many seats, then to the next seat a card below a bound, lower cards first
unfoldable pub next_deals : (n dealt : ℕ) → List ℕ → ℕ → List ℕ
unfolding joined deal_records
next_deals n dealt cs bound = joined (those bound (left n cs)) (λ c. deal_records n (n - suc dealt) (cs ++ (c ∷ [])))

-- the first cards of so many seats are in the deck
abbrev pub InDeck : ℕ → ℕ → List ℕ → Type 0
InDeck n dealt cards = (i : ℕ) → i < dealt → get_or cards i 0 ≤ n

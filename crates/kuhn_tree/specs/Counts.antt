-- How many nodes, sets and entries Kuhn has with n seats, as numbers (document 01, the table of counts).
-- Definitions only; nothing is assumed.
use Rattle.std.specs.Prelude.{ℕ, zero, suc, pred, ◌+◌, ◌*◌, ◌-◌, ◌^◌}

-- the histories of a hand at which a seat acts
abbrev pub turn_count : ℕ → ℕ
turn_count n = n * 2 ^ (n - 1)

-- the nodes of a hand: its decisions, with two children each
abbrev pub hand_nodes : ℕ → ℕ
hand_nodes n = turn_count n * 2 + 1

-- the nodes with k of L cards still to deal, where a hand has B
unfoldable pub deal_nodes : ℕ → ℕ → ℕ → ℕ
deal_nodes B L zero = B
deal_nodes B L (suc k) = suc (L * deal_nodes B (pred L) k)

-- the nodes of the tree: n of n + 1 cards are dealt
abbrev pub kuhn_nodes : ℕ → ℕ
kuhn_nodes n = deal_nodes (hand_nodes n) (n + 1) n

-- the sets: one for each of these histories and each card
abbrev pub kuhn_sets : ℕ → ℕ
kuhn_sets n = turn_count n * (n + 1)

-- the entries: two actions a set
abbrev pub kuhn_entries : ℕ → ℕ
kuhn_entries n = kuhn_sets n * 2

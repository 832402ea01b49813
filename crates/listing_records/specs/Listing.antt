-- The listing of a tree's sets (document 01, "The tree and its sets": "Listing writes 24 bytes per set").
-- Definitions only; nothing is assumed.
use Rattle.std.specs.Prelude.{List, [], ◌∷◌, ◌++◌, map, ℕ, length, get_or, take, replicate}
use Rattle.game_tree.specs.Tree.{Tree}
use Rattle.game_tree.specs.Sets.{Decision, sets, set_members}

-- a list in k bytes: unused bytes are 0
unfoldable pub padded : ℕ → List ℕ → List ℕ
padded k l = take k (l ++ replicate k 0)

-- what the cards of a node show: the public card or 255, and the seats' cards
abbrev pub Cards : Type 0
Cards = ℕ × List ℕ

-- 24 bytes: seat, key length, key in 13 bytes, public card or 255, the first node's cards in 6 bytes, legal count, 0
unfoldable pub bytes_of : Decision → Cards → List ℕ
unfolding padded
bytes_of x cards = x.0 ∷ length x.1 ∷ padded 13 x.1 ++ (cards.0 ∷ padded 6 cards.1 ++ (x.2 ∷ 0 ∷ []))

-- a set's first node: the first of its members
abbrev pub first_node : Tree → Decision → ℕ
first_node t x = get_or (set_members t x.0 x.1) 0 0

-- lists, one after another
unfoldable pub flat : List (List ℕ) → List ℕ
flat [] = []
flat (l ∷ ls) = l ++ flat ls

-- the bytes of each set, in set order; cards_of gives the cards of a node by its number
unfoldable pub listing : Tree → (ℕ → Cards) → List ℕ
unfolding flat bytes_of
listing t cards_of = flat (map (λ x. bytes_of x (cards_of (first_node t x))) (sets t))

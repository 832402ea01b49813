-- A small tree to try the theorem on. Seat 0's set 1 has two members, and the first alone would decide otherwise;
-- set 4 lies below it; set 3 gets no units.
use Rattle.std.specs.Prelude.{cond, [], ◌∷◌, ℕ, eqb, ℤ, pos, negsuc, neg_ℤ}
use Rattle.game_tree.specs.Tree.{Tree, end, chance, decide, nil, cons, Strategy}
use Rattle.game_tree.specs.Reply.{Reply, reply_tree}

-- z to seat 0, paid by seat 1
unfoldable pub pays : ℤ → Tree
pays z = end (λ j. cond (eqb j 0) z (neg_ℤ z))

-- a decision of seat j with the key n between two children
unfoldable pub either : ℕ → ℕ → Tree → Tree → Tree
either j n t v = decide j (n ∷ []) (cons t (cons v nil))

-- three chance children; the numbers after the seat are the keys
unfoldable pub small : Tree
unfolding pays either
small = chance (cons (either 0 1 (pays (pos 1)) (either 0 4 (pays (pos 0)) (pays (negsuc 4))))
    (cons (either 0 1 (pays (negsuc 2)) (either 0 4 (pays (negsuc 0)) (pays (pos 4))))
    (cons (either 1 2 (pays (pos 2)) (either 0 3 (pays (pos 2)) (pays (pos 5)))) nil)))

-- two parts in each set: seat 1 never lets seat 0 come to set 3, where seat 0 has both parts on action 1; elsewhere seat 0 has one on each
unfoldable pub given : Strategy
given j [] a = 0
given j (n ∷ k) a = cond (eqb n 3) (cond (eqb a 0) 0 2) (cond (eqb n 2) (cond (eqb a 0) 2 0) 1)

-- seat 0's reply tree, from U = 3 × 2² units
unfoldable pub seen : Reply
unfolding reply_tree small given
seen = reply_tree 2 given 0 12 small

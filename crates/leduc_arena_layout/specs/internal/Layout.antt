-- Leduc's tree as the builder writes it: a decision's key is its code, and an end's payoffs are its bytes.
-- Definitions only; nothing is assumed.
use Rattle.std.specs.Prelude.{Bool, true, false, not, cond, ◌≡◌, List, [], ◌∷◌, eqb, ltb, pos, ◌-ℤ◌, get_or, set}
use Prim.Native.Nat.{ℕ, zero, suc, ◌+◌, ◌*◌, ◌-◌, ◌/◌, ◌≤◌, ◌<◌}
use Rattle.game_tree.specs.Tree.{Key, Tree, end, chance, decide, Trees, nil, cons}
use Rattle.arena.specs.internal.Words.{decision_word}
use Rattle.arena.proofs.Building.{join}

-- the code of such a key
abbrev pub plain : ℕ → Key → ℕ
plain j k = get_or k 0 0

-- the byte of a seat that has paid x where it loses (0), nobody does (1), or it wins (2)
unfoldable pub byte_for : ℕ → ℕ → ℕ
byte_for e x = cond (eqb e 0) (64 - x) (cond (eqb e 1) 64 (64 + x))

-- an end that goes so for seat 0, and the other way round for seat 1
unfoldable pub end_tree : ℕ → ℕ → Tree
unfolding byte_for
end_tree e x = end (λ i. pos (byte_for (cond (eqb i 0) e (2 - e)) x) -ℤ pos 64)

-- a round: k₀ and k₁ are the seats' codes at its start, beside base. A history's number, times step, is added to a code; a raise adds size.
-- close is the tree behind a history that closes the round, by that number and by what each seat has paid
module _ (k₀ k₁ base step size : ℕ) (close : ℕ → ℕ → Tree) where
  -- seat j acts after a history with number n
  abbrev pub acts : ℕ → ℕ → Trees → Tree
  acts j n f = decide j ((cond (eqb j 0) k₀ k₁ + (n + base)) ∷ []) f

  -- after a raise FOLD or CALL and, while r raises may come, RAISE; seat j has paid x
  unfoldable pub raised_tree : (r j n x : ℕ) → Tree
  unfolding end_tree
  raised_tree zero j n x = acts j n (cons (end_tree (2 * j) x) (cons (close (2 * n + step) (x + size)) nil))
  raised_tree (suc r) j n x = acts j n
      (cons (end_tree (2 * j) x) (cons (close (2 * n + step) (x + size)) (cons (raised_tree r (1 - j) (2 * n + 2 * step) (x + size)) nil)))

  -- after a CALL of seat 0 CALL or RAISE; a round has at most two raises
  unfoldable pub called_tree : ℕ → Tree
  unfolding raised_tree
  called_tree x = acts 1 step (cons (close (3 * step) x) (cons (raised_tree 1 0 (4 * step) x) nil))

  -- at the start CALL or RAISE
  unfoldable pub round_tree : ℕ → Tree
  unfolding called_tree raised_tree
  round_tree x = acts 0 0 (cons (called_tree x) (cons (raised_tree 1 1 (2 * step) x) nil))

-- the tree of x if it is kept
unfoldable pub only : Bool → (ℕ → Tree) → ℕ → Trees
only true g x = cons (g x) nil
only false g x = nil

-- the trees of the numbers below n that are kept
unfoldable pub row_to : (ℕ → Bool) → (ℕ → Tree) → ℕ → Trees
unfolding only join
row_to p g zero = nil
row_to p g (suc n) = join (row_to p g n) (only (p n) g n)

-- how the showdown goes for seat 0, by the cards of the seats and the public card: a pair wins, else the higher rank
unfoldable pub showdown_for : (c d p : ℕ) → ℕ
showdown_for c d p =
    cond (eqb (c / 2) (p / 2)) 2 (cond (eqb (d / 2) (p / 2)) 0 (cond (ltb (c / 2) (d / 2)) 0 (cond (ltb (d / 2) (c / 2)) 2 1)))

-- round 2: n is the number of round 1's history, times 462, x what each seat has paid, p the public card
unfoldable pub second_tree : (c d n x p : ℕ) → Tree
unfolding round_tree showdown_for
second_tree c d n x p = round_tree (n + 6 * p + c) (n + 6 * p + d) 0 42 4 (λ m y. end_tree (showdown_for c d p) y) x

-- p is neither c nor d
abbrev pub other : (c d p : ℕ) → Bool
other c d p = cond (eqb p c) false (not (eqb p d))

-- the public card, then round 2
unfoldable pub public_tree : (c d n x : ℕ) → Tree
unfolding second_tree row_to
public_tree c d n x = chance (row_to (other c d) (second_tree c d n x) 6)

-- round 1
unfoldable pub first_tree : (c d : ℕ) → Tree
unfolding round_tree public_tree
first_tree c d = round_tree c d 36 462 2 (public_tree c d) 1

-- behind cards c and d, where r are still to deal: round 1, or another card than d. Card 6 stands for none
unfoldable pub deal_tree : (r c d : ℕ) → Tree
unfolding first_tree row_to
deal_tree zero c d = first_tree c d
deal_tree (suc r) c d = chance (row_to (λ e. not (eqb e d)) (deal_tree r d) 6)

-- the whole tree
abbrev pub deals_tree : Tree
deals_tree = deal_tree 2 6 6

-- the word at place a, and no other, is now that of seat j's decision over n trees that end at r, and its numbers are small
pub record Chosen (a j n code r : ℕ) (old new : List ℕ) : Type 0 where
  pub seat : j < 2
  pub few : n < 4
  pub word : new ≡ set old a (decision_word j n code r 0)
  pub small : code < 16384

-- a raise of a round whose numbers go by step, where a raise adds size and a seat had paid at most most at the start:
-- n is the number of the history, x what the seat has paid, and r more raises may come
pub record Raise (step size most n x r : ℕ) : Type 0 where
  pub few : n + 6 * (step * r) ≤ 10 * step
  pub stakes : x + size * r ≤ most + size

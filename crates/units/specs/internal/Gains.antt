-- What gains say of a seat's reply, statement by statement, of the definitions in Gain. Each is proved in proofs/Found.antt,
-- proofs/Gains.antt or proofs/Choices.antt, which assume nothing. Throughout: t is a tree, s a strategy with D parts, i a seat, k a key of
-- it, c a choice; the root has U = C × D^m units.
use Rattle.std.specs.Prelude.{◌≡◌, ℕ, pred, ◌*◌, ◌<◌, ◌≤◌, true, map, pos, ◌+ℤ◌}
use Rattle.game_tree.specs.Tree.{Key, Tree, Strategy, all, U}
use Rattle.game_tree.specs.Conditions.{Splits, Every, Pays, Valid}
use Rattle.game_tree.specs.Reply.{reply_tree, reply_kids, Choice, value, members, best, best_value}
use Rattle.game_tree.specs.Recall.{PerfectRecall}
use Rattle.game_tree.specs.Sets.{preorder, numbers}
use Rattle.units.specs.internal.Gain.{Member, gain, found, set_gain, topmost}

-- 1. The members of a set stand at the numbers of its nodes.
abbrev pub PlacesFound : Type 0
PlacesFound = (D i : ℕ) (s : Strategy) (k : Key) (t : Tree) (a u : ℕ)
    → map (λ (x : Member). x.0) (found D s i k a u t) ≡ numbers i k a (preorder t)

-- 2. They are those of the reply tree, with their units and the reply trees of their children.
abbrev pub MembersFound : Type 0
MembersFound = (D i : ℕ) (s : Strategy) (k : Key) (t : Tree) (a u : ℕ)
    → members (reply_tree D s i u t) k ≡ map (λ (x : Member). (x.1, k, reply_kids D s i true x.1 i k 0 x.2)) (found D s i k a u t)

-- 3. A gain is at most 124 for each unit, under any choice, and from any number of units.
abbrev pub GainBound : Type 0
GainBound = (D i u : ℕ) (s : Strategy) (t : Tree) (c : Choice) → 0 < D → Valid (all D) s t → Pays 60 i t → gain D s i c u t ≤ u * 124

-- So are the gains behind an action of a set, added over all its members.
abbrev pub SetGainBound : Type 0
SetGainBound = (D i u a : ℕ) (s : Strategy) (t : Tree) (k : Key) (c : Choice) → 0 < D → PerfectRecall i t → Valid (all D) s t → Pays 60 i t
    → set_gain D s i c t u k a ≤ u * 124

-- 4. Where the choice takes actions that are there, a gain is the value of the reply tree and 64 for each unit.
abbrev pub GainValue : Type 0
GainValue = (C m D i : ℕ) (s : Strategy) (t : Tree) (c : Choice) → 0 < D → Splits C m t → Valid (all D) s t → Pays 60 i t
    → Every (λ j k n. j ≡ i → c k < n) t
    → pos (gain D s i c (U C D m) t) ≡ value c (reply_tree D s i (U C D m) t) +ℤ pos (64 * U C D m)

-- 5. In each of its sets the best choice takes an action that is there: the lowest with the greatest gains.
abbrev pub BestGains : Type 0
BestGains = (C m D i : ℕ) (s : Strategy) (t : Tree) → 0 < D → Splits C m t → PerfectRecall i t → Valid (all D) s t → Pays 60 i t
    → Every (λ j k n. 1 ≤ n) t
    → Every (λ j k n. j ≡ i → (best (reply_tree D s i (U C D m) t) k < n)
    × (best (reply_tree D s i (U C D m) t) k ≡ topmost (set_gain D s i (best (reply_tree D s i (U C D m) t)) t (U C D m) k) (pred n))) t

-- What the tree gains under it is the best value and 64 for each unit.
abbrev pub GainBest : Type 0
GainBest = (C m D i : ℕ) (s : Strategy) (t : Tree) → 0 < D → Splits C m t → PerfectRecall i t → Valid (all D) s t → Pays 60 i t
    → Every (λ j k n. 1 ≤ n) t
    → pos (gain D s i (best (reply_tree D s i (U C D m) t)) (U C D m) t) ≡ best_value (reply_tree D s i (U C D m) t) +ℤ pos (64 * U C D m)

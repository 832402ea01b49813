-- The reply theorem, statement by statement, of the definitions in Tree, Reply and Recall (document 01, "Whole units").
-- Each is proved in proofs/Theorem.antt, which assumes nothing.
-- Throughout: t is a tree, s a strategy with D parts, i a seat, z a rival of the seat, r a reply tree, c a choice;
-- the root has U = C × D^m units.
use Rattle.std.specs.Prelude.{◌≡◌, [], ◌∷◌, ℕ, ◌*◌, ◌^◌, ◌≤◌, ◌<◌, ℤ, pos, nat_abs, ◌≤ℤ◌, ◌<ℤ◌, take}
use Rattle.game_tree.specs.Sums.{◌·◌, sum, sumℕ, parts}
use Rattle.game_tree.specs.Tree.{Key, Tree, Strategy, all, U, worth}
use Rattle.game_tree.specs.Conditions.{all_but, units, Exact, Splits, Pays, Valid, Keeps, Rival}
use Rattle.game_tree.specs.Reply.{Reply, reply_tree, Choice, value, pick, members, set_sum, lowest, depth, best, best_value, pure, reply}
use Rattle.game_tree.specs.Optimal.{EveryOwn, Decides, Optimal, scaled}
use Rattle.game_tree.specs.Recall.{PerfectRecall, RecallsOwn}
use Rattle.game_tree.specs.Small.{small, given, seen}

-- 1. Where every path has at most m decisions and the fans along it divide C, both divisions are exact, whatever the parts.
abbrev pub UnitsExact : Type 0
UnitsExact = (C m D : ℕ) (s : Strategy) (t : Tree) → 0 < D → Splits C m t → Exact (all D) s (U C D m) t

-- Under a valid strategy the units of all ends add up to U.
abbrev pub UnitsAddUp : Type 0
UnitsAddUp = (C m D : ℕ) (s : Strategy) (t : Tree) → 0 < D → Splits C m t → Valid (all D) s t → units (all D) s (U C D m) t ≡ U C D m

-- 2. Of n actions the lowest with the greatest sum is one of them, none has a greater sum, and each lower one has a smaller sum.
abbrev pub LowestOfGreatest : Type 0
LowestOfGreatest = (n : ℕ) (q : ℕ → ℤ) → 0 < n
    → (lowest n q < n) × ((a : ℕ) → a < n → q a ≤ℤ q (lowest n q)) × ((a : ℕ) → a < lowest n q → q a <ℤ q (lowest n q))

-- The best choice takes it in every set of the tree, summed over all members under the deeper choices, which are made likewise.
abbrev pub BestDecides : Type 0
BestDecides = (r : Reply) → RecallsOwn r → Decides (best r) r

-- Any choice that decides so takes the same action in every set of the tree, and has the same value.
abbrev pub DecidesAlike : Type 0
DecidesAlike = (r : Reply) (c : Choice) → RecallsOwn r → Decides c r → EveryOwn (λ k n. c k ≡ best r k) r × (value c r ≡ best_value r)

-- 3. A seat with perfect recall in a tree has it in its reply tree, whatever the strategy and the units.
abbrev pub RecallKept : Type 0
RecallKept = (D i u : ℕ) (s : Strategy) (t : Tree) → PerfectRecall i t → RecallsOwn (reply_tree D s i u t)

-- 4. Under perfect recall the best choice is locally optimal.
abbrev pub BestOptimal : Type 0
BestOptimal = (r : Reply) → RecallsOwn r → Optimal (best r) r

-- In a reply tree with at most m own moves on a path, parts p that add up to E in each set are worth no more than a locally optimal choice.
abbrev pub OptimalUnbeaten : Type 0
OptimalUnbeaten = (E m : ℕ) (p : Key → ℕ → ℕ) (c : Choice) (r : Reply) → RecallsOwn r → depth r ≤ m → Optimal c r
    → EveryOwn (λ k n. parts n (p k) ≡ E) r → scaled E p r m ≤ℤ (E ^ m · value c r)

-- All E parts on the chosen actions are worth just its value.
abbrev pub PureWorth : Type 0
PureWorth = (E m : ℕ) (c : Choice) (r : Reply) → depth r ≤ m → scaled E (pure E c) r m ≡ E ^ m · value c r

-- A rival with E parts in its own sets, the others keeping D, is worth no more than the best value: its worth is over U × E^m.
abbrev pub NoFinerRivalBetter : Type 0
NoFinerRivalBetter = (C m D E i : ℕ) (s z : Strategy) (t : Tree) → 0 < D → 0 < E → Splits C m t → PerfectRecall i t
    → Rival (all_but i E D) i s z t
    → worth (all_but i E D) z i (E ^ m * U C D m) t ≤ℤ (E ^ m · best_value (reply_tree D s i (U C D m) t))

-- The divisions that give that worth are exact too.
abbrev pub FinerUnitsExact : Type 0
FinerUnitsExact = (C m D E i : ℕ) (z : Strategy) (t : Tree) → 0 < D → 0 < E → Splits C m t → Exact (all_but i E D) z (E ^ m * U C D m) t

-- The reply is a rival: valid, the others' entries kept.
abbrev pub ReplyIsRival : Type 0
ReplyIsRival = (D i u : ℕ) (s : Strategy) (t : Tree) → 0 < D → PerfectRecall i t → Valid (all D) s t → Rival (all D) i s (reply D s i u t) t

-- The reply's worth is the best value.
abbrev pub ReplyWorth : Type 0
ReplyWorth = (C m D i : ℕ) (s : Strategy) (t : Tree) → 0 < D → Splits C m t
    → worth (all D) (reply D s i (U C D m) t) i (U C D m) t ≡ best_value (reply_tree D s i (U C D m) t)

-- 5. The link: the worth of a strategy with E parts in seat i's sets is the scaled worth of the reply tree under these parts.
abbrev pub Link : Type 0
Link = (C m D E i : ℕ) (s z : Strategy) (t : Tree) → 0 < D → 0 < E → Splits C m t → Keeps i s z t
    → worth (all_but i E D) z i (E ^ m * U C D m) t ≡ scaled E (z i) (reply_tree D s i (U C D m) t) m

-- With D parts in all sets the scale comes out.
abbrev pub LinkInUnits : Type 0
LinkInUnits = (C m D i : ℕ) (s z : Strategy) (t : Tree) → 0 < D → Splits C m t → Keeps i s z t
    → D ^ m · worth (all D) z i (U C D m) t ≡ scaled D (z i) (reply_tree D s i (U C D m) t) m

-- So no rival is worth more than the best value, in units.
abbrev pub NoRivalBetter : Type 0
NoRivalBetter = (C m D i : ℕ) (s z : Strategy) (t : Tree) → 0 < D → Splits C m t → PerfectRecall i t → Rival (all D) i s z t
    → worth (all D) z i (U C D m) t ≤ℤ best_value (reply_tree D s i (U C D m) t)

-- 6. The units of the first n members of a set add up to at most the root's u.
abbrev pub MembersUnits : Type 0
MembersUnits = (D i u n : ℕ) (s : Strategy) (t : Tree) (k : Key) → 0 < D → PerfectRecall i t → Valid (all D) s t
    → sumℕ (λ x. x.0) (take n (members (reply_tree D s i u t) k)) ≤ u

-- So the sum over them is at most u × the largest payoff B, in size.
abbrev pub SetSumBound : Type 0
SetSumBound = (D i u n B a : ℕ) (s : Strategy) (t : Tree) (k : Key) (c : Choice) → 0 < D → PerfectRecall i t
    → Valid (all D) s t → Pays B i t
    → nat_abs (sum (λ x. pick c x.2 a) (take n (members (reply_tree D s i u t) k))) ≤ u * B

-- So is the value under any choice.
abbrev pub ValueBound : Type 0
ValueBound = (D i u B : ℕ) (s : Strategy) (t : Tree) (c : Choice) → 0 < D → Valid (all D) s t → Pays B i t
    → nat_abs (value c (reply_tree D s i u t)) ≤ u * B

-- So is the worth.
abbrev pub WorthBound : Type 0
WorthBound = (D i u B : ℕ) (s : Strategy) (t : Tree) → 0 < D → Valid (all D) s t → Pays B i t → nat_abs (worth (all D) s i u t) ≤ u * B

-- 7. Strategies that differ only at seat i leave it the same reply tree, and with it the same best value.
abbrev pub OwnEntriesFree : Type 0
OwnEntriesFree = (D i u : ℕ) (s z : Strategy) (t : Tree) → Keeps i s z t
    → (reply_tree D z i u t ≡ reply_tree D s i u t) × (best_value (reply_tree D z i u t) ≡ best_value (reply_tree D s i u t))

-- 8. Tried on the small tree: the premises hold.
abbrev pub SmallPremises : Type 0
SmallPremises = Splits 3 2 small × PerfectRecall 0 small × Valid (all 2) given small × Pays 5 0 small

-- Set 1 takes action 1 where its first member alone would take 0, and the tie in set 4 goes to the lower action.
abbrev pub SmallChoices : Type 0
SmallChoices = (best seen (1 ∷ []) ≡ 1) × (lowest 2 (λ a. sum (λ x. pick (best seen) x.2 a) (take 1 (members seen (1 ∷ [])))) ≡ 0)
    × (set_sum (best seen) seen (4 ∷ []) 0 ≡ set_sum (best seen) seen (4 ∷ []) 1) × (best seen (4 ∷ []) ≡ 0)

-- The ends' units add up to 12, the strategy is worth 2, the best value and the reply's worth are 4.
abbrev pub SmallNumbers : Type 0
SmallNumbers = (units (all 2) given 12 small ≡ 12) × (worth (all 2) given 0 12 small ≡ pos 2) × (best_value seen ≡ pos 4)
    × (worth (all 2) (reply 2 given 0 12 small) 0 12 small ≡ pos 4)

-- In set 3, which gets no units, the reply has both parts on action 0.
abbrev pub SmallNoUnits : Type 0
SmallNoUnits = (sumℕ (λ x. x.0) (members seen (3 ∷ [])) ≡ 0) × (reply 2 given 0 12 small 0 (3 ∷ []) 0 ≡ 2)
    × (reply 2 given 0 12 small 0 (3 ∷ []) 1 ≡ 0)

-- No rival is worth more than 4.
abbrev pub SmallNoRival : Type 0
SmallNoRival = (z : Strategy) → Rival (all 2) 0 given z small → worth (all 2) z 0 12 small ≤ℤ pos 4

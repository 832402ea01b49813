-- Perfect recall: the own moves before a decision are a function of its key,
-- and equal keys have equally many actions. Definitions only; nothing is assumed.
use Rattle.std.specs.Prelude.{◌≡◌, Bool, true, false, List, [], ◌∷◌, ℕ, suc, eqb}
use Rattle.game_tree.specs.Tree.{Key, Tree, end, chance, decide, Trees, nil, cons, fan}
use Rattle.game_tree.specs.Reply.{Reply, leaf, split, own, Replies, none, more, count}

-- own moves, the latest first: the key, and the action taken
abbrev pub Path : Type 0
Path = List (Key × ℕ)

-- an own move is remembered, another seat's is not
unfoldable pub moved : Bool → Key → ℕ → Path → Path
moved true k a π = (k, a) ∷ π
moved false k a π = π

-- H gives the own moves before each key of seat i, n its number of actions; π are those before the tree
module _ (i : ℕ) (H : Key → Path) (n : Key → ℕ) where
  unfoldable mutual
    unfolding fan moved

    pub Recall : Path → Tree → Type 0
    Recall π (end p) = Unit {0}
    Recall π (chance f) = RecallAll π f
    Recall π (decide j k f) = (j ≡ i → (π ≡ H k) × (fan f ≡ n k)) × RecallKids (eqb j i) π k 0 f

    pub RecallAll : Path → Trees → Type 0
    RecallAll π nil = Unit {0}
    RecallAll π (cons t f) = Recall π t × RecallAll π f

    pub RecallKids : Bool → Path → Key → ℕ → Trees → Type 0
    RecallKids b π k a nil = Unit {0}
    RecallKids b π k a (cons t f) = Recall (moved b k a π) t × RecallKids b π k (suc a) f

-- seat i has perfect recall in t
abbrev pub PerfectRecall : ℕ → Tree → Type 0
PerfectRecall i t = (H : Key → Path) × (n : Key → ℕ) × Recall i H n [] t

-- the same, of a reply tree
module _ (H : Key → Path) (n : Key → ℕ) where
  unfoldable mutual
    unfolding count

    pub Recalled : Path → Reply → Type 0
    Recalled π (leaf u v) = Unit {0}
    Recalled π (split f) = RecalledAll π f
    Recalled π (own u k f) = (π ≡ H k) × (count f ≡ n k) × RecalledKids π k 0 f

    pub RecalledAll : Path → Replies → Type 0
    RecalledAll π none = Unit {0}
    RecalledAll π (more t f) = Recalled π t × RecalledAll π f

    pub RecalledKids : Path → Key → ℕ → Replies → Type 0
    RecalledKids π k a none = Unit {0}
    RecalledKids π k a (more t f) = Recalled ((k, a) ∷ π) t × RecalledKids π k (suc a) f

-- the seat of a reply tree has perfect recall
abbrev pub RecallsOwn : Reply → Type 0
RecallsOwn r = (H : Key → Path) × (n : Key → ℕ) × Recalled H n [] r

-- The reply tree of a seat, its value under a choice, the best choice and the reply (document 01, "Whole units").
-- Definitions only; nothing is assumed.
use Rattle.std.specs.Prelude.{Bool, true, false, cond, List, [], ◌∷◌, ◌++◌, ℕ, zero, suc, pred, ◌*◌, ◌/◌, max, eqb, ℤ, pos, ◌+ℤ◌}
use Rattle.std.specs.Int.Signed.{lt_z}
use Rattle.game_tree.specs.Sums.{◌·◌, sum}
use Rattle.game_tree.specs.Tree.{Key, Tree, end, chance, decide, Trees, nil, cons, fan, Strategy}

-- what a seat replies to: the others' moves are settled, its own are open
mutual
  pub data Reply : Type 0 where
    leaf : ℕ → ℤ → Reply  -- an end: its units, and units × payoff
    split : Replies → Reply  -- chance, or another seat
    own : ℕ → Key → Replies → Reply  -- a decision of the seat: its units, and its key

  pub data Replies : Type 0 where
    none : Replies
    more : Reply → Replies → Replies

-- a decision, the seat's own or not
unfoldable pub node : Bool → ℕ → Key → Replies → Reply
node true u k f = own u k f
node false u k f = split f

-- of u units, what goes on to an action with p of D parts: own moves pass all on
unfoldable pub share : ℕ → Bool → ℕ → ℕ → ℕ
share D true u p = u
share D false u p = u * p / D

-- seat i's reply tree against the others of s, from u units
module _ (D : ℕ) (s : Strategy) (i : ℕ) where
  unfoldable mutual
    unfolding fan node share

    pub reply_tree : ℕ → Tree → Reply
    reply_tree u (end p) = leaf u (u · p i)
    reply_tree u (chance f) = split (reply_all (u / fan f) f)
    reply_tree u (decide j k f) = node (eqb j i) u k (reply_kids (eqb j i) u j k 0 f)

    pub reply_all : ℕ → Trees → Replies
    reply_all u nil = none
    reply_all u (cons t f) = more (reply_tree u t) (reply_all u f)

    pub reply_kids : Bool → ℕ → ℕ → Key → ℕ → Trees → Replies
    reply_kids b u j k a nil = none
    reply_kids b u j k a (cons t f) = more (reply_tree (share D b u (s j k a)) t) (reply_kids b u j k (suc a) f)

-- an action for each key
abbrev pub Choice : Type 0
Choice = Key → ℕ

-- an own node has the value of its child at the choice, any other the sum of its children's
unfoldable mutual
  pub value : Choice → Reply → ℤ
  value c (leaf u v) = v
  value c (split f) = total c f
  value c (own u k f) = pick c f (c k)

  pub total : Choice → Replies → ℤ
  total c none = pos 0
  total c (more t f) = value c t +ℤ total c f

  pub pick : Choice → Replies → ℕ → ℤ
  pick c none a = pos 0
  pick c (more t f) zero = value c t
  pick c (more t f) (suc a) = pick c f a

-- an own node: its units, its key, its children
abbrev pub Node : Type 0
Node = ℕ × Key × Replies

-- the own nodes, a node before those below it
unfoldable mutual
  pub nodes : Reply → List Node
  nodes (leaf u v) = []
  nodes (split f) = nodes_all f
  nodes (own u k f) = (u, k, f) ∷ nodes_all f

  pub nodes_all : Replies → List Node
  nodes_all none = []
  nodes_all (more t f) = nodes t ++ nodes_all f

-- two keys are equal
unfoldable pub same : Key → Key → Bool
same [] [] = true
same [] (b ∷ k) = false
same (a ∷ j) [] = false
same (a ∷ j) (b ∷ k) = let r : Bool = same j k in cond (eqb a b) r false

-- x in front, if the test says so
unfoldable pub keep : Bool → Node → List Node → List Node
keep true x xs = x ∷ xs
keep false x xs = xs

-- those with the key k
unfoldable pub with_key : Key → List Node → List Node
unfolding same keep
with_key k [] = []
with_key k (x ∷ xs) = keep (same x.1 k) x (with_key k xs)

-- the members of the set k, those without units too
abbrev pub members : Reply → Key → List Node
members r k = with_key k (nodes r)

-- the values behind action a of the set k, added over all its members
abbrev pub set_sum : Choice → Reply → Key → ℕ → ℤ
set_sum c r k a = sum (λ x. pick c x.2 a) (members r k)

-- of the actions 0 to n, the lowest with the greatest q
unfoldable pub highest : (ℕ → ℤ) → ℕ → ℕ
highest q zero = 0
highest q (suc n) = let b : ℕ = highest q n in cond (lt_z (q b) (q (suc n))) (suc n) b

-- of n actions, the lowest with the greatest q
abbrev pub lowest : ℕ → (ℕ → ℤ) → ℕ
lowest n q = highest q (pred n)

-- how many children
unfoldable pub count : Replies → ℕ
count none = zero
count (more t f) = suc (count f)

-- the actions of a set: those of its first member
unfoldable pub actions : List Node → ℕ
unfolding count
actions [] = zero
actions (x ∷ xs) = count x.2

-- the most own moves on a path
unfoldable mutual
  pub depth : Reply → ℕ
  depth (leaf u v) = 0
  depth (split f) = depth_all f
  depth (own u k f) = suc (depth_all f)

  pub depth_all : Replies → ℕ
  depth_all none = 0
  depth_all (more t f) = max (depth t) (depth_all f)

-- the choice of each set that has at most n own moves to come, its own among them: it asks the choices of deeper sets
unfoldable pub decided : Reply → ℕ → Choice
unfolding sum value nodes with_key highest actions
decided r zero = λ k. 0
decided r (suc n) = λ k. lowest (actions (members r k)) (set_sum (decided r n) r k)

-- the best choice: in each set the lowest action with the greatest sum, deeper sets first
unfoldable pub best : Reply → Choice
unfolding decided depth
best r = decided r (depth r)

-- the best value: the root's
abbrev pub best_value : Reply → ℤ
best_value r = value (best r) r

-- D on the chosen action, 0 on the others
unfoldable pub pure : ℕ → Choice → Key → ℕ → ℕ
pure D c k a = cond (eqb a (c k)) D 0

-- the reply: s with D on each chosen action of seat i, 0 on its others
unfoldable pub reply : ℕ → Strategy → ℕ → ℕ → Tree → Strategy
unfolding pure best reply_tree
reply D s i u t j k a = cond (eqb j i) (pure D (best (reply_tree D s i u t)) k a) (s j k a)

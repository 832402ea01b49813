-- The f64 values of a profile in a game's tree (document 01, "The f64 values"): each product,
-- sum and quotient is rounded once, in the paper's order. Definitions only; nothing is assumed.
use Rattle.std.specs.Prelude.{Bool, true, false, cond, pos, Float, get_or}
use mathlib.Core.List.{List, [], ◌∷◌, ◌++◌}
use Prim.Native.Nat.{ℕ, zero, suc, ◌+◌}
use Rattle.std.proofs.Math.Dec.{eqb}
use Rattle.std.specs.Float.{nan, inf, binary64}
use Rattle.std.specs.Float.Ieee.{of_bits, of_int, add, mul, div, lt}
use Rattle.game_tree.specs.Tree.{Key, Tree, end, chance, decide, Trees, nil, cons, fan}
use Rattle.game_tree.specs.Reply.{Choice, same}
use Rattle.game_tree.specs.Sets.{sets, before, entries_of, first_entry, height}

-- an entry for each action, by seat, key and action
abbrev pub Profile : Type 0
Profile = ℕ → Key → ℕ → Float

-- the profile of a list of entries: an action's stands at its set's first entry + the action;
-- NaN past the list, where no call looks that is not refused
unfoldable pub profile_of : Tree → List Float → Profile
unfolding sets before entries_of
profile_of t entries j k a = get_or entries (first_entry t j k + a) nan

-- 0.0 and 1.0, by their bits
abbrev pub nought : Float
nought = of_bits binary64 0

abbrev pub one : Float
one = of_bits binary64 4607182418800017408

-- sums and products
abbrev pub plus : Float → Float → Float
plus x y = add binary64 x y

abbrev pub times : Float → Float → Float
times x y = mul binary64 x y

-- a chance weight: 1.0 / fan
abbrev pub weight : ℕ → Float
weight n = div binary64 one (of_int binary64 (pos n))

-- seat i's payoff on the edge to a node: 0.0 unless that ends the hand
unfoldable pub edge : ℕ → Tree → Float
edge i (end p) = of_int binary64 (p i)
edge i (chance f) = nought
edge i (decide j k f) = nought

-- payoffs are seat i's; a node is own if its seat is among those that own, and there the choice c is made by its key
module _ (s : Profile) (i : ℕ) (owns : ℕ → Bool) (c : Choice) where
  unfoldable mutual
    unfolding fan edge

    -- a chance node or another seat's adds its level's weight or entry × g over the children;
    -- an own node is the g of its chosen child; an end 0.0
    pub value : Tree → Float
    value (end p) = nought
    value (chance f) = added (λ a. weight (fan f)) 0 nought f
    value (decide j k f) = cond (owns j) (picked f (c k)) (added (s j k) 0 nought f)

    -- the sum from v on, in child order, of the children from number a on
    pub added : (ℕ → Float) → ℕ → Float → Trees → Float
    added w a v nil = v
    added w a v (cons t f) = added w (suc a) (plus v (times (w a) (plus (edge i t) (value t)))) f

    -- g of child a: the payoff on its edge plus its value; 0.0 past the children, where no choice points
    pub picked : Trees → ℕ → Float
    picked nil a = nought
    picked (cons t f) zero = plus (edge i t) (value t)
    picked (cons t f) (suc a) = picked f a

-- a choice on its way through the actions: the action, and its sum
abbrev pub Lead : Type 0
Lead = ℕ × Float

-- of the first n actions: it starts at action 0 with minus infinity and moves only to a greater sum, so a NaN never wins
unfoldable pub lead : (ℕ → Float) → ℕ → Lead
lead q zero = (0, inf true)
lead q (suc n) = let b : Lead = lead q n in cond (lt b.1 (q n)) (n, q n) b

-- a member of a set: its reach, and its children
abbrev pub Member : Type 0
Member = Float × Trees

-- the actions of a set: those of its first member
unfoldable pub actions : List Member → ℕ
unfolding fan
actions [] = 0
actions (m ∷ ms) = fan m.1

-- seat i replies to the others of a profile
module _ (s : Profile) (i : ℕ) where
  -- of reach r at a decision of seat j with key k, what goes on to an action: own moves pass it on
  abbrev pub passed : Float → ℕ → Key → ℕ → Float
  passed r j k a = cond (eqb j i) r (times r (s j k a))

  -- the members of the set k in a tree of reach r, in node order
  module _ (k : Key) where
    unfoldable mutual
      unfolding fan same

      pub found : Float → Tree → List Member
      found r (end p) = []
      found r (chance f) = found_all (λ a. times r (weight (fan f))) 0 f
      found r (decide j l f) = let rest : List Member = found_all (passed r j l) 0 f in
          cond (cond (eqb j i) (same l k) false) ((r, f) ∷ rest) rest

      pub found_all : (ℕ → Float) → ℕ → Trees → List Member
      found_all g a nil = []
      found_all g a (cons t f) = found (g a) t ++ found_all g (suc a) f

  -- the sum from v on, in member order, of reach × g behind action a
  unfoldable pub summed : Choice → ℕ → Float → List Member → Float
  unfolding value
  summed c a v [] = v
  summed c a v (m ∷ ms) = summed c a (plus v (times m.0 (picked s i (λ j. eqb j i) c m.1 a))) ms

  -- the sum behind action a of the set k, where reach is 1.0 at the root
  unfoldable pub set_sum : Tree → Choice → Key → ℕ → Float
  unfolding found summed
  set_sum t c k a = summed c a nought (found k one t)

  -- the choice of each set with fewer than n decisions to come below it: it asks the values below all members, and those ask deeper choices
  unfoldable pub decided : Tree → ℕ → Choice
  unfolding lead found actions set_sum
  decided t zero = λ k. 0
  decided t (suc n) = λ k. (lead (set_sum t (decided t n) k) (actions (found k one t))).0

  -- the choice of every set
  unfoldable pub best : Tree → Choice
  unfolding decided height
  best t = decided t (height t)

-- the best response value of seat i: the root's, under the best choice
unfoldable pub best_value : Profile → ℕ → Tree → Float
unfolding value best
best_value s i t = value s i (λ j. eqb j i) (best s i t) t

-- what a profile is worth to seat i: no node is own
unfoldable pub worth : Profile → ℕ → Tree → Float
unfolding value
worth s i t = value s i (λ j. false) (λ k. 0) t

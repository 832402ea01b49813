-- Tables of parts, rival tables, the reply table and NashConv (document 01, "The tree and its sets" and "Whole units"),
-- and rivals of finer grain (document 02, Eight). Definitions only; nothing is assumed.
use Rattle.std.specs.Prelude.{◌≡◌, Bool, true, false, cond, List, [], ◌∷◌, ◌++◌, eqb, ℤ, ◌+ℤ◌, ◌-ℤ◌, length, get_or, drop, ◌≤ℤ◌}
use Prim.Native.Nat.{ℕ, zero, suc, ◌+◌, ◌*◌, ◌^◌, ◌≤◌, ◌<◌}
use Rattle.std.proofs.Math.IntN.{pos}
use Rattle.game_tree.specs.Sums.{◌·◌, parts}
use Rattle.game_tree.specs.Tree.{Tree, Strategy, all, worth}
use Rattle.game_tree.specs.Conditions.{all_but}
use Rattle.game_tree.specs.Reply.{reply_tree, best_value, reply}
use Rattle.game_tree.specs.Sets.{Decision, sets, set_actions, entries_of, entries, before, first_entry, seats_of}

-- a table lists, set after set, one entry per action
abbrev pub Table : Type 0
Table = List ℕ

-- the strategy of a table: an action's parts stand at its set's first entry + the action
unfoldable pub strategy_of : Tree → Table → Strategy
unfolding sets before entries_of
strategy_of t table j k a = get_or table (first_entry t j k + a) 0

-- p 0 to p (n - 1)
unfoldable pub listed : ℕ → (ℕ → ℕ) → List ℕ
listed zero p = []
listed (suc n) p = p 0 ∷ listed n (λ a. p (suc a))

-- the entries of these sets under a strategy
unfoldable pub laid_out : List Decision → Strategy → Table
unfolding listed
laid_out [] s = []
laid_out (x ∷ xs) s = listed x.2 (s x.0 x.1) ++ laid_out xs s

-- the table of a strategy
abbrev pub table_of : Tree → Strategy → Table
table_of t s = laid_out (sets t) s

-- the parts of sets with these numbers of actions, one set after another, add up to D in each
unfoldable pub add_up : ℕ → List ℕ → Table → Bool
unfolding parts
add_up D [] table = true
add_up D (n ∷ ns) table = let r : Bool = add_up D ns (drop n table) in cond (eqb (parts n (λ a. get_or table a 0)) D) r false

-- a valid table: its length is the entry count, and the parts of each set add up to D
abbrev pub ValidTable : Tree → ℕ → Table → Type 0
ValidTable t D table = (length table ≡ entries t) × (add_up D (set_actions t) table ≡ true)

-- z has the entries of table in the other seats' sets
abbrev pub KeepsTable : Tree → ℕ → Table → Table → Type 0
KeepsTable t i table z = (e : ℕ) → e < entries t → (get_or (seats_of (sets t)) e 0 ≡ i → ⊥) → get_or z e 0 ≡ get_or table e 0

-- a rival table of seat i: valid, and it differs at most in that seat's entries
abbrev pub RivalTable : Tree → ℕ → ℕ → Table → Table → Type 0
RivalTable t D i table z = ValidTable t D z × KeepsTable t i table z

-- D parts in each set, and u units at the root
module _ (t : Tree) (D u : ℕ) (table : Table) where
  -- what a table is worth to seat i
  unfoldable pub table_worth : ℕ → ℤ
  unfolding worth strategy_of
  table_worth i = worth (all D) (strategy_of t table) i u t

  -- the best value of seat i against the other seats of a table
  unfoldable pub table_best : ℕ → ℤ
  unfolding reply_tree strategy_of
  table_best i = best_value (reply_tree D (strategy_of t table) i u t)

  -- the reply of seat i: the table with D on each chosen action of the seat and 0 on its others
  unfoldable pub reply_table : ℕ → Table
  unfolding reply strategy_of laid_out
  reply_table i = table_of t (reply D (strategy_of t table) i u t)

  -- NashConv over n seats: the sum of best - worth
  unfoldable pub nash_conv_over : ℕ → ℤ
  unfolding table_best table_worth
  nash_conv_over zero = pos 0
  nash_conv_over (suc n) = nash_conv_over n +ℤ (table_best n -ℤ table_worth n)

-- the parts of these sets, one set after another, add up in each to the D of its seat
unfoldable pub add_up_by : (ℕ → ℕ) → List Decision → Table → Bool
unfolding parts
add_up_by D [] table = true
add_up_by D (x ∷ xs) table =
    let r : Bool = add_up_by D xs (drop x.2 table) in cond (eqb (parts x.2 (λ a. get_or table a 0)) (D x.0)) r false

-- a rival of grain E of seat i: its parts, whole numbers of any size, add up to E in each of the seat's sets and to D in those of the
-- others, where its entries are the table's
abbrev pub FinerRival : (t : Tree) (D E i : ℕ) (table z : Table) → Type 0
FinerRival t D E i table z = (length z ≡ entries t) × (add_up_by (all_but i E D) (sets t) z ≡ true) × KeepsTable t i table z

-- what it is worth to the seat, from E^m × u units at the root: over C × D^m × E^m, where u is C × D^m
unfoldable pub finer_worth : (t : Tree) (m D u E : ℕ) → Table → ℕ → ℤ
unfolding worth strategy_of
finer_worth t m D u E z i = worth (all_but i E D) (strategy_of t z) i (E ^ m * u) t

-- no valid table that differs from the given one at most in seat i's entries, mixed or not, is worth more to the seat
abbrev pub Unbeaten : (t : Tree) (D u i : ℕ) (table : Table) (value : ℤ) → Type 0
Unbeaten t D u i table value = (z : Table) → RivalTable t D i table z → table_worth t D u z i ≤ℤ value

-- nor is a rival of any grain, from 1: its worth is at most E^m × the value
abbrev pub FinerUnbeaten : (t : Tree) (m D u i : ℕ) (table : Table) (value : ℤ) → Type 0
FinerUnbeaten t m D u i table value = (E : ℕ) (z : Table) → 1 ≤ E → FinerRival t D E i table z
    → finer_worth t m D u E z i ≤ℤ (E ^ m · value)

-- the reply is a rival table: valid, with every other seat's entries as given; it is worth the value, and none is worth more,
-- nor is a rival of any grain
pub record BestReply (t : Tree) (m D u i : ℕ) (table : Table) (value : ℤ) (reply : Table) : Type 0 where
  pub rival : RivalTable t D i table reply
  pub worth : table_worth t D u reply i ≡ value
  pub unbeaten : Unbeaten t D u i table value
  pub finer : FinerUnbeaten t m D u i table value

-- no seat below n has a rival of any grain that is worth more to it than the table
abbrev pub Equilibrium : (t : Tree) (m D u : ℕ) (table : Table) (n : ℕ) → Type 0
Equilibrium t m D u table n = (i : ℕ) → i < n → FinerUnbeaten t m D u i table (table_worth t D u table i)

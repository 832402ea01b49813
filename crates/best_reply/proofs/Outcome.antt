-- What an accepted call for a seat's best value and reply leaves in the output. Assumes nothing.
use mathlib.Core.Path.{◌≡◌, sym, ap, ◌∙◌, subst}
use mathlib.Core.List.{List, ◌++◌}
use Prim.Native.Nat.{ℕ, ◌+◌, ◌≤◌}
use native.Mathlib.Omega.{arith}
use lib.IntN.{ℤ}
use lib.ListN.{length, take, drop}
use lib.Seq.{sets, sets-eq, take_at}
use Rattle.game_tree.specs.Sets.{entries}
use Rattle.game_tree.specs.Table.{Table, reply_table}
use Rattle.games.specs.Games.{Game, tree_of, root_units}
use Rattle.units_best.specs.Best.{BestReply}
use Rattle.best_reply.specs.Calls.{written, Demand}

-- the reply is as long as the table
module _ (g : Game) (seat D : ℕ) (table : Table) (v : ℤ) (out new : List ℕ) (l : entries (tree_of g) ≤ length out)
    (w : new ≡ sets out 0 (reply_table (tree_of g) D (root_units g D) table seat)) (b : BestReply g D seat table v (reply_table (tree_of g) D (root_units g D) table seat)) where
  abbrev reply : Table
  reply = reply_table (tree_of g) D (root_units g D) table seat

  long : length reply ≡ entries (tree_of g)
  long = b.rival.0.0

  pub was_written : new ≡ written 0 g seat D table out
  was_written = let n : 0 + length reply ≡ entries (tree_of g) = omega (arith, long) in w ∙ sets-eq reply out 0 (omega (arith, long)) ∙ ap (λ n. reply ++ drop n out) n

  pub demanded : Demand 0 g seat D table v new
  demanded = subst (BestReply g D seat table v) same b
    where
      same : reply ≡ take (entries (tree_of g)) new
      same = sym (ap (take (entries (tree_of g))) was_written ∙ take_at reply (drop (entries (tree_of g)) out) (entries (tree_of g)) long)

-- When a call over a tree is accepted, and which number refuses it (document 01, "What comes back when a call is refused").
-- Proved in proofs/Facts.antt, which assumes nothing.
use Rattle.std.specs.Prelude.{ℕ}
use Rattle.refusals.specs.Facts.{Decides}
use Rattle.game_tree.specs.Table.{Table}
use Rattle.games.specs.Games.{Game}
use Rattle.tree_refusals.specs.Checks.{listing_checks, evaluation_checks, reply_checks, value_checks, values_checks}
use Rattle.tree_refusals.specs.Checks.{listing-refusal, evaluation_refusal, reply-refusal, value-refusal, values_refusal}

-- a call is accepted exactly if no test of its checks holds, and else refused with the number of the first that does
pub record CallsDecide (g : Game) (memory : ℕ) : Type 0 where
  pub listing-decides : (room : ℕ) → Decides (listing_checks g memory room) (listing-refusal g memory room)
  pub evaluation_decides : (D : ℕ) (table : Table) → Decides (evaluation_checks g memory D table) (evaluation_refusal g memory D table)
  pub reply-decides : (seat D : ℕ) (table : Table) (room : ℕ)
      → Decides (reply_checks g memory seat D table room) (reply-refusal g memory seat D table room)
  pub value-decides : (seat n : ℕ) → Decides (value_checks g memory seat n) (value-refusal g memory seat n)
  pub values_decides : (n : ℕ) → Decides (values_checks g memory n) (values_refusal g memory n)

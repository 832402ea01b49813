-- Every call's checks have numbers above 0, so each call is accepted exactly if no test of them holds. Assumes nothing.
use Prim.Native.Nat.{ℕ}
use Rattle.refusals.proofs.Facts.{first_decides}
use Rattle.games.specs.Games.{Game}
use Rattle.tree_refusals.specs.Checks.{listing_checks, evaluation_checks, reply_checks, value_checks, values_checks}
use Rattle.tree_refusals.specs.Facts.{CallsDecide}

pub calls-decide : (g : Game) (memory : ℕ) → CallsDecide g memory
calls-decide g memory =
    record {
      listing-decides = λ room. first_decides (listing_checks g memory room) tt;
      evaluation_decides = λ D table. first_decides (evaluation_checks g memory D table) tt;
      reply-decides = λ seat D table room. first_decides (reply_checks g memory seat D table room) tt;
      value-decides = λ seat n. first_decides (value_checks g memory seat n) tt;
      values_decides = λ n. first_decides (values_checks g memory n) tt;
    }

-- What a call for NashConv answers, refused or accepted. Assumes nothing.
use mathlib.Core.Path.{◌≡◌, sym, ap, ◌∙◌}
use mathlib.Core.Logic.{◌↔◌}
use Prim.Native.Nat.{ℕ}
use lib.IntN.{pos, nat_abs}
use Rattle.game_tree.specs.Table.{Table, Equilibrium}
use Rattle.games.specs.Games.{Game, tree_of, m, root_units}
use Rattle.games.proofs.Facts.{conv_zero}
use Rattle.tree_refusals.specs.Accepted.{AcceptedTable}
use Rattle.nash_conv_units.specs.Calls.{nash_conv_of}

-- the number answered is 0 exactly at an equilibrium
pub zero_answered : (g : Game) (D : ℕ) (table : Table) → AcceptedTable g D table → (conv : ℕ) → pos conv ≡ nash_conv_of g D table
    → (conv ≡ 0) ↔ Equilibrium (tree_of g) (m g) D (root_units g D) table g.seats
zero_answered g D table a conv q =
    let (f, b) = conv_zero g D table a.game.known a.game.seats a.least a.valid in
    ((λ e. f (sym q ∙ ap pos e)), λ h. ap nat_abs (q ∙ b h))

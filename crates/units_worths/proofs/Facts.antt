-- The statements of specs/Facts.antt, each by its proof: what other crates cite. Assumes nothing.
use mathlib.Core.Path.{◌≡◌}
use Prim.Native.Nat.{ℕ, ◌*◌, ◌^◌, ◌≤◌, ◌<◌}
use native.Mathlib.Nat as NatL
use native.Mathlib.Omega.{arith}
use lib.Dec.{eqb}
use lib.ListN.{length}
use borrow.Author.Tests.{eq-eqb, ne_eqb, eqb-true, eqb-false}
use Rattle.prelude.proofs.Tests.{Tested, holds, fails, tested}
use Rattle.game_tree.specs.Sets.{sets}
use Rattle.kuhn_tree.specs.Tree as Kuhn
use Rattle.kuhn_tree.specs.Facts as Kuhn-facts
use Rattle.kuhn_tree.proofs.Facts as Kuhn-proofs
use Rattle.kuhn_arena_layout.proofs.Start.{by_seats}
use Rattle.games.specs.Games.{Game, tree_of, most_parts}
use Rattle.games.specs.Known.{Known}
use Rattle.games.proofs.Known.{kuhn_two, kuhn-six, leduc_two}
use Rattle.arena_store.proofs.Shaped.{games_legible}
use Rattle.units_worths.specs.internal.Facts.{Fits, UnitsFit, GamesReadable}
use Rattle.units_worths.proofs.Entries.{entries-few}
use Rattle.units.specs.internal.Readable.{UNITS}

-- ---- the units of Kuhn's root
kuhn-units-few : (n : ℕ) → 2 ≤ n → n ≤ 6 → Kuhn-facts.root_units n (Kuhn.largest_parts n) < UNITS
unfolding Kuhn.C
kuhn-units-few = by_seats (λ n. Kuhn-facts.root_units n (Kuhn.largest_parts n) < UNITS) (omega arith) (omega arith) (omega arith) (omega arith) (omega arith)

kuhn_most_units : (n D : ℕ) → D ≤ Kuhn.largest_parts n → Kuhn-facts.root_units n D ≤ Kuhn-facts.root_units n (Kuhn.largest_parts n)
kuhn_most_units n D l = NatL.mul-le-mul_left (Kuhn.C n) (NatL.pow-le-pow_left l (Kuhn.m n))

module _ (g : Game) (a : Known g) (D : ℕ) (w : D ≤ most_parts g) where
  kuhn_fits : g.number ≡ 0 → Fits g D
  kuhn_fits k =
      let l : D ≤ Kuhn.largest_parts g.seats = rw (eq-eqb g.number 0 k) at w in
      let f = Kuhn-proofs.units-fit g.seats D (kuhn_two g a k) (kuhn-six g a k) l in
      record {
        units = rw (eq-eqb g.number 0 k) (NatL.lt_of_le_of_lt (kuhn_most_units g.seats D l) (kuhn-units-few g.seats (kuhn_two g a k) (kuhn-six g a k)));
        worth = rw (eq-eqb g.number 0 k) f.0;
        conv = rw (eq-eqb g.number 0 k) f.1;
      }

  leduc_fits : (g.number ≡ 0 → ⊥) → Fits g D
  leduc_fits k =
      let l : D ≤ 64 = rw (ne_eqb g.number 0 k) at w in
      let f : 120 * D ^ 8 ≤ 120 * 64 ^ 8 = NatL.mul-le-mul_left 120 (NatL.pow-le-pow_left l 8) in
      record {
        units = rw (ne_eqb g.number 0 k) (omega arith);
        worth = rw (ne_eqb g.number 0 k) (omega arith);
        conv = rw (ne_eqb g.number 0 k, leduc_two g a k) (omega arith);
      }

pub units-fit : UnitsFit
units-fit g D a w = at (tested (eqb g.number 0))
  where
    at : Tested (eqb g.number 0) → Fits g D
    at (holds t) = kuhn_fits g a D w (eqb-true g.number 0 t)
    at (fails t) = leduc_fits g a D w (eqb-false g.number 0 t)

-- ---- a stored tree and a valid table
pub games_readable : GamesReadable
games_readable g D w table a s (e, v) =
    let x = games_legible g w (length table) a s e in
    record { held = x.held; room = x.room; entered = x.entered; few = entries-few D (sets (tree_of g)) table v e; within = x.within }

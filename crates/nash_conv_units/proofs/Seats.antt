-- NashConv seat by seat, of a table that is not refused. Assumes nothing.
use mathlib.Core.Path.{◌≡◌, refl, sym, ap, ap₂, ◌∙◌}
use mathlib.Core.Bool.{cond}
use mathlib.Core.List.{List}
use Prim.Native.Nat.{ℕ, zero, suc, ◌+◌, ◌*◌, ◌^◌, ◌≤◌, ◌<◌, zero-le}
use native.Mathlib.Nat as NatL
use native.Mathlib.Numerals.{add-one}
use native.Mathlib.Omega.{arith}
use lib.Dec.{ltb}
use lib.IntN.{ℤ, pos, ◌+ℤ◌, ◌-ℤ◌, nat_abs}
use lib.ListN.{get_or}
use mir.Syntax.{w64}
use mir.Val.{Fits}
use borrow.Author.Tests.{lt-ltb}
use Rattle.prelude.proofs.Lists.{get_d_places}
use Rattle.game_tree.specs.Tree.{Tree}
use Rattle.game_tree.specs.Table.{Table, table_worth, table_best, nash_conv_over}
use Rattle.game_tree.proofs.Integers.{size_of_sum}
use Rattle.game_tree.proofs.TableTheorem.{table_bounds}
use Rattle.games.specs.Games.{Game, tree_of, root_units}
use Rattle.games.specs.Facts.{largest_payoff}
use Rattle.games.specs.Facts as Games
use Rattle.games.proofs.Facts.{games_fit}
use Rattle.units_best.specs.internal.Best.{Unbeaten}
use Rattle.tree_refusals.specs.Accepted.{AcceptedTable}
use Rattle.arena_store.proofs.Shaped.{games_shaped}
use Rattle.units_worths.specs.Worths.{worths_of}
use Rattle.units_worths.proofs.Facts.{units-fit}
use Rattle.nash_conv_units.proofs.Differences.{bits, bits_of_small, difference-size, difference_is}

module _ (g : Game) (D : ℕ) (table : Table) (a : AcceptedTable g D table) where
  abbrev T : Tree
  T = tree_of g

  abbrev U : ℕ
  U = root_units g D

  -- the most that a worth or a best value is in size
  abbrev most : ℕ
  most = U * largest_payoff g

  fit : Games.Fit g
  fit = games_fit g a.game.known a.game.seats

  pub two_seats : 2 ≤ g.seats
  two_seats = (games_shaped g a.game).least

  pub few-seats : g.seats ≤ 6
  few-seats = (games_shaped g a.game).most

  most_few : most < 2 ^ 62
  most_few =
      let h = NatL.mul-le-mul_right (2 * most) two_seats in
      omega (arith, (units-fit g D a.game a.most).conv)

  -- ---- one seat
  module _ (i : ℕ) (l : i < g.seats) where
    sizes : (nat_abs (table_worth T D U table i) ≤ most) × (nat_abs (table_best T D U table i) ≤ most)
    sizes = table_bounds T D U (largest_payoff g) i table a.least fit.actions a.valid (fit.pays i l)

    -- its worth, from those of all
    seat-worth : (worths : List ℤ) → worths ≡ worths_of g D table → bits (get_or worths i (pos 0)) ≡ table_worth T D U table i
    unfolding worths_of
    seat-worth worths e =
        let q : get_or worths i (pos 0) ≡ table_worth T D U table i = ap (λ x. get_or x i (pos 0)) e
        ∙ get_d_places 6 (λ j. cond (ltb j g.seats) (table_worth T D U table j) (pos 0)) i (pos 0) (NatL.lt_of_lt_of_le l few-seats)
        ∙ rw (lt-ltb i g.seats l) refl in
        ap bits q ∙ bits_of_small (table_worth T D U table i) (omega (arith, sizes.0, most_few))

    -- what it would gain by its best value, which no rival table beats: the table is a rival of itself
    pub gain_is : (worths : List ℤ) → worths ≡ worths_of g D table → (b v : ℤ) → b ≡ v → v ≡ table_best T D U table i → Unbeaten g D i table v
        → (r : ℕ) → r ≡ nat_abs (b -ℤ bits (get_or worths i (pos 0))) → pos r ≡ table_best T D U table i -ℤ table_worth T D U table i
    gain_is worths e b v p q u r x = ap pos (x ∙ ap₂ (λ y z. nat_abs (y -ℤ z)) (p ∙ q) (seat-worth worths e))
        ∙ difference_is (table_worth T D U table i) (table_best T D U table i) (rw (← q) (u.0 table (a.valid, λ y h f. refl)))

  -- ---- the seats passed
  conv-few : (k : ℕ) → k ≤ g.seats → nat_abs (nash_conv_over T D U table k) ≤ k * (2 * most)
  unfolding nash_conv_over
  conv-few zero l = zero-le
  conv-few (suc k) l =
      let (w, b) = sizes k l in
      let h = conv-few k (omega arith) in
      let d = difference-size (table_worth T D U table k) (table_best T D U table k) most w b in
      omega (arith, size_of_sum (nash_conv_over T D U table k) (table_best T D U table k -ℤ table_worth T D U table k), NatL.suc-mul k (2 * most))

  pub no_seats : pos 0 ≡ nash_conv_over T D U table 0
  unfolding nash_conv_over
  no_seats = refl

  module _ (k sum e : ℕ) (s : pos sum ≡ nash_conv_over T D U table k) (q : pos e ≡ table_best T D U table k -ℤ table_worth T D U table k) where
    next : pos (sum + e) ≡ nash_conv_over T D U table (suc k)
    unfolding nash_conv_over
    next = ap₂ (λ x y. x +ℤ y) s q

    pub one_seat_more : pos (sum + e) ≡ nash_conv_over T D U table (k + 1)
    one_seat_more = next ∙ ap (nash_conv_over T D U table) (sym (add-one k))

    pub sum_fits : k < g.seats → Fits w64 (sum + e)
    sum_fits l =
        let h = conv-few (suc k) l in
        let q : sum + e ≡ nat_abs (nash_conv_over T D U table (suc k)) = ap nat_abs next in
        let r = NatL.mul-le-mul_right (2 * most) l in
        record { fits = omega (arith, (units-fit g D a.game a.most).conv) }

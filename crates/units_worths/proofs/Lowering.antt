-- A lifted sum as a worth. Assumes nothing.
use mathlib.Core.Path.{◌≡◌, refl, sym, ap, ap₂, ◌∙◌, subst}
use mathlib.Core.Bool.{Bool, true, false, cond}
use mathlib.Core.List.{List}
use Prim.Native.Nat.{ℕ, zero, suc, ◌+◌, ◌-◌, ◌*◌, ◌%◌, ◌^◌, ◌≤◌, ◌<◌}
use native.Mathlib.Nat as NatL
use native.Mathlib.Omega.{arith}
use lib.Dec.{leb, ltb}
use lib.IntN.{ℤ, pos, negsuc, neg_ℤ, ◌+ℤ◌, ◌-ℤ◌, nat_abs, pos-ne-negsuc, +ℤ-neg_ℤ_cancel}
use lib.ListN.{get_or, set, replicate}
use borrow.Author.Tests.{lt-ltb, le-ltb, ltb-true}
use Rattle.prelude.proofs.Lists.{filled_none, filled_more, places_same}
use Rattle.prelude.proofs.Tests.{Tested, holds, fails, tested}
use Rattle.game_tree.specs.Tree.{Tree, end, chance, decide, Trees, nil, cons}
use Rattle.game_tree.specs.Conditions.{Pays, PaysAll}
use Rattle.game_tree.specs.Table.{Table, strategy_of, table_worth}
use Rattle.game_tree.proofs.TableTheorem.{table-units-add_up, table_bounds}
use Rattle.games.specs.Games.{Game, is_kuhn, tree_of, C, m, root_units}
use Rattle.games.specs.Facts.{largest_payoff}
use Rattle.games.proofs.Facts.{games_fit}
use Rattle.units.specs.internal.Lifted.{lifted}
use Rattle.units.proofs.Lifting.{lifted_is}
use Rattle.units_worths.specs.Worths.{worths_of}
use Rattle.units_worths.specs.internal.Worths.{lowered_of}
use Rattle.tree_refusals.specs.Accepted.{AcceptedTable}
use Rattle.arena_store.proofs.Shaped.{games_shaped}
use Rattle.units_worths.proofs.Facts.{units-fit}
use Rattle.units.specs.internal.Readable.{UNITS}

-- ---- a difference as a signed number
pub minus_less : (s l : ℕ) → s < l → pos s -ℤ pos l ≡ neg_ℤ (pos (l - s))
minus_less s zero h = absurd (omega arith)
minus_less s (suc l) h = let e : suc l - s ≡ suc (suc l - suc s) = omega arith in rw (lt-ltb s (suc l) h) (sym (ap (λ x. neg_ℤ (pos x)) e))

pub minus_more : (s l : ℕ) → l ≤ s → pos s -ℤ pos l ≡ pos (s - l)
minus_more s zero h = ap pos (omega arith)
minus_more s (suc l) h = rw (le-ltb s (suc l) h) refl

-- ---- the places as a loop fills them
module _ (sums : List ℕ) (u : ℕ) where
  abbrev pub worth_at : ℕ → ℤ
  worth_at i = pos (get_or sums i 0) -ℤ pos (64 * u)

  pub lowered_none : replicate 6 (pos 0) ≡ lowered_of sums u 0
  unfolding lowered_of
  lowered_none = filled_none 6 worth_at (pos 0)

  pub lowered_more : (k : ℕ) (out : List ℤ) (x : ℤ) → k < 6 → out ≡ lowered_of sums u k → x ≡ worth_at k → set out k x ≡ lowered_of sums u (k + 1)
  unfolding lowered_of
  lowered_more k out x h e q = ap₂ (λ l z. set l k z) e q ∙ filled_more 6 worth_at (pos 0) k h

  pub lowered-full : (k n : ℕ) (out : List ℤ) → k ≤ n → n ≤ k → out ≡ lowered_of sums u k → out ≡ lowered_of sums u n
  lowered-full k n out a b e = let q : k ≡ n = omega arith in e ∙ ap (lowered_of sums u) q

-- ---- a bound may be higher
module _ (B E i : ℕ) (l : B ≤ E) where
  mutual
    unfolding Pays

    pub pays_more : (t : Tree) → Pays B i t → Pays E i t
    pays_more (end p) h = NatL.le_trans h l
    pays_more (chance f) h = pays_more_all f h
    pays_more (decide j k f) h = pays_more_all f h

    pays_more_all : (f : Trees) → PaysAll B i f → PaysAll E i f
    pays_more_all nil h = tt
    pays_more_all (cons t f) h = (pays_more t h.0, pays_more_all f h.1)

-- ---- numbers
-- a lifted number, from the number and its lift
lifted-few : (z : ℤ) (l u b : ℕ) → pos l ≡ z +ℤ pos u → nat_abs z ≤ b → l ≤ b + u
lifted-few (pos a) l u b e h = let q : l ≡ a + u = ap nat_abs e in omega arith
lifted-few (negsuc a) l u b e h = at (tested (ltb u (suc a)))
  where
    at : Tested (ltb u (suc a)) → l ≤ b + u
    at (holds t) = let q : pos l ≡ negsuc (suc a - suc u) = e ∙ rw t refl in absurd (pos-ne-negsuc l (suc a - suc u) q)
    at (fails t) = let q : pos l ≡ pos (u - suc a) = e ∙ rw t refl in let r : l ≡ u - suc a = ap nat_abs q in omega arith

pub back : (z : ℤ) (l u : ℕ) → pos l ≡ z +ℤ pos u → pos l -ℤ pos u ≡ z
back z l u e = ap (λ x. x -ℤ pos u) e ∙ +ℤ-neg_ℤ_cancel z (pos u)

-- ---- the worths of a table that is not refused
module _ (g : Game) (D : ℕ) (table : Table) (a : AcceptedTable g D table) where
  abbrev U : ℕ
  U = root_units g D

  abbrev lift_of : ℕ → ℕ
  lift_of i = lifted D (strategy_of (tree_of g) table) i U (tree_of g)

  module _ (i : ℕ) (l : i < g.seats) where
    pub pays_sixty : Pays 60 i (tree_of g)
    pays_sixty = pays_more (largest_payoff g) 60 i (games_shaped g a.game).payoffs (tree_of g) ((games_fit g a.game.known a.game.seats).pays i l)

    lift_is : pos (lift_of i) ≡ table_worth (tree_of g) D U table i +ℤ pos (64 * U)
    unfolding table_worth
    lift_is = lifted_is D (strategy_of (tree_of g) table) i (tree_of g) U pays_sixty
        ∙ ap (λ x. table_worth (tree_of g) D U table i +ℤ pos (64 * x))
        (table-units-add_up (tree_of g) (C g) (m g) D table a.least (games_fit g a.game.known a.game.seats).splits (games_fit g a.game.known a.game.seats).actions a.valid)

    lift-few : lift_of i ≤ 124 * U
    lift-few =
        let b = (table_bounds (tree_of g) D U 60 i table a.least (games_fit g a.game.known a.game.seats).actions a.valid pays_sixty).0 in
        let f = lifted-few (table_worth (tree_of g) D U table i) (lift_of i) (64 * U) (U * 60) lift_is b in
        omega arith

  -- r has the lifted worth of each seat
  module _ (r : List ℕ) (e : (i : ℕ) → i < g.seats → get_or r i 0 ≡ lift_of i % 2 ^ 64) (i : ℕ) (l : i < g.seats) where
    sum_is : get_or r i 0 ≡ lift_of i
    sum_is = e i l ∙ NatL.mod-eq_of_lt (small (lift_of i) U (units-fit g D a.game a.most).units (lift-few i l))
      where
        small : (x u : ℕ) → u < UNITS → x ≤ 124 * u → x < 2 ^ 64
        small x u h k = omega arith

    sum_few : get_or r i 0 ≤ 124 * U
    sum_few = rw sum_is (lift-few i l)

    sum_worth : pos (get_or r i 0) -ℤ pos (64 * U) ≡ table_worth (tree_of g) D U table i
    sum_worth = ap (λ x. pos x -ℤ pos (64 * U)) sum_is ∙ back (table_worth (tree_of g) D U table i) (lift_of i) (64 * U) (lift_is i l)

  -- the same by the root's units in hand
  module _ (u : ℕ) (q : u ≡ U) (r : List ℕ) (e : (i : ℕ) → i < g.seats → get_or r i 0 ≡ lift_of i % 2 ^ 64) where
    pub sums_few : (i : ℕ) → i < g.seats → get_or r i 0 ≤ 124 * u
    sums_few i l = subst (λ x. get_or r i 0 ≤ 124 * x) (sym q) (sum_few r e i l)

    pub sums_worths : lowered_of r u g.seats ≡ worths_of g D table
    unfolding lowered_of worths_of
    sums_worths = ap (λ x. lowered_of r x g.seats) q ∙ places_same 6 _ _ (λ i h. at i (tested (ltb i g.seats)))
      where
        at : (i : ℕ) → Tested (ltb i g.seats) → cond (ltb i g.seats) (pos (get_or r i 0) -ℤ pos (64 * U)) (pos 0) ≡ cond (ltb i g.seats) (table_worth (tree_of g) D U table i) (pos 0)
        at i (holds t) = rw t (sum_worth r e i (ltb-true i g.seats t))
        at i (fails t) = rw t refl

  pub few_parts : D ≤ 64
  few_parts = at (is_kuhn g) (leb g.seats 4) a.most
    where
      at : (b c : Bool) → D ≤ cond b (cond c 64 16) 64 → D ≤ 64
      at true true h = h
      at true false h = omega arith
      at false c h = h

  pub few-seats : g.seats ≤ 6
  few-seats = (games_shaped g a.game).most

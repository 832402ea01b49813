-- How large the entries of a valid table are. Assumes nothing.
use mathlib.Core.Path.{◌≡◌, refl, ap, ◌∙◌}
use mathlib.Core.Bool.{Bool, true, false, cond}
use mathlib.Core.List.{List, [], ◌∷◌, map}
use Prim.Native.Nat.{ℕ, zero, suc, ◌+◌, ◌-◌, ◌≤◌, ◌<◌}
use native.Mathlib.Omega.{arith}
use lib.Dec.{eqb, ltb}
use borrow.Author.Tests.{eqb-true, ltb-true, ltb-false}
use lib.ListN.{length, get_or, drop, length-drop}
use lib.Seq.{get_or-drop}
use Rattle.prelude.proofs.Tests.{Tested, holds, fails, tested}
use Rattle.game_tree.specs.Sums.{sumℕ, parts}
use Rattle.game_tree.specs.Sets.{Decision, entries_of}
use Rattle.game_tree.specs.Table.{Table, add_up}
use Rattle.game_tree.proofs.Sets.{clash}

part_few : (n : ℕ) (p : ℕ → ℕ) (a : ℕ) → a < n → p a ≤ parts n p
unfolding parts
part_few zero p a l = absurd (omega arith)
part_few (suc n) p zero l = omega arith
part_few (suc n) p (suc a) l = let h = part_few n (λ b. p (suc b)) a (omega arith) in omega arith

both_left : (a b : Bool) → cond a b false ≡ true → a ≡ true
both_left true b e = refl
both_left false b e = e

both_right : (a b : Bool) → cond a b false ≡ true → b ≡ true
both_right true b e = e
both_right false b e = absurd (clash false e refl)

-- no entry of sets that add up to D is more
pub entries-few : (D : ℕ) (xs : List Decision) (table : Table) → add_up D (map (λ x. x.2) xs) table ≡ true → length table ≡ entries_of xs → (e : ℕ) → get_or table e 0 ≤ D
unfolding add_up entries_of sumℕ
entries-few D [] [] a l e = omega arith
entries-few D [] (p ∷ table) a l e = absurd (omega arith)
entries-few D (x ∷ xs) table a l e = at (tested (ltb e x.2)) (λ i. entries-few D xs (drop x.2 table) (both_right here (add_up D (map (λ x. x.2) xs) (drop x.2 table)) a) (length-drop x.2 table ∙ (omega arith)) i)
  where
    here : Bool
    here = eqb (parts x.2 (λ i. get_or table i 0)) D

    adds_here : parts x.2 (λ i. get_or table i 0) ≡ D
    adds_here = eqb-true (parts x.2 (λ i. get_or table i 0)) D (both_left here (add_up D (map (λ x. x.2) xs) (drop x.2 table)) a)

    at : Tested (ltb e x.2) → ((i : ℕ) → get_or (drop x.2 table) i 0 ≤ D) → get_or table e 0 ≤ D
    at (holds t) f = let h = part_few x.2 (λ i. get_or table i 0) e (ltb-true e x.2 t) in omega (arith, adds_here)
    at (fails t) f =
        let w = ltb-false e x.2 t in
        let q : x.2 + (e - x.2) ≡ e = omega arith in
        omega (arith, f (e - x.2), get_or-drop x.2 table (e - x.2) 0, ap (λ i. get_or table i 0) q)

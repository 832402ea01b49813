-- Sums of parts, as a loop adds them up. Assumes nothing.
use mathlib.Core.Path.{◌≡◌, refl, sym, ap, ap₂, ◌∙◌}
use mathlib.Core.Bool.{Bool, true, false, cond}
use mathlib.Core.List.{List, [], ◌∷◌}
use Prim.Native.Nat.{ℕ, zero, suc, ◌+◌, ◌-◌, ◌≤◌, ◌<◌}
use native.Mathlib.Numerals.{add-one}
use native.Mathlib.Omega.{arith}
use lib.Dec.{eqb}
use borrow.Author.Tests.{eq-eqb, ne_eqb}
use lib.ListN.{length, get_or, take, drop, length-drop, drop_of_length-le}
use lib.Seq.{length-take-le, get_or-take, drop-cons, drop-drop}
use Rattle.std.specs.List as List
use Rattle.std.proofs.lemmas.List.Sums.{sum_by-cons}
use Rattle.game_tree.specs.Sums.{parts}
use Rattle.game_tree.specs.Table.{add_up}
use Rattle.games.specs.Games.{Game}
use Rattle.games.specs.Facts.{sets_of, entries_of}
use Rattle.games.specs.internal.Actions.{actions_of}
use Rattle.games.proofs.Totals.{total, total_more}
use Rattle.games.proofs.Counts.{in_actions, part_room}

-- the sum of a list is that of its parts
pub sum_is_parts : (xs : List ℕ) → List.sum xs ≡ parts (length xs) (λ a. get_or xs a 0)
unfolding parts
sum_is_parts [] = refl
sum_is_parts (x ∷ xs) = sum_by-cons (λ n. n) x xs ∙ ap (λ n. x + n) (sum_is_parts xs)

-- parts that agree below n add up to the same
pub parts_same : (n : ℕ) (p q : ℕ → ℕ) → ((a : ℕ) → a < n → p a ≡ q a) → parts n p ≡ parts n q
unfolding parts
parts_same zero p q h = refl
parts_same (suc n) p q h = ap₂ ◌+◌ (h 0 (omega arith)) (parts_same n (λ a. p (suc a)) (λ a. q (suc a)) (λ a w. h (suc a) (omega arith)))

-- ---- set after set

module _ (D : ℕ) (ns table : List ℕ) where
  -- what is left to test behind the first i sets
  abbrev pub rest : ℕ → Bool
  rest i = add_up D (drop i ns) (drop (total (take i ns)) table)

  module _ (i : ℕ) (w : i < length ns) where
    rest_is : rest i ≡ cond (eqb (parts (get_or ns i 0) (λ a. get_or (drop (total (take i ns)) table) a 0)) D) (rest (i + 1)) false
    unfolding add_up
    rest_is =
        ap (λ l. add_up D l (drop (total (take i ns)) table)) (drop-cons ns i 0 w)
        ∙ ap₂ (λ k l. cond (eqb (parts (get_or ns i 0) (λ a. get_or (drop (total (take i ns)) table) a 0)) D) (add_up D (drop k ns) l) false)
        (sym (add-one i)) (drop-drop (get_or ns i 0) (total (take i ns)) table ∙ ap (λ k. drop k table) (total_more ns i w))

    module _ (part : List ℕ) (is : part ≡ take (get_or ns i 0) (drop (total (take i ns)) table)) (room : total (take i ns) + get_or ns i 0 ≤ length table) where
      part_long : length part ≡ get_or ns i 0
      part_long = ap length is ∙ length-take-le (get_or ns i 0) (drop (total (take i ns)) table) (rw (length-drop (total (take i ns)) table) (omega arith))

      part_parts : parts (length part) (λ a. get_or part a 0) ≡ parts (get_or ns i 0) (λ a. get_or (drop (total (take i ns)) table) a 0)
      part_parts =
          ap (λ k. parts k (λ a. get_or part a 0)) part_long
          ∙ parts_same (get_or ns i 0) (λ a. get_or part a 0) (λ a. get_or (drop (total (take i ns)) table) a 0)
          (λ a v. ap (λ l. get_or l a 0) is ∙ get_or-take (get_or ns i 0) (drop (total (take i ns)) table) a 0 v)

      -- a set whose parts do not add up decides
      pub rest_fails : (parts (length part) (λ a. get_or part a 0) ≡ D → ⊥) → rest i ≡ false
      rest_fails f = rest_is ∙ ap (λ b. cond b (rest (i + 1)) false) (ne_eqb (parts (get_or ns i 0) (λ a. get_or (drop (total (take i ns)) table) a 0)) D (λ q. f (part_parts ∙ q)))

      -- else those behind it do
      pub rest_goes : parts (length part) (λ a. get_or part a 0) ≡ D → rest i ≡ rest (i + 1)
      rest_goes e = rest_is ∙ ap (λ b. cond b (rest (i + 1)) false) (eq-eqb (parts (get_or ns i 0) (λ a. get_or (drop (total (take i ns)) table) a 0)) D (sym part_parts ∙ e))

  pub rest_all : add_up D ns table ≡ rest 0
  unfolding total
  rest_all = refl

  pub rest_none : (i : ℕ) → length ns ≤ i → rest i ≡ true
  unfolding add_up
  rest_none i h = ap (λ l. add_up D l (drop (total (take i ns)) table)) (drop_of_length-le ns h)

-- ---- the part of set i, whose n entries begin at place at
module _ (g : Game) (table : List ℕ) (i at n : ℕ) (e : length table ≡ entries_of g) (w : i < sets_of g) (f : at ≡ total (take i (actions_of g))) (m : n ≡ get_or (actions_of g) i 0) where
  abbrev part : List ℕ
  part = take (at + n - at) (drop at table)

  pub part_inside : at + n ≤ length table
  part_inside = omega (arith, part_room g table i e w)

  pub part_few : n ≤ 3 → length part ≤ 3
  part_few h = omega (arith, length-take-le (at + n - at) (drop at table) (rw (length-drop at table) (omega (arith, part_inside))))

  part_is : part ≡ take (get_or (actions_of g) i 0) (drop (total (take i (actions_of g))) table)
  part_is = let k : at + n - at ≡ get_or (actions_of g) i 0 = omega arith in ap₂ (λ k j. take k (drop j table)) k f

  pub next_part : at + n ≡ total (take (i + 1) (actions_of g))
  next_part = ap₂ ◌+◌ f m ∙ total_more (actions_of g) i (in_actions g i w)

  module _ (D r : ℕ) (a : add_up D (actions_of g) table ≡ rest D (actions_of g) table i) (s : r ≡ List.sum part) where
    q : r ≡ parts (length part) (λ b. get_or part b 0)
    q = s ∙ sum_is_parts part

    pub sum_differs : (r ≡ D → ⊥) → false ≡ add_up D (actions_of g) table
    sum_differs h = sym (a ∙ rest_fails D (actions_of g) table i (in_actions g i w) part part_is (part_room g table i e w) (λ z. h (q ∙ z)))

    pub sum_agrees : r ≡ D → add_up D (actions_of g) table ≡ rest D (actions_of g) table (i + 1)
    sum_agrees h = a ∙ rest_goes D (actions_of g) table i (in_actions g i w) part part_is (part_room g table i e w) (sym q ∙ h)

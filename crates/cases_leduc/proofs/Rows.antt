-- A choice decides every set of a reply tree: a test over the rows of its own nodes, which are split by parts of their keys before they are
-- compared. Assumes nothing.
use mathlib.Core.Path.{◌≡◌, refl, sym, ap, ap₂, ◌∙◌, fun_ext}
use mathlib.Core.Bool.{Bool, true, false, not, cond}
use mathlib.Core.List.{List, [], ◌∷◌}
use Prim.Native.Nat.{ℕ, zero, suc}
use native.Mathlib.Omega.{arith}
use lib.Dec.{eqb}
use lib.IntN.{ℤ, pos, ◌+ℤ◌}
use lib.ListN.{get_or}
use Rattle.game_tree.specs.Sums.{sum}
use Rattle.game_tree.specs.Tree.{Key}
use Rattle.game_tree.specs.Reply.{Reply, Replies, none, more, Choice, value, pick, Node, nodes, same, keep, with_key, set_sum, highest, lowest, count}
use Rattle.game_tree.specs.Optimal.{Decides}
use Rattle.game_tree.proofs.Own.{EachNode, each→own}
use Rattle.game_tree.proofs.Tests.{T_of, same→eq, eqb_is}

-- an own node: its key, its number of actions, and the values behind them
abbrev pub Row : Type 0
Row = Key × ℕ × List ℤ

-- the sum behind action a of the set k
unfoldable pub row_sum : Key → ℕ → List Row → ℤ
unfolding same
row_sum k a [] = pos 0
row_sum k a (x ∷ xs) = let r : ℤ = row_sum k a xs in cond (same x.0 k) (get_or x.2 a (pos 0) +ℤ r) r

-- the rows whose key passes a test
unfoldable pub with : (Key → Bool) → List Row → List Row
with T [] = []
with T (x ∷ xs) = let r : List Row = with T xs in cond (T x.0) (x ∷ r) r

kept_sum : (T : Key → Bool) (k : Key) (a : ℕ) (xs : List Row) → T k ≡ true → row_sum k a (with T xs) ≡ row_sum k a xs
unfolding row_sum with
kept_sum T k a [] e = refl
kept_sum T k a (x ∷ xs) e = at (T x.0) (same x.0 k) refl refl (kept_sum T k a xs e)
  where
    at : (b s : Bool) → T x.0 ≡ b → same x.0 k ≡ s → row_sum k a (with T xs) ≡ row_sum k a xs
        → row_sum k a (cond b (x ∷ with T xs) (with T xs)) ≡ cond s (get_or x.2 a (pos 0) +ℤ row_sum k a xs) (row_sum k a xs)
    at true true p q h = rw q (ap (λ r. get_or x.2 a (pos 0) +ℤ r) h)
    at true false p q h = rw q h
    at false true p q h = let n : ◌≡◌ {A = Bool} false true = sym p ∙ ap T (same→eq x.0 k (T_of q)) ∙ e in let z : ◌≡◌ {A = ℕ} 0 1 = ap (λ b. cond b 1 0) n in absurd (omega arith)
    at false false p q h = h

module _ (c : Choice) where
  -- ---- rows of a tree
  unfoldable pub picks : Replies → List ℤ
  unfolding value
  picks none = []
  picks (more t f) = value c t ∷ picks f

  unfoldable pub rows_of : List Node → List Row
  unfolding picks count
  rows_of [] = []
  rows_of (x ∷ xs) = (x.1, count x.2, picks x.2) ∷ rows_of xs

  pick_is : (f : Replies) (a : ℕ) → pick c f a ≡ get_or (picks f) a (pos 0)
  unfolding pick picks
  pick_is none a = refl
  pick_is (more t f) zero = refl
  pick_is (more t f) (suc a) = pick_is f a

  row_sum_is : (k : Key) (a : ℕ) (xs : List Node) → row_sum k a (rows_of xs) ≡ sum (λ x. pick c x.2 a) (with_key k xs)
  unfolding sum with_key keep row_sum rows_of
  row_sum_is k a [] = refl
  row_sum_is k a (x ∷ xs) = at (same x.1 k) (row_sum_is k a xs)
    where
      at : (b : Bool) → row_sum k a (rows_of xs) ≡ sum (λ y. pick c y.2 a) (with_key k xs)
          → cond b (get_or (picks x.2) a (pos 0) +ℤ row_sum k a (rows_of xs)) (row_sum k a (rows_of xs)) ≡ sum (λ y. pick c y.2 a) (keep b x (with_key k xs))
      at true h = ap₂ ◌+ℤ◌ (sym (pick_is x.2 a)) h
      at false h = h

  -- ---- rows that are decided by the sums over ys
  unfoldable Good : List Row → List Row → Type 0
  Good ys [] = Unit {0}
  Good ys (x ∷ xs) = (c x.0 ≡ lowest x.1 (λ a. row_sum x.0 a ys)) × Good ys xs

  good_split : (T : Key → Bool) (ys xs : List Row) → Good (with T ys) (with T xs) → Good (with (λ k. not (T k)) ys) (with (λ k. not (T k)) xs) → Good ys xs
  unfolding Good with
  good_split T ys [] g h = tt
  good_split T ys (x ∷ xs) g h = at (T x.0) refl g h (λ p q. good_split T ys xs p q)
    where
      by : (R : Key → Bool) → R x.0 ≡ true → c x.0 ≡ lowest x.1 (λ a. row_sum x.0 a (with R ys)) → c x.0 ≡ lowest x.1 (λ a. row_sum x.0 a ys)
      by R e p = p ∙ ap (lowest x.1) (fun_ext (λ a. kept_sum R x.0 a ys e))

      at : (b : Bool) → T x.0 ≡ b → Good (with T ys) (cond b (x ∷ with T xs) (with T xs))
          → Good (with (λ k. not (T k)) ys) (cond (not b) (x ∷ with (λ k. not (T k)) xs) (with (λ k. not (T k)) xs))
          → (Good (with T ys) (with T xs) → Good (with (λ k. not (T k)) ys) (with (λ k. not (T k)) xs) → Good ys xs)
          → (c x.0 ≡ lowest x.1 (λ a. row_sum x.0 a ys)) × Good ys xs
      at true e (p, g) h f = (by T e p, f g h)
      at false e g (p, h) f = (by (λ k. not (T k)) (ap not e) p, f g h)

  -- ---- the test
  unfoldable pub compared : List Row → List Row → Bool
  unfolding row_sum highest
  compared ys [] = true
  compared ys (x ∷ xs) = let r : Bool = compared ys xs in cond (eqb (c x.0) (lowest x.1 (λ a. row_sum x.0 a ys))) r false

  compared_good : (ys xs : List Row) → compared ys xs ≡ true → Good ys xs
  unfolding compared Good
  compared_good ys [] e = tt
  compared_good ys (x ∷ xs) e = at (eqb (c x.0) (lowest x.1 (λ a. row_sum x.0 a ys))) refl e (compared_good ys xs)
    where
      at : (b : Bool) → eqb (c x.0) (lowest x.1 (λ a. row_sum x.0 a ys)) ≡ b → cond b (compared ys xs) false ≡ true → (compared ys xs ≡ true → Good ys xs)
          → (c x.0 ≡ lowest x.1 (λ a. row_sum x.0 a ys)) × Good ys xs
      at true q e f = (eqb_is _ _ q, f e)
      at false q e f = let z : ◌≡◌ {A = ℕ} 0 1 = ap (λ b. cond b 1 0) e in absurd (omega arith)

  -- place i of a key holds v
  abbrev holds_at : ℕ → ℕ → Key → Bool
  holds_at i v k = eqb (get_or k i 0) v

  -- by what stands at place i of the keys
  unfoldable pub split_by : ℕ → List ℕ → (List Row → Bool) → List Row → Bool
  unfolding with
  split_by i [] next xs = next xs
  split_by i (v ∷ vs) next xs = let r : Bool = split_by i vs next (with (λ k. not (holds_at i v k)) xs) in cond (next (with (holds_at i v) xs)) r false

  split_good : (i : ℕ) (vs : List ℕ) (next : List Row → Bool) → ((ys : List Row) → next ys ≡ true → Good ys ys) → (xs : List Row) → split_by i vs next xs ≡ true → Good xs xs
  unfolding split_by
  split_good i [] next h xs e = h xs e
  split_good i (v ∷ vs) next h xs e = at (next (with (holds_at i v) xs)) refl e (split_good i vs next h (with (λ k. not (holds_at i v k)) xs))
    where
      rest : List Row
      rest = with (λ k. not (holds_at i v k)) xs

      at : (b : Bool) → next (with (holds_at i v) xs) ≡ b → cond b (split_by i vs next rest) false ≡ true → (split_by i vs next rest ≡ true → Good rest rest) → Good xs xs
      at true q e f = good_split (holds_at i v) xs xs (h (with (holds_at i v) xs) q) (f e)
      at false q e f = let z : ◌≡◌ {A = ℕ} 0 1 = ap (λ b. cond b 1 0) e in absurd (omega arith)

  -- by the card, the public card, and the length and first action of round 1, then row against row
  unfoldable pub tested : List Row → Bool
  unfolding split_by compared
  tested = split_by 1 (0 ∷ 1 ∷ 2 ∷ 3 ∷ 4 ∷ []) (split_by 2 (0 ∷ 1 ∷ 2 ∷ 3 ∷ 4 ∷ 5 ∷ []) (split_by 3 (2 ∷ 3 ∷ []) (split_by 4 (1 ∷ []) (λ ys. compared ys ys))))

  tested_good : (xs : List Row) → tested xs ≡ true → Good xs xs
  unfolding tested
  tested_good = split_good 1 (0 ∷ 1 ∷ 2 ∷ 3 ∷ 4 ∷ []) (split_by 2 (0 ∷ 1 ∷ 2 ∷ 3 ∷ 4 ∷ 5 ∷ []) (split_by 3 (2 ∷ 3 ∷ []) (split_by 4 (1 ∷ []) (λ ys. compared ys ys))))
      (split_good 2 (0 ∷ 1 ∷ 2 ∷ 3 ∷ 4 ∷ 5 ∷ []) (split_by 3 (2 ∷ 3 ∷ []) (split_by 4 (1 ∷ []) (λ ys. compared ys ys)))
      (split_good 3 (2 ∷ 3 ∷ []) (split_by 4 (1 ∷ []) (λ ys. compared ys ys)) (split_good 4 (1 ∷ []) (λ ys. compared ys ys) (λ ys. compared_good ys ys))))

  good_nodes : (ys xs : List Node) → Good (rows_of ys) (rows_of xs) → EachNode (λ x. c x.1 ≡ lowest (count x.2) (λ a. sum (λ y. pick c y.2 a) (with_key x.1 ys))) xs
  unfolding Good rows_of EachNode
  good_nodes ys [] g = tt
  good_nodes ys (x ∷ xs) (e, g) = (e ∙ ap (lowest (count x.2)) (fun_ext (λ a. row_sum_is x.1 a ys)), good_nodes ys xs g)

  pub rows_decide : (r : Reply) → tested (rows_of (nodes r)) ≡ true → Decides c r
  rows_decide r e = each→own (λ k n. c k ≡ lowest n (set_sum c r k)) r (good_nodes (nodes r) (nodes r) (tested_good (rows_of (nodes r)) e))

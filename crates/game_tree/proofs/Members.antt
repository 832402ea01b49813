-- The members of a set and the other nodes of a list; a weighted sum over all nodes goes set by set. Nothing is assumed.
use mathlib.Core.Path.{◌≡◌, refl, sym, ap, ap₂, ◌∙◌}
use mathlib.Core.Bool.{Bool, true, false, not}
use mathlib.Core.List.{List, [], ◌∷◌, ◌++◌}
use Prim.Native.Nat.{ℕ, zero, suc, ◌≤◌, zero-le, suc-le-suc}
use native.Mathlib.Nat as NatL
use native.Mathlib.Omega.{arith}
use lib.IntN.{ℤ, pos, ◌+ℤ◌, +ℤ_assoc}
use lib.Signed.{◌≤ℤ◌, ≤ℤ_refl}
use lib.ListN.{length}
use Rattle.game_tree.specs.Sums.{◌·◌, sum}
use Rattle.game_tree.specs.Tree.{Key}
use Rattle.game_tree.specs.Reply.{Node, same, keep, with_key}
use Rattle.game_tree.proofs.Integers.{·-zero, ·-sum, ·-mono, +ℤ-mono, +ℤ-left-comm}
use Rattle.game_tree.proofs.Tests.{Tested, is, isn't, tested, T_of, same→eq, same_self}

pub with_key_append : (k : Key) (xs ys : List Node) → with_key k (xs ++ ys) ≡ with_key k xs ++ with_key k ys
unfolding with_key keep
with_key_append k [] ys = refl
with_key_append k (x ∷ xs) ys = at (same x.1 k) (with_key_append k xs ys)
  where
    at : (b : Bool) → with_key k (xs ++ ys) ≡ with_key k xs ++ with_key k ys → keep b x (with_key k (xs ++ ys)) ≡ keep b x (with_key k xs) ++ with_key k ys
    at true h = ap (λ l. x ∷ l) h
    at false h = h

pub with_key_none : (k : Key) (xs ys : List Node) → with_key k xs ≡ [] → with_key k ys ≡ [] → with_key k (xs ++ ys) ≡ []
with_key_none k xs ys p q = with_key_append k xs ys ∙ ap₂ ◌++◌ p q

-- the nodes of the other sets
unfoldable others : Key → List Node → List Node
others k [] = []
others k (x ∷ xs) = keep (not (same x.1 k)) x (others k xs)

others-length : (k : Key) (xs : List Node) → length (others k xs) ≤ length xs
unfolding others keep
others-length k [] = zero-le
others-length k (x ∷ xs) = at (not (same x.1 k)) (others-length k xs)
  where
    at : (b : Bool) → length (others k xs) ≤ length xs → length (keep b x (others k xs)) ≤ suc (length xs)
    at true h = suc-le-suc h
    at false h = omega arith

others_none : (k : Key) (xs : List Node) → with_key k (others k xs) ≡ []
unfolding others with_key keep
others_none k [] = refl
others_none k (x ∷ xs) = at (tested (same x.1 k)) (others_none k xs)
  where
    at : Tested (same x.1 k) → with_key k (others k xs) ≡ [] → with_key k (keep (not (same x.1 k)) x (others k xs)) ≡ []
    at (is e) h = rw e h
    at (isn't e) h = rw e (rw e h)

others_else : (k j : Key) → same k j ≡ false → (xs : List Node) → with_key j (others k xs) ≡ with_key j xs
unfolding others with_key keep
others_else k j d [] = refl
others_else k j d (x ∷ xs) = at (tested (same x.1 k)) (others_else k j d xs)
  where
    at : Tested (same x.1 k) → with_key j (others k xs) ≡ with_key j xs
        → with_key j (keep (not (same x.1 k)) x (others k xs)) ≡ keep (same x.1 j) x (with_key j xs)
    at (is e) h = let q : same x.1 j ≡ false = ap (λ i. same i j) (same→eq x.1 k (T_of e)) ∙ d in rw (e, q) h
    at (isn't e) h = rw e (ap (keep (same x.1 j) x) h)

-- each set has a weight g
module _ (g : Key → ℕ) where
  unfoldable pub weigh : (Key → Node → ℤ) → List Node → ℤ
  weigh h xs = sum (λ (x : Node). g x.1 · h x.1 x) xs

  -- one set apart
  weigh-apart : (h : Key → Node → ℤ) (k : Key) (xs : List Node) → weigh h xs ≡ g k · sum (h k) (with_key k xs) +ℤ weigh h (others k xs)
  unfolding weigh sum with_key others keep
  weigh-apart h k [] = rw ·-zero
  weigh-apart h k (x ∷ xs) = at (tested (same x.1 k)) (weigh-apart h k xs)
    where
      at : Tested (same x.1 k) → weigh h xs ≡ g k · sum (h k) (with_key k xs) +ℤ weigh h (others k xs)
          → weigh h (x ∷ xs) ≡ g k · sum (h k) (keep (same x.1 k) x (with_key k xs)) +ℤ weigh h (keep (not (same x.1 k)) x (others k xs))
      at (is e) ih = rw (e, ·-sum) (ap (λ z. g x.1 · h x.1 x +ℤ z) ih
          ∙ ap (λ i. g i · h i x +ℤ (g k · sum (h k) (with_key k xs) +ℤ weigh h (others k xs))) (same→eq x.1 k (T_of e))
          ∙ sym (+ℤ_assoc (g k · h k x) (g k · sum (h k) (with_key k xs)) (weigh h (others k xs))))
      at (isn't e) ih = rw e (ap (λ z. g x.1 · h x.1 x +ℤ z) ih ∙ +ℤ-left-comm (g x.1 · h x.1 x) (g k · sum (h k) (with_key k xs))
          (weigh h (others k xs)))

  -- what is at most as much in each set is so in all
  module _ (p q : Key → Node → ℤ) where
    abbrev InEachSet : List Node → Type 0
    InEachSet xs = (k : Key) → sum (p k) (with_key k xs) ≤ℤ sum (q k) (with_key k xs)

    in_others : (k : Key) (xs : List Node) → InEachSet xs → InEachSet (others k xs)
    unfolding sum
    in_others k xs e j = at (tested (same k j))
      where
        at : Tested (same k j) → sum (p j) (with_key j (others k xs)) ≤ℤ sum (q j) (with_key j (others k xs))
        at (is d) = rw (← (same→eq k j (T_of d)), others_none k xs) (≤ℤ_refl (pos 0))
        at (isn't d) = rw (others_else k j d xs) (e j)

    set_by_set : (n : ℕ) (xs : List Node) → length xs ≤ n → InEachSet xs → weigh p xs ≤ℤ weigh q xs
    unfolding weigh sum others keep
    set_by_set zero [] l e = ≤ℤ_refl (pos 0)
    set_by_set (suc n) [] l e = ≤ℤ_refl (pos 0)
    set_by_set zero (x ∷ xs) l e = absurd (NatL.not-suc-le-zero l)
    set_by_set (suc n) (x ∷ xs) l e = rw (weigh-apart p x.1 (x ∷ xs), weigh-apart q x.1 (x ∷ xs))
        (+ℤ-mono (g x.1 · sum (p x.1) (with_key x.1 (x ∷ xs))) (g x.1 · sum (q x.1) (with_key x.1 (x ∷ xs))) (weigh p (others x.1 (x ∷ xs)))
        (weigh q (others x.1 (x ∷ xs)))
        (·-mono (g x.1) (sum (p x.1) (with_key x.1 (x ∷ xs))) (sum (q x.1) (with_key x.1 (x ∷ xs))) (e x.1))
        (set_by_set n (others x.1 (x ∷ xs)) short (in_others x.1 (x ∷ xs) e)))
      where
        short : length (others x.1 (x ∷ xs)) ≤ n
        short = rw (same_self x.1) (NatL.le_trans (others-length x.1 xs) (NatL.le_of_suc-le-suc l))

    pub weigh_mono : (xs : List Node) → InEachSet xs → weigh p xs ≤ℤ weigh q xs
    weigh_mono xs e = set_by_set (length xs) xs (NatL.le_refl (length xs)) e

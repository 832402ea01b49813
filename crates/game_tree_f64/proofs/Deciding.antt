-- The best choice decides each set as the paper says, as choices of deeper sets do not change with more fuel, and is the only one that does, as choices that agree on deeper sets come to the same action. Assumes nothing.
use mathlib.Core.Path.{◌≡◌, refl, sym, ap, ap₂, ◌∙◌, subst}
use mathlib.Core.Logic.{◌⊎◌, inl, inr}
use mathlib.Core.Bool.{Bool, true, false, cond}
use mathlib.Core.List.{List, [], ◌∷◌, ◌++◌}
use Prim.Native.Nat.{ℕ, zero, suc, ◌≤◌, ◌<◌}
use native.Mathlib.Nat as NatL
use native.Mathlib.Omega.{arith}
use lib.Dec.{eqb}
use lib.Ieee.{Float}
use Rattle.game_tree.specs.Tree.{Key, Tree, end, chance, decide, Trees, nil, cons, fan}
use Rattle.game_tree.specs.Conditions.{Every, EveryAll}
use Rattle.game_tree.specs.Reply.{Choice, same}
use Rattle.game_tree.specs.Sets.{Decision, decisions, decisions_all, height, height_all}
use Rattle.game_tree.specs.Shape.{Heights, HeightsAll}
use Rattle.game_tree.proofs.Tests.{Tested, is, isn't, tested, T_of, same→eq, same_self, eqb_is, eqb_self}
use Rattle.game_tree.proofs.Counting.{In, in_append, every_in, in_every}
use Rattle.game_tree_f64.specs.Values.{Profile, nought, one, plus, times, weight, edge, value, added, picked, lead, Member, passed, found, found_all, summed, actions, set_sum, decided, best, best_value}
use Rattle.game_tree_f64.specs.Facts.{BestDecides, DecidesAlike}
use Rattle.game_tree_f64.proofs.Leading.{lead_same}

module _ (s : Profile) (i : ℕ) (A d : ℕ → Key → ℕ) (M : Key → Type 0) where
  abbrev own : ℕ → Bool
  own j = eqb j i

  -- the seat's sets are among those of M
  abbrev Among : ℕ → Key → ℕ → Type 0
  Among j k n = j ≡ i → M k

  -- ---- values below sets on which two choices agree
  module _ (c e : Choice) (n : ℕ) (agree : (k : Key) → M k → d i k ≤ n → c k ≡ e k) where
    mutual
      unfolding value Heights height Every

      value_agree : (t : Tree) → Heights d t → Every Among t → height t ≤ n → value s i own c t ≡ value s i own e t
      value_agree (end p) h m l = refl
      value_agree (chance f) h m l = added_agree (λ a. weight (fan f)) 0 nought f h m l
      value_agree (decide j k f) h m l = at (tested (eqb j i)) (λ a. picked_agree f a h.1 m.1 below) (added_agree (s j k) 0 nought f h.1 m.1 below)
        where
          below : height_all f ≤ n
          below = omega arith

          at : Tested (eqb j i) → ((a : ℕ) → picked s i own c f a ≡ picked s i own e f a) → added s i own c (s j k) 0 nought f ≡ added s i own e (s j k) 0 nought f
              → cond (eqb j i) (picked s i own c f (c k)) (added s i own c (s j k) 0 nought f) ≡ cond (eqb j i) (picked s i own e f (e k)) (added s i own e (s j k) 0 nought f)
          at (is w) p q = rw w (p (c k) ∙ ap (picked s i own e f) (agree k (m.0 (eqb_is j i w)) (subst (λ x. d x k ≤ n) (eqb_is j i w) (omega (arith, h.0)))))
          at (isn't w) p q = rw w q

      added_agree : (w : ℕ → Float) (a : ℕ) (v : Float) (f : Trees) → HeightsAll d f → EveryAll Among f → height_all f ≤ n → added s i own c w a v f ≡ added s i own e w a v f
      added_agree w a v nil h m l = refl
      added_agree w a v (cons t f) h m l =
          ap (λ x. added s i own c w (suc a) (plus v (times (w a) (plus (edge i t) x))) f) (value_agree t h.0 m.0 (NatL.le_trans (NatL.le-max_left (height t) (height_all f)) l))
          ∙ added_agree w (suc a) (plus v (times (w a) (plus (edge i t) (value s i own e t)))) f h.1 m.1 (NatL.le_trans (NatL.le-max_right (height t) (height_all f)) l)

      picked_agree : (f : Trees) (a : ℕ) → HeightsAll d f → EveryAll Among f → height_all f ≤ n → picked s i own c f a ≡ picked s i own e f a
      picked_agree nil a h m l = refl
      picked_agree (cons t f) zero h m l = ap (plus (edge i t)) (value_agree t h.0 m.0 (NatL.le_trans (NatL.le-max_left (height t) (height_all f)) l))
      picked_agree (cons t f) (suc a) h m l = picked_agree f a h.1 m.1 (NatL.le_trans (NatL.le-max_right (height t) (height_all f)) l)

  -- ---- the members of a set: equally tall, with equally many actions
  module _ (k : Key) where
    pub record Alike (f : Trees) : Type 0 where
      pub heights : HeightsAll d f
      pub among : EveryAll Among f
      pub tall : suc (height_all f) ≡ d i k
      pub count : fan f ≡ A i k

    unfoldable EachAlike : List Member → Type 0
    EachAlike [] = Unit {0}
    EachAlike (m ∷ ms) = Alike m.1 × EachAlike ms

    each_join : (ms ns : List Member) → EachAlike ms → EachAlike ns → EachAlike (ms ++ ns)
    unfolding EachAlike
    each_join [] ns p q = q
    each_join (m ∷ ms) ns p q = (p.0, each_join ms ns p.1 q)

    mutual
      unfolding found Heights height Every EachAlike

      each_alike : (t : Tree) (r : Float) → Heights d t → Every (λ j k n. n ≡ A j k) t → Every Among t → EachAlike (found s i k r t)
      each_alike (end p) r h e o = tt
      each_alike (chance f) r h e o = each_alike_all f (λ a. times r (weight (fan f))) 0 h e o
      each_alike (decide j l f) r h e o = at (tested (eqb j i)) (tested (same l k)) (each_alike_all f (passed s i r j l) 0 h.1 e.1 o.1)
        where
          at : Tested (eqb j i) → Tested (same l k) → EachAlike (found_all s i k (passed s i r j l) 0 f)
              → EachAlike (cond (cond (eqb j i) (same l k) false) ((r, f) ∷ found_all s i k (passed s i r j l) 0 f) (found_all s i k (passed s i r j l) 0 f))
          at (isn't w) x m = rw w m
          at (is w) (isn't x) m = rw (w, x) m
          at (is w) (is x) m = rw (w, x) (record { heights = h.1; among = o.1; tall = h.0 ∙ ap₂ d (eqb_is j i w) (same→eq l k (T_of x)); count = e.0 ∙ ap₂ A (eqb_is j i w) (same→eq l k (T_of x)) }, m)

      each_alike_all : (f : Trees) (g : ℕ → Float) (a : ℕ) → HeightsAll d f → EveryAll (λ j k n. n ≡ A j k) f → EveryAll Among f → EachAlike (found_all s i k g a f)
      each_alike_all nil g a h e o = tt
      each_alike_all (cons t f) g a h e o = each_join (found s i k (g a) t) (found_all s i k g (suc a) f) (each_alike t (g a) h.0 e.0 o.0) (each_alike_all f g (suc a) h.1 e.1 o.1)

    -- sums behind an action, under two choices that agree on all deeper sets
    module _ (c e : Choice) (agree : (l : Key) → M l → d i l < d i k → c l ≡ e l) where
      summed_agree : (a : ℕ) (v : Float) (ms : List Member) → EachAlike ms → summed s i c a v ms ≡ summed s i e a v ms
      unfolding summed EachAlike
      summed_agree a v [] h = refl
      summed_agree a v (m ∷ ms) h =
          ap (λ x. summed s i c a (plus v (times m.0 x)) ms) (picked_agree c e (height_all m.1) (λ l o q. agree l o (omega (arith, h.0.tall))) m.1 a h.0.heights h.0.among (NatL.le_refl (height_all m.1)))
          ∙ summed_agree a (plus v (times m.0 (picked s i own e m.1 a))) ms h.1

  -- ---- more fuel changes nothing
  module _ (T : Tree) (h : Heights d T) (q : Every (λ j k n. n ≡ A j k) T) (own-sets : Every Among T) where
    alike : (k : Key) → EachAlike k (found s i k one T)
    alike k = each_alike k T one h q own-sets

    -- a set without members keeps action 0
    none_left : (k : Key) (p : ℕ → Float) (ms : List Member) → EachAlike k ms → d i k ≡ 0 → 0 ≡ (lead p (actions ms)).0
    unfolding EachAlike actions lead
    none_left k p [] e z = refl
    none_left k p (m ∷ ms) e z = absurd (omega (arith, e.0.tall, z))

    -- choices that agree on all deeper sets come to the same action
    led_alike : (c e : Choice) (k : Key) (n : ℕ) → ((l : Key) → M l → d i l < d i k → c l ≡ e l) → (lead (set_sum s i T c k) n).0 ≡ (lead (set_sum s i T e k) n).0
    unfolding set_sum
    led_alike c e k n o = ap (λ x. x.0) (lead_same (set_sum s i T c k) (set_sum s i T e k) n (λ a l. summed_agree k c e o a nought (found s i k one T) (alike k)))

    more_fuel : (n m : ℕ) (k : Key) → d i k ≤ n → d i k ≤ m → decided s i T n k ≡ decided s i T m k
    unfolding decided
    more_fuel zero zero k l o = refl
    more_fuel zero (suc m) k l o = none_left k (set_sum s i T (decided s i T m) k) (found s i k one T) (alike k) (omega arith)
    more_fuel (suc n) zero k l o = sym (none_left k (set_sum s i T (decided s i T n) k) (found s i k one T) (alike k) (omega arith))
    more_fuel (suc n) (suc m) k l o = led_alike (decided s i T n) (decided s i T m) k (actions (found s i k one T)) (λ y p z. more_fuel n m y (omega arith) (omega arith))

    -- with as much fuel as the set needs, its choice is by the sums under that choice itself
    by_sums : (n : ℕ) (k : Key) → 0 < d i k → d i k ≤ n → decided s i T n k ≡ (lead (set_sum s i T (decided s i T n) k) (actions (found s i k one T))).0
    unfolding decided
    by_sums zero k l o = absurd (omega arith)
    by_sums (suc n) k l o = led_alike (decided s i T n) (decided s i T (suc n)) k (actions (found s i k one T)) (λ y p z. more_fuel n (suc n) y (omega arith) (omega arith))

  -- ---- a set that is met has members
  unfoldable Some : List Member → Type 0
  Some [] = ⊥
  Some (m ∷ ms) = Unit {0}

  some_left : (ms ns : List Member) → Some ms → Some (ms ++ ns)
  unfolding Some
  some_left [] ns p = absurd p
  some_left (m ∷ ms) ns p = tt

  some_right : (ms ns : List Member) → Some ns → Some (ms ++ ns)
  unfolding Some
  some_right [] ns p = p
  some_right (m ∷ ms) ns p = tt

  module _ (k : Key) (n : ℕ) where
    mutual
      unfolding found decisions In Some

      met : (t : Tree) (r : Float) → In (i, k, n) (decisions t) → Some (found s i k r t)
      met (end p) r m = m
      met (chance f) r m = met_all f (λ a. times r (weight (fan f))) 0 m
      met (decide j l f) r m = at m (λ o. met_all f (passed s i r j l) 0 o)
        where
          here : (b : Bool) → b ≡ true → Some (cond b ((r, f) ∷ found_all s i k (passed s i r j l) 0 f) (found_all s i k (passed s i r j l) 0 f))
          here b e = rw e tt

          later : (b : Bool) → Some (found_all s i k (passed s i r j l) 0 f) → Some (cond b ((r, f) ∷ found_all s i k (passed s i r j l) 0 f) (found_all s i k (passed s i r j l) 0 f))
          later true o = tt
          later false o = o

          at : In (i, k, n) ((j, l, fan f) ∷ decisions_all f) → (In (i, k, n) (decisions_all f) → Some (found_all s i k (passed s i r j l) 0 f))
              → Some (cond (cond (eqb j i) (same l k) false) ((r, f) ∷ found_all s i k (passed s i r j l) 0 f) (found_all s i k (passed s i r j l) 0 f))
          at (inl z) o = here (cond (eqb j i) (same l k) false)
              (ap₂ (λ x y. cond (eqb x i) (same y k) false) (ap (λ (x : Decision). x.0) z) (ap (λ (x : Decision). x.1) z) ∙ rw (eqb_self i, same_self k) refl)
          at (inr z) o = later (cond (eqb j i) (same l k) false) (o z)

      met_all : (f : Trees) (g : ℕ → Float) (a : ℕ) → In (i, k, n) (decisions_all f) → Some (found_all s i k g a f)
      met_all nil g a m = m
      met_all (cons t f) g a m = at (in_append (i, k, n) (decisions t) (decisions_all f) m) (λ o. met t (g a) o) (λ o. met_all f g (suc a) o)
        where
          at : In (i, k, n) (decisions t) ⊎ In (i, k, n) (decisions_all f) → (In (i, k, n) (decisions t) → Some (found s i k (g a) t)) → (In (i, k, n) (decisions_all f) → Some (found_all s i k g (suc a) f))
              → Some (found s i k (g a) t ++ found_all s i k g (suc a) f)
          at (inl z) p q = some_left (found s i k (g a) t) (found_all s i k g (suc a) f) (p z)
          at (inr z) p q = some_right (found s i k (g a) t) (found_all s i k g (suc a) f) (q z)

  -- ---- every set of the tree
  module _ (T : Tree) (h : Heights d T) (q : Every (λ j k n. n ≡ A j k) T) (own-sets : Every Among T) where
    count : (k : Key) (ms : List Member) → EachAlike k ms → Some ms → actions ms ≡ A i k
    unfolding EachAlike Some actions
    count k [] e z = absurd z
    count k (m ∷ ms) e z = e.0.count

    short : (k : Key) (ms : List Member) → EachAlike k ms → Some ms → 0 < d i k
    unfolding EachAlike Some
    short k [] e z = absurd z
    short k (m ∷ ms) e z = omega (arith, e.0.tall)

    mutual
      unfolding Heights height Every

      lower : (N : ℕ) (t : Tree) → Heights d t → height t ≤ N → Every (λ j k n. d j k ≤ N) t
      lower N (end p) h l = tt
      lower N (chance f) h l = lower_all N f h l
      lower N (decide j k f) h l = (omega (arith, h.0), lower_all N f h.1 (omega arith))

      lower_all : (N : ℕ) (f : Trees) → HeightsAll d f → height_all f ≤ N → EveryAll (λ j k n. d j k ≤ N) f
      lower_all N nil h l = tt
      lower_all N (cons t f) h l = (lower N t h.0 (NatL.le_trans (NatL.le-max_left (height t) (height_all f)) l), lower_all N f h.1 (NatL.le_trans (NatL.le-max_right (height t) (height_all f)) l))

    decides : (k : Key) (n : ℕ) → In (i, k, n) (decisions T) → best s i T k ≡ (lead (set_sum s i T (best s i T) k) n).0
    unfolding best
    decides k n m =
        let w : Some (found s i k one T) = met k n T one m in
        let e : EachAlike k (found s i k one T) = each_alike k T one h q own-sets in
        let l : d i k ≤ height T = every_in (λ j k n. d j k ≤ height T) T (lower (height T) T h (NatL.le_refl (height T))) (i, k, n) m in
        let a : n ≡ A i k = every_in (λ j k n. n ≡ A j k) T q (i, k, n) m in
        by_sums T h q own-sets (height T) k (short k (found s i k one T) e w) l ∙ ap (λ x. (lead (set_sum s i T (decided s i T (height T)) k) x).0) (count k (found s i k one T) e w ∙ sym a)

-- ---- the seat's sets in a tree
abbrev Met : ℕ → Tree → Key → Type 0
Met i t k = (n : ℕ) × In (i, k, n) (decisions t)

own_met : (i : ℕ) (t : Tree) → Every (λ j k n. j ≡ i → Met i t k) t
own_met i t = in_every (λ j k n. j ≡ i → Met i t k) t (λ x m e. (x.2, subst (λ j. In (j, x.1, x.2) (decisions t)) e m))

pub best-decides : BestDecides
best-decides s i t (A, q) (d, h) = in_every (λ j k n. j ≡ i → best s i t k ≡ (lead (set_sum s i t (best s i t) k) n).0) t
    (λ x m e. decides s i A d (Met i t) t h q (own_met i t) x.1 x.2 (subst (λ j. In (j, x.1, x.2) (decisions t)) e m))

-- ---- any choice that decides so
module _ (s : Profile) (i : ℕ) (t : Tree) (A d : ℕ → Key → ℕ) (q : Every (λ j k n. n ≡ A j k) t) (h : Heights d t) (c : Choice) (w : Every (λ j k n. j ≡ i → c k ≡ (lead (set_sum s i t c k) n).0) t) where
  by_deeper : (k : Key) → Met i t k → ((l : Key) → Met i t l → d i l < d i k → c l ≡ best s i t l) → c k ≡ best s i t k
  by_deeper k (n, m) agree =
      every_in (λ j k n. j ≡ i → c k ≡ (lead (set_sum s i t c k) n).0) t w (i, k, n) m refl
      ∙ led_alike s i A d (Met i t) t h q (own_met i t) c (best s i t) k n agree
      ∙ sym (every_in (λ j k n. j ≡ i → best s i t k ≡ (lead (set_sum s i t (best s i t) k) n).0) t (best-decides s i t (A, q) (d, h)) (i, k, n) m refl)

  best-agrees : (n : ℕ) (k : Key) → Met i t k → d i k < n → c k ≡ best s i t k
  best-agrees zero k m l = absurd (omega arith)
  best-agrees (suc n) k m l = by_deeper k m (λ y o z. best-agrees n y o (omega arith))

pub decides-alike : DecidesAlike
unfolding best_value
decides-alike s i t c (A, q) (d, h) w = (
  in_every (λ j k n. j ≡ i → c k ≡ best s i t k) t (λ x m e. best-agrees s i t A d q h c w (suc (d i x.1)) x.1 (x.2, subst (λ j. In (j, x.1, x.2) (decisions t)) e m) (omega arith)),
  value_agree s i A d (Met i t) c (best s i t) (height t) (λ k m l. best-agrees s i t A d q h c w (suc (height t)) k m (omega arith)) t h (own_met i t) (NatL.le_refl (height t)),
)

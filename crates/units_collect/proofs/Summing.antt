-- What the ends are worth with the units stored for a seat that nobody is: the lifted worth of the tree. Assumes nothing.
use mathlib.Core.Path.{◌≡◌, refl, sym, ap, ap₂, ◌∙◌, subst}
use mathlib.Core.List.{List}
use Prim.Native.Nat.{ℕ, zero, suc, ◌+◌, ◌*◌, ◌/◌, ◌%◌, ◌^◌, ◌≤◌, ◌<◌}
use native.Mathlib.Nat as NatL
use native.Mathlib.Omega.{arith}
use lib.ListN.{get_or, replicate}
use borrow.Author.Tests.{eq-eqb, ne_eqb}
use Rattle.game_tree.specs.Tree.{Key, Tree, end, chance, decide, Trees, nil, cons, fan, Strategy}
use Rattle.game_tree.specs.Reply.{share}
use Rattle.game_tree.specs.Sets.{size, sizes}
use Rattle.arena.specs.internal.Words.{END, kind_of, actor_of, byte_of}
use Rattle.arena.specs.internal.Held.{Says, Held, HeldAll}
use Rattle.units.specs.internal.Lifted.{lift, lifted, lifted_all, lifted_kids}
use Rattle.units.specs.internal.Gain.{given, Stocked, StockedAll}
use Rattle.units.specs.internal.Sums.{wrapped, Summed}
use Rattle.units.proofs.Lifting.{lift_back}
use Rattle.units.proofs.Passing.{share-few, quotient_few}
use Rattle.units.proofs.Six.{wrapped_at, sum_wraps}
use Rattle.units_collect.specs.internal.Ends.{end_gain, end_gains, WithNode}
use Rattle.units.specs.internal.Readable.{UNITS}

-- ---- one node's
pub gain_none : (x y i : ℕ) → (kind_of x ≡ END → ⊥) → end_gain x y i ≡ 0
unfolding end_gain
gain_none x y i h = rw (ne_eqb (kind_of x) END h) refl

pub gain_end : (x y i : ℕ) → kind_of x ≡ END → end_gain x y i ≡ y * byte_of x i
unfolding end_gain
gain_end x y i h = rw (eq-eqb (kind_of x) END h) refl

module _ (x y : ℕ) (f : ℕ → ℕ) (sums : List ℕ) (h : Summed f sums) where
  pub with_none : (kind_of x ≡ END → ⊥) → Summed (λ i. f i + end_gain x y i) sums
  with_none k i l = h i l ∙ ap (λ z. z % 2 ^ 64) (sym (ap (λ z. f i + z) (gain_none x y i k) ∙ NatL.add-zero (f i)))

  pub with_end : (more r : List ℕ) → kind_of x ≡ END → more ≡ wrapped (λ i. y * byte_of x i) → r ≡ wrapped (λ i. get_or sums i 0 + get_or more i 0) → Summed (λ i. f i + end_gain x y i) r
  with_end more r k e q i l = ap (λ z. get_or z i 0) q ∙ wrapped_at (λ i. get_or sums i 0 + get_or more i 0) i l
      ∙ sum_wraps (get_or sums i 0) (get_or more i 0) (f i) (y * byte_of x i) (h i l) (ap (λ z. get_or z i 0) e ∙ wrapped_at (λ i. y * byte_of x i) i l)
      ∙ ap (λ z. (f i + z) % 2 ^ 64) (sym (gain_end x y i k))

-- ---- the nodes', place by place
module _ (w : List ℕ) (b i : ℕ) where
  abbrev at : ℕ → ℕ
  at a = end_gain (get_or w a 0) (get_or w (b + a) 0 % UNITS) i

  gains-join : (a m n : ℕ) → end_gains w b i a (m + n) ≡ end_gains w b i a m + end_gains w b i (a + m) n
  unfolding end_gains
  gains-join a zero n = ap₂ (λ x y. end_gains w b i x y) (sym (NatL.add-zero a)) (NatL.zero-add n) ∙ sym (NatL.zero-add (end_gains w b i (a + 0) n))
  gains-join a (suc m) n = ap (end_gains w b i a) (NatL.suc-add m n) ∙ ap (λ x. at a + x) (gains-join (suc a) m n)
      ∙ sym (NatL.add_assoc (at a) (end_gains w b i (suc a) m) (end_gains w b i (suc a + m) n))
      ∙ ap (λ x. at a + end_gains w b i (suc a) m + end_gains w b i x n) (omega arith)

  gains_more : (a : ℕ) → end_gains w b i 0 (a + 1) ≡ end_gains w b i 0 a + at a
  unfolding end_gains
  gains_more a = gains-join 0 a 1 ∙ ap (λ x. end_gains w b i 0 a + x) (NatL.add-zero (at (0 + a)) ∙ ap at (NatL.zero-add a))

  -- ---- a tree whose units are stored for a seat that no word has
  module _ (D : ℕ) (s : Strategy) (fair : (j : ℕ) (k : Key) (a : ℕ) → s j k a ≤ D) (n : ℕ) (e : ℕ → Key → ℕ) (l : ℕ → ℕ → Key → ℕ) (seat : i < n) where
    -- an actor is below 8
    given_is : (x u j : ℕ) (k : Key) (a : ℕ) → actor_of x ≡ j → given D s 8 u j k a ≡ u * s j k a / D
    unfolding share
    given_is x u j k a h = rw (ne_eqb j 8 (λ q. omega arith)) refl

    mutual
      unfolding Held Says Stocked size lifted end_gains

      pub gains-lifted : (a u : ℕ) (t : Tree) → u < UNITS → Held n e l w a t → Stocked D s 8 b w a u t → end_gains w b i a (size t) ≡ lifted D s i u t
      gains-lifted a u (end p) f h g = NatL.add-zero (at a) ∙ gain_end (get_or w a 0) (get_or w (b + a) 0 % UNITS) i h.0
          ∙ ap₂ ◌*◌ (ap (λ x. x % UNITS) g ∙ NatL.mod-eq_of_lt f) (sym (lift_back (byte_of (get_or w a 0) i)) ∙ ap lift (h.1 i seat))
      gains-lifted a u (chance f) m h g = ap (λ x. x + end_gains w b i (suc a) (sizes f)) (gain_none (get_or w a 0) (get_or w (b + a) 0 % UNITS) i (λ q. omega (arith, h.0.0)))
          ∙ NatL.zero-add (end_gains w b i (suc a) (sizes f)) ∙ gains_all (suc a) (u / fan f) (λ x. u / fan f) 0 f (λ x. refl) (quotient_few u (fan f) m) h.1 g.1
      gains-lifted a u (decide j k f) m h g = ap (λ x. x + end_gains w b i (suc a) (sizes f)) (gain_none (get_or w a 0) (get_or w (b + a) 0 % UNITS) i (λ q. omega (arith, h.0.0)))
          ∙ NatL.zero-add (end_gains w b i (suc a) (sizes f)) ∙ gains-kids (suc a) u j k (given D s 8 u j k) 0 f (λ x. given_is (get_or w a 0) u j k x h.0.1) m h.1 g.1

      gains_all : (a u : ℕ) (g : ℕ → ℕ) (x : ℕ) (f : Trees) → ((x : ℕ) → g x ≡ u) → u < UNITS → HeldAll n e l w a f → StockedAll D s 8 b w a g x f → end_gains w b i a (sizes f) ≡ lifted_all D s i u f
      gains_all a u g x nil q m h k = refl
      gains_all a u g x (cons t f) q m h k = gains-join a (size t) (sizes f)
          ∙ ap₂ ◌+◌ (gains-lifted a u t m h.0 (subst (λ y. Stocked D s 8 b w a y t) (q x) k.0)) (gains_all (a + size t) u g (suc x) f q m h.1 k.1)

      gains-kids : (a u j : ℕ) (y : Key) (g : ℕ → ℕ) (x : ℕ) (f : Trees) → ((x : ℕ) → g x ≡ u * s j y x / D) → u < UNITS → HeldAll n e l w a f → StockedAll D s 8 b w a g x f
          → end_gains w b i a (sizes f) ≡ lifted_kids D s i u j y x f
      gains-kids a u j y g x nil q m h k = refl
      gains-kids a u j y g x (cons t f) q m h k = gains-join a (size t) (sizes f)
          ∙ ap₂ ◌+◌ (gains-lifted a (u * s j y x / D) t (NatL.lt_of_le_of_lt (share-few u (s j y x) D (fair j y x)) m) h.0 (subst (λ z. Stocked D s 8 b w a z t) (q x) k.0)) (gains-kids (a + size t) u j y g (suc x) f q m h.1 k.1)

-- ---- the pass
-- the sums of the places below a
abbrev pub Reached : (w : List ℕ) (b a : ℕ) → List ℕ → Type 0
Reached w b a r = Summed (λ i. end_gains w b i 0 a) r

pub reached-start : (w : List ℕ) (b : ℕ) (r : List ℕ) → r ≡ replicate 6 0 → Reached w b 0 r
unfolding end_gains
reached-start w b r e i l = ap (λ z. get_or z i 0) e ∙ none i l
  where
    none : (i : ℕ) → i < 6 → get_or {A = ℕ} (replicate 6 0) i 0 ≡ 0
    none zero h = refl
    none (suc zero) h = refl
    none (suc (suc zero)) h = refl
    none (suc (suc (suc zero))) h = refl
    none (suc (suc (suc (suc zero)))) h = refl
    none (suc (suc (suc (suc (suc zero))))) h = refl
    none (suc (suc (suc (suc (suc (suc i)))))) h = absurd (omega arith)

pub reached_more : (w : List ℕ) (b a x y : ℕ) (v r : List ℕ) → Reached w b a v → x ≡ get_or w a 0 → y ≡ get_or w (b + a) 0 → WithNode x (y % UNITS) v r → Reached w b (a + 1) r
reached_more w b a x y v r h p q g i l = rw (p, q) at (g (λ i. end_gains w b i 0 a) h i l) ∙ ap (λ z. z % 2 ^ 64) (sym (gains_more w b i a))

pub reached_end : (w : List ℕ) (b a n : ℕ) (r : List ℕ) → a ≤ n → n ≤ a → Reached w b a r → Reached w b n r
reached_end w b a n r p q h = let e : a ≡ n = omega arith in subst (λ x. Reached w b x r) e h

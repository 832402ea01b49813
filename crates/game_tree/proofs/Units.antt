-- Whole units divide evenly: what U = C × D^m gives, that all divisions are exact, that the ends' units add up, and that p times the units are worth p times as much. Nothing is assumed.
use mathlib.Core.Path.{◌≡◌, refl, sym, ap, ap₂, ◌∙◌}
use Prim.Native.Nat.{ℕ, zero, suc, pred, ◌+◌, ◌*◌, ◌/◌, ◌^◌, ◌<◌}
use native.Mathlib.Nat as NatL
use native.Mathlib.Omega.{arith}
use lib.IntN.{◌+ℤ◌}
use Rattle.game_tree.specs.Sums.{◌·◌, parts}
use Rattle.game_tree.specs.Tree.{Key, Tree, end, chance, decide, Trees, nil, cons, fan, Strategy, all, worth, worth_all, worth_kids}
use Rattle.game_tree.specs.Conditions.{units, units_all, units_kids, Exact, ExactAll, ExactKids, Splits, SplitsAll, Every, EveryAll, Valid}
use Rattle.game_tree.specs.Theorem.{UnitsExact, UnitsAddUp}
use Rattle.game_tree.proofs.Integers.{·-zero, ·-sum, ·-mul}

-- u units split evenly all the way down, whatever the parts: the quotients
unfoldable mutual
  unfolding fan

  pub Fits : (ℕ → ℕ) → ℕ → Tree → Type 0
  Fits D u (end p) = Unit {0}
  Fits D u (chance f) = (q : ℕ) × (u ≡ fan f * q) × (0 < fan f) × FitsAll D q f
  Fits D u (decide j k f) = (q : ℕ) × (u ≡ D j * q) × FitsAll D q f

  pub FitsAll : (ℕ → ℕ) → ℕ → Trees → Type 0
  FitsAll D u nil = Unit {0}
  FitsAll D u (cons t f) = Fits D u t × FitsAll D u f

-- a multiple of what fits, fits
mutual
  unfolding Fits

  pub fits_scale : (t : Tree) (D : ℕ → ℕ) (u p : ℕ) → Fits D u t → Fits D (p * u) t
  fits_scale (end x) D u p h = tt
  fits_scale (chance f) D u p h = (p * h.0, ap (λ n. p * n) h.1 ∙ NatL.mul_left_comm p (fan f) h.0, h.2, fits_scale_all f D h.0 p h.3)
  fits_scale (decide j k f) D u p h = (p * h.0, ap (λ n. p * n) h.1 ∙ NatL.mul_left_comm p (D j) h.0, fits_scale_all f D h.0 p h.2)

  pub fits_scale_all : (f : Trees) (D : ℕ → ℕ) (u p : ℕ) → FitsAll D u f → FitsAll D (p * u) f
  fits_scale_all nil D u p h = tt
  fits_scale_all (cons t f) D u p h = (fits_scale t D u p h.0, fits_scale_all f D u p h.1)

-- C × D^m units fit where every path has at most m decisions and the fans along it divide C
module _ (D : ℕ) where
  one_more : (C m : ℕ) → 0 < m → C * D ^ m ≡ D * (C * D ^ pred m)
  one_more C zero l = absurd (NatL.not-suc-le-zero l)
  one_more C (suc m) l = ap (λ n. C * n) (NatL.pow-succ' D m) ∙ NatL.mul_left_comm C D (D ^ m)

  mutual
    unfolding Fits Splits

    pub splits-fit : (t : Tree) (C m : ℕ) → Splits C m t → Fits (all D) (C * D ^ m) t
    splits-fit (end x) C m h = tt
    splits-fit (chance f) C m h = (h.0 * D ^ m, ap (λ n. n * D ^ m) h.1 ∙ NatL.mul_assoc (fan f) h.0 (D ^ m), h.2, splits-fit_all f h.0 m h.3)
    splits-fit (decide j k f) C m h = (C * D ^ pred m, one_more C m h.0, splits-fit_all f C (pred m) h.1)

    splits-fit_all : (f : Trees) (C m : ℕ) → SplitsAll C m f → FitsAll (all D) (C * D ^ m) f
    splits-fit_all nil C m h = tt
    splits-fit_all (cons t f) C m h = (splits-fit t C m h.0, splits-fit_all f C m h.1)

pub of_fan : (u n q : ℕ) → u ≡ n * q → 0 < n → u / n ≡ q
of_fan u n q e h = ap (λ x. x / n) e ∙ NatL.mul-div_cancel_left q h

-- p parts of D of D * q units
pub part_of : (D u q p : ℕ) → 0 < D → u ≡ D * q → u * p / D ≡ p * q
part_of D u q p l e = of_fan (u * p) D (p * q) (ap (λ n. n * p) e ∙ NatL.mul_assoc D q p ∙ ap (λ n. D * n) (NatL.mul_comm q p)) l

module _ (D : ℕ → ℕ) (D-pos : (j : ℕ) → 0 < D j) (s : Strategy) where
  -- every division is exact
  mutual
    unfolding Exact Fits

    pub fits_exact : (t : Tree) (u : ℕ) → Fits D u t → Exact D s u t
    fits_exact (end x) u h = tt
    fits_exact (chance f) u h = (
      ap (λ n. fan f * n) (of_fan u (fan f) h.0 h.1 h.2) ∙ sym h.1,
      fits_exact_all f (u / fan f)
          (rw (of_fan u (fan f) h.0 h.1 h.2) h.3),
    )
    fits_exact (decide j k f) u h = fits_exact_kids f u h.0 j k 0 h.1 h.2

    fits_exact_all : (f : Trees) (u : ℕ) → FitsAll D u f → ExactAll D s u f
    fits_exact_all nil u h = tt
    fits_exact_all (cons t f) u h = (fits_exact t u h.0, fits_exact_all f u h.1)

    fits_exact_kids : (f : Trees) (u q : ℕ) (j : ℕ) (k : Key) (a : ℕ) → u ≡ D j * q → FitsAll D q f → ExactKids D s u j k a f
    fits_exact_kids nil u q j k a e h = tt
    fits_exact_kids (cons t f) u q j k a e h = (
      ap (λ n. D j * n) (part_of (D j) u q (s j k a) (D-pos j) e) ∙ NatL.mul_left_comm (D j) (s j k a) q ∙ NatL.mul_comm (s j k a) (D j * q) ∙ ap
          (λ n. n * s j k a) (sym e),
      fits_exact t (u * s j k a / D j) (rw (part_of (D j) u q (s j k a) (D-pos j) e) (fits_scale t D q (s j k a) h.0)),
      fits_exact_kids f u q j k (suc a) e h.1,
    )

  -- the units of all ends add up to the root's
  mutual
    unfolding units Fits Every fan parts

    pub fits_units : (t : Tree) (u : ℕ) → Fits D u t → Valid D s t → units D s u t ≡ u
    fits_units (end x) u h g = refl
    fits_units (chance f) u h g = fits_units-fan f (u / fan f) (rw (of_fan u (fan f) h.0 h.1 h.2) h.3) g ∙ ap (λ n. fan f * n)
        (of_fan u (fan f) h.0 h.1 h.2) ∙ sym h.1
    fits_units (decide j k f) u h g = fits_units-kids f u h.0 j k 0 (s j k) (λ a. ap (s j k) (sym (NatL.zero-add a))) h.1 h.2 g.1 ∙ ap
        (λ n. n * h.0) g.0 ∙ sym h.1

    fits_units-fan : (f : Trees) (u : ℕ) → FitsAll D u f → EveryAll (λ j k n. parts n (s j k) ≡ D j) f → units_all D s u f ≡ fan f * u
    fits_units-fan nil u h g = sym (NatL.zero-mul u)
    fits_units-fan (cons t f) u h g = ap₂ ◌+◌ (fits_units t u h.0 g.0) (fits_units-fan f u h.1 g.1) ∙ NatL.add_comm u (fan f * u) ∙ sym
        (NatL.suc-mul (fan f) u)

    fits_units-kids : (f : Trees) (u q j : ℕ) (k : Key) (a : ℕ) (x : ℕ → ℕ) → ((b : ℕ) → x b ≡ s j k (a + b)) → u ≡ D j * q → FitsAll D q f
        → EveryAll (λ j k n. parts n (s j k) ≡ D j) f
        → units_kids D s u j k a f ≡ parts (fan f) x * q
    fits_units-kids nil u q j k a x y e h g = sym (NatL.zero-mul q)
    fits_units-kids (cons t f) u q j k a x y e h g =
        ap₂ ◌+◌ (fits_units t (u * s j k a / D j) (rw (part_of (D j) u q (s j k a) (D-pos j) e) (fits_scale t D q (s j k a) h.0)) g.0 ∙ part_of (D j) u q
        (s j k a) (D-pos j) e
        ∙ ap (λ n. n * q) (sym (y 0 ∙ ap (s j k) (NatL.add-zero a))))
        (fits_units-kids f u q j k (suc a) (λ b. x (suc b)) (λ b. y (suc b) ∙ ap (s j k) (omega arith)) e h.1 g.1) ∙ sym
        (NatL.add-mul (x 0) (parts (fan f) (λ b. x (suc b))) q)

  -- p times the units, p times the worth
  module _ (i : ℕ) where
    mutual
      unfolding worth Fits

      pub worth_scale : (t : Tree) (u p : ℕ) → Fits D u t → worth D s i (p * u) t ≡ p · worth D s i u t
      worth_scale (end x) u p h = ·-mul p u (x i)
      worth_scale (chance f) u p h =
          ap (λ n. worth_all D s i n f) (of_fan (p * u) (fan f) (p * h.0) (ap (λ n. p * n) h.1 ∙ NatL.mul_left_comm p (fan f) h.0) h.2)
          ∙ worth_scale_all f h.0 p h.3 ∙ ap (λ n. p · worth_all D s i n f) (sym (of_fan u (fan f) h.0 h.1 h.2))
      worth_scale (decide j k f) u p h = worth_scale_kids f u h.0 p j k 0 h.1 h.2

      worth_scale_all : (f : Trees) (u p : ℕ) → FitsAll D u f → worth_all D s i (p * u) f ≡ p · worth_all D s i u f
      worth_scale_all nil u p h = sym (·-zero p)
      worth_scale_all (cons t f) u p h = ap₂ ◌+ℤ◌ (worth_scale t u p h.0) (worth_scale_all f u p h.1) ∙ sym
          (·-sum p (worth D s i u t) (worth_all D s i u f))

      worth_scale_kids : (f : Trees) (u q p j : ℕ) (k : Key) (a : ℕ) → u ≡ D j * q → FitsAll D q f
          → worth_kids D s i (p * u) j k a f ≡ p · worth_kids D s i u j k a f
      worth_scale_kids nil u q p j k a e h = sym (·-zero p)
      worth_scale_kids (cons t f) u q p j k a e h = ap₂ ◌+ℤ◌
          (ap (λ n. worth D s i n t) (part_of (D j) (p * u) (p * q) (s j k a) (D-pos j) (ap (λ n. p * n) e ∙ NatL.mul_left_comm p (D j) q) ∙ NatL.mul_left_comm
          (s j k a) p q)
          ∙ worth_scale t (s j k a * q) p (fits_scale t D q (s j k a) h.0) ∙ ap (λ n. p · worth D s i n t) (sym (part_of (D j) u q (s j k a) (D-pos j) e)))
          (worth_scale_kids f u q p j k (suc a) e h.1) ∙ sym (·-sum p (worth D s i (u * s j k a / D j) t) (worth_kids D s i u j k (suc a) f))

pub units_exact : UnitsExact
units_exact C m D s t l h = fits_exact (all D) (λ j. l) s t (C * D ^ m) (splits-fit D t C m h)

pub units-add_up : UnitsAddUp
units-add_up C m D s t l h v = fits_units (all D) (λ j. l) s t (C * D ^ m) (splits-fit D t C m h) v

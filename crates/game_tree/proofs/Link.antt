-- A strategy's worth in a tree is the scaled worth of the seat's reply tree under the seat's own parts. Nothing is assumed.
use mathlib.Core.Path.{◌≡◌, refl, sym, ap, ap₂, ◌∙◌, fun_ext}
use mathlib.Core.Bool.{Bool, true, false, cond}
use Prim.Native.Nat.{ℕ, zero, suc, pred, ◌*◌, ◌/◌, ◌^◌, ◌≤◌, ◌<◌}
use native.Mathlib.Nat as NatL
use native.Mathlib.Omega.{arith}
use lib.Dec.{eqb}
use lib.IntN.{◌+ℤ◌}
use Rattle.game_tree.specs.Sums.{◌·◌}
use Rattle.game_tree.specs.Tree.{Key, Tree, end, chance, decide, Trees, nil, cons, fan, Strategy, all, worth, worth_all, worth_kids}
use Rattle.game_tree.specs.Conditions.{all_but, units, Splits, SplitsAll, Valid}
use Rattle.game_tree.specs.Reply.{node, share, reply_tree, reply_all, reply_kids}
use Rattle.game_tree.specs.Optimal.{scaled, scaled_all, scaled_kids}
use Rattle.game_tree.specs.Theorem.{FinerUnitsExact, Link, LinkInUnits}
use Rattle.game_tree.proofs.Integers.{·-mul}
use Rattle.game_tree.proofs.Tests.{Tested, is, isn't, tested, eqb_is}
use Rattle.game_tree.proofs.Units.{Fits, FitsAll, fits_scale, fits_scale_all, splits-fit, fits_exact, fits_units, of_fan, part_of, worth_scale}
use Rattle.game_tree.proofs.Against.{same_reply-tree}

module _ (D i : ℕ) where
  -- ---- units that fit all seats fit where seat i divides by nothing
  mutual
    unfolding Fits

    fits_free : (t : Tree) (u : ℕ) → Fits (all D) u t → Fits (all_but i 1 D) u t
    fits_free (end p) u h = tt
    fits_free (chance f) u h = (h.0, h.1, h.2, fits_free_all f h.0 h.3)
    fits_free (decide j k f) u h = at (tested (eqb j i)) (fits_free_all f h.0 h.2)
      where
        at : Tested (eqb j i) → FitsAll (all_but i 1 D) h.0 f → (q : ℕ) × (u ≡ all_but i 1 D j * q) × FitsAll (all_but i 1 D) q f
        at (is e) g = (u, sym (ap (λ b. cond b 1 D * u) e ∙ NatL.one-mul u), rw h.1 (fits_scale_all f (all_but i 1 D) h.0 D g))
        at (isn't e) g = (h.0, h.1 ∙ sym (ap (λ b. cond b 1 D * h.0) e), g)

    fits_free_all : (f : Trees) (u : ℕ) → FitsAll (all D) u f → FitsAll (all_but i 1 D) u f
    fits_free_all nil u h = tt
    fits_free_all (cons t f) u h = (fits_free t u h.0, fits_free_all f u h.1)

  module _ (E : ℕ) where
    one_less : (r u : ℕ) → 0 < r → E ^ r * u ≡ E * (E ^ pred r * u)
    one_less zero u l = absurd (NatL.not-suc-le-zero l)
    one_less (suc r) u l = ap (λ n. n * u) (NatL.pow-succ' E r) ∙ NatL.mul_assoc E (E ^ r) u

    -- E^r times as many fit where seat i has E parts
    mutual
      unfolding Fits Splits

      fits_finer : (t : Tree) (C m u r : ℕ) → Splits C m t → m ≤ r → Fits (all_but i 1 D) u t → Fits (all_but i E D) (E ^ r * u) t
      fits_finer (end p) C m u r g l h = tt
      fits_finer (chance f) C m u r g l h = (
        E ^ r * h.0,
        ap (λ n. E ^ r * n) h.1 ∙ NatL.mul_left_comm (E ^ r) (fan f) h.0,
        h.2,
        fits_finer_all f
            g.0 m h.0 r g.3 l h.3,
      )
      fits_finer (decide j k f) C m u r g l h = at (tested (eqb j i)) (fits_finer_all f C (pred m) h.0 (pred r) g.1 (omega arith) h.2)
          (fits_finer_all f C (pred m) h.0 r g.1 (omega arith) h.2)
        where
          at : Tested (eqb j i) → FitsAll (all_but i E D) (E ^ pred r * h.0) f → FitsAll (all_but i E D) (E ^ r * h.0) f
              → (q : ℕ) × (E ^ r * u ≡ all_but i E D j * q) × FitsAll (all_but i E D) q f
          at (is e) x y = (
            E ^ pred r * h.0,
            ap (λ n. E ^ r * n) (h.1 ∙ ap (λ b. cond b 1 D * h.0) e ∙ NatL.one-mul h.0) ∙ one_less r h.0 (omega (arith, g.0)) ∙ sym
                (ap (λ b. cond b E D * (E ^ pred r * h.0)) e),
            x,
          )
          at (isn't e) x y = (
            E ^ r * h.0,
            ap (λ n. E ^ r * n) (h.1 ∙ ap (λ b. cond b 1 D * h.0) e) ∙ NatL.mul_left_comm (E ^ r) D h.0 ∙ sym (ap (λ b. cond b E D * (E ^ r * h.0)) e),
            y,
          )

      fits_finer_all : (f : Trees) (C m u r : ℕ) → SplitsAll C m f → m ≤ r → FitsAll (all_but i 1 D) u f → FitsAll (all_but i E D) (E ^ r * u) f
      fits_finer_all nil C m u r g l h = tt
      fits_finer_all (cons t f) C m u r g l h = (fits_finer t C m u r g.0 l h.0, fits_finer_all f C m u r g.1 l h.1)

    module _ (D-pos : 0 < D) (E_pos : 0 < E) (z : Strategy) where
      parts_pos : (j : ℕ) → 0 < all_but i E D j
      parts_pos j = at (eqb j i)
        where
          at : (b : Bool) → 0 < cond b E D
          at true = E_pos
          at false = D-pos

      -- the units of seat i's child, and of another seat's
      own_part : (j : ℕ) (k : Key) (a u r : ℕ) → eqb j i ≡ true → 0 < r → E ^ r * u * z j k a / all_but i E D j ≡ z i k a * (E ^ pred r * u)
      own_part j k a u r e l = ap₂ (λ b n. E ^ r * u * n / cond b E D) e (ap (λ x. z x k a) (eqb_is j i e)) ∙ part_of E (E ^ r * u) (E ^ pred r * u)
          (z i k a) E_pos (one_less r u l)

      else_part : (j : ℕ) (k : Key) (a u q r : ℕ) → eqb j i ≡ false → u ≡ D * q → E ^ r * u * z j k a / all_but i E D j ≡ E ^ r * (z j k a * q)
      else_part j k a u q r e h =
          ap (λ b. E ^ r * u * z j k a / cond b E D) e ∙ part_of D (E ^ r * u) (E ^ r * q) (z j k a) D-pos
          (ap (λ n. E ^ r * n) h ∙ NatL.mul_left_comm (E ^ r) D q)
          ∙ NatL.mul_left_comm (z j k a) (E ^ r) q

      mutual
        unfolding worth reply_tree Fits Splits scaled node share

        link-tree : (t : Tree) (C m u r : ℕ) → Splits C m t → m ≤ r → Fits (all_but i 1 D) u t
            → scaled E (z i) (reply_tree D z i u t) r ≡ worth (all_but i E D) z i (E ^ r * u) t
        link-tree (end p) C m u r g l h = sym (·-mul (E ^ r) u (p i))
        link-tree (chance f) C m u r g l h =
            ap (λ n. scaled_all E (z i) (reply_all D z i n f) r) (of_fan u (fan f) h.0 h.1 h.2) ∙ link_all f g.0 m h.0 r g.3 l h.3
            ∙ ap (λ n. worth_all (all_but i E D) z i n f)
            (sym (of_fan (E ^ r * u) (fan f) (E ^ r * h.0) (ap (λ n. E ^ r * n) h.1 ∙ NatL.mul_left_comm (E ^ r) (fan f) h.0) h.2))
        link-tree (decide j k f) C m u r g l h = at (tested (eqb j i))
            (λ e. link_own f C (pred m) u r j k 0 e (omega (arith, g.0)) g.1 (omega arith) (rw (unit e) h.2))
            (λ e. link_else f C (pred m) u h.0 r j k 0 e (h.1 ∙ ap (λ b. cond b 1 D * h.0) e) g.1 (omega arith) h.2)
          where
            unit : eqb j i ≡ true → u ≡ h.0
            unit e = h.1 ∙ ap (λ b. cond b 1 D * h.0) e ∙ NatL.one-mul h.0

            at : Tested (eqb j i) → (eqb j i ≡ true → scaled_kids E (z i) k 0 (reply_kids D z i true u j k 0 f) (pred r) ≡ worth_kids (all_but i E D) z i (E ^ r * u) j k 0 f)
                → (eqb j i ≡ false → scaled_all E (z i) (reply_kids D z i false u j k 0 f) r ≡ worth_kids (all_but i E D) z i (E ^ r * u) j k 0 f)
                → scaled E (z i) (node (eqb j i) u k (reply_kids D z i (eqb j i) u j k 0 f)) r ≡ worth_kids (all_but i E D) z i (E ^ r * u) j k 0 f
            at (is e) x y = ap (λ b. scaled E (z i) (node b u k (reply_kids D z i b u j k 0 f)) r) e ∙ x e
            at (isn't e) x y = ap (λ b. scaled E (z i) (node b u k (reply_kids D z i b u j k 0 f)) r) e ∙ y e

        link_all : (f : Trees) (C m u r : ℕ) → SplitsAll C m f → m ≤ r → FitsAll (all_but i 1 D) u f
            → scaled_all E (z i) (reply_all D z i u f) r ≡ worth_all (all_but i E D) z i (E ^ r * u) f
        link_all nil C m u r g l h = refl
        link_all (cons t f) C m u r g l h = ap₂ ◌+ℤ◌ (link-tree t C m u r g.0 l h.0) (link_all f C m u r g.1 l h.1)

        link_own : (f : Trees) (C m u r j : ℕ) (k : Key) (a : ℕ) → eqb j i ≡ true → 0 < r → SplitsAll C m f → m ≤ pred r → FitsAll (all_but i 1 D) u f
            → scaled_kids E (z i) k a (reply_kids D z i true u j k a f) (pred r) ≡ worth_kids (all_but i E D) z i (E ^ r * u) j k a f
        link_own nil C m u r j k a e b g l h = refl
        link_own (cons t f) C m u r j k a e b g l h = ap₂ ◌+ℤ◌
            (ap (λ x. z i k a · x) (link-tree t C m u (pred r) g.0 l h.0) ∙ sym
            (worth_scale (all_but i E D) parts_pos z i t (E ^ pred r * u) (z i k a) (fits_finer t C m u (pred r) g.0 l h.0))
            ∙ ap (λ n. worth (all_but i E D) z i n t) (sym (own_part j k a u r e b)))
            (link_own f C m u r j k (suc a) e b g.1 l h.1)

        link_else : (f : Trees) (C m u q r j : ℕ) (k : Key) (a : ℕ) → eqb j i ≡ false → u ≡ D * q → SplitsAll C m f → m ≤ r → FitsAll (all_but i 1 D) q f
            → scaled_all E (z i) (reply_kids D z i false u j k a f) r ≡ worth_kids (all_but i E D) z i (E ^ r * u) j k a f
        link_else nil C m u q r j k a e w g l h = refl
        link_else (cons t f) C m u q r j k a e w g l h = ap₂ ◌+ℤ◌
            (ap (λ n. scaled E (z i) (reply_tree D z i n t) r) (part_of D u q (z j k a) D-pos w) ∙ link-tree t C m (z j k a * q) r g.0 l
            (fits_scale t (all_but i 1 D) q (z j k a) h.0)
            ∙ ap (λ n. worth (all_but i E D) z i n t) (sym (else_part j k a u q r e w)))
            (link_else f C m u q r j k (suc a) e w g.1 l h.1)

pub link : Link
link C m D E i s z t d e h o = sym (link-tree D i E d e z t C m (C * D ^ m) m h (NatL.le_refl m) (fits_free D i t (C * D ^ m) (splits-fit D t C m h)))
    ∙ ap (λ r. scaled E (z i) r m) (same_reply-tree D i s z t (C * D ^ m) o)

pub finer-units_exact : FinerUnitsExact
finer-units_exact C m D E i z t d e h = fits_exact (all_but i E D) (parts_pos D i E d e z) z t (E ^ m * (C * D ^ m))
    (fits_finer D i E t C m (C * D ^ m) m h (NatL.le_refl m) (fits_free D i t (C * D ^ m) (splits-fit D t C m h)))

pub finer-units-add_up : (C m D E i : ℕ) (z : Strategy) (t : Tree) → 0 < D → 0 < E → Splits C m t → Valid (all_but i E D) z t
    → units (all_but i E D) z (E ^ m * (C * D ^ m)) t ≡ E ^ m * (C * D ^ m)
finer-units-add_up C m D E i z t d e h v = fits_units (all_but i E D) (parts_pos D i E d e z) z t (E ^ m * (C * D ^ m))
    (fits_finer D i E t C m (C * D ^ m) m h (NatL.le_refl m) (fits_free D i t (C * D ^ m) (splits-fit D t C m h))) v

-- with D parts in seat i's sets all seats have D
pub all_but_same : (i D : ℕ) → all_but i D D ≡ all D
all_but_same i D = fun_ext (λ j. at (eqb j i))
  where
    at : (b : Bool) → cond b D D ≡ D
    at true = refl
    at false = refl

-- so the scale comes out
pub grain_worth : (C m D i : ℕ) (z : Strategy) (t : Tree) → 0 < D → Splits C m t
    → worth (all_but i D D) z i (D ^ m * (C * D ^ m)) t ≡ D ^ m · worth (all D) z i (C * D ^ m) t
grain_worth C m D i z t d h = ap (λ g. worth g z i (D ^ m * (C * D ^ m)) t) (all_but_same i D)
    ∙ worth_scale (all D) (λ j. d) z i t (C * D ^ m) (D ^ m) (splits-fit D t C m h)

pub link_in_units : LinkInUnits
link_in_units C m D i s z t d h o = sym (grain_worth C m D i z t d h) ∙ link C m D D i s z t d d h o

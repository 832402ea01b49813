-- What keeps sums small: against valid parts a seat's values, the sums of its sets and its worth are at most the root's units × the largest payoff. Nothing is assumed.
use mathlib.Core.Path.{◌≡◌, sym, ap, ◌∙◌}
use mathlib.Core.Bool.{Bool, true, false}
use Prim.Native.Nat.{ℕ, suc, ◌+◌, ◌*◌, ◌/◌, ◌≤◌, ◌<◌, zero-le}
use native.Mathlib.Nat as NatL
use native.Mathlib.Omega.{arith}
use lib.Dec.{eqb}
use lib.IntN.{nat_abs}
use Rattle.game_tree.specs.Sums.{parts}
use Rattle.game_tree.specs.Tree.{Key, Tree, end, chance, decide, Trees, nil, cons, fan, Strategy, all, worth, worth_all, worth_kids}
use Rattle.game_tree.specs.Conditions.{units, units_all, units_kids, Every, EveryAll, Pays, PaysAll}
use Rattle.game_tree.specs.Reply.{Replies, node, share, reply_tree, reply_all, reply_kids}
use Rattle.game_tree.specs.Theorem.{MembersUnits, SetSumBound, ValueBound, WorthBound}
use Rattle.game_tree.proofs.Integers.{size_of_sum, size_of_multiple}
use Rattle.game_tree.proofs.Against.{recall_kept}
use Rattle.game_tree.proofs.Weights.{weight, weights, Carries, CarriesAll, CarriesKids, Bounded, BoundedAll, value-size, members-weight, set_sum_size}

share_step : (D w W u p P q : ℕ) → w ≤ q → D * q ≤ u * p → D * W ≤ u * P → D * (w + W) ≤ u * (p + P)
share_step D w W u p P q l h g = rw (NatL.mul-add D w W, NatL.mul-add u p P) (NatL.add-le-add (NatL.le_trans (NatL.mul-le-mul_left D l) h) g)

module _ (D i : ℕ) (D-pos : 0 < D) (s : Strategy) where
  abbrev Parted : ℕ → Key → ℕ → Type 0
  Parted j k n = parts n (s j k) ≡ D

  mutual
    unfolding reply_tree Every weight node share fan parts

    pub reply-weight : (t : Tree) (u : ℕ) → Every Parted t → weight (reply_tree D s i u t) ≤ u
    reply-weight (end p) u h = NatL.le_refl u
    reply-weight (chance f) u h = NatL.le_trans (reply-weight-fan f (u / fan f) h) (NatL.mul-div-le u (fan f))
    reply-weight (decide j k f) u h = at (eqb j i) (NatL.le_of_mul-le-mul_left
        (NatL.le_trans (reply-weight-kids f u j k 0 (s j k) (λ b. ap (s j k) (sym (NatL.zero-add b))) h.1)
        (NatL.le_of_eq (ap (λ n. u * n) h.0 ∙ NatL.mul_comm u D))) D-pos)
      where
        at : (b : Bool) → weights (reply_kids D s i false u j k 0 f) ≤ u → weight (node b u k (reply_kids D s i b u j k 0 f)) ≤ u
        at true l = NatL.le_refl u
        at false l = l

    reply-weight-fan : (f : Trees) (u : ℕ) → EveryAll Parted f → weights (reply_all D s i u f) ≤ fan f * u
    reply-weight-fan nil u h = zero-le
    reply-weight-fan (cons t f) u h = rw (NatL.suc-mul (fan f) u) (omega (arith, reply-weight t u h.0, reply-weight-fan f u h.1))

    reply-weight-kids : (f : Trees) (u j : ℕ) (k : Key) (a : ℕ) (x : ℕ → ℕ) → ((b : ℕ) → x b ≡ s j k (a + b)) → EveryAll Parted f
        → D * weights (reply_kids D s i false u j k a f) ≤ u * parts (fan f) x
    reply-weight-kids nil u j k a x e h = rw (NatL.mul-zero D) zero-le
    reply-weight-kids (cons t f) u j k a x e h = share_step D (weight (reply_tree D s i (u * s j k a / D) t))
        (weights (reply_kids D s i false u j k (suc a) f)) u (x 0) (parts (fan f) (λ b. x (suc b))) (u * s j k a / D)
        (reply-weight t (u * s j k a / D) h.0) (rw (e 0, NatL.add-zero a) (NatL.mul-div-le (u * s j k a) D))
        (reply-weight-kids f u j k (suc a) (λ b. x (suc b)) (λ b. e (suc b) ∙ ap (s j k) (omega arith)) h.1)

  mutual
    unfolding reply_tree Every Carries node share

    pub reply_carries : (t : Tree) (u : ℕ) → Every Parted t → Carries (reply_tree D s i u t)
    reply_carries (end p) u h = tt
    reply_carries (chance f) u h = reply_carries_all f (u / fan f) h
    reply_carries (decide j k f) u h = at (eqb j i) (reply_carries_own f u j k 0 h.1) (reply_carries_split f u j k 0 h.1)
      where
        at : (b : Bool) → CarriesKids u (reply_kids D s i true u j k 0 f) → CarriesAll (reply_kids D s i false u j k 0 f)
            → Carries (node b u k (reply_kids D s i b u j k 0 f))
        at true x y = x
        at false x y = y

    reply_carries_all : (f : Trees) (u : ℕ) → EveryAll Parted f → CarriesAll (reply_all D s i u f)
    reply_carries_all nil u h = tt
    reply_carries_all (cons t f) u h = (reply_carries t u h.0, reply_carries_all f u h.1)

    reply_carries_own : (f : Trees) (u j : ℕ) (k : Key) (a : ℕ) → EveryAll Parted f → CarriesKids u (reply_kids D s i true u j k a f)
    reply_carries_own nil u j k a h = tt
    reply_carries_own (cons t f) u j k a h = (reply_carries t u h.0, reply-weight t u h.0, reply_carries_own f u j k (suc a) h.1)

    reply_carries_split : (f : Trees) (u j : ℕ) (k : Key) (a : ℕ) → EveryAll Parted f → CarriesAll (reply_kids D s i false u j k a f)
    reply_carries_split nil u j k a h = tt
    reply_carries_split (cons t f) u j k a h = (reply_carries t (u * s j k a / D) h.0, reply_carries_split f u j k (suc a) h.1)

  mutual
    unfolding reply_tree Pays Bounded node

    pub reply-bounded : (t : Tree) (u B : ℕ) → Pays B i t → Bounded B (reply_tree D s i u t)
    reply-bounded (end p) u B h = size_of_multiple u (p i) B h
    reply-bounded (chance f) u B h = reply-bounded_all f (u / fan f) B h
    reply-bounded (decide j k f) u B h = at (eqb j i) (reply_kids D s i (eqb j i) u j k 0 f) (reply-bounded-kids f (eqb j i) u j k 0 B h)
      where
        at : (b : Bool) (g : Replies) → BoundedAll B g → Bounded B (node b u k g)
        at true g x = x
        at false g x = x

    reply-bounded_all : (f : Trees) (u B : ℕ) → PaysAll B i f → BoundedAll B (reply_all D s i u f)
    reply-bounded_all nil u B h = tt
    reply-bounded_all (cons t f) u B h = (reply-bounded t u B h.0, reply-bounded_all f u B h.1)

    reply-bounded-kids : (f : Trees) (b : Bool) (u j : ℕ) (k : Key) (a B : ℕ) → PaysAll B i f → BoundedAll B (reply_kids D s i b u j k a f)
    reply-bounded-kids nil b u j k a B h = tt
    reply-bounded-kids (cons t f) b u j k a B h = (reply-bounded t (share D b u (s j k a)) B h.0, reply-bounded-kids f b u j k (suc a) B h.1)

  -- the ends' units are at most the root's, and the worth at most units × B in size
  mutual
    unfolding units Every fan parts

    units_most : (t : Tree) (u : ℕ) → Every Parted t → units (all D) s u t ≤ u
    units_most (end p) u h = NatL.le_refl u
    units_most (chance f) u h = NatL.le_trans (units_most_fan f (u / fan f) h) (NatL.mul-div-le u (fan f))
    units_most (decide j k f) u h = NatL.le_of_mul-le-mul_left
        (NatL.le_trans (units_most_kids f u j k 0 (s j k) (λ b. ap (s j k) (sym (NatL.zero-add b))) h.1)
        (NatL.le_of_eq (ap (λ n. u * n) h.0 ∙ NatL.mul_comm u D))) D-pos

    units_most_fan : (f : Trees) (u : ℕ) → EveryAll Parted f → units_all (all D) s u f ≤ fan f * u
    units_most_fan nil u h = zero-le
    units_most_fan (cons t f) u h = rw (NatL.suc-mul (fan f) u) (omega (arith, units_most t u h.0, units_most_fan f u h.1))

    units_most_kids : (f : Trees) (u j : ℕ) (k : Key) (a : ℕ) (x : ℕ → ℕ) → ((b : ℕ) → x b ≡ s j k (a + b)) → EveryAll Parted f
        → D * units_kids (all D) s u j k a f ≤ u * parts (fan f) x
    units_most_kids nil u j k a x e h = rw (NatL.mul-zero D) zero-le
    units_most_kids (cons t f) u j k a x e h = share_step D (units (all D) s (u * s j k a / D) t) (units_kids (all D) s u j k (suc a) f) u (x 0)
        (parts (fan f) (λ b. x (suc b))) (u * s j k a / D)
        (units_most t (u * s j k a / D) h.0) (rw (e 0, NatL.add-zero a) (NatL.mul-div-le (u * s j k a) D))
        (units_most_kids f u j k (suc a) (λ b. x (suc b)) (λ b. e (suc b) ∙ ap (s j k) (omega arith)) h.1)

  mutual
    unfolding worth units Pays

    worth-size : (t : Tree) (u B : ℕ) → Pays B i t → nat_abs (worth (all D) s i u t) ≤ units (all D) s u t * B
    worth-size (end p) u B h = size_of_multiple u (p i) B h
    worth-size (chance f) u B h = worth-size_all f (u / fan f) B h
    worth-size (decide j k f) u B h = worth-size-kids f u j k 0 B h

    worth-size_all : (f : Trees) (u B : ℕ) → PaysAll B i f → nat_abs (worth_all (all D) s i u f) ≤ units_all (all D) s u f * B
    worth-size_all nil u B h = zero-le
    worth-size_all (cons t f) u B h = omega (
      arith,
      size_of_sum (worth (all D) s i u t) (worth_all (all D) s i u f),
      worth-size t u B
          h.0,
      worth-size_all f u B h.1,
    )

    worth-size-kids : (f : Trees) (u j : ℕ) (k : Key) (a B : ℕ) → PaysAll B i f → nat_abs (worth_kids (all D) s i u j k a f) ≤ units_kids (all D) s u j k a f * B
    worth-size-kids nil u j k a B h = zero-le
    worth-size-kids (cons t f) u j k a B h = omega (
      arith,
      size_of_sum (worth (all D) s i (u * s j k a / D) t) (worth_kids (all D) s i u j k (suc a) f),
      worth-size t (u * s j k a / D) B
          h.0,
      worth-size-kids f u j k (suc a) B h.1,
    )

pub members-units : MembersUnits
members-units D i u n s t k d g v = NatL.le_trans (members-weight (reply_tree D s i u t) k n (recall_kept D i u s t g) (reply_carries D i d s t u v))
    (reply-weight D i d s t u v)

pub set_sum_bound : SetSumBound
set_sum_bound D i u n B a s t k c d g v b = NatL.le_trans
    (set_sum_size (reply_tree D s i u t) k n B c a (recall_kept D i u s t g) (reply_carries D i d s t u v) (reply-bounded D i d s t u B b))
    (NatL.mul-le-mul_right B (reply-weight D i d s t u v))

pub value_bound : ValueBound
value_bound D i u B s t c d v b = NatL.le_trans
    (value-size B c (reply_tree D s i u t) (reply_carries D i d s t u v) (reply-bounded D i d s t u B b)) (NatL.mul-le-mul_right B (reply-weight D i d s t u v))

pub worth_bound : WorthBound
worth_bound D i u B s t d v b = NatL.le_trans (worth-size D i d s t u B b) (NatL.mul-le-mul_right B (units_most D i d s t u v))

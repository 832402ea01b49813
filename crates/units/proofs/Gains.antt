-- A gain is at most 124 for each unit, and it is the value of the reply tree and 64 for each unit. Assumes nothing.
use Rattle.std.proofs.Common.{◌≡◌, ℕ, zero, suc, ◌+◌, ◌*◌, ◌/◌, ◌^◌, ◌<◌, ◌≤◌, Bool, true, false, cond, eqb, List, [], ◌∷◌, map, length, ℤ, pos, negsuc, ◌+ℤ◌, nat_abs, sym, refl, ap, ◌∙◌, ap₂, zero-le, arith}
use native.Mathlib.Nat as NatL
use lib.Seq.{take-length}
use Rattle.game_tree.specs.Sums.{sum, sumℕ, parts}
use Rattle.game_tree.specs.Tree.{Key, Tree, end, chance, decide, Trees, nil, cons, fan, Strategy, all}
use Rattle.game_tree.specs.Conditions.{Every, EveryAll, Pays, PaysAll, Valid}
use Rattle.game_tree.specs.Reply.{node, share, reply_tree, reply_kids, Choice, value, total, pick, Node, same, members, set_sum}
use Rattle.game_tree.specs.Recall.{PerfectRecall}
use Rattle.game_tree.specs.Sets.{size, is_of}
use Rattle.game_tree.proofs.Tests.{eqb_is}
use Rattle.game_tree.proofs.Sets.{is_of_seat, is_of_key}
use Rattle.game_tree.proofs.Units.{Fits, FitsAll, fits_scale, fits_scale_all, splits-fit, of_fan, part_of}
use Rattle.game_tree.proofs.Bounds.{members-units}
use Rattle.arena_walks.specs.internal.Found as Walks
use Rattle.arena_walks.proofs.Finding.{EachMember, each_append, each_cond}
use Rattle.units.specs.internal.Lifted.{lift}
use Rattle.units.specs.internal.Gain.{Member, given, gain, gain_all, gain_pick, found, found_all, set_gain}
use Rattle.units.specs.internal.Gains.{GainBound, SetGainBound, GainValue}
use Rattle.units.proofs.Lifting.{lift-times, add_up}
use Rattle.units.proofs.Found.{reply_row, chance-row, decision_row, seen, members_found}

-- ---- the units of a row, by the child's number
unfoldable row_units : (ℕ → ℕ) → ℕ → Trees → ℕ
row_units g x nil = 0
row_units g x (cons t f) = g x + row_units g (suc x) f

same_units : (f : Trees) (u x : ℕ) → row_units (λ y. u) x f ≡ fan f * u
unfolding row_units fan
same_units nil u x = sym (NatL.zero-mul u)
same_units (cons t f) u x = ap (λ n. u + n) (same_units f u (suc x)) ∙ NatL.add_comm u (fan f * u) ∙ sym (NatL.suc-mul (fan f) u)

-- the children of another seat's decision have at most its units together, and all of them where the division is exact
module _ (D : ℕ) (D-pos : 0 < D) (p : ℕ → ℕ) where
  share_step : (w W u q P : ℕ) → D * w ≤ u * q → D * W ≤ u * P → D * (w + W) ≤ u * (q + P)
  share_step w W u q P h g = rw (NatL.mul-add D w W, NatL.mul-add u q P) (NatL.add-le-add h g)

  parts_most : (f : Trees) (u a : ℕ) (x : ℕ → ℕ) → ((b : ℕ) → x b ≡ p (a + b)) → D * row_units (λ y. u * p y / D) a f ≤ u * parts (fan f) x
  unfolding row_units fan parts
  parts_most nil u a x e = rw (NatL.mul-zero D) zero-le
  parts_most (cons t f) u a x e = share_step (u * p a / D) (row_units (λ y. u * p y / D) (suc a) f) u (x 0) (parts (fan f) (λ b. x (suc b)))
      (rw (e 0, NatL.add-zero a) (NatL.mul-div-le (u * p a) D))
      (parts_most f u (suc a) (λ b. x (suc b)) (λ b. e (suc b) ∙ ap p (omega arith)))

  shares_most : (f : Trees) (u : ℕ) → parts (fan f) p ≡ D → row_units (λ y. u * p y / D) 0 f ≤ u
  shares_most f u e = NatL.le_of_mul-le-mul_left
      (NatL.le_trans (parts_most f u 0 p (λ b. ap p (sym (NatL.zero-add b)))) (NatL.le_of_eq (ap (λ n. u * n) e ∙ NatL.mul_comm u D))) D-pos

  parts_units : (f : Trees) (u q a : ℕ) (x : ℕ → ℕ) → ((b : ℕ) → x b ≡ p (a + b)) → u ≡ D * q → row_units (λ y. u * p y / D) a f ≡ parts (fan f) x * q
  unfolding row_units fan parts
  parts_units nil u q a x e w = sym (NatL.zero-mul q)
  parts_units (cons t f) u q a x e w = ap₂ ◌+◌ (part_of D u q (p a) D-pos w ∙ ap (λ n. n * q) (sym (e 0 ∙ ap p (NatL.add-zero a))))
      (parts_units f u q (suc a) (λ b. x (suc b)) (λ b. e (suc b) ∙ ap p (omega arith)) w) ∙ sym (NatL.add-mul (x 0) (parts (fan f) (λ b. x (suc b))) q)

  shares_units : (f : Trees) (u q : ℕ) → parts (fan f) p ≡ D → u ≡ D * q → row_units (λ y. u * p y / D) 0 f ≡ u
  shares_units f u q e w = parts_units f u q 0 p (λ b. ap p (sym (NatL.zero-add b))) w ∙ ap (λ n. n * q) e ∙ sym w

-- the parts of a set add up to D
abbrev Parted : ℕ → Strategy → ℕ → Key → ℕ → Type 0
Parted D s j k n = parts n (s j k) ≡ D

-- ---- at most 124 for each unit
lift_most : (z : ℤ) → nat_abs z ≤ 60 → lift z ≤ 124
lift_most (pos a) h = omega arith
lift_most (negsuc a) h = omega arith

module _ (D : ℕ) (D-pos : 0 < D) (s : Strategy) (i : ℕ) (c : Choice) where
  mutual
    unfolding gain row_units Every Pays fan share

    gain_most : (t : Tree) (u : ℕ) → Every (Parted D s) t → Pays 60 i t → gain D s i c u t ≤ u * 124
    gain_most (end p) u v h = NatL.mul-le-mul_left u (lift_most (p i) h)
    gain_most (chance f) u v h = NatL.le_trans (gain_all_most f (λ y. u / fan f) 0 v h)
        (NatL.mul-le-mul_right 124 (NatL.le_trans (NatL.le_of_eq (same_units f (u / fan f) 0)) (NatL.mul-div-le u (fan f))))
    gain_most (decide j k f) u v h = at (eqb j i) (gain-pick_most f u 0 (c k) v.1 h) (gain_all_most f (λ y. u * s j k y / D) 0 v.1 h)
      where
        at : (b : Bool) → gain_pick D s i c (λ y. u) 0 f (c k) ≤ u * 124 → gain_all D s i c (λ y. u * s j k y / D) 0 f ≤ row_units (λ y. u * s j k y / D) 0 f * 124
            → cond b (gain_pick D s i c (λ y. share D b u (s j k y)) 0 f (c k)) (gain_all D s i c (λ y. share D b u (s j k y)) 0 f) ≤ u * 124
        at true x y = x
        at false x y = NatL.le_trans y (NatL.mul-le-mul_right 124 (shares_most D D-pos (s j k) f u v.0))

    gain_all_most : (f : Trees) (g : ℕ → ℕ) (x : ℕ) → EveryAll (Parted D s) f → PaysAll 60 i f → gain_all D s i c g x f ≤ row_units g x f * 124
    gain_all_most nil g x v h = zero-le
    gain_all_most (cons t f) g x v h = omega (arith, gain_most t (g x) v.0 h.0, gain_all_most f g (suc x) v.1 h.1)

    gain-pick_most : (f : Trees) (u x a : ℕ) → EveryAll (Parted D s) f → PaysAll 60 i f → gain_pick D s i c (λ y. u) x f a ≤ u * 124
    gain-pick_most nil u x a v h = zero-le
    gain-pick_most (cons t f) u x zero v h = gain_most t u v.0 h.0
    gain-pick_most (cons t f) u x (suc a) v h = gain-pick_most f u (suc x) a v.1 h.1

  -- so for each member of a set, whose units add up to at most the root's
  module _ (k : Key) (a : ℕ) where
    abbrev Small : Member → Type 0
    Small x = gain_pick D s i c (λ y. x.1) 0 x.2 a ≤ x.1 * 124

    mutual
      unfolding Walks.found Every Pays EachMember

      found_small : (t : Tree) (b u : ℕ) → Every (Parted D s) t → Pays 60 i t → EachMember Small (found D s i k b u t)
      found_small (end p) b u v h = tt
      found_small (chance f) b u v h = found_small_all f (suc b) (λ x. u / fan f) 0 v h
      found_small (decide j l f) b u v h = each_cond Small (b, u, f) (found_all D s i k (suc b) (given D s i u j l) 0 f) (cond (eqb j i) (same l k) false)
          (λ e. gain-pick_most f u 0 a v.1 h) (found_small_all f (suc b) (given D s i u j l) 0 v.1 h)

      found_small_all : (f : Trees) (b : ℕ) (g : ℕ → ℕ) (x : ℕ) → EveryAll (Parted D s) f → PaysAll 60 i f → EachMember Small (found_all D s i k b g x f)
      found_small_all nil b g x v h = tt
      found_small_all (cons t f) b g x v h = each_append Small (found D s i k b (g x) t) (found_all D s i k (b + size t) g (suc x) f)
          (found_small t b (g x) v.0 h.0) (found_small_all f (b + size t) g (suc x) v.1 h.1)

    sum_small : (xs : List Member) → EachMember Small xs → sumℕ (λ (x : Member). gain_pick D s i c (λ y. x.1) 0 x.2 a) xs ≤ sumℕ (λ (x : Member). x.1) xs * 124
    unfolding EachMember sumℕ
    sum_small [] h = zero-le
    sum_small (x ∷ xs) h = omega (arith, h.0, sum_small xs h.1)

  sumℕ-seen : (k : Key) (xs : List Member) → sumℕ (λ (x : Node). x.0) (map (seen D s i k) xs) ≡ sumℕ (λ (x : Member). x.1) xs
  unfolding sumℕ
  sumℕ-seen k [] = refl
  sumℕ-seen k (x ∷ xs) = ap (λ n. x.1 + n) (sumℕ-seen k xs)

  found_units : (t : Tree) (u : ℕ) (k : Key) → PerfectRecall i t → Valid (all D) s t → sumℕ (λ (x : Member). x.1) (found D s i k 0 u t) ≤ u
  found_units t u k g v = NatL.le_trans
      (NatL.le_of_eq (sym (ap (sumℕ (λ x. x.0)) (take-length (members (reply_tree D s i u t) k) ∙ members_found D i s k t 0 u) ∙ sumℕ-seen k (found D s i k 0 u t))))
      (members-units D i u (length (members (reply_tree D s i u t) k)) s t k D-pos g v)

pub gain_bound : GainBound
gain_bound D i u s t c d v h = gain_most D d s i c t u v h

pub set-gain_bound : SetGainBound
unfolding set_gain
set-gain_bound D i u a s t k c d g v h = NatL.le_trans (sum_small D d s i c k a (found D s i k 0 u t) (found_small D d s i c k a t 0 u v h))
    (NatL.mul-le-mul_right 124 (found_units D d s i c t u k g v))

-- ---- the value of the reply tree, and 64 for each unit
-- each child of a row has units that split evenly all the way down
unfoldable FitsRow : ℕ → (ℕ → ℕ) → ℕ → Trees → Type 0
FitsRow D g x nil = Unit {0}
FitsRow D g x (cons t f) = Fits (all D) (g x) t × FitsRow D g (suc x) f

same_fits : (D : ℕ) (f : Trees) (u x : ℕ) → FitsAll (all D) u f → FitsRow D (λ y. u) x f
unfolding FitsRow Fits
same_fits D nil u x h = tt
same_fits D (cons t f) u x h = (h.0, same_fits D f u (suc x) h.1)

shares_fit : (D : ℕ) (p : ℕ → ℕ) (f : Trees) (u q x : ℕ) → 0 < D → u ≡ D * q → FitsAll (all D) q f → FitsRow D (λ y. u * p y / D) x f
unfolding FitsRow Fits
shares_fit D p nil u q x d e h = tt
shares_fit D p (cons t f) u q x d e h = (rw (part_of D u q (p x) d e) (fits_scale t (all D) q (p x) h.0), shares_fit D p f u q (suc x) d e h.1)

module _ (D : ℕ) (D-pos : 0 < D) (s : Strategy) (i : ℕ) (c : Choice) where
  -- seat i's choice is an action that is there
  abbrev Taken : ℕ → Key → ℕ → Type 0
  Taken j k n = j ≡ i → c k < n

  -- the units of an own decision fit its children
  own_fits : (u j : ℕ) (k : Key) (f : Trees) → Fits (all D) u (decide j k f) → FitsAll (all D) u f
  unfolding Fits
  own_fits u j k f h = rw h.1 (fits_scale_all f (all D) h.0 D h.2)

  given_fits : (u j : ℕ) (k : Key) (f : Trees) → Fits (all D) u (decide j k f) → FitsRow D (given D s i u j k) 0 f
  unfolding Fits share
  given_fits u j k f h = at (eqb j i)
    where
      at : (b : Bool) → FitsRow D (λ y. share D b u (s j k y)) 0 f
      at true = same_fits D f u 0 (own_fits u j k f h)
      at false = shares_fit D (s j k) f u h.0 0 D-pos h.1 h.2

  chance_fits : (u : ℕ) (f : Trees) → Fits (all D) u (chance f) → FitsRow D (λ y. u / fan f) 0 f
  unfolding Fits
  chance_fits u f h = same_fits D f (u / fan f) 0 (rw (of_fan u (fan f) h.0 h.1 h.2) h.3)

  chance-units : (u : ℕ) (f : Trees) → Fits (all D) u (chance f) → row_units (λ y. u / fan f) 0 f ≡ u
  unfolding Fits
  chance-units u f h = same_units f (u / fan f) 0 ∙ ap (λ n. fan f * n) (of_fan u (fan f) h.0 h.1 h.2) ∙ sym h.1

  mutual
    unfolding gain reply_tree reply_row value row_units FitsRow Fits Every Pays fan share node

    gain_is : (t : Tree) (u : ℕ) → Fits (all D) u t → Every (Parted D s) t → Pays 60 i t → Every Taken t
        → pos (gain D s i c u t) ≡ value c (reply_tree D s i u t) +ℤ pos (64 * u)
    gain_is (end p) u e v h o = lift-times u (p i) h
    gain_is (chance f) u e v h o = gain_all_is f (λ y. u / fan f) 0 (chance_fits u f e) v h o
        ∙ ap₂ (λ r n. total c r +ℤ pos (64 * n)) (sym (chance-row D s i f (u / fan f) 0)) (chance-units u f e)
    gain_is (decide j k f) u e v h o = at (eqb j i) (λ w. gain-pick_is f u j k 0 (c k) (o.0 (eqb_is j i w)) (own_fits u j k f e) v.1 h o.1)
        (gain_all_is f (λ y. u * s j k y / D) 0 (shares_fit D (s j k) f u e.0 0 D-pos e.1 e.2) v.1 h o.1
        ∙ ap₂ (λ r n. total c r +ℤ pos (64 * n)) (sym (decision_row D s i f false u j k 0)) (shares_units D D-pos (s j k) f u e.0 v.0 e.1))
      where
        at : (b : Bool) → (b ≡ true → pos (gain_pick D s i c (λ y. u) 0 f (c k)) ≡ pick c (reply_kids D s i true u j k 0 f) (c k) +ℤ pos (64 * u))
            → pos (gain_all D s i c (λ y. u * s j k y / D) 0 f) ≡ total c (reply_kids D s i false u j k 0 f) +ℤ pos (64 * u)
            → pos (cond b (gain_pick D s i c (λ y. share D b u (s j k y)) 0 f (c k)) (gain_all D s i c (λ y. share D b u (s j k y)) 0 f))
            ≡ value c (node b u k (reply_kids D s i b u j k 0 f)) +ℤ pos (64 * u)
        at true x y = x refl
        at false x y = y

    gain_all_is : (f : Trees) (g : ℕ → ℕ) (x : ℕ) → FitsRow D g x f → EveryAll (Parted D s) f → PaysAll 60 i f → EveryAll Taken f
        → pos (gain_all D s i c g x f) ≡ total c (reply_row D s i g x f) +ℤ pos (64 * row_units g x f)
    gain_all_is nil g x e v h o = refl
    gain_all_is (cons t f) g x e v h o = add_up (value c (reply_tree D s i (g x) t)) (total c (reply_row D s i g (suc x) f)) (g x) (row_units g (suc x) f)
        (gain D s i c (g x) t) (gain_all D s i c g (suc x) f) (gain_is t (g x) e.0 v.0 h.0 o.0) (gain_all_is f g (suc x) e.1 v.1 h.1 o.1)

    gain-pick_is : (f : Trees) (u j : ℕ) (k : Key) (x a : ℕ) → a < fan f → FitsAll (all D) u f → EveryAll (Parted D s) f → PaysAll 60 i f → EveryAll Taken f
        → pos (gain_pick D s i c (λ y. u) x f a) ≡ pick c (reply_kids D s i true u j k x f) a +ℤ pos (64 * u)
    gain-pick_is nil u j k x a l e v h o = absurd (NatL.not-suc-le-zero l)
    gain-pick_is (cons t f) u j k x zero l e v h o = gain_is t u e.0 v.0 h.0 o.0
    gain-pick_is (cons t f) u j k x (suc a) l e v h o = gain-pick_is f u j k (suc x) a (NatL.le_of_suc-le-suc l) e.1 v.1 h.1 o.1

  -- so for each member of a set k, behind each of the actions that its members have
  module _ (k : Key) (N : Key → ℕ) where
    abbrev Counted : ℕ → Key → ℕ → Type 0
    Counted j l n = j ≡ i → n ≡ N l

    abbrev Valued : Member → Type 0
    Valued x = (a : ℕ) → a < N k → pos (gain_pick D s i c (λ y. x.1) 0 x.2 a) ≡ pick c (reply_kids D s i true x.1 i k 0 x.2) a +ℤ pos (64 * x.1)

    mutual
      unfolding Walks.found FitsRow Every Pays EachMember is_of

      found_valued : (t : Tree) (b u : ℕ) → Fits (all D) u t → Every (Parted D s) t → Pays 60 i t → Every Taken t → Every Counted t
          → EachMember Valued (found D s i k b u t)
      found_valued (end p) b u e v h o n = tt
      found_valued (chance f) b u e v h o n = found_valued_all f (suc b) (λ x. u / fan f) 0 (chance_fits u f e) v h o n
      found_valued (decide j l f) b u e v h o n = each_cond Valued (b, u, f) (found_all D s i k (suc b) (given D s i u j l) 0 f) (cond (eqb j i) (same l k) false)
          (λ w a q. gain-pick_is f u i k 0 a (omega (arith, n.0 (is_of_seat i k (j, l, 0) w) ∙ ap N (is_of_key i k (j, l, 0) w))) (own_fits u j l f e) v.1 h o.1)
          (found_valued_all f (suc b) (given D s i u j l) 0 (given_fits u j l f e) v.1 h o.1 n.1)

      found_valued_all : (f : Trees) (b : ℕ) (g : ℕ → ℕ) (x : ℕ) → FitsRow D g x f → EveryAll (Parted D s) f → PaysAll 60 i f → EveryAll Taken f → EveryAll Counted f
          → EachMember Valued (found_all D s i k b g x f)
      found_valued_all nil b g x e v h o n = tt
      found_valued_all (cons t f) b g x e v h o n = each_append Valued (found D s i k b (g x) t) (found_all D s i k (b + size t) g (suc x) f)
          (found_valued t b (g x) e.0 v.0 h.0 o.0 n.0) (found_valued_all f (b + size t) g (suc x) e.1 v.1 h.1 o.1 n.1)

    sum_valued : (a : ℕ) → a < N k → (xs : List Member) → EachMember Valued xs
        → pos (sumℕ (λ (x : Member). gain_pick D s i c (λ y. x.1) 0 x.2 a) xs)
        ≡ sum (λ (x : Node). pick c x.2 a) (map (seen D s i k) xs) +ℤ pos (64 * sumℕ (λ (x : Member). x.1) xs)
    unfolding EachMember sum sumℕ
    sum_valued a l [] h = refl
    sum_valued a l (x ∷ xs) h = add_up (pick c (reply_kids D s i true x.1 i k 0 x.2) a)
        (sum (λ (x : Node). pick c x.2 a) (map (seen D s i k) xs))
        x.1 (sumℕ (λ (x : Member). x.1) xs) (gain_pick D s i c (λ y. x.1) 0 x.2 a) (sumℕ (λ (x : Member). gain_pick D s i c (λ y. x.1) 0 x.2 a) xs)
        (h.0 a l) (sum_valued a l xs h.1)

    pub set-gain_is : (t : Tree) (u : ℕ) → Fits (all D) u t → Valid (all D) s t → Pays 60 i t → Every (λ j l n. j ≡ i → c l < n) t → Every (λ j l n. j ≡ i → n ≡ N l) t
        → (a : ℕ) → a < N k → pos (set_gain D s i c t u k a) ≡ set_sum c (reply_tree D s i u t) k a +ℤ pos (64 * sumℕ (λ (x : Member). x.1) (found D s i k 0 u t))
    unfolding set_gain
    set-gain_is t u e v h o n a l = sum_valued a l (found D s i k 0 u t) (found_valued t 0 u e v h o n)
        ∙ ap (λ xs. sum (λ (x : Node). pick c x.2 a) xs +ℤ pos (64 * sumℕ (λ (x : Member). x.1) (found D s i k 0 u t))) (sym (members_found D i s k t 0 u))

pub gain-value : GainValue
gain-value C m D i s t c d g v h o = gain_is D d s i c t (C * D ^ m) (splits-fit D t C m g) v h o

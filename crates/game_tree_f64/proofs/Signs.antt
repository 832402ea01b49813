-- Where −0.0 arises. A sum or a difference of two numbers that a format holds is 0 or no less than the format's smallest number, so it is rounded to 0 only if it is 0. Assumes nothing.
use mathlib.Core.Path.{◌≡◌, refl, sym, ap, ◌∙◌, subst}
use mathlib.Core.Logic.{◌⊎◌, inl, inr}
use mathlib.Core.Bool.{Bool, true, false, cond, ◌&&◌}
use Prim.Native.Nat.{ℕ, zero, suc, ◌+◌, ◌-◌, ◌*◌, ◌/◌, ◌%◌, ◌^◌, ◌≤◌, ◌<◌, compare}
use native.Mathlib.Nat as NatL
use native.Mathlib.Omega.{arith}
use borrow.Author.Tests.{lt-ltb, le-ltb, ltb-true, ltb-false}
use lib.Dec.{T, leb, ltb, eqb, leb→le, eqb→eq}
use lib.IntN.{ℤ, pos, negsuc}
use lib.Pow.{pow_pos, pow-add}
use lib.Ieee.{Float, nan, inf, fin, Format, binary64, prec, emax, low, up, down, size, nearest, odd, units, round, sum, add, sub, neg, fits, of_bits}
use lib.Ieee.Digits.{size-lt, size_reaches}
use lib.Ieee.Fits.{two, two-le_pos, up_pos, down_pos, round_is, and_l, and_r, add-fits, mul-fits, neg-fits}
use lib.Ieee.Exact.{HasValue, odd_sign}
use lib.Ieee.Nearest.{nearest-ge}
use lib.Ieee.Bits.{of_bits-fits}
use Rattle.prelude.proofs.Tests.{Tested, holds, fails, tested, true≢false}
use Rattle.game_tree.specs.Tree.{chance, Trees, nil, cons}
use Rattle.game_tree.specs.Reply.{Choice}
use Rattle.game_tree_f64.specs.Values.{Profile, nought, plus, times, edge, value, added, best, best_value, worth}
use Rattle.game_tree_f64.specs.Signs.{minus_nought, sum_from, SumSigned, ChanceSigned, DifferenceSigned, GainSigned, StartSigned}

-- x is no zero
abbrev Some : Float → Type 0
Some nan = Unit {0}
Some (inf s) = Unit {0}
Some (fin s m e) = 0 < m

-- x is no zero with a minus
abbrev Clear : Float → Type 0
Clear nan = Unit {0}
Clear (inf s) = Unit {0}
Clear (fin s m e) = s ≡ true → 0 < m

some_clear : (x : Float) → Some x → Clear x
some_clear nan h = tt
some_clear (inf s) h = tt
some_clear (fin s m e) h = λ q. h

-- ---- from a value
first_some : (m u : ℕ) → 0 < m * u → 0 < m
first_some zero u h = absurd (omega (arith, NatL.zero-mul u))
first_some (suc m) u h = omega arith

value_some : (x : Float) (s : Bool) (a c : ℕ) → HasValue x s a c → 0 < a → Some x
value_some nan s a c v h = tt
value_some (inf t) s a c v h = tt
value_some (fin t m e) s a c v h = first_some m (up e) (first_some (m * up e) c (subst (λ z. 0 < z) (sym v.1) (NatL.mul-pos h (down_pos e))))

value-plus : (x : Float) (a c : ℕ) → HasValue x false a c → Clear x
value-plus nan a c v = tt
value-plus (inf t) a c v = tt
value-plus (fin t m e) a c v = λ q. true≢false t q v.0

-- ---- rounding
units_some : (f : Format) (s : Bool) (q k : ℕ) → 0 < q → Some (units f s q k)
unfolding units
units_some f s q k h = at (ltb (q * 2 ^ k) (2 ^ (low f + suc (emax f))))
  where
    at : (b : Bool) → Some (cond b (odd (suc (prec f)) s q k (low f)) (inf s))
    at true = value_some (odd (suc (prec f)) s q k (low f)) s (q * 2 ^ k) (2 ^ low f) (odd_sign (suc (prec f)) s q k (low f)) (NatL.mul-pos h (pow_pos k))
    at false = tt

units-plus : (f : Format) (q k : ℕ) → Clear (units f false q k)
unfolding units
units-plus f q k = at (ltb (q * 2 ^ k) (2 ^ (low f + suc (emax f))))
  where
    at : (b : Bool) → Clear (cond b (odd (suc (prec f)) false q k (low f)) (inf false))
    at true = value-plus (odd (suc (prec f)) false q k (low f)) (q * 2 ^ k) (2 ^ low f) (odd_sign (suc (prec f)) false q k (low f))
    at false = tt

round-plus : (f : Format) (a c : ℕ) → Clear (round f false a c)
round-plus f a c = subst Clear (sym (round_is f false a c)) (units-plus f _ _)

-- the digits dropped are fewer than all
dropped : (z p : ℕ) → 0 < z → 0 < p → z - p < z
dropped z p h g = omega arith

size_some : (n : ℕ) → 0 < n → 0 < size n
size_some n h = at (size n) (size-lt n)
  where
    at : (z : ℕ) → n < 2 ^ z → 0 < z
    at zero g = absurd (omega arith)
    at (suc z) g = omega arith

-- a fraction no less than the format's smallest number is not rounded to 0
round_some : (f : Format) (s : Bool) (a c : ℕ) → 0 < c → c ≤ a * 2 ^ low f → Some (round f s a c)
round_some f s a c C h =
    let n = a * 2 ^ low f in
    let k = size (n / c) - prec f in
    let u = c * 2 ^ k in
    let q : 0 < n / c = (NatL.le-div_iff_mul-le C).1 (NatL.le_trans (NatL.le_of_eq (NatL.one-mul c)) h) in
    let r : 2 ^ k * c ≤ n = (NatL.le-div_iff_mul-le C).0 (size_reaches (n / c) k (dropped (size (n / c)) (prec f) (size_some (n / c) q) (two-le_pos (prec f) (two f)))) in
    let w : 0 < n / u = (NatL.le-div_iff_mul-le (NatL.mul-pos C (pow_pos k))).1 (NatL.le_trans (NatL.le_of_eq (NatL.one-mul u ∙ NatL.mul_comm c (2 ^ k))) r) in
    subst Some (sym (round_is f s a c)) (units_some f s (nearest (n / u) (compare (n % u * 2) u)) k (NatL.le_trans w (nearest-ge (n / u) (compare (n % u * 2) u))))

-- ---- sums
sum_clear : (f : Format) (s : Bool) (a : ℕ) (t : Bool) (b c : ℕ) → 0 < c → (s ≡ true → c ≤ a * 2 ^ low f) → (a < b → c ≤ (b - a) * 2 ^ low f) → (b < a → c ≤ (a - b) * 2 ^ low f) → Clear (sum f s a t b c)
unfolding sum
sum_clear f true a true b c C h g k = some_clear (round f true (a + b) c) (round_some f true (a + b) c C (NatL.le_trans (h refl) (NatL.mul-le-mul_right {m = a} {n = a + b} (2 ^ low f) (omega arith))))
sum_clear f false a false b c C h g k = round-plus f (a + b) c
sum_clear f true a false b c C h g k = at (tested (ltb a b)) (tested (ltb b a))
  where
    at : Tested (ltb a b) → Tested (ltb b a) → Clear (cond (ltb a b) (round f false (b - a) c) (round f (true && ltb b a) (a - b) c))
    at (holds p) q = rw p (round-plus f (b - a) c)
    at (fails p) (holds q) = rw (p, q) (some_clear (round f true (a - b) c) (round_some f true (a - b) c C (k (ltb-true b a q))))
    at (fails p) (fails q) = rw (p, q) (round-plus f (a - b) c)
sum_clear f false a true b c C h g k = at (tested (ltb a b))
  where
    at : Tested (ltb a b) → Clear (cond (ltb a b) (round f true (b - a) c) (round f (false && ltb b a) (a - b) c))
    at (holds p) = rw p (some_clear (round f true (b - a) c) (round_some f true (b - a) c C (g (ltb-true a b p))))
    at (fails p) = rw p (round-plus f (a - b) c)

-- ---- a difference of multiples
-- of u, which is no less than u
multiple_gap : (x y u v m : ℕ) → x * u < y * u → v ≤ m → u * v ≤ (y * u - x * u) * m
multiple_gap x y u v m h g =
    let l : x < y = NatL.lt_of_mul-lt-mul_right u h in
    let d : y * u - x * u ≡ (y - x) * u = ap (λ z. z - x * u) (NatL.mul_comm y u) ∙ ap (λ z. u * y - z) (NatL.mul_comm x u) ∙ sym (NatL.mul-sub u y x) ∙ NatL.mul_comm u (y - x) in
    let w : 1 * u ≤ (y - x) * u = NatL.mul-le-mul_right {m = 1} {n = y - x} u (omega arith) in
    NatL.mul-le-mul (NatL.le_trans (NatL.le_of_eq (sym (NatL.one-mul u))) (NatL.le_trans w (NatL.le_of_eq (sym d)))) g

-- of powers of 2, of which one is a multiple of the other
power_gap : (i j p q m : ℕ) → 2 ^ i ≤ m → 2 ^ j ≤ m → p * 2 ^ j < q * 2 ^ i → 2 ^ i * 2 ^ j ≤ (q * 2 ^ i - p * 2 ^ j) * m
power_gap i j p q m I J h = at (tested (ltb j i))
  where
    over : (x y z : ℕ) → y ≤ z → x * 2 ^ z ≡ x * 2 ^ (z - y) * 2 ^ y
    over x y z l = let e : z - y + y ≡ z = omega arith in ap (λ w. x * 2 ^ w) (sym e) ∙ ap (λ w. x * w) (pow-add 2 (z - y) y) ∙ sym (NatL.mul_assoc x (2 ^ (z - y)) (2 ^ y))

    at : Tested (ltb j i) → 2 ^ i * 2 ^ j ≤ (q * 2 ^ i - p * 2 ^ j) * m
    at (fails t) =
        let l : i ≤ j = ltb-false j i t in
        let e : p * 2 ^ j ≡ p * 2 ^ (j - i) * 2 ^ i = over p i j l in
        subst (λ z. 2 ^ i * 2 ^ j ≤ (q * 2 ^ i - z) * m) (sym e) (multiple_gap (p * 2 ^ (j - i)) q (2 ^ i) (2 ^ j) m (subst (λ z. z < q * 2 ^ i) e h) J)
    at (holds t) =
        let l : j < i = ltb-true j i t in
        let e : q * 2 ^ i ≡ q * 2 ^ (i - j) * 2 ^ j = over q j i (omega arith) in
        NatL.le_trans (NatL.le_of_eq (NatL.mul_comm (2 ^ i) (2 ^ j))) (subst (λ z. 2 ^ j * 2 ^ i ≤ (z - p * 2 ^ j) * m) (sym e) (multiple_gap p (q * 2 ^ (i - j)) (2 ^ j) (2 ^ i) m (subst (λ z. p * 2 ^ j < z) e h) I))

down_power : (e : ℤ) → (i : ℕ) × (down e ≡ 2 ^ i)
down_power (pos k) = (0, refl)
down_power (negsuc k) = (suc k, refl)

down_gap : (d e : ℤ) (p q m : ℕ) → down d ≤ m → down e ≤ m → p * down d < q * down e → down e * down d ≤ (q * down e - p * down d) * m
down_gap d e p q m D E h =
    let x = down_power d in
    let y = down_power e in
    rw (x.1, y.1) (power_gap y.0 x.0 p q m (rw y.1 at E) (rw x.1 at D) (rw (x.1, y.1) at h))

-- ---- what a format holds
-- a number's fraction has no more digits than the format's smallest number
fits_down : (f : Format) (s : Bool) (m : ℕ) (e : ℤ) → T (fits f (fin s m e)) → down e ≤ 2 ^ low f
unfolding fits
fits_down f s zero e h =
    let q : up e * down e ≡ 1 = eqb→eq (up e * down e) 1 h in
    let r : 1 * down e ≤ up e * down e = NatL.mul-le-mul_right {m = 1} {n = up e} (down e) (up_pos e) in
    NatL.le_trans (NatL.le_of_eq (sym (NatL.one-mul (down e)))) (NatL.le_trans r (NatL.le_trans (NatL.le_of_eq q) (pow_pos (low f))))
fits_down f s (suc m) e h =
    let a : Bool = eqb (suc m % 2) 1 && ltb (suc m) (2 ^ prec f) in
    let b : Bool = leb (down e) (2 ^ low f) in
    leb→le (down e) (2 ^ low f) (and_r a b (and_l (a && b) (ltb (suc m * up e) (2 ^ suc (emax f) * down e)) h))

some_large : (m u d e l : ℕ) → 0 < m → 0 < u → e ≤ l → e * d ≤ m * u * d * l
some_large m u d e l M U h =
    let w : 1 * d ≤ m * u * d = NatL.mul-le-mul_right {m = 1} {n = m * u} d (NatL.mul-pos M U) in
    NatL.le_trans (NatL.le_of_eq (NatL.mul_comm e d ∙ ap (λ z. z * e) (sym (NatL.one-mul d)))) (NatL.mul-le-mul w h)

add-clear : (f : Format) (x y : Float) → T (fits f x) → T (fits f y) → Clear x → Clear (add f x y)
unfolding add
add-clear f nan y X Y h = tt
add-clear f (inf s) nan X Y h = tt
add-clear f (inf true) (inf true) X Y h = tt
add-clear f (inf true) (inf false) X Y h = tt
add-clear f (inf false) (inf true) X Y h = tt
add-clear f (inf false) (inf false) X Y h = tt
add-clear f (inf s) (fin t n d) X Y h = tt
add-clear f (fin s m e) nan X Y h = tt
add-clear f (fin s m e) (inf t) X Y h = tt
add-clear f (fin s m e) (fin t n d) X Y h =
    let E : down e ≤ 2 ^ low f = fits_down f s m e X in
    let D : down d ≤ 2 ^ low f = fits_down f t n d Y in
    sum_clear f s (m * up e * down d) t (n * up d * down e) (down e * down d) (NatL.mul-pos (down_pos e) (down_pos d))
    (λ q. some_large m (up e) (down d) (down e) (2 ^ low f) (h q) (up_pos e) E)
    (down_gap d e (m * up e) (n * up d) (2 ^ low f) D E)
    (λ l. NatL.le_trans (NatL.le_of_eq (NatL.mul_comm (down e) (down d))) (down_gap e d (n * up d) (m * up e) (2 ^ low f) E D l))

-- ---- −0.0 as a format writes it
minus_is : minus_nought ≡ fin true 0 (pos 0)
unfolding of_bits
minus_is = refl

nought_is : nought ≡ fin false 0 (pos 0)
unfolding of_bits
nought_is = refl

clear_not : (x : Float) → Clear x → x ≡ minus_nought → ⊥
clear_not x h e = let z : 0 < 0 = subst Clear (e ∙ minus_is) h refl in omega arith

nought-clear : Clear nought
nought-clear = subst Clear (sym nought_is) (λ q. true≢false true refl (sym q))

one_exponent : (e : ℤ) → up e * down e ≡ 1 → e ≡ pos 0
one_exponent (pos zero) h = refl
one_exponent (pos (suc k)) h = absurd (omega (arith, h, NatL.pow-succ' 2 k))
one_exponent (negsuc k) h = absurd (omega (arith, h, NatL.pow-succ' 2 k))

clear_or : (x : Float) → T (fits binary64 x) → (x ≡ minus_nought) ⊎ Clear x
unfolding fits
clear_or nan h = inr tt
clear_or (inf s) h = inr tt
clear_or (fin false m e) h = inr (λ q. true≢false true refl (sym q))
clear_or (fin true (suc m) e) h = inr (λ q. omega arith)
clear_or (fin true zero e) h = inl (ap (fin true 0) (one_exponent e (eqb→eq (up e * down e) 1 h)) ∙ sym minus_is)

clear : (x : Float) → T (fits binary64 x) → (x ≡ minus_nought → ⊥) → Clear x
clear x h n = at (clear_or x h)
  where
    at : (x ≡ minus_nought) ⊎ Clear x → Clear x
    at (inl e) = absurd (n e)
    at (inr c) = c

-- ---- a profile's values
module _ (s : Profile) (i : ℕ) (owns : ℕ → Bool) (c : Choice) where
  added-clear : (w : ℕ → Float) (a : ℕ) (v : Float) (f : Trees) → T (fits binary64 v) → Clear v → Clear (added s i owns c w a v f)
  unfolding value
  added-clear w a v nil h k = k
  added-clear w a v (cons t f) h k =
      let g : Float = times (w a) (plus (edge i t) (value s i owns c t)) in
      added-clear w (suc a) (plus v g) f (add-fits binary64 v g) (add-clear binary64 v g h (mul-fits binary64 (w a) (plus (edge i t) (value s i owns c t))) k)

  added_fits : (w : ℕ → Float) (a : ℕ) (v : Float) (f : Trees) → T (fits binary64 v) → T (fits binary64 (added s i owns c w a v f))
  unfolding value
  added_fits w a v nil h = h
  added_fits w a v (cons t f) h = let g : Float = times (w a) (plus (edge i t) (value s i owns c t)) in added_fits w (suc a) (plus v g) f (add-fits binary64 v g)

  chance_fits : (f : Trees) → T (fits binary64 (value s i owns c (chance f)))
  unfolding value
  chance_fits f = added_fits _ 0 nought f (of_bits-fits binary64 0)

pub sum_signed : SumSigned
sum_signed s i owns c w a v f h n = clear_not (added s i owns c w a v f) (added-clear s i owns c w a v f h (clear v h n))

pub chance_signed : ChanceSigned
unfolding value
chance_signed s i owns c f = clear_not (value s i owns c (chance f)) (added-clear s i owns c _ 0 nought f (of_bits-fits binary64 0) nought-clear)

pub difference_signed : DifferenceSigned
unfolding sub
difference_signed x y h g e = at (clear_or x h)
  where
    at : (x ≡ minus_nought) ⊎ Clear x → x ≡ minus_nought
    at (inl q) = q
    at (inr c) = absurd (clear_not (add binary64 x (neg y)) (add-clear binary64 x (neg y) h (neg-fits binary64 y g) c) e)

pub gain_signed : GainSigned
unfolding best_value worth
gain_signed s i f e =
    let c : Choice = best s i (chance f) in
    chance_signed s i (λ j. eqb j i) c f (difference_signed (value s i (λ j. eqb j i) c (chance f)) (value s i (λ j. false) (λ k. 0) (chance f)) (chance_fits s i (λ j. eqb j i) c f) (chance_fits s i (λ j. false) (λ k. 0) f) e)

-- ---- the start of a sum
zero_sum : (f : Format) (t : Bool) (a b c : ℕ) → a ≡ 0 → (t ≡ true → 0 < b) → sum f true a t b c ≡ sum f false a t b c
unfolding sum
zero_sum f true a b c e h = let l : 0 < b = h refl in rw (lt-ltb a b (omega arith)) (ap (λ z. round f true z c) (omega arith))
zero_sum f false a b c e h = at (tested (ltb a b))
  where
    at : Tested (ltb a b) → cond (ltb a b) (round f false (b - a) c) (round f (true && ltb b a) (a - b) c) ≡ round f false (a + b) c
    at (holds p) = rw p (ap (λ z. round f false z c) (omega arith))
    at (fails p) = let l : b ≤ a = ltb-false a b p in rw (p, le-ltb b a (omega arith)) (ap (λ z. round f false z c) (omega arith))

zero_start : (f : Format) (d : Float) → Clear d → add f (fin true 0 (pos 0)) d ≡ add f (fin false 0 (pos 0)) d
unfolding add
zero_start f nan h = refl
zero_start f (inf t) h = refl
zero_start f (fin t n e) h = zero_sum f t (0 * 1 * down e) (n * up e * 1) (1 * down e) (ap (λ z. z * down e) (NatL.zero-mul 1) ∙ NatL.zero-mul (down e)) (λ q. NatL.mul-pos (NatL.mul-pos (h q) (up_pos e)) (omega arith))

pub start_signed : StartSigned
unfolding sum_from
start_signed d ds h n = ap (λ z. sum_from z ds) (ap (λ z. add binary64 z d) minus_is ∙ zero_start binary64 d (clear d h n) ∙ ap (λ z. add binary64 z d) (sym nought_is))

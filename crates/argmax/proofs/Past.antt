-- A choice past one more action: where it stands, by the test of the numbers at hand. Assumes nothing.
use Rattle.std.proofs.Common.{◌≡◌, Bool, true, false, cond, ℕ, ◌-◌, ◌≤◌, ltb, eqb, Some, None, Less, Equal, Greater, nat_cmp, refl, ap, arith}
use Rattle.std.specs.Ordering.{is_lt, is_some_and, partial_lt, float_partial_cmp}
use lib.Ieee.{Float, lt, eq}
use Rattle.argmax.specs.declared.Lead.{Lead}

-- it stands at one of the actions that it has passed
pub past_few : (t : Bool) (x c : ℕ) → c ≤ x - 1 → cond t x c ≤ x
past_few true x c l = omega arith
past_few false x c l = omega arith

module _ {S : Type 0} (l r : Lead S) (x : ℕ) (v : S) where
  moved : (t : Bool) → r ≡ cond t (record { action = x; sum = v }) l → (r.action ≡ cond t x l.action) × (r.sum ≡ cond t v l.sum)
  moved true e = (ap (λ z. z.action) e, ap (λ z. z.sum) e)
  moved false e = (ap (λ z. z.action) e, ap (λ z. z.sum) e)

-- in whole units
lt_units : (s v : ℕ) → partial_lt (λ x y. Some (nat_cmp x y)) s v ≡ ltb s v
lt_units s v = at (ltb s v) (eqb s v)
  where
    at : (b e : Bool) → is_lt (cond b Less (cond e Equal Greater)) ≡ b
    at true e = refl
    at false true = refl
    at false false = refl

pub past_units : (l r : Lead ℕ) (x v : ℕ) → r ≡ cond (partial_lt (λ x y. Some (nat_cmp x y)) l.sum v) (record { action = x; sum = v }) l
    → (r.action ≡ cond (ltb l.sum v) x l.action) × (r.sum ≡ cond (ltb l.sum v) v l.sum)
past_units l r x v e = moved l r x v (ltb l.sum v) (rw lt_units at e)

-- in f64
lt_f64 : (s v : Float) → partial_lt float_partial_cmp s v ≡ lt s v
lt_f64 s v = at (lt s v) (eq s v) (lt v s)
  where
    at : (b e g : Bool) → is_some_and is_lt (cond b (Some Less) (cond e (Some Equal) (cond g (Some Greater) None))) ≡ b
    at true e g = refl
    at false true g = refl
    at false false true = refl
    at false false false = refl

pub past_f64 : (l r : Lead Float) (x : ℕ) (v : Float) → r ≡ cond (partial_lt float_partial_cmp l.sum v) (record { action = x; sum = v }) l
    → (r.action ≡ cond (lt l.sum v) x l.action) × (r.sum ≡ cond (lt l.sum v) v l.sum)
past_f64 l r x v e = moved l r x v (lt l.sum v) (rw lt_f64 at e)

-- Laws of tests: and, or, and a test of some or of every number below a bound. Assumes nothing.
use mathlib.Core.Path.{◌≡◌, refl, sym, ap, ap₂, ◌∙◌}
use mathlib.Core.Bool.{Bool, true, false}
use Prim.Native.Nat.{ℕ, zero, suc, ◌+◌, ◌≤◌, ◌<◌}
use native.Mathlib.Numerals.{add-one}
use native.Mathlib.Omega.{arith}
use lib.Dec.{ltb, eqb}
use borrow.Author.Tests.{ltb-true, ltb-false, eq-eqb, eqb-true}
use Rattle.prelude.specs.Finite.{◌and◌, ◌or◌, some, every}

-- ---- a test and its value

pub data Tested (b : Bool) : Type 0 where
  holds : b ≡ true → Tested b
  fails : b ≡ false → Tested b

pub tested : (b : Bool) → Tested b
tested true = holds refl
tested false = fails refl

pub true≢false : {A : Type 0} → (b : Bool) → b ≡ true → b ≡ false → A
true≢false b p q = let z : ◌≡◌ {A = ℕ} 0 1 = cc in absurd (omega arith)

-- two tests that imply each other are one
pub iff : {a b : Bool} → (a ≡ true → b ≡ true) → (b ≡ true → a ≡ true) → a ≡ b
iff {a} {b} f g = go (tested a) (tested b)
  where
    go : Tested a → Tested b → a ≡ b
    go (holds p) y = p ∙ sym (f p)
    go (fails p) (holds q) = true≢false a (g q) p
    go (fails p) (fails q) = p ∙ sym q

-- two comparisons that imply each other are one
pub eqb-iff : (a b c d : ℕ) → (a ≡ b → c ≡ d) → (c ≡ d → a ≡ b) → eqb a b ≡ eqb c d
eqb-iff a b c d f g = iff (λ p. eq-eqb c d (f (eqb-true a b p))) (λ p. eq-eqb a b (g (eqb-true c d p)))

-- ---- and, or

pub both : {a b : Bool} → a ≡ true → b ≡ true → (a and b) ≡ true
unfolding ◌and◌
both p q = rw (p, q)

pub and_left : (a b : Bool) → (a and b) ≡ true → a ≡ true
unfolding ◌and◌
and_left true b e = refl
and_left false b e = e

pub and_right : (a b : Bool) → (a and b) ≡ true → b ≡ true
unfolding ◌and◌
and_right true b e = e
and_right false b e = true≢false false e refl

pub and_left_fails : {a : Bool} (b : Bool) → a ≡ false → (a and b) ≡ false
unfolding ◌and◌
and_left_fails b p = rw p

pub and_right_fails : (a : Bool) {b : Bool} → b ≡ false → (a and b) ≡ false
unfolding ◌and◌
and_right_fails true q = q
and_right_fails false q = refl

pub and_all : (b : Bool) → (b and true) ≡ b
unfolding ◌and◌
and_all true = refl
and_all false = refl

-- the first test is settled, and the second decides
pub and-rest : {a : Bool} (b : Bool) → a ≡ true → (a and b) ≡ b
unfolding ◌and◌
and-rest b p = rw p

pub or_rest : {a : Bool} (b : Bool) → a ≡ false → (a or b) ≡ b
unfolding ◌or◌
or_rest b p = rw p

pub or_left : {a : Bool} (b : Bool) → a ≡ true → (a or b) ≡ true
unfolding ◌or◌
or_left b p = rw p

pub or_right : (a : Bool) {b : Bool} → b ≡ true → (a or b) ≡ true
unfolding ◌or◌
or_right true q = refl
or_right false q = q

pub or_none : (b : Bool) → (b or false) ≡ b
unfolding ◌or◌
or_none true = refl
or_none false = refl

pub or_assoc : (a b c : Bool) → (a or (b or c)) ≡ ((a or b) or c)
unfolding ◌or◌
or_assoc true b c = refl
or_assoc false b c = refl

pub neither : {a b : Bool} → a ≡ false → b ≡ false → (a or b) ≡ false
unfolding ◌or◌
neither p q = rw (p, q)

pub or_false_left : (a b : Bool) → (a or b) ≡ false → a ≡ false
unfolding ◌or◌
or_false_left true b e = e
or_false_left false b e = refl

pub or_false_right : (a b : Bool) → (a or b) ≡ false → b ≡ false
unfolding ◌or◌
or_false_right true b e = true≢false true refl e
or_false_right false b e = e

pub or_cases : {A : Type 0} (a b : Bool) → (a or b) ≡ true → (a ≡ true → A) → (b ≡ true → A) → A
unfolding ◌or◌
or_cases true b e f g = f refl
or_cases false b e f g = g e

-- ---- some, every

-- the last number below a bound, or one below it
pub below_cases : {A : Type 0} (i n : ℕ) → i < suc n → (i < n → A) → (i ≡ n → A) → A
below_cases {A} i n h f g = go (tested (ltb i n))
  where
    go : Tested (ltb i n) → A
    go (holds p) = f (ltb-true i n p)
    go (fails p) = g (let q : n ≤ i = ltb-false i n p in omega arith)

pub some_here : (n : ℕ) (p : ℕ → Bool) (i : ℕ) → i < n → p i ≡ true → some n p ≡ true
unfolding some
some_here zero p i h e = absurd (omega arith)
some_here (suc n) p i h e = below_cases i n h (λ l. or_left (p n) (some_here n p i l e)) (λ q. or_right (some n p) (ap p (sym q) ∙ e))

pub some_at : {A : Type 0} (n : ℕ) (p : ℕ → Bool) → some n p ≡ true → ((i : ℕ) → i < n → p i ≡ true → A) → A
unfolding some
some_at zero p e f = true≢false false e refl
some_at (suc n) p e f = or_cases (some n p) (p n) e (λ q. some_at n p q (λ i h w. f i (omega arith) w)) (λ w. f n (omega arith) w)

pub none : (n : ℕ) (p : ℕ → Bool) → ((i : ℕ) → i < n → p i ≡ false) → some n p ≡ false
unfolding some
none zero p f = refl
none (suc n) p f = neither (none n p (λ i h. f i (omega arith))) (f n (omega arith))

pub none_at : (n : ℕ) (p : ℕ → Bool) → some n p ≡ false → (i : ℕ) → i < n → p i ≡ false
unfolding some
none_at zero p e i h = absurd (omega arith)
none_at (suc n) p e i h = below_cases i n h (λ l. none_at n p (or_false_left (some n p) (p n) e) i l) (λ q. ap p q ∙ or_false_right (some n p) (p n) e)

pub some_none : (p : ℕ → Bool) → some 0 p ≡ false
unfolding some
some_none p = refl

-- one number more, as a loop counts
pub none_more : (n : ℕ) (p : ℕ → Bool) → some n p ≡ false → p n ≡ false → some (n + 1) p ≡ false
unfolding some
none_more n p e f = rw add-one (neither e f)

-- a loop that has passed every number below the bound
pub none_passed : (i n : ℕ) (p : ℕ → Bool) → i ≤ n → n ≤ i → some i p ≡ false → some n p ≡ false
none_passed i n p h k e = let q : n ≡ i = omega arith in rw q e

pub some_same : (n : ℕ) (p q : ℕ → Bool) → ((i : ℕ) → i < n → p i ≡ q i) → some n p ≡ some n q
unfolding some
some_same zero p q f = refl
some_same (suc n) p q f = ap₂ ◌or◌ (some_same n p q (λ i h. f i (omega arith))) (f n (omega arith))

pub every_at : (n : ℕ) (p : ℕ → Bool) → every n p ≡ true → (i : ℕ) → i < n → p i ≡ true
unfolding every
every_at zero p e i h = absurd (omega arith)
every_at (suc n) p e i h = below_cases i n h (λ l. every_at n p (and_left (every n p) (p n) e) i l) (λ q. ap p q ∙ and_right (every n p) (p n) e)

pub all : (n : ℕ) (p : ℕ → Bool) → ((i : ℕ) → i < n → p i ≡ true) → every n p ≡ true
unfolding every
all zero p f = refl
all (suc n) p f = both (all n p (λ i h. f i (omega arith))) (f n (omega arith))

-- The laws of the integers that `lib.IntN` and `lib.Signed` lack: multiples by a natural number, and how the order goes with sums and multiples. Nothing is assumed.
use mathlib.Core.Path.{◌≡◌, refl, sym, ap, ◌∙◌}
use mathlib.Core.Logic.{◌⊎◌, inl, inr}
use mathlib.Core.Bool.{Bool, true, false, not, cond}
use Prim.Native.Nat.{ℕ, zero, suc, ◌+◌, ◌*◌, ◌-◌, ◌≤◌, ◌<◌, zero-le, suc-le-suc}
use native.Mathlib.Nat as NatL
use native.Mathlib.Omega.{arith}
use lib.Dec.{T, ltb, ltb→lt, nltb→le, leb→le, le→leb}
use lib.IntN.{ℤ, pos, negsuc, neg_ℤ, ◌+ℤ◌, +ℤ_assoc, +ℤ_comm, +ℤ_idl, +ℤ_idr, +ℤ_invr, nat_abs, suc_ℤ-*ℤ, zero-*ℤ, *ℤ-zero}
use lib.Signed.{le_z, lt_z, ◌≤ℤ◌, ◌<ℤ◌, ≤ℤ_refl, lt_z_no, lt_z_yes, clash_ℤ}
use Rattle.game_tree.specs.Sums.{◌·◌}
use Rattle.game_tree.proofs.Tests.{Tested, is, isn't, tested, T_of}

pub +ℤ-left-comm : (a b c : ℤ) → a +ℤ (b +ℤ c) ≡ b +ℤ (a +ℤ c)
+ℤ-left-comm a b c = sym (+ℤ_assoc a b c) ∙ ap (λ x. x +ℤ c) (+ℤ_comm a b) ∙ +ℤ_assoc b a c

-- both sides of an equation of sums, sorted alike
pub ruleset sums = (+ℤ_assoc, +ℤ_comm, +ℤ-left-comm, +ℤ_idl, +ℤ_idr)

pub ·-none : (z : ℤ) → 0 · z ≡ pos 0
unfolding ◌·◌
·-none z = zero-*ℤ z

pub ·-suc : (n : ℕ) (z : ℤ) → suc n · z ≡ n · z +ℤ z
unfolding ◌·◌
·-suc n z = suc_ℤ-*ℤ (pos n) z

pub ·-zero : (n : ℕ) → n · pos 0 ≡ pos 0
unfolding ◌·◌
·-zero n = *ℤ-zero (pos n)

pub ·-one : (z : ℤ) → 1 · z ≡ z
·-one z = ·-suc 0 z ∙ ap (λ x. x +ℤ z) (·-none z) ∙ +ℤ_idl z

pub ·-sum : (n : ℕ) (a b : ℤ) → n · (a +ℤ b) ≡ n · a +ℤ n · b
·-sum zero a b = rw (·-none (a +ℤ b), ·-none a, ·-none b)
·-sum (suc n) a b = rw (·-suc n (a +ℤ b), ·-suc n a, ·-suc n b, ·-sum n a b) (simp sums)

pub ·-plus : (m n : ℕ) (a : ℤ) → (m + n) · a ≡ m · a +ℤ n · a
·-plus zero n a = rw (NatL.zero-add n, ·-none a) (sym (+ℤ_idl (n · a)))
·-plus (suc m) n a = rw (NatL.suc-add m n, ·-suc (m + n) a, ·-suc m a, ·-plus m n a) (simp sums)

pub ·-mul : (m n : ℕ) (a : ℤ) → (m * n) · a ≡ m · (n · a)
·-mul zero n a = rw (NatL.zero-mul n, ·-none a, ·-none (n · a))
·-mul (suc m) n a = rw (NatL.suc-mul m n, ·-plus (m * n) n a, ·-suc m (n · a), ·-mul m n a)

-- the order, by the difference
abbrev Below : ℤ → ℤ → Type 0
Below a b = (d : ℕ) × (b ≡ a +ℤ pos d)

cond_ind : (c : Bool) (x y : ℤ) (P : ℤ → Type 0) → (T c → P x) → (T (not c) → P y) → P (cond c x y)
cond_ind true x y P f g = f tt
cond_ind false x y P f g = g tt

up' : (a : ℤ) (d : ℕ) → T (le_z a (a +ℤ pos d))
up' (pos a) d = le→leb a (a + d) (NatL.le-add_right a d)
up' (negsuc a) d = cond_ind (ltb d (suc a)) (negsuc (suc a - suc d)) (pos (d - suc a)) (λ z. T (le_z (negsuc a) z))
    (λ t. le→leb (suc a - suc d) a (omega arith)) (λ t. tt)

diff : (a b : ℤ) → T (le_z a b) → Below a b
diff (pos a) (pos b) t = let h : a ≤ b = leb→le a b t in (b - a, ap pos (omega arith))
diff (pos a) (negsuc b) t = absurd t
diff (negsuc a) (pos b) t = (
  b + suc a,
  cond_ind (ltb (b + suc a) (suc a)) (negsuc (suc a - suc (b + suc a))) (pos (b + suc a - suc a)) (λ z. pos b ≡ z)
      (λ u. let h : b + suc a < suc a = ltb→lt (b + suc a) (suc a) u in absurd (omega arith)) (λ u. ap pos (omega arith)),
)
diff (negsuc a) (negsuc b) t = let h : b ≤ a = leb→le b a t in (
  a - b,
  cond_ind (ltb (a - b) (suc a)) (negsuc (suc a - suc (a - b))) (pos (a - b - suc a)) (λ z. negsuc b ≡ z)
      (λ u. ap negsuc (omega arith)) (λ u. let k : suc a ≤ a - b = nltb→le (a - b) (suc a) u in absurd (omega arith)),
)

below : (a b : ℤ) → a ≤ℤ b → Below a b
below a b h = diff a b h.le

above : (a b : ℤ) (d : ℕ) → b ≡ a +ℤ pos d → a ≤ℤ b
above a b d e = rw e (record { le = up' a d })

pub ≤ℤ-trans : (a b c : ℤ) → a ≤ℤ b → b ≤ℤ c → a ≤ℤ c
≤ℤ-trans a b c h k =
    let (d, p) = below a b h in
    let (e, q) = below b c k in
    above a c (d + e) (q ∙ ap (λ x. x +ℤ pos e) p ∙ +ℤ_assoc a (pos d) (pos e))

pub ≤ℤ-<ℤ-trans : (a b c : ℤ) → a ≤ℤ b → b <ℤ c → a <ℤ c
≤ℤ-<ℤ-trans a b c h k = at (tested (lt_z a c))
  where
    at : Tested (lt_z a c) → a <ℤ c
    at (is e) = lt_z_yes (T_of e)
    at (isn't e) = clash_ℤ k (≤ℤ-trans c a b (lt_z_no (rw e tt)) h)

-- the inner two of four change places
pub +ℤ-four : (a b c d : ℤ) → a +ℤ b +ℤ (c +ℤ d) ≡ a +ℤ c +ℤ (b +ℤ d)
+ℤ-four a b c d = simp sums

pub +ℤ-mono : (a b c d : ℤ) → a ≤ℤ b → c ≤ℤ d → (a +ℤ c) ≤ℤ (b +ℤ d)
+ℤ-mono a b c d h k =
    let (m, p) = below a b h in
    let (n, q) = below c d k in
    above (a +ℤ c) (b +ℤ d) (m + n) (ap (λ x. x +ℤ d) p ∙ ap (λ x. a +ℤ pos m +ℤ x) q ∙ +ℤ-four a (pos m) c (pos n))

pub ·-mono : (n : ℕ) (a b : ℤ) → a ≤ℤ b → (n · a) ≤ℤ (n · b)
·-mono zero a b h = rw (·-none a, ·-none b) (≤ℤ_refl (pos 0))
·-mono (suc n) a b h = rw (·-suc n a, ·-suc n b) (+ℤ-mono (n · a) (n · b) a b (·-mono n a b h) h)

pub +ℤ-cancel : (a b c : ℤ) → (a +ℤ c) ≤ℤ (b +ℤ c) → a ≤ℤ b
+ℤ-cancel a b c h =
    let (d, p) = below (a +ℤ c) (b +ℤ c) h in
    above a b d (sym (off b c) ∙ ap (λ x. x +ℤ neg_ℤ c) p ∙ turn a c (pos d))
  where
    off : (x y : ℤ) → x +ℤ y +ℤ neg_ℤ y ≡ x
    off x y = +ℤ_assoc x y (neg_ℤ y) ∙ ap (λ z. x +ℤ z) (+ℤ_invr y) ∙ +ℤ_idr x

    swap : (x y z : ℤ) → x +ℤ y +ℤ z ≡ x +ℤ z +ℤ y
    swap x y z = simp sums

    turn : (x y z : ℤ) → x +ℤ y +ℤ z +ℤ neg_ℤ y ≡ x +ℤ z
    turn x y z = ap (λ w. w +ℤ neg_ℤ y) (swap x y z) ∙ off (x +ℤ z) y

order : (a b : ℕ) → (a ≤ b) ⊎ (b ≤ a)
order zero b = inl zero-le
order (suc a) zero = inr zero-le
order (suc a) (suc b) = at (order a b)
  where
    at : (a ≤ b) ⊎ (b ≤ a) → (suc a ≤ suc b) ⊎ (suc b ≤ suc a)
    at (inl h) = inl (suc-le-suc h)
    at (inr h) = inr (suc-le-suc h)

total : (a b : ℤ) → (a ≤ℤ b) ⊎ (b ≤ℤ a)
total (pos a) (pos b) = at (order a b)
  where
    at : (a ≤ b) ⊎ (b ≤ a) → (pos a ≤ℤ pos b) ⊎ (pos b ≤ℤ pos a)
    at (inl h) = inl (record { le = le→leb a b h })
    at (inr h) = inr (record { le = le→leb b a h })
total (pos a) (negsuc b) = inr (record { le = tt })
total (negsuc a) (pos b) = inl (record { le = tt })
total (negsuc a) (negsuc b) = at (order a b)
  where
    at : (a ≤ b) ⊎ (b ≤ a) → (negsuc a ≤ℤ negsuc b) ⊎ (negsuc b ≤ℤ negsuc a)
    at (inl h) = inr (record { le = le→leb a b h })
    at (inr h) = inl (record { le = le→leb b a h })

-- a positive factor goes
pub ·-cancel : (n : ℕ) (a b : ℤ) → 0 < n → (n · a) ≤ℤ (n · b) → a ≤ℤ b
·-cancel zero a b l h = absurd (NatL.not-suc-le-zero l)
·-cancel (suc n) a b l h = at (total a b)
  where
    at : (a ≤ℤ b) ⊎ (b ≤ℤ a) → a ≤ℤ b
    at (inl k) = k
    at (inr k) = +ℤ-cancel a b (n · b) (rw (+ℤ_comm a (n · b), +ℤ_comm b (n · b)) (≤ℤ-trans (n · b +ℤ a) (n · a +ℤ a) (n · b +ℤ b)
        (+ℤ-mono (n · b) (n · a) a a (·-mono n b a k) (≤ℤ_refl a)) (rw (·-suc n a, ·-suc n b) at h)))

pub ≤ℤ-antisym : (a b : ℤ) → a ≤ℤ b → b ≤ℤ a → a ≡ b
≤ℤ-antisym (pos a) (pos b) h k = ap pos (NatL.le_antisymm (leb→le a b h.le) (leb→le b a k.le))
≤ℤ-antisym (pos a) (negsuc b) h k = absurd h.le
≤ℤ-antisym (negsuc a) (pos b) h k = absurd k.le
≤ℤ-antisym (negsuc a) (negsuc b) h k = ap negsuc (NatL.le_antisymm (leb→le a b k.le) (leb→le b a h.le))

pub ·-cancel-eq : (n : ℕ) (a b : ℤ) → 0 < n → n · a ≡ n · b → a ≡ b
·-cancel-eq n a b l e = ≤ℤ-antisym a b (·-cancel n a b l (rw e (≤ℤ_refl (n · b)))) (·-cancel n b a l (rw e (≤ℤ_refl (n · b))))

pub <ℤ-le : (a b : ℤ) → T (lt_z a b) → a ≤ℤ b
<ℤ-le (pos a) (pos b) h = record { le = le→leb a b (NatL.le_of_suc-le (ltb→lt a b h)) }
<ℤ-le (pos a) (negsuc b) h = absurd h
<ℤ-le (negsuc a) (pos b) h = record { le = tt }
<ℤ-le (negsuc a) (negsuc b) h = record { le = le→leb b a (NatL.le_of_suc-le (ltb→lt b a h)) }

pub ·-swap : (m n : ℕ) (a : ℤ) → m · (n · a) ≡ n · (m · a)
·-swap m n a = sym (·-mul m n a) ∙ ap (λ x. x · a) (NatL.mul_comm m n) ∙ ·-mul n m a

-- ---- the size of sums and multiples
cond-size : (b : Bool) (x y : ℤ) (n : ℕ) → nat_abs x ≤ n → nat_abs y ≤ n → nat_abs (cond b x y) ≤ n
cond-size true x y n h k = h
cond-size false x y n h k = k

pub size_of_sum : (a b : ℤ) → nat_abs (a +ℤ b) ≤ nat_abs a + nat_abs b
size_of_sum (pos a) (pos b) = NatL.le_refl (a + b)
size_of_sum (pos a) (negsuc b) = cond-size (ltb a (suc b)) (negsuc (suc b - suc a)) (pos (a - suc b)) (a + suc b) (omega arith) (omega arith)
size_of_sum (negsuc a) (pos b) = cond-size (ltb b (suc a)) (negsuc (suc a - suc b)) (pos (b - suc a)) (suc a + b) (omega arith) (omega arith)
size_of_sum (negsuc a) (negsuc b) = omega arith

pub size_of_multiple : (n : ℕ) (z : ℤ) (B : ℕ) → nat_abs z ≤ B → nat_abs (n · z) ≤ n * B
size_of_multiple zero z B h = rw (·-none z) zero-le
size_of_multiple (suc n) z B h = rw (·-suc n z, NatL.suc-mul n B) (NatL.le_trans (size_of_sum (n · z) z) (NatL.add-le-add (size_of_multiple n z B h) h))

-- the size of what is lost
pub size_of_loss : (x : ℕ) → nat_abs (neg_ℤ (pos x)) ≡ x
size_of_loss zero = refl
size_of_loss (suc x) = refl

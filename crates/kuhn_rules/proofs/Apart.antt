-- A seat's turns are n places apart. Assumes nothing.
use mathlib.Core.Path.{◌≡◌, refl, sym, ap, subst, ◌∙◌}
use mathlib.Core.Bool.{Bool, true, false}
use mathlib.Core.List.{List, [], ◌∷◌}
use Prim.Native.Nat.{ℕ, zero, suc, ◌+◌, ◌*◌, ◌/◌, ◌%◌, ◌≤◌, ◌<◌}
use native.Mathlib.Nat as NatL
use native.Mathlib.Omega.{arith}
use lib.Dec.{eqb, ltb}
use lib.ListN.{length, get_or}
use Rattle.std.specs.Prelude.{Option, Some, None, IfSome, IsSomeAnd}
use Rattle.std.specs.Bool.{MatchBool}
use Rattle.std.specs.Option.{option_map}
use Rattle.std.specs.List.{HoldsAt}
use borrow.Author.Rules.{rules}
use borrow.Author.Tests.{eq-eqb, ne_eqb, eqb-true, ltb-true, ltb-false}
use Rattle.prelude.specs.Finite.{some, ◌and◌}
use Rattle.prelude.proofs.Tests.{Tested, holds, fails, tested, none, some_here, both, and_left_fails, and_right_fails}

get_or_past : (l : List ℕ) (k : ℕ) → length l ≤ k → get_or l k 0 ≡ 0
get_or_past [] k o = refl
get_or_past (x ∷ l) zero o = absurd (omega arith)
get_or_past (x ∷ l) (suc k) o = get_or_past l k (omega arith)

abbrev out : Option ℕ → ℕ
out None = 0
out (Some x) = x

module _ (h : List ℕ) (n p : ℕ) where
  -- the seat bets at place k
  abbrev pub bet_at : ℕ → Bool
  bet_at k = eqb (k % n) p and eqb (get_or h k 0) 1

  -- no seat past the last has a turn
  pub no_turn : (a : ℕ) → 1 ≤ n → n ≤ p → some a bet_at ≡ false
  no_turn a l m = none a bet_at (λ k o. and_left_fails (eqb (get_or h k 0) 1) (ne_eqb (k % n) p (λ q. omega (arith, q, NatL.mod-lt k {m = n} l))))

  -- each n-th item from place p on is a turn of the seat
  pub some_stride : {A : Type 0} (v : A → ℕ) (at src : ℕ → Option A) → p < n → ((k : ℕ) → at k ≡ src (p + k * n)) →
      ((k : ℕ) → IfSome (src k) (λ x. HoldsAt (λ y. v x ≡ y) h k)) → (k : ℕ) → IsSomeAnd (at k) (λ x. v x ≡ 1) → some (length h) bet_at ≡ true
  some_stride {A} v at src l e held k w = here (tested (ltb (p + k * n) (length h)))
    where
      read : (o : Option A) → IsSomeAnd o (λ x. v x ≡ 1) → IfSome o (λ x. HoldsAt (λ y. v x ≡ y) h (p + k * n)) → get_or h (p + k * n) 0 ≡ 1
      read None a b = absurd a
      read (Some x) a b = sym (b 0) ∙ a

      got : get_or h (p + k * n) 0 ≡ 1
      got = read (src (p + k * n)) (subst (λ o. IsSomeAnd o (λ x. v x ≡ 1)) (e k) w) (held (p + k * n))

      here : Tested (ltb (p + k * n) (length h)) → some (length h) bet_at ≡ true
      here (holds t) = some_here (length h) bet_at (p + k * n) (ltb-true (p + k * n) (length h) t)
          (both (eq-eqb ((p + k * n) % n) p (NatL.add-mul-mod_self_right p k n ∙ NatL.mod-eq_of_lt l)) (eq-eqb (get_or h (p + k * n) 0) 1 got))
      here (fails t) = let z : get_or h (p + k * n) 0 ≡ 0 = get_or_past h (p + k * n) (ltb-false (p + k * n) (length h) t) in absurd (omega (arith, z, got))

  pub none_stride : {A : Type 0} (v : A → ℕ) (at src : ℕ → Option A) → p < n → ((k : ℕ) → at k ≡ src (p + k * n)) →
      ((k d : ℕ) → k < length h → option_map v (src k) ≡ Some (get_or h k d)) → ((k : ℕ) → IfSome (at k) (λ x. v x ≡ 1 → ⊥)) → some (length h) bet_at ≡ false
  none_stride {A} v at src l e all w = none (length h) bet_at (λ i o. here i o (tested (eqb (i % n) p)))
    where
      read : (o : Option A) (y : ℕ) → option_map v o ≡ Some y → IfSome o (λ x. v x ≡ 1 → ⊥) → y ≡ 1 → ⊥
      read None y a b q = absurd (search rules)
      read (Some x) y a b q = b (ap out a ∙ q)

      here : (i : ℕ) → i < length h → Tested (eqb (i % n) p) → bet_at i ≡ false
      here i o (fails t) = and_left_fails (eqb (get_or h i 0) 1) t
      here i o (holds t) =
          let m : p + (i / n) * n ≡ i = omega (arith, eqb-true (i % n) p t, NatL.mod-add-div' i n) in
          and_right_fails (eqb (i % n) p) (ne_eqb (get_or h i 0) 1 (read (src i) (get_or h i 0) (all i 0 o)
          (subst (λ s. IfSome s (λ x. v x ≡ 1 → ⊥)) (e (i / n) ∙ ap src m) (w (i / n)))))

  -- what a chain answers over those turns, by what it answers at each
  pub strided : {A : Type 0} (P N : A → Type 0) (v : A → ℕ) (at src : ℕ → Option A) (b : Bool) (X Y : Type 0) → MatchBool b X Y →
      p < n → ((k : ℕ) → at k ≡ src (p + k * n)) → ((k : ℕ) → IfSome (src k) (λ x. HoldsAt (λ y. v x ≡ y) h k)) →
      (Y → (k d : ℕ) → k < length h → option_map v (src k) ≡ Some (get_or h k d)) → ((x : A) → P x → v x ≡ 1) → ((x : A) → N x → v x ≡ 1 → ⊥) →
      (X → (k : ℕ) × IsSomeAnd (at k) P) → (Y → (k : ℕ) → IfSome (at k) N) → b ≡ some (length h) bet_at
  strided {A} P N v at src true X Y m l e held all hit miss w u = let k = w m in sym (some_stride v at src l e held k.0 (more (at k.0) k.1))
    where
      more : (o : Option A) → IsSomeAnd o P → IsSomeAnd o (λ x. v x ≡ 1)
      more None a = a
      more (Some x) a = hit x a
  strided {A} P N v at src false X Y m l e held all hit miss w u = sym (none_stride v at src l e (all m) (λ k. more (at k) (u m k)))
    where
      more : (o : Option A) → IfSome o N → IfSome o (λ x. v x ≡ 1 → ⊥)
      more None a = a
      more (Some x) a = miss x a

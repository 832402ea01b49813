-- Results and their numbers. Assumes nothing.
use mathlib.Core.Path.{◌≡◌, ap}
use mathlib.Core.List.{List, ◌++◌}
use Prim.Native.Nat.{ℕ, zero, suc}
use native.Mathlib.Omega.{arith}
use Rattle.std.specs.Prelude.{Ok, Err}
use Rattle.refusals.specs.declared.Refusal.{Refusal}
use Rattle.refusals.specs.declared.Refusal.TheVariants.{Game, Seats, Tree, Memory, Seat, Parts, Table, Sum, Output, CardCount, Card}
use Rattle.refusals.specs.declared.Refusal.TheVariants.{CardTwice, History, Closed, Illegal, NoPublic, EarlyPublic, EndMark, Unreachable, Unfit}
use Rattle.refusals.specs.Refusals.{Check}
use Rattle.refusals.specs.Outcomes.{number, moved, wrote, moved_by, written_by}
use Rattle.refusals.specs.internal.Settled.{Settled}
use Rattle.refusals.proofs.Order.{settled_first}

-- no refusal has the number of an accepted call
pub refuses : (e : Refusal) → number e ≡ 0 → ⊥
refuses Game z = omega arith
refuses Seats z = omega arith
refuses Tree z = omega arith
refuses Memory z = omega arith
refuses Seat z = omega arith
refuses Parts z = omega arith
refuses Table z = omega arith
refuses Sum z = omega arith
refuses Output z = omega arith
refuses CardCount z = omega arith
refuses Card z = omega arith
refuses CardTwice z = omega arith
refuses History z = omega arith
refuses Closed z = omega arith
refuses Illegal z = omega arith
refuses NoPublic z = omega arith
refuses EarlyPublic z = omega arith
refuses EndMark z = omega arith
refuses Unreachable z = omega arith
refuses Unfit z = omega arith

-- checks that refuse, and others behind them
pub settled_err : (xs ys : List Check) {P Q : Type 0} (e : Refusal) → Settled xs P (number e) → Settled (xs ++ ys) Q (number e)
settled_err xs ys e s = settled_first xs ys s (refuses e)

-- ---- answers, where the checks give the number q

module _ {S : Type 0} (s : S) where
  pub moved_ok : (q : ℕ) (t u : S) → q ≡ 0 → u ≡ t → moved_by s (Ok u) ≡ moved q s t
  moved_ok zero t u e w = ap (λ x. record { refusal = zero; state = x }) w
  moved_ok (suc q) t u e w = absurd (omega arith)

  pub moved_err : (e : Refusal) (q : ℕ) (t : S) → number e ≡ q → moved_by s (Err e) ≡ moved q s t
  moved_err e zero t w = absurd (refuses e w)
  moved_err e (suc q) t w = ap (λ k. record { refusal = k; state = s }) w

  pub written_ok : (q k j : ℕ) → q ≡ 0 → j ≡ k → written_by s (Ok j) ≡ wrote q s k
  written_ok zero k j e w = ap (λ x. record { refusal = zero; state = s; count = x }) w
  written_ok (suc q) k j e w = absurd (omega arith)

  pub written_err : (e : Refusal) (q k : ℕ) → number e ≡ q → written_by s (Err e) ≡ wrote q s k
  written_err e zero k w = absurd (refuses e w)
  written_err e (suc q) k w = ap (λ x. record { refusal = x; state = s; count = 0 }) w

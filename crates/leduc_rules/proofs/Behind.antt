-- The seat to act has never paid more than the other, and less exactly when it is behind. Assumes nothing.
use mathlib.Core.Path.{◌≡◌, refl, sym, ap, subst, ◌∙◌}
use mathlib.Core.Bool.{Bool, true, false, cond}
use mathlib.Core.List.{List, []}
use Prim.Native.Nat.{ℕ, suc, ◌+◌, ◌-◌, ◌%◌, ◌≤◌, ◌<◌}
use native.Mathlib.Nat as NatL
use native.Mathlib.Omega.{arith}
use lib.Dec.{eqb, ltb}
use lib.ListN.{length, get_or}
use borrow.Author.Tests.{eqb-true, eqb-false, ltb-true, lt-ltb, le-ltb}
use Rattle.std.specs.Prelude.{Option}
use Rattle.prelude.specs.Finite.{◌and◌, ◌or◌, some}
use Rattle.prelude.proofs.Tests.{Tested, holds, fails, tested, iff, true≢false, and_left, and_right, and_right_fails, or_cases}
use Rattle.leduc_betting.specs.Betting.{CALL, RAISE, ends_with, folded, closes, behind, in_play, turn, played}
use Rattle.leduc_betting.proofs.Rounds.{all_of, rounds, round_rule}
use Rattle.leduc_rules.specs.Rules.{live, put_in, added, contribution}
use Rattle.leduc_rules.specs.Moves.{Reached}
use Rattle.leduc_rules.specs.Facts.{BehindPaysLess, NeverAhead}
use Rattle.leduc_rules.proofs.Money.{acting, other, called, raised, closed-level}
use Rattle.leduc_rules.proofs.Moves.{reached_parts, still_hidden, hidden_none, goes_on}
use Rattle.leduc_rules.proofs.Moves as Moves

-- the seat to act has paid x and the other y; b says whether it is behind, and P that the raises are positive
record Level (P : Type 0) (b : Bool) (x y : ℕ) : Type 0 where
  no_more : x ≤ y
  level : b ≡ false → x ≡ y
  less : P → b ≡ ltb x y

even : {P : Type 0} (b : Bool) (x y : ℕ) → b ≡ false → y ≡ x → Level P b x y
even b x y e q = record { no_more = omega arith; level = λ f. sym q; less = λ p. e ∙ sym (le-ltb x y (omega arith)) }

short : {P : Type 0} (b : Bool) (x y size : ℕ) → b ≡ true → y ≡ x + size → (P → 0 < size) → Level P b x y
short b x y size e q f = record { no_more = omega arith; level = λ g. true≢false b e g; less = λ p. let w = f p in e ∙ sym (lt-ltb x y (omega arith)) }

-- both have paid u more, and the raises are positive if Q says so
shifted : {P Q : Type 0} (u : ℕ) {b : Bool} {x y x' y' : ℕ} → (Q → P) → Level P b x y → x' ≡ u + x → y' ≡ u + y → Level Q b x' y'
shifted u {b} {x} {y} {x'} {y'} f v p q =
    let n = v.no_more in
    record {
      no_more = omega arith;
      level = λ e. let l = v.level e in omega arith;
      less = λ w. v.less (f w) ∙ iff (λ t. lt-ltb x' y' (let l = ltb-true x y t in omega arith)) (λ t. lt-ltb x y (let l = ltb-true x' y' t in omega arith));
    }

-- ---- in a round

-- the last action is CALL or RAISE, unless a seat has folded
last_known : List ℕ → Bool
last_known h = eqb (length h) 0 or (ends_with CALL h or (ends_with RAISE h or folded h))

all_known : all_of last_known rounds ≡ true
unfolding all_of last_known rounds ◌and◌ ◌or◌ some ends_with folded
all_known = refl

last_is : (h : List ℕ) (a : ℕ) → ends_with a h ≡ true → (length h ≡ suc (length h - 1)) × (get_or h (length h - 1) 0 ≡ a)
unfolding ends_with
last_is h a e = let l = ltb-true 0 (length h) (and_left (ltb 0 (length h)) _ e) in (omega arith, eqb-true _ a (and_right (ltb 0 (length h)) _ e))

module _ (size : ℕ) (h : List ℕ) where
  abbrev Now : Type 0
  Now = Level (0 < size) (behind h) (acting size h (length h)) (other size h (length h))

  at_start : length h ≡ 0 → Now
  unfolding behind ends_with ◌and◌ put_in
  at_start e = even (behind h) _ _ (rw e refl) (rw e refl)

  after_call : ends_with CALL h ≡ true → Now
  unfolding behind ends_with
  after_call e =
      let (n, c) = last_is h CALL e in
      even (behind h) _ _ (and_right_fails (ltb 0 (length h)) (ap (λ a. eqb a RAISE) c)) (ap (λ k. other size h k) n ∙ called size h (length h - 1) c ∙ ap (λ k. acting size h k) (sym n))

  after_raise : ends_with RAISE h ≡ true → Now
  unfolding behind
  after_raise e =
      let (n, c) = last_is h RAISE e in
      short (behind h) _ _ size e (ap (λ k. other size h k) n ∙ raised size h (length h - 1) c ∙ ap (λ k. acting size h k + size) (sym n)) (λ w. w)

  in_round : played [] h ≡ true → folded h ≡ false → Now
  unfolding last_known
  in_round e f =
      or_cases (eqb (length h) 0) _ (round_rule last_known all_known h e) (λ q. at_start (eqb-true (length h) 0 q))
      (λ q. or_cases (ends_with CALL h) _ q after_call (λ r. or_cases (ends_with RAISE h) (folded h) r after_raise (λ t. true≢false (folded h) t f)))

-- ---- in the hand

module _ (ante raise₁ raise₂ : ℕ) where
  abbrev Whole : Bool → List ℕ → List ℕ → ℕ → Type 0
  Whole b h₁ h₂ t = Level ((0 < raise₁) × (0 < raise₂)) b (contribution ante raise₁ raise₂ h₁ h₂ t) (contribution ante raise₁ raise₂ h₁ h₂ (1 - t))

  in_first : (h₁ : List ℕ) → played [] h₁ ≡ true → folded h₁ ≡ false → Whole (behind h₁) h₁ [] (length h₁ % 2)
  unfolding contribution put_in
  in_first h₁ e f = shifted ante (λ (x, y). x) (in_round raise₁ h₁ e f) (NatL.add-zero _) (NatL.add-zero _)

  -- after round 1 both seats are level
  level_first : (h₁ : List ℕ) (n : ℕ) → closes h₁ ≡ true → added raise₁ h₁ (1 - n % 2) ≡ added raise₁ h₁ (n % 2)
  level_first h₁ n c = go (tested (eqb (n % 2) 0))
    where
      go : Tested (eqb (n % 2) 0) → added raise₁ h₁ (1 - n % 2) ≡ added raise₁ h₁ (n % 2)
      go (holds t) = let z : n % 2 ≡ 0 = eqb-true (n % 2) 0 t in rw z (sym (closed-level raise₁ h₁ c))
      go (fails t) = let z : n % 2 ≡ 1 = (let f = eqb-false (n % 2) 0 t in omega arith) in rw z (closed-level raise₁ h₁ c)

  in_second : (h₁ h₂ : List ℕ) → closes h₁ ≡ true → played [] h₂ ≡ true → folded h₂ ≡ false → Whole (behind h₂) h₁ h₂ (length h₂ % 2)
  unfolding contribution
  in_second h₁ h₂ c e f =
      shifted (ante + added raise₁ h₁ (length h₂ % 2)) (λ (x, y). y) (in_round raise₂ h₂ e f) refl (ap (λ x. ante + x + added raise₂ h₂ (1 - length h₂ % 2)) (level_first h₁ (length h₂) c))

  in_hand : (cs : List ℕ) (p : Option ℕ) (h₁ h₂ : List ℕ) → Reached cs p h₁ h₂ → live cs p h₁ h₂ ≡ true → Whole (behind (in_play h₁ h₂)) h₁ h₂ (turn h₁ h₂)
  unfolding in_play turn
  in_hand cs p h₁ h₂ r l = go (tested (closes h₁))
    where
      At : Bool → List ℕ → Type 0
      At b h = Whole (behind (cond b h h₁)) h₁ h (length (cond b h h₁) % 2)

      go : Tested (closes h₁) → At (closes h₁) h₂
      go (holds c) = subst (λ b. At b h₂) (sym c) (in_second h₁ h₂ c (reached_parts r).second-played (goes_on h₂ (Moves.acting cs p h₁ h₂ l).second_open).0)
      go (fails c) =
          subst (At (closes h₁)) (sym (hidden_none (reached_parts r) (still_hidden (reached_parts r) c)))
          (subst (λ b. At b []) (sym c) (in_first h₁ (reached_parts r).first_played (Moves.acting cs p h₁ h₂ l).first_unfolded))

pub behind-pays_less : BehindPaysLess
behind-pays_less ante raise₁ raise₂ x y cs p h₁ h₂ r l = (in_hand ante raise₁ raise₂ cs p h₁ h₂ r l).less (x, y)

pub never_ahead : NeverAhead
never_ahead ante raise₁ raise₂ cs p h₁ h₂ r l = let v = in_hand ante raise₁ raise₂ cs p h₁ h₂ r l in (v.no_more, v.level)

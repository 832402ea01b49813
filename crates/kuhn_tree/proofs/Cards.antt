-- The cards left: which they are, and how many. Assumes nothing.
use mathlib.Core.Path.{◌≡◌, refl, sym, ap, ◌∙◌}
use mathlib.Core.Bool.{Bool, true, false, not}
use mathlib.Core.List.{List, [], ◌∷◌, ◌++◌}
use Prim.Native.Nat.{ℕ, zero, suc, ◌+◌, ◌≤◌, ◌<◌}
use native.Mathlib.Numerals.{add-one}
use native.Mathlib.Omega.{arith}
use lib.Dec.{eqb, leb}
use lib.ListN.{length, length-append}
use borrow.Author.Tests.{eqb-true, eqb-false, eq-eqb, ne_eqb, leb-true, le-leb}
use Rattle.prelude.specs.Finite.{◌and◌, ◌or◌, those, has}
use Rattle.prelude.proofs.Tests.{Tested, holds, fails, tested, both, and_left, and_right_fails, or_right, or_none}
use Rattle.prelude.proofs.Lists.{has_append, those_kept, those_passed}
use Rattle.game_tree.proofs.Counting.{In}
use Rattle.game_tree.proofs.Numbers.{in_those, those_in}
use Rattle.kuhn_rules.specs.Rules.{left, remaining}

-- ---- one number fewer
module _ (p q : ℕ → Bool) (c : ℕ) (same : (x : ℕ) → (x ≡ c → ⊥) → q x ≡ p x) (out : q c ≡ false) where
  those_above : (n : ℕ) → n ≤ c → those n q ≡ those n p
  unfolding those
  those_above zero l = refl
  those_above (suc n) l = at (tested (p n)) (those_above n (omega arith))
    where
      q_is : q n ≡ p n
      q_is = same n (λ e. omega arith)

      at : Tested (p n) → those n q ≡ those n p → those (suc n) q ≡ those (suc n) p
      at (holds e) h = those_kept q n (q_is ∙ e) ∙ ap (λ l. l ++ (n ∷ [])) h ∙ sym (those_kept p n e)
      at (fails e) h = those_passed q n (q_is ∙ e) ∙ h ∙ sym (those_passed p n e)

  pub those_without : (n : ℕ) → c < n → p c ≡ true → suc (length (those n q)) ≡ length (those n p)
  those_without zero l e = absurd (omega arith)
  those_without (suc n) l e = at (tested (eqb n c)) (tested (p n)) (λ w. those_without n w e)
    where
      at : Tested (eqb n c) → Tested (p n) → (c < n → suc (length (those n q)) ≡ length (those n p)) → suc (length (those (suc n) q)) ≡ length (those (suc n) p)
      at (holds w) v f = let z : n ≡ c = eqb-true n c w in
          omega (arith, ap length (those_passed q n (ap q z ∙ out)), ap length (those_above n (omega arith)), ap length (those_kept p n (ap p z ∙ e)), length-append (those n p) (n ∷ []))
      at (fails w) (holds v) f = let z : n ≡ c → ⊥ = eqb-false n c w in
          omega (arith, f (omega arith), ap length (those_kept q n (same n z ∙ v)), length-append (those n q) (n ∷ []), ap length (those_kept p n v), length-append (those n p) (n ∷ []))
      at (fails w) (fails v) f = let z : n ≡ c → ⊥ = eqb-false n c w in
          omega (arith, f (omega arith), ap length (those_passed q n (same n z ∙ v)), ap length (those_passed p n v))

-- ---- the cards left
pub left_of_in : (n : ℕ) (cs : List ℕ) (c : ℕ) → In c (remaining n cs) → left n cs c ≡ true
unfolding remaining
left_of_in n cs c w = (in_those (left n cs) (n + 1) c w).1

pub in_of_left : (n : ℕ) (cs : List ℕ) (c : ℕ) → left n cs c ≡ true → In c (remaining n cs)
unfolding remaining left
in_of_left n cs c e = those_in (left n cs) (n + 1) c (let l : c ≤ n = leb-true c n (and_left (leb c n) (not (has c cs)) e) in omega arith) e

has_self : (c : ℕ) → has c (c ∷ []) ≡ true
unfolding has ◌or◌
has_self c = rw (eq-eqb c c refl)

has_other : (c x : ℕ) → (x ≡ c → ⊥) → has x (c ∷ []) ≡ false
unfolding has ◌or◌
has_other c x d = rw (ne_eqb c x (λ e. d (sym e)))

module _ (n : ℕ) (cs : List ℕ) (c : ℕ) where
  -- once c is dealt, every other card is left as before, and c is not
  pub left_other : (x : ℕ) → (x ≡ c → ⊥) → left n (cs ++ (c ∷ [])) x ≡ left n cs x
  unfolding left
  left_other x d = ap (λ b. leb x n and not b) (has_append x cs (c ∷ []) ∙ ap (◌or◌ (has x cs)) (has_other c x d) ∙ or_none (has x cs))

  pub left_itself : left n (cs ++ (c ∷ [])) c ≡ false
  unfolding left
  left_itself = and_right_fails (leb c n) (ap not (has_append c cs (c ∷ []) ∙ or_right (has c cs) (has_self c)))

  -- one card fewer
  pub remaining_less : In c (remaining n cs) → suc (length (remaining n (cs ++ (c ∷ [])))) ≡ length (remaining n cs)
  unfolding remaining
  remaining_less w = those_without (left n cs) (left n (cs ++ (c ∷ []))) c left_other left_itself (n + 1) (in_those (left n cs) (n + 1) c w).0 (left_of_in n cs c w)

-- at the start all n + 1 cards are left
all_those : (n b : ℕ) → n ≤ suc b → length (those n (left b [])) ≡ n
unfolding left has those
all_those zero b l = refl
all_those (suc n) b l = ap length (those_kept (left b []) n all_left) ∙ length-append (those n (left b [])) (n ∷ []) ∙ ap (λ k. k + 1) (all_those n b (omega arith)) ∙ add-one n
  where
    all_left : left b [] n ≡ true
    all_left = both (le-leb n b (omega arith)) refl

pub remaining_all : (n : ℕ) → length (remaining n []) ≡ suc n
unfolding remaining
remaining_all n = all_those (n + 1) n (omega arith) ∙ add-one n

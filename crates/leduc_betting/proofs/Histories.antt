-- Laws of the betting in one round. Assumes nothing.
use mathlib.Core.Path.{◌≡◌, refl, sym, ap, ◌∙◌}
use mathlib.Core.Bool.{Bool, true, false, not, cond}
use mathlib.Core.List.{List, [], ◌∷◌, ◌++◌, append-nil}
use Prim.Native.Nat.{ℕ, zero, suc, ◌-◌, ◌≤◌, ◌<◌}
use native.Mathlib.Omega.{arith}
use lib.Dec.{eqb, ltb}
use lib.ListN.{length}
use Rattle.std.specs.Prelude.{Option, Some, None, option_copied, slice_get}
use Rattle.std.specs.Option.{option_eq}
use Rattle.std.proofs.lemmas.Option.{none-some, slice_get-get_or, get_or_from_slice_get}
use denote.Ref.{Bor}
use Rattle.prelude.specs.Finite.{◌and◌, ◌or◌, those}
use Rattle.prelude.proofs.Lists.{those_kept, those_passed}
use borrow.Author.Tests.{ne_eqb, ltb-true, ltb-false, lt-ltb}
use Rattle.prelude.proofs.Tests.{Tested, holds, fails, tested, or_none, true≢false}
use Rattle.leduc_betting.specs.Betting.{FOLD, CALL, RAISE, ends_with, behind, raises, may, options}

-- the last action, where there is one, beside a
pub last_ends : (h : List ℕ) (a : ℕ) (r : Option (Bor ℕ)) (x : Bor ℕ) → x.now ≡ a → option_copied r ≡ slice_get h (length h - 1)
    → option_eq (λ y z. eqb y.now z.now) r (Some x) ≡ ends_with a h
unfolding ends_with ◌and◌
last_ends [] a None x w e = refl
last_ends [] a (Some y) x w e = absurd (none-some y.now (sym e))
last_ends (b ∷ h) a None x w e = absurd (none-some _ (e ∙ slice_get-get_or (b ∷ h) (length (b ∷ h) - 1) 0 (omega arith)))
last_ends (b ∷ h) a (Some y) x w e =
    rw (w, lt-ltb 0 (length (b ∷ h)) (omega arith), get_or_from_slice_get (b ∷ h) (length (b ∷ h) - 1) y.now 0 (sym e)) refl

-- ---- what is legal, action by action

pub may_fold : (h : List ℕ) → may h FOLD ≡ ends_with RAISE h
unfolding may behind ◌and◌ ◌or◌
may_fold h = or_none (ends_with RAISE h)

pub may_call : (h : List ℕ) → may h CALL ≡ true
unfolding may ◌and◌ ◌or◌
may_call h = refl

pub may_raise : (h : List ℕ) → may h RAISE ≡ ltb (raises h) 2
unfolding may ◌and◌ ◌or◌
may_raise h = refl

pub may-other : (h : List ℕ) (a : ℕ) → (a ≡ FOLD → ⊥) → (a ≡ RAISE → ⊥) → may h a ≡ eqb a CALL
unfolding may ◌and◌ ◌or◌
may-other h a f r = rw (ne_eqb a 0 f, ne_eqb a 2 r) (or_none (eqb a 1))

-- a legal action is one of the three
pub may-small : (h : List ℕ) (a : ℕ) → may h a ≡ true → a ≤ 2
may-small h a e = go (tested (ltb 2 a))
  where
    go : Tested (ltb 2 a) → a ≤ 2
    go (holds p) =
        let w : 2 < a = ltb-true 2 a p in
        true≢false (may h a) e (may-other h a (omega arith) (omega arith) ∙ ne_eqb a 1 (omega arith))
    go (fails p) = ltb-false 2 a p

pub positive : (n : ℕ) → ltb 0 n ≡ not (eqb n 0)
positive zero = refl
positive (suc n) = lt-ltb 0 (suc n) (omega arith) ∙ ap not (sym (ne_eqb (suc n) 0 (omega arith)))

-- ---- the legal actions

those_none : (p : ℕ → Bool) → those 0 p ≡ []
unfolding those
those_none p = refl

module _ (h : List ℕ) (x y : Bool) (f : ends_with RAISE h ≡ x) (r : ltb (raises h) 2 ≡ y) where
  pub options_as : options h ≡ cond x (FOLD ∷ []) [] ++ (CALL ∷ []) ++ cond y (RAISE ∷ []) []
  unfolding options
  options_as = third y r ∙ ap (λ l. l ++ cond y (RAISE ∷ []) []) (those_kept (may h) 1 (may_call h) ∙ ap (λ l. l ++ (CALL ∷ [])) (first x f))
    where
      first : (b : Bool) → ends_with RAISE h ≡ b → those 1 (may h) ≡ cond b (FOLD ∷ []) []
      first true e = those_kept (may h) 0 (may_fold h ∙ e) ∙ ap (λ l. l ++ (FOLD ∷ [])) (those_none (may h))
      first false e = those_passed (may h) 0 (may_fold h ∙ e) ∙ those_none (may h)

      third : (b : Bool) → ltb (raises h) 2 ≡ b → those 3 (may h) ≡ those 2 (may h) ++ cond b (RAISE ∷ []) []
      third true e = those_kept (may h) 2 (may_raise h ∙ e)
      third false e = those_passed (may h) 2 (may_raise h ∙ e) ∙ sym (append-nil (those 2 (may h)))

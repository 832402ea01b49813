-- The fact of specs/Facts.antt, proved, and what gives its premise. Assumes nothing.
use mathlib.Core.Path.{◌≡◌, refl, ap, ◌∙◌}
use mathlib.Core.Bool.{true, false}
use mathlib.Core.List.{List, [], ◌∷◌, ◌++◌}
use Prim.Native.Nat.{ℕ, zero, suc, ◌<◌}
use native.Mathlib.Omega.{arith}
use Rattle.refusals.specs.Refusals.{Check, ◌refuses◌, first}
use Rattle.refusals.specs.Facts.{Numbered, NoneHolds, FirstHolds, Decides, FirstDecides}

-- ---- numbers above 0

pub numbered_append : (cs ds : List Check) → Numbered cs → Numbered ds → Numbered (cs ++ ds)
numbered_append [] ds v w = w
numbered_append ((b refuses zero) ∷ cs) ds v w = v
numbered_append ((b refuses suc k) ∷ cs) ds v w = numbered_append cs ds v w

-- ---- the first test that holds

none_accepts : (cs : List Check) → NoneHolds cs → first cs ≡ 0
unfolding NoneHolds
none_accepts [] v = refl
none_accepts ((b refuses k) ∷ cs) (e, v) = rw e (none_accepts cs v)

accepted_none : (cs : List Check) → Numbered cs → first cs ≡ 0 → NoneHolds cs
unfolding NoneHolds
accepted_none [] w e = tt
accepted_none ((b refuses zero) ∷ cs) w e = absurd w
accepted_none ((true refuses suc k) ∷ cs) w e = absurd (omega arith)
accepted_none ((false refuses suc k) ∷ cs) w e = (refl, accepted_none cs w e)

first_number : (front behind : List Check) (k : ℕ) → NoneHolds front → first (front ++ ((true refuses k) ∷ behind)) ≡ k
unfolding NoneHolds
first_number [] behind k v = refl
first_number ((b refuses j) ∷ front) behind k (e, v) = rw e (first_number front behind k v)

number_first : (cs : List Check) (k : ℕ) → 0 < k → first cs ≡ k → FirstHolds k cs
unfolding NoneHolds
number_first [] k l e = absurd (omega arith)
number_first ((true refuses j) ∷ cs) k l e = ([], cs, ap (λ i. (true refuses i) ∷ cs) e, tt)
number_first ((false refuses j) ∷ cs) k l e =
    let (front, behind, q, v) = number_first cs k l e in
    ((false refuses j) ∷ front, behind, ap (λ ds. (false refuses j) ∷ ds) q, (refl, v))

pub first_decides : FirstDecides
first_decides cs w =
    record {
      accepts = (accepted_none cs w, none_accepts cs);
      numbers = λ k l. (number_first cs k l, λ (front, behind, q, v). ap first q ∙ first_number front behind k v);
    }

-- a call that answers first's number
pub decides_by : {r : ℕ} (cs : List Check) → Numbered cs → r ≡ first cs → Decides cs r
decides_by cs w e = rw e (first_decides cs w)

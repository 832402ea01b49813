-- What is settled where a `?` leaves. Assumes nothing.
use mathlib.Core.Path.{◌≡◌}
use mathlib.Core.List.{List, ◌++◌}
use Rattle.std.specs.Prelude.{Result, IsErrAnd}
use Rattle.std.proofs.lemmas.Result.{err_from_is_err_and}
use Rattle.refusals.specs.declared.Refusal.{Refusal}
use Rattle.refusals.specs.Refusals.{Check}
use Rattle.refusals.specs.Outcomes.{number, number_of}
use Rattle.refusals.specs.internal.Settled.{Settled}
use Rattle.refusals.proofs.Outcomes.{settled_err}

-- the refusal e of the checks xs is handed on, whatever checks stand behind them
pub settled_exit : (xs ys : List Check) {P Q A : Type 0} (r : Result A Refusal) (e : Refusal)
    → IsErrAnd r (λ y. y ≡ e) → Settled xs P (number e) → Settled (xs ++ ys) Q (number_of r)
settled_exit xs ys r e h s = let (y, is, same) = err_from_is_err_and r h in rw (is, same) (settled_err xs ys e s)

-- What is left of a test whose one side is known. Assumes nothing.
use mathlib.Core.Path.{◌≡◌, refl}
use mathlib.Core.Bool.{Bool, true, false}
use Rattle.std.proofs.lemmas.Bool.Decides.{nat_tests}
use Rattle.prelude.specs.Finite.{◌and◌, ◌or◌}

pub true-and : (b : Bool) → (true and b) ≡ b
unfolding ◌and◌
true-and b = refl

pub false-and : (b : Bool) → (false and b) ≡ false
unfolding ◌and◌
false-and b = refl

pub and-false : (b : Bool) → (b and false) ≡ false
unfolding ◌and◌
and-false true = refl
and-false false = refl

pub true-or : (b : Bool) → (true or b) ≡ true
unfolding ◌or◌
true-or b = refl

pub false-or : (b : Bool) → (false or b) ≡ b
unfolding ◌or◌
false-or b = refl

pub or-true : (b : Bool) → (b or true) ≡ true
unfolding ◌or◌
or-true true = refl
or-true false = refl

-- by these and its tests of numbers `grind` finds most goals on a test of several parts
pub ruleset tests = (nat_tests, true-and, false-and, and-false, true-or, false-or, or-true)

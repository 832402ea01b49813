use mathlib.Core.Path.{refl, sym, ◌∙◌, subst}
use lib.Dec.{T}
use lib.Ieee.{binary64}
use lib.Ieee.Bits.{of_bits-to_bits}
use Rattle.f64_numbers.proofs.Patterns.{mark}
use Rattle.f64_numbers.proofs.pack.Goals as goal

pub returns-then-is_nan : goal.returns-then-is_nan
returns-then-is_nan c = (mark c.args.x (sym c.is_nan.ensures.value ∙ c.if-is_nan.true), of_bits-to_bits binary64 c.args.x (subst T (sym c.well_formed.0.1) tt))

pub returns-else-is_nan : goal.returns-else-is_nan
returns-else-is_nan c = (refl, of_bits-to_bits binary64 c.args.x (subst T (sym c.well_formed.0.1) tt))

-- Minus infinity, as a choice in f64 starts with it. Assumes nothing.
use mathlib.Core.Path.{◌≡◌, refl}
use mathlib.Core.Bool.{true}
use lib.Ieee.{inf, binary64, of_bits}

pub lowest-bits : of_bits binary64 18442240474082181120 ≡ inf true
unfolding of_bits
lowest-bits = refl

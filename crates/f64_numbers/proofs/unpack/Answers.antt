use mathlib.Core.Path.{◌∙◌}
use Rattle.f64_numbers.proofs.Patterns.{above, within, nan-bits}
use Rattle.f64_numbers.proofs.unpack.Goals as goal

pub float_from_bits-result : goal.float_from_bits-result
float_from_bits-result c = within c.args.x c.if-x-gt9218868437227405312.false

pub returns-then-x-gt9218868437227405312 : goal.returns-then-x-gt9218868437227405312
returns-then-x-gt9218868437227405312 c = nan-bits ∙ above c.args.x c.if-x-gt9218868437227405312.true

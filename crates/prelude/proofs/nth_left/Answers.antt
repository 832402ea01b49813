-- The number at a place among those left. Assumes nothing.
use native.Mathlib.Omega.{arith}
use Rattle.std.proofs.Common.{rules, tests}
use Rattle.std.proofs.lemmas.Iterator.{YieldsList-from_range}
use Rattle.std.proofs.lemmas.Iterator.Consumers.{YieldsList-from_filter, nth_from_yields_List}
use Rattle.prelude.proofs.Bytes.{nth_filtered}
use Rattle.prelude.proofs.nth_left.Goals as goal

pub returns : goal.returns
returns c = nth_filtered c.args.bytes.now c.args.bound c.args.place c.nth.result
    (nth_from_yields_List c.nth.result c.nth.new.self c.args.place c.nth.ensures.ran
    (YieldsList-from_filter _ _ (YieldsList-from_range 0 c.args.bound c.args.bound (cc) (omega arith)) c.filter.ensures.closure
    (λ x r q k. search (rules, tests))))

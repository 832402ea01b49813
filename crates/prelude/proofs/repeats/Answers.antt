-- Whether a byte stands twice: none of those passed has come before. Assumes nothing.
use mathlib.Core.Path.{sym, ap, ◌∙◌}
use lib.Dec.{eqb}
use lib.ListN.{take}
use Rattle.std.specs.List.{list_any}
use borrow.Author.Rules.{rules}
use Rattle.prelude.proofs.Bytes.{has_any}
use Rattle.prelude.proofs.Tests.{some_none, none_more, some_here}
use Rattle.prelude.proofs.repeats.Goals as goal

pub loop-i-init : goal.loop-i-init
loop-i-init c = some_none _

pub returns-then-contains : goal.returns-then-contains
returns-then-contains c = sym (some_here _ _ c.loop-i.i (search rules) (has_any _ _ ∙ ap (λ x. list_any (λ b. eqb b x) (take c.loop-i.i c.args.bytes.now)) (sym c.from.ensures) ∙ sym c.contains.ensures ∙ c.if-contains.true))

pub loop-i-preserved : goal.loop-i-preserved
loop-i-preserved c = none_more _ _ c.loop-i.invariant (has_any _ _ ∙ ap (λ x. list_any (λ b. eqb b x) (take c.loop-i.i c.args.bytes.now)) (sym c.from.ensures) ∙ sym c.contains.ensures ∙ c.if-contains.false)

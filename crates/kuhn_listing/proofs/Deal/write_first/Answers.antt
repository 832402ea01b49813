-- The record of a node that is the first of its set. Assumes nothing.
use Rattle.std.proofs.Common.{sym, ◌∙◌, arith}
use Rattle.kuhn_listing.proofs.Steps.{wrote-later, node-length, wrote_here}
use Rattle.kuhn_listing.proofs.Deal.write_first.Goals as goal

pub returns-then-not-is_first : goal.returns-then-not-is_first
returns-then-not-is_first c = wrote-later _ _ c.args.history.now _ (sym c.is_first.ensures ∙ c.if-not-is_first.true)

pub put-requires-clause-room : goal.put-requires-clause-room
put-requires-clause-room c = omega (arith, c.requires.room, node-length _ _ c.args.history.now (sym c.is_first.ensures ∙ c.if-not-is_first.false))

pub returns : goal.returns
returns c = wrote_here _ _ c.args.history.now _ _ c.as_slice.result.now (sym c.is_first.ensures ∙ c.if-not-is_first.false) (c.as_slice.ensures.value ∙ c.key_of-key.ensures) c.put.ensures

-- A share of units, by an even division or by its own. Assumes nothing.
use Rattle.std.proofs.Common.{◌*◌, ◌/◌, ap, ◌∙◌, arith}
use Rattle.units.proofs.Passing.{share-few, even-share, even_part}
use Rattle.units.proofs.shares.Table.share.Goals as goal

pub returns-then-each-whole : goal.returns-then-each-whole
returns-then-each-whole c = let a = c.args in (
  even_part a.u a.each c.from-part.result a.self.now.parts c.requires.0 c.if-whole-part.false c.if-each-whole.true,
  λ q. even-share a.u a.each c.from-part.result a.self.now.parts a.self.now.least c.if-each-whole.true
      ∙ ap (λ x. a.u * x / a.self.now.parts) c.from-part.ensures,
)

pub returns : goal.returns
returns c = let a = c.args in
    let e = c.decision_share.ensures in let l = share-few a.u c.from-part.result a.self.now.parts c.if-whole-part.false in
    (omega (arith, e, l, c.requires.0), λ q. e ∙ ap (λ x. a.u * x / a.self.now.parts) c.from-part.ensures)

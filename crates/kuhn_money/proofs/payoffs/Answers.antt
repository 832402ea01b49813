-- The payoffs of the seats passed; 0 past them. Assumes nothing.
use mathlib.Core.Path.{◌≡◌, sym, ap, ◌∙◌}
use mathlib.Core.Bool.{true, not}
use borrow.Author.Rules.{rules}
use native.Mathlib.Omega.{arith}
use lib.Dec.{eqb}
use lib.ListN.{length, get_or}
use mir.Syntax.{w64}
use mir.Val.{to_z, of_z}
use Rattle.kuhn_rules.specs.Rules.{stands, wins}
use Rattle.kuhn_rules.proofs.Histories.{bet-made_any}
use Rattle.kuhn_rules.proofs.Winner.{contribution_in, paid_none, paid_more, paid_all, wins-highest, folds_lose}
use Rattle.kuhn_money.proofs.payoffs.Goals as goal
use Rattle.kuhn_money.proofs.payoffs.Goals.{then-standing, else-standing}

pub highest-top-requires : goal.highest-top-requires
highest-top-requires c = ap not (c.contains-quiet.ensures.value ∙ sym (bet-made_any _))

pub loop-player-init : goal.loop-player-init
loop-player-init c = paid_none _ _ _

pub standing-requires : goal.standing-requires
standing-requires c = (omega arith, ap not (c.contains-quiet.ensures.value ∙ sym (bet-made_any _)))

pub share-requires : goal.share-requires
share-requires c =
    let inside = contribution_in 1 1 (length c.args.cards.now) c.args.history.now c.loop-player.player (search rules) in
    (omega (arith, c.contributed-mine.ensures.exact, c.pot-total.ensures.exact), search rules)

pub loop-player-preserved : goal.loop-player-preserved
loop-player-preserved c =
    let cards = c.args.cards.now in
    let h = c.args.history.now in
    let p = c.loop-player.player in
    let wins_by : stands (length cards) h p ≡ true → wins (length cards) cards h p ≡ eqb (get_or cards p 0) c.highest-top.result =
    wins-highest _ h cards _ p c.loop-player-test.true c.highest-top.ensures in
    let winner : c.if-standing.winner ≡ wins (length cards) cards h p = elim c.if-standing.branch [
      | then-standing w ↦ w.winner-is ∙ sym (wins_by (sym c.standing.ensures ∙ w.if-standing.true))
      | else-standing w ↦ w.winner-is ∙ w.if-standing.false ∙ sym (folds_lose _ h cards cards p (sym c.standing.ensures ∙ w.if-standing.false))
    ] in
    let kept : to_z w64 (of_z w64 c.share.result) ≡ c.share.result = search rules in
    paid_more _ _ _ _ _ _ _ _ _ (search rules) (search rules) c.pot-total.ensures.exact
    c.contributed-mine.ensures.exact winner (kept ∙ c.share.ensures) c.loop-player.invariant

pub returns : goal.returns
returns c = paid_all _ _ _ _ _ (omega arith) (omega arith) c.loop-player.invariant

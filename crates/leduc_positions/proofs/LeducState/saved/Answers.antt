-- The hand of a saved position, by numbers 10 to 17. Assumes nothing.
use mathlib.Core.Path.{◌≡◌, refl, sym, ◌∙◌}
use native.Mathlib.Omega.{arith}
use lib.ListN.{length, drop}
use lib.Seq.{take_all}
use borrow.Author.Rules.{rules}
use Rattle.std.proofs.lemmas.List.{take-take}
use Rattle.std.proofs.lemmas.Result.{err_from_is_err_and}
use Rattle.refusals.proofs.Outcomes.{refuses}
use Rattle.leduc_positions.proofs.Order.{cards_missing, at_cards, at_first, at_second, at_public}
use Rattle.leduc_positions.proofs.LeducState.saved.Goals as goal

pub returns-then-self-ne-SEATS-clause-number : goal.returns-then-self-ne-SEATS-clause-number
returns-then-self-ne-SEATS-clause-number c = cards_missing _ c.if-self-ne-SEATS.true

pub returns-in_err-check_cards-clause-number : goal.returns-in_err-check_cards-clause-number
returns-in_err-check_cards-clause-number c =
    let p = err_from_is_err_and c.from_residual.result c.from_residual.ensures.1 in
    rw (p.1, p.2) (at_cards c.args.self.now c.if-self-ne-SEATS.false (search rules) _ _ (c.deref.ensures.0 ∙ c.all_seen.ensures) c.is_none-blind.ensures
    c.in_err-check_cards.ensures (refuses _))

pub returns-in_err-first-clause-number : goal.returns-in_err-first-clause-number
returns-in_err-first-clause-number c =
    let p = err_from_is_err_and c.from_residual-in_err-first.result c.from_residual-in_err-first.ensures.1 in
    rw (p.1, p.2) (at_first c.args.self.now c.if-self-ne-SEATS.false (search rules) _ _ (c.deref.ensures.0 ∙ c.all_seen.ensures) c.is_none-blind.ensures
    c.in_ok-check_cards.ensures c.in_err-first.ensures.number (refuses _))

pub returns-in_err-second-clause-number : goal.returns-in_err-second-clause-number
returns-in_err-second-clause-number c =
    let p = err_from_is_err_and c.from_residual-in_err-second.result c.from_residual-in_err-second.ensures.1 in
    rw (p.1, p.2) (at_second c.args.self.now c.if-self-ne-SEATS.false (search rules) _ _ (c.deref.ensures.0 ∙ c.all_seen.ensures) c.is_none-blind.ensures
    c.in_ok-check_cards.ensures c.in_ok-first.ensures.number _ _ c.in_ok-first.ensures.actions c.is_barred.ensures c.in_err-second.ensures.number (refuses _))

pub returns-in_err-check_public-clause-number : goal.returns-in_err-check_public-clause-number
returns-in_err-check_public-clause-number c =
    let p = err_from_is_err_and c.from_residual-in_err-check_public.result c.from_residual-in_err-check_public.ensures.1 in
    rw (p.1, p.2) (at_public c.args.self.now c.if-self-ne-SEATS.false (search rules) _ _ (c.deref.ensures.0 ∙ c.all_seen.ensures) c.is_none-blind.ensures
    c.in_ok-check_cards.ensures c.in_ok-first.ensures.number _ _ c.in_ok-first.ensures.actions c.is_barred.ensures
    c.in_ok-second.ensures.actions c.in_ok-second.ensures.number c.in_err-check_public.ensures)

pub returns-clause-number : goal.returns-clause-number
returns-clause-number c =
    at_public c.args.self.now c.if-self-ne-SEATS.false (search rules) _ _ (c.deref.ensures.0 ∙ c.all_seen.ensures) c.is_none-blind.ensures
    c.in_ok-check_cards.ensures c.in_ok-first.ensures.number _ _ c.in_ok-first.ensures.actions c.is_barred.ensures
    c.in_ok-second.ensures.actions c.in_ok-second.ensures.number c.in_ok-check_public.ensures

pub returns-clause-hand : goal.returns-clause-hand
returns-clause-hand c =
    let s = c.args.self.now in
    let first = c.in_ok-first.ensures.actions in let second = c.in_ok-second.ensures.actions in
    let all : length s.cards ≡ 2 = search rules in
    let two : s.dealt ≡ 2 = c.if-self-ne-SEATS.false in
    record {
      short = (omega arith, first.0, second.0);
      cards = sym (take_all s.dealt s.cards (omega arith));
      public = refl;
      first = first.1 ∙ take-take s.acted1 4 s.history first.0;
      second = second.1 ∙ take-take s.acted2 4 (drop 4 s.history) second.0;
    }

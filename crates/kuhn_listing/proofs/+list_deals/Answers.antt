-- The deals of the lower cards first, then what stands below this card. Assumes nothing.
use Rattle.std.proofs.Common.{◌≡◌, ◌+◌, ◌-◌, ◌≤◌, ◌<◌, ◌++◌, ◌∷◌, [], sym, ap, refl, ◌∙◌, arith, length, false, eqb}
use Rattle.std.specs.List.{list_any}
use Rattle.prelude.specs.Finite.{has}
use Rattle.prelude.proofs.Bytes.{has_any}
use Rattle.listing_records.proofs.Bytes.{wrote_as, wrote_nothing, wrote_append, wrote-length}
use Rattle.kuhn_listing.specs.internal.Walk.{next_deals}
use Rattle.prelude.proofs.Lists.{popped}
use Rattle.kuhn_listing.proofs.Steps.{deals_none, deals-taken, deals_left, deals_fit, all_lower, full_deal, in_deck_more}
use Rattle.kuhn_listing.proofs.+list_deals.Goals.{then-not-contains, else-not-contains}
use Rattle.kuhn_listing.proofs.+list_deals.Goals as goal

pub list-requires : goal.list-requires
list-requires t c = let a = c.args in
    omega (arith, c.requires.room, ap length (full_deal a.n a.cards.now.items c.as_slice.result.now c.as_slice.ensures.value (sym c.len.ensures.value ∙ c.if-len-n.true)))

pub returns-then-len-n-clause-records : goal.returns-then-len-n-clause-records
returns-then-len-n-clause-records t c = let a = c.args in
    wrote_as (sym (full_deal a.n a.cards.now.items c.as_slice.result.now c.as_slice.ensures.value (sym c.len.ensures.value ∙ c.if-len-n.true))) c.list.ensures

pub loop-card-init : goal.loop-card-init
loop-card-init t c = record { wrote = wrote_nothing (deals_none c.args.n c.args.cards.now.items); same = refl }

pub list_deals-requires : goal.list_deals-requires
list_deals-requires t c = let a = c.args in let cs = a.cards.now.items in let card = c.loop-card.card in
    let few : length cs < a.n = omega (arith, c.requires.deal.2, c.len.ensures.value, c.if-len-n.false) in
    let low : card ≤ a.n = omega (arith, c.loop-card-test.true) in
    let free : has card cs ≡ false = has_any card cs ∙ sym (c.contains.ensures ∙ ap (λ l. list_any (λ b. eqb b card) l) (c.as_slice-in-loop-card.ensures.value ∙ c.loop-card.invariant.same)) ∙ c.if-not-contains.true in
    let is-more : c.push.new.self.items ≡ cs ++ (card ∷ []) = c.push.ensures.items ∙ ap (λ l. l ++ (card ∷ [])) c.loop-card.invariant.same in
    let long : length c.push.new.self.items ≡ length cs + 1 = c.push.ensures.len ∙ ap (λ l. length l + 1) c.loop-card.invariant.same in
    let less : a.n - length c.push.new.self.items < t = omega (arith, c.decreases, long, few) in (
      less,
      (
        (c.requires.deal.0, c.requires.deal.1, omega (arith, long, few), in_deck_more a.n cs c.push.new.self.items card is-more low c.requires.deal.3),
        omega (arith, c.requires.room, c.loop-card.invariant.wrote.next, wrote-length c.loop-card.invariant.wrote, deals_fit a.n cs card low c.push.new.self.items is-more few free),
      ),
    )

pub loop-card-preserved : goal.loop-card-preserved
loop-card-preserved t c = let a = c.args in let cs = a.cards.now.items in let card = c.loop-card.card in
    let few : length cs < a.n = omega (arith, c.requires.deal.2, c.len.ensures.value, c.if-len-n.false) in
    let low : card ≤ a.n = omega (arith, c.loop-card-test.true) in
    let had : has card cs ≡ c.contains.result = has_any card cs ∙ sym (c.contains.ensures ∙ ap (λ l. list_any (λ b. eqb b card) l) (c.as_slice-in-loop-card.ensures.value ∙ c.loop-card.invariant.same)) in
    elim c.if-not-contains.branch [
      | then-not-contains w ↦
          let is-more : w.push.new.self.items ≡ cs ++ (card ∷ []) = w.push.ensures.items ∙ ap (λ l. l ++ (card ∷ [])) c.loop-card.invariant.same in
          rw (w.to-is, w.cards-is) (record {
            wrote = wrote_as (sym (deals_left a.n cs card low w.push.new.self.items is-more (had ∙ w.if-not-contains.true))) (wrote_append c.loop-card.invariant.wrote w.list_deals.ensures.records);
            same = popped cs _ _ card (w.list_deals.ensures.same ∙ is-more) w.pop.ensures.rest;
          })
      | else-not-contains w ↦ rw (w.to-is, w.cards-is) (record {
        wrote = wrote_as (sym (deals-taken a.n cs card low (had ∙ w.if-not-contains.false))) c.loop-card.invariant.wrote;
        same = c.loop-card.invariant.same;
      })
    ]

pub returns-clause-records : goal.returns-clause-records
returns-clause-records t c = let a = c.args in let cs = a.cards.now.items in
    let few : length cs < a.n = omega (arith, c.requires.deal.2, c.len.ensures.value, c.if-len-n.false) in
    let e : c.loop-card.card ≡ a.n + 1 = omega (arith, c.loop-card.auto.card-end, c.loop-card-test.false) in
    wrote_as (ap (λ b. next_deals a.n (length cs) cs b) e ∙ all_lower a.n cs few) c.loop-card.invariant.wrote

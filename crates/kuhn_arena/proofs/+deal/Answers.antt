-- A deal: a hand, or the trees below the cards that are left. Assumes nothing.
use Rattle.std.proofs.Common.{◌≡◌, ◌+◌, ◌-◌, ◌≤◌, ◌<◌, ◌++◌, ◌∷◌, [], sym, ap, refl, ◌∙◌, arith, length, false, eqb}
use Rattle.std.specs.List.{list_any}
use Rattle.prelude.specs.Finite.{has}
use Rattle.prelude.proofs.Bytes.{has_any}
use Rattle.prelude.proofs.Lists.{popped}
use Rattle.kuhn_arena_layout.proofs.Deals as deals
use Rattle.kuhn_arena.proofs.+deal.Goals.{then-not-contains, else-not-contains}
use Rattle.kuhn_arena.proofs.+deal.Goals as goal

pub before_bet-requires-clause-passing : goal.before_bet-requires-clause-passing
before_bet-requires-clause-passing t c = let a = c.args in
    deals.hand-starts a.n a.cards.now.items a.at a.w.now c.requires.dealing c.requires.room (sym c.len.ensures.value ∙ c.if-len-n.true) _ c.as_slice.ensures.value

pub before_bet-requires-clause-room : goal.before_bet-requires-clause-room
before_bet-requires-clause-room t c = let a = c.args in
    deals.hand_room a.n a.cards.now.items a.at a.w.now c.requires.dealing c.requires.room (sym c.len.ensures.value ∙ c.if-len-n.true) _ c.as_slice.ensures.value

pub returns-then-len-n-clause-built : goal.returns-then-len-n-clause-built
returns-then-len-n-clause-built t c = let a = c.args in
    deals.deal_ends a.n a.cards.now.items a.at a.w.now c.requires.dealing c.requires.room (sym c.len.ensures.value ∙ c.if-len-n.true) _ c.as_slice.ensures.value c.before_bet.ensures

pub loop-card-init : goal.loop-card-init
loop-card-init t c = let a = c.args in
    let less : length a.cards.now.items < a.n = omega (arith, c.requires.dealing.few, c.len.ensures.value, c.if-len-n.false) in
    record { built = deals.children-start a.n a.cards.now.items a.at a.w.now c.requires.dealing c.requires.room less; same = refl }

pub deal-next-requires : goal.deal-next-requires
deal-next-requires t c = let a = c.args in let cs = a.cards.now.items in let card = c.loop-card.card in
    let less : length cs < a.n = omega (arith, c.requires.dealing.few, c.len.ensures.value, c.if-len-n.false) in
    let low : card ≤ a.n = omega (arith, c.loop-card-test.true) in
    let free : has card cs ≡ false = has_any card cs ∙ sym (c.contains.ensures ∙ ap (λ l. list_any (λ b. eqb b card) l) (c.as_slice-in-loop-card.ensures.value ∙ c.loop-card.invariant.same)) ∙ c.if-not-contains.true in
    let is-more : c.push.new.self.items ≡ cs ++ (card ∷ []) = c.push.ensures.items ∙ ap (λ l. l ++ (card ∷ [])) c.loop-card.invariant.same in
    let long : length c.push.new.self.items ≡ length cs + 1 = c.push.ensures.len ∙ ap (λ l. length l + 1) c.loop-card.invariant.same in
    let falls : a.n - length c.push.new.self.items < t = omega (arith, c.decreases, long, less) in (
      falls,
      (
        deals.deals_on a.n cs c.requires.dealing less card low free _ is-more,
        deals.child_room a.n cs a.at a.w.now c.requires.dealing c.requires.room less c.loop-card.invariant.built low free _ is-more,
      ),
    )

pub loop-card-preserved : goal.loop-card-preserved
loop-card-preserved t c = let a = c.args in let cs = a.cards.now.items in let card = c.loop-card.card in
    let less : length cs < a.n = omega (arith, c.requires.dealing.few, c.len.ensures.value, c.if-len-n.false) in
    let low : card ≤ a.n = omega (arith, c.loop-card-test.true) in
    let had : has card cs ≡ c.contains.result = has_any card cs ∙ sym (c.contains.ensures ∙ ap (λ l. list_any (λ b. eqb b card) l) (c.as_slice-in-loop-card.ensures.value ∙ c.loop-card.invariant.same)) in
    elim c.if-not-contains.branch [
      | then-not-contains w ↦
          let is-more : w.push.new.self.items ≡ cs ++ (card ∷ []) = w.push.ensures.items ∙ ap (λ l. l ++ (card ∷ [])) c.loop-card.invariant.same in
          rw (w.w-is, w.cards-is, w.next-is) (record {
            built = deals.child_on a.n cs a.at a.w.now c.requires.dealing c.requires.room less c.loop-card.invariant.built low (had ∙ w.if-not-contains.true) _ is-more w.deal-next.ensures.built;
            same = popped cs _ _ card (w.deal-next.ensures.same ∙ is-more) w.pop.ensures.rest;
          })
      | else-not-contains w ↦ rw (w.w-is, w.cards-is, w.next-is) (record {
        built = deals.child_passed a.n cs a.at a.w.now c.requires.dealing c.requires.room less c.loop-card.invariant.built low (had ∙ w.if-not-contains.false);
        same = c.loop-card.invariant.same;
      })
    ]

pub chance-requires : goal.chance-requires
chance-requires t c = let a = c.args in
    let less : length a.cards.now.items < a.n = omega (arith, c.requires.dealing.few, c.len.ensures.value, c.if-len-n.false) in
    deals.behind-few a.n a.cards.now.items a.at a.w.now c.requires.dealing c.requires.room less c.loop-card.invariant.built (omega (arith, c.loop-card.auto.card-end, c.loop-card-test.false))

pub returns-clause-built : goal.returns-clause-built
returns-clause-built t c = let a = c.args in
    let less : length a.cards.now.items < a.n = omega (arith, c.requires.dealing.few, c.len.ensures.value, c.if-len-n.false) in
    deals.deal_goes_on a.n a.cards.now.items a.at a.w.now c.requires.dealing c.requires.room less c.loop-card.invariant.built (omega (arith, c.loop-card.auto.card-end, c.loop-card-test.false)) c.chance.ensures c.put.ensures

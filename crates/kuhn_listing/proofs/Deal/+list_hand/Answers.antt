-- The records from a history on: none, or the node's and those after a pass and after a bet. Assumes nothing.
use Rattle.std.proofs.Common.{◌≡◌, ◌++◌, ◌∷◌, [], sym, ap, refl, ◌∙◌, arith, length, false}
use Rattle.kuhn_rules.specs.Rules.{PASS, BET, ended}
use Rattle.listing_records.proofs.Bytes.{wrote_nothing, wrote-length}
use Rattle.prelude.proofs.Lists.{popped}
use Rattle.kuhn_listing.proofs.Steps.{hand_none, hand-over, hand-length, wrote-hand}
use Rattle.kuhn_listing.proofs.Deal.+list_hand.Goals.{then-left-eq0-via-then-left-eq0, then-left-eq0-via-else-left-eq0+then-is_terminal}
use Rattle.kuhn_listing.proofs.Deal.+list_hand.Goals as goal

pub returns-then-left-eq0-clause-records : goal.returns-then-left-eq0-clause-records
returns-then-left-eq0-clause-records t c = let a = c.args in let n = length a.self.now.cards.now in let h = a.history.now.items in
    wrote_nothing (elim c.then-left-eq0.branch [
      | then-left-eq0-via-then-left-eq0 w ↦ hand_none n a.self.now.cards.now a.left h w.if-left-eq0.true
      | then-left-eq0-via-else-left-eq0+then-is_terminal w ↦
          hand-over n a.self.now.cards.now a.left h (sym (w.is_terminal.ensures ∙ ap (ended n) w.as_slice.ensures.value) ∙ w.if-is_terminal.true)
    ])

pub write_first-requires-clause-room : goal.write_first-requires-clause-room
write_first-requires-clause-room t c = let a = c.args in let n = length a.self.now.cards.now in let h = a.history.now.items in
    let on : ended n h ≡ false = sym (c.is_terminal.ensures ∙ ap (ended n) c.as_slice.ensures.value) ∙ c.if-is_terminal.false in
    rw c.as_slice-2.ensures.value (omega (arith, c.requires.room, hand-length n a.self.now.cards.now h a.left c.if-left-eq0.false on _ _ refl refl))

pub list_hand-requires : goal.list_hand-requires
list_hand-requires t c = let a = c.args in let n = length a.self.now.cards.now in let h = a.history.now.items in
    let on : ended n h ≡ false = sym (c.is_terminal.ensures ∙ ap (ended n) c.as_slice.ensures.value) ∙ c.if-is_terminal.false in
    let here = rw c.as_slice-2.ensures.value at c.write_first.ensures in
    let long = hand-length n a.self.now.cards.now h a.left c.if-left-eq0.false on _ _ c.push.ensures.items refl in (
      omega (arith, c.decreases, c.if-left-eq0.false),
      (
        omega (arith, c.push.ensures.len, c.requires.few, c.if-left-eq0.false),
        omega (arith, c.requires.room, here.next, wrote-length here, long),
      ),
    )

pub list_hand-requires-2 : goal.list_hand-requires-2
list_hand-requires-2 t c = let a = c.args in let n = length a.self.now.cards.now in let h = a.history.now.items in
    let on : ended n h ≡ false = sym (c.is_terminal.ensures ∙ ap (ended n) c.as_slice.ensures.value) ∙ c.if-is_terminal.false in
    let here = rw c.as_slice-2.ensures.value at c.write_first.ensures in
    let back = popped h _ _ PASS (c.list_hand.ensures.same ∙ c.push.ensures.items) c.pop.ensures.rest in
    let long = hand-length n a.self.now.cards.now h a.left c.if-left-eq0.false on _ _ c.push.ensures.items (c.push-2.ensures.items ∙ ap (λ l. l ++ (BET ∷ [])) back) in (
      omega (arith, c.decreases, c.if-left-eq0.false),
      (
        omega (arith, c.push-2.ensures.len, ap length back, c.requires.few, c.if-left-eq0.false),
        omega (arith, c.requires.room, here.next, c.list_hand.ensures.records.next, wrote-length here, wrote-length c.list_hand.ensures.records, long),
      ),
    )

pub returns-clause-records : goal.returns-clause-records
returns-clause-records t c = let a = c.args in let n = length a.self.now.cards.now in let h = a.history.now.items in
    let on : ended n h ≡ false = sym (c.is_terminal.ensures ∙ ap (ended n) c.as_slice.ensures.value) ∙ c.if-is_terminal.false in
    let here = rw c.as_slice-2.ensures.value at c.write_first.ensures in
    let back = popped h _ _ PASS (c.list_hand.ensures.same ∙ c.push.ensures.items) c.pop.ensures.rest in
    wrote-hand n a.self.now.cards.now h a.left c.if-left-eq0.false on _ _ c.push.ensures.items (c.push-2.ensures.items ∙ ap (λ l. l ++ (BET ∷ [])) back) here c.list_hand.ensures.records c.list_hand-2.ensures.records

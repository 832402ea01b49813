-- The word of an end: six bytes, one of which has the pot. Assumes nothing.
use mathlib.Core.Path.{◌≡◌, refl, sym, ap, ◌∙◌}
use mathlib.Core.Logic.{◌⊎◌, inl, inr}
use mathlib.Core.Bool.{true, false, cond}
use mathlib.Core.List.{List, [], ◌∷◌, ◌++◌}
use Prim.Native.Nat.{ℕ, zero, suc, ◌+◌, ◌*◌, ◌-◌, ◌%◌, ◌^◌, ◌≤◌, ◌<◌}
use native.Mathlib.Nat as NatL
use native.Mathlib.Omega.{arith}
use lib.Dec.{eqb}
use lib.IntN.{pos, neg_ℤ, ◌-ℤ◌, +ℤ-neg_ℤ_cancel, pos-+ℤ-pos}
use borrow.Author.Tests.{eqb-true}
use Rattle.prelude.specs.Finite.{sum}
use Rattle.prelude.proofs.Tests.{Tested, holds, fails, tested}
use Rattle.arena.specs.internal.Words.{END, kind_of, byte_of, payoff_of}
use Rattle.arena.proofs.Bytes.{byte0, byte1, byte2, byte3, byte4, byte5}
use Rattle.kuhn_rules.specs.Rules.{BET, PASS, turn, bet-made, bets, wins, contribution, payoff}
use Rattle.kuhn_rules.specs.Stakes.{ante, stake}
use Rattle.kuhn_rules.proofs.Winner.{payoff-share, contribution_in}
use Rattle.kuhn_rules.proofs.Balance.{sole_winner}
use Rattle.kuhn_arena_layout.specs.internal.Layout.{unit_of, packed, losses, Dealt}
use Rattle.kuhn_arena_layout.proofs.Bets.{contribution_pass, contribution-bet, paid, paid-few, paid-ante, sum_most}

-- the six seats, one by one
pub by_six : (P : ℕ → Type 0) → P 0 → P 1 → P 2 → P 3 → P 4 → P 5 → (i : ℕ) → i < 6 → P i
by_six P a b c d e f zero l = a
by_six P a b c d e f (suc zero) l = b
by_six P a b c d e f (suc (suc zero)) l = c
by_six P a b c d e f (suc (suc (suc zero))) l = d
by_six P a b c d e f (suc (suc (suc (suc zero)))) l = e
by_six P a b c d e f (suc (suc (suc (suc (suc zero))))) l = f
by_six P a b c d e f (suc (suc (suc (suc (suc (suc i)))))) l = absurd (omega arith)

pub unit_most : (i : ℕ) → i < 6 → unit_of i ≤ 4398046511104
unit_most = by_six (λ i. unit_of i ≤ 4398046511104) (omega arith) (omega arith) (omega arith) (omega arith) (omega arith) (omega arith)

-- as a shift gives it
pub unit-shifted : (i : ℕ) → i < 6 → unit_of i % 2 ^ 64 ≡ unit_of i
unit-shifted = by_six (λ i. unit_of i % 2 ^ 64 ≡ unit_of i) refl refl refl refl refl refl

-- a pot in the word of an end
pub pot_fits : (pot unit : ℕ) → pot ≤ 12 → unit ≤ 4398046511104 → pot * unit ≤ 52776558133248
pot_fits pot unit k l = NatL.mul-le-mul {n₁ = pot} {m₁ = unit} {n₂ = 12} {m₂ = 4398046511104} k l

-- x more for one seat
pub packed_more : (f : ℕ → ℕ) (x i : ℕ) → i < 6 → packed f + x * unit_of i ≡ packed (λ j. f j + cond (eqb j i) x 0)
packed_more f x = by_six (λ i. packed f + x * unit_of i ≡ packed (λ j. f j + cond (eqb j i) x 0)) (omega arith) (omega arith) (omega arith) (omega arith) (omega arith) (omega arith)

pub packed_same : (f g : ℕ → ℕ) → ((i : ℕ) → f i ≡ g i) → packed f ≡ packed g
packed_same f g e = omega (arith, e 0, e 1, e 2, e 3, e 4, e 5)

pub byte_of_lem : (f : ℕ → ℕ) → ((i : ℕ) → f i < 128) → (i : ℕ) → i < 6 → byte_of (packed f) i ≡ f i
byte_of_lem f l = by_six (λ i. byte_of (packed f) i ≡ f i)
    (byte0 (f 0) (f 1) (f 2) (f 3) (f 4) (f 5) (l 0) (l 1) (l 2) (l 3) (l 4) (l 5))
    (byte1 (f 0) (f 1) (f 2) (f 3) (f 4) (f 5) (l 0) (l 1) (l 2) (l 3) (l 4) (l 5))
    (byte2 (f 0) (f 1) (f 2) (f 3) (f 4) (f 5) (l 0) (l 1) (l 2) (l 3) (l 4) (l 5))
    (byte3 (f 0) (f 1) (f 2) (f 3) (f 4) (f 5) (l 0) (l 1) (l 2) (l 3) (l 4) (l 5))
    (byte4 (f 0) (f 1) (f 2) (f 3) (f 4) (f 5) (l 0) (l 1) (l 2) (l 3) (l 4) (l 5))
    (byte5 (f 0) (f 1) (f 2) (f 3) (f 4) (f 5) (l 0) (l 1) (l 2) (l 3) (l 4) (l 5))

-- ---- what the seats lose
module _ (n : ℕ) (h : List ℕ) where
  pub losses-few : losses n h < 1125899906842624
  unfolding losses
  losses-few = omega arith

  pub losses_pass : losses n (h ++ (PASS ∷ [])) ≡ losses n h
  unfolding losses
  losses_pass = packed_same (λ i. 64 - contribution ante stake n (h ++ (PASS ∷ [])) i) (λ i. 64 - contribution ante stake n h i) (λ i. ap (λ x. 64 - x) (contribution_pass n h i))

  -- a bet takes a unit off
  pub losses-bet : turn n h < 6 → bets n h (turn n h) ≡ false → losses n (h ++ (BET ∷ [])) + unit_of (turn n h) ≡ losses n h
  unfolding losses
  losses-bet l e =
      ap (λ x. packed (λ i. 64 - contribution ante stake n (h ++ (BET ∷ [])) i) + x) (sym (NatL.one-mul (unit_of (turn n h))))
      ∙ packed_more (λ i. 64 - contribution ante stake n (h ++ (BET ∷ [])) i) 1 (turn n h) l
      ∙ packed_same (λ i. 64 - contribution ante stake n (h ++ (BET ∷ [])) i + cond (eqb i (turn n h)) 1 0) (λ i. 64 - contribution ante stake n h i) (λ i. at i (cond (eqb i (turn n h)) 1 0) (contribution-bet n h e i))
    where
      at : (i x : ℕ) → contribution ante stake n (h ++ (BET ∷ [])) i ≡ contribution ante stake n h i + x → 64 - contribution ante stake n (h ++ (BET ∷ [])) i + x ≡ 64 - contribution ante stake n h i
      at i x q = omega (arith, q, paid-few n (h ++ (BET ∷ [])) i)

  -- without a bet the antes
  pub losses-quiet : bet-made h ≡ false → losses n h ≡ 278163506396412
  unfolding losses
  losses-quiet e = packed_same (λ i. 64 - contribution ante stake n h i) (λ i. 63) (λ i. ap (λ x. 64 - x) (paid-ante n h e i))

  pub pot-few : n ≤ 6 → sum n (contribution ante stake n h) ≤ 12
  pot-few l = omega (arith, sum_most n 2 (contribution ante stake n h) (paid-few n h))

-- ---- the payoffs
gained : (c pot : ℕ) → c ≤ 64 → c ≤ pot → pos (64 - c + pot) -ℤ pos 64 ≡ pos (pot - c)
gained c pot k l = ap (λ x. pos x -ℤ pos 64) (let e : 64 - c + pot ≡ pot - c + 64 = omega arith in e) ∙ ap (λ z. z -ℤ pos 64) (sym (pos-+ℤ-pos (pot - c) 64)) ∙ +ℤ-neg_ℤ_cancel (pos (pot - c)) (pos 64)

lost : (c : ℕ) → (c ≡ 1) ⊎ (c ≡ 2) → pos (64 - c + 0) -ℤ pos 64 ≡ neg_ℤ (pos c)
lost c (inl e) = rw e refl
lost c (inr e) = rw e refl

module _ (n : ℕ) (cs h : List ℕ) (d : Dealt n cs) (win : ℕ) (seated : win < n) (leads : wins n cs h win ≡ true) where
  -- one seat wins
  only-winner : (p : ℕ) → p < n → wins n cs h p ≡ eqb p win
  only-winner p l =
      let (v, m, f) = sole_winner n cs h (omega (arith, d.least)) d.full d.apart in
      let e : win ≡ v = eqb-true win v (sym (f win seated) ∙ leads) in
      f p l ∙ ap (eqb p) (sym e)

  module _ (pot : ℕ) (q : pot ≡ sum n (contribution ante stake n h)) where
    abbrev bytes : ℕ → ℕ
    bytes i = 64 - contribution ante stake n h i + cond (eqb i win) pot 0

    word_is : losses n h + pot * unit_of win ≡ packed bytes
    unfolding losses
    word_is = packed_more (λ i. 64 - contribution ante stake n h i) pot win (omega (arith, d.most))

    bytes-few : (i : ℕ) → bytes i < 128
    bytes-few i = at (tested (eqb i win))
      where
        at : Tested (eqb i win) → 64 - contribution ante stake n h i + cond (eqb i win) pot 0 < 128
        at (holds t) = rw t (omega (arith, q, pot-few n h d.most))
        at (fails t) = rw t (omega arith)

    pub end_kind : kind_of (losses n h + pot * unit_of win) ≡ END
    end_kind = rw word_is (omega arith)

    pub end_pays : (i : ℕ) → i < n → payoff_of (losses n h + pot * unit_of win) i ≡ payoff ante stake n cs h i
    end_pays i l = ap (λ x. payoff_of x i) word_is ∙ ap (λ x. pos x -ℤ pos 64) (byte_of_lem bytes bytes-few i (omega (arith, d.most))) ∙ at (tested (eqb i win)) ∙ payoff-share ante stake n cs h i l
      where
        at : Tested (eqb i win) → pos (64 - contribution ante stake n h i + cond (eqb i win) pot 0) -ℤ pos 64
            ≡ cond (wins n cs h i) (pos (sum n (contribution ante stake n h) - contribution ante stake n h i)) (neg_ℤ (pos (contribution ante stake n h i)))
        at (holds t) = rw (only-winner i l, t, q) (gained (contribution ante stake n h i) (sum n (contribution ante stake n h)) (omega (arith, paid-few n h i)) (contribution_in ante stake n h i l))
        at (fails t) = rw (only-winner i l, t) (lost (contribution ante stake n h i) (paid n h i))

-- Hands as the builder goes through them: what it carries after an action, and how a hand is laid out. Assumes nothing.
use mathlib.Core.Path.{◌≡◌, refl, sym, ap, ap₂, ◌∙◌, subst, fun_ext}
use mathlib.Core.Bool.{true, false, cond}
use mathlib.Core.List.{List, [], ◌∷◌, ◌++◌}
use Prim.Native.Nat.{ℕ, zero, suc, ◌+◌, ◌*◌, ◌-◌, ◌%◌, ◌^◌, ◌≤◌, ◌<◌}
use native.Mathlib.Nat as NatL
use native.Mathlib.Omega.{arith}
use lib.Dec.{ltb}
use lib.ListN.{length, get_or, set}
use borrow.Author.Tests.{eq-eqb, ne_eqb, ltb-true, ltb-false}
use Rattle.prelude.specs.Finite.{sum}
use Rattle.prelude.proofs.Tests.{Tested, holds, fails, tested, neither}
use Rattle.game_tree.specs.Tree.{Tree, end, decide, Trees, nil, cons, fan}
use Rattle.game_tree.specs.Sets.{size}
use Rattle.arena.specs.internal.Words.{decision_word, PLACES}
use Rattle.arena.specs.internal.Held.{Says}
use Rattle.arena.specs.internal.Index.{unlinked}
use Rattle.arena.specs.internal.Built.{Built, Row, Room}
use Rattle.arena.proofs.Packing.{kind_of_lem, actor_of_lem, actions_of_lem, set_of_lem, next_of_lem, later_of_lem}
use Rattle.arena.proofs.Building.{size_some, built_end, built_decide, row_none, row_more, snoc}
use Rattle.kuhn_rules.specs.Rules.{PASS, BET, turn, bet-made, after-bet, ended, bets, key, contribution, wins, payoff}
use Rattle.kuhn_rules.specs.Stakes.{ante, stake}
use Rattle.kuhn_tree.proofs.Shape.{hand}
use Rattle.kuhn_arena_layout.specs.internal.Layout.{code_of, history_at, after_bet, before_bet, after_at, before_at, unit_of, losses, Dealt, Betting, Passing, Top}
use Rattle.kuhn_arena_layout.proofs.Numbers.{history_pass, history-bet, number_of, set_sum}
use Rattle.kuhn_arena_layout.proofs.Bets.{longer, after-bet_more, after-bet_first, no_bets, bets_pass, bets-bet, contribution_pass, contribution-bet, paid-ante, sum_one_more, sum_ones, wins-quiet, opened_more, opened-bet, quiet_pass, wins_first, wins_pass, wins-bet}
use Rattle.kuhn_arena_layout.proofs.Ends.{losses-few, pot-few, losses_pass, losses-bet, losses-quiet, end_kind, end_pays}

-- ---- turns
-- fewer than n actions on it is another seat's turn
other-turn : (n i d : ℕ) → 0 < d → d < n → i % n ≡ (i + d) % n → ⊥
other-turn n i d a b e = at (tested (ltb (i % n + d) n))
  where
    here : i % n < n
    here = NatL.mod-lt i (omega arith)

    shifted : (i % n + d) % n ≡ i % n
    shifted = NatL.mod-add-mod i n d ∙ sym e

    at : Tested (ltb (i % n + d) n) → ⊥
    at (holds t) = let o : (i % n + d) % n ≡ i % n + d = NatL.mod-eq_of_lt (ltb-true (i % n + d) n t) in omega (arith, o, shifted)
    at (fails t) = let m : n ≤ i % n + d = ltb-false (i % n + d) n t in let o : (i % n + d - n) % n ≡ i % n + d - n = NatL.mod-eq_of_lt (omega (arith, here)) in
        omega (arith, m, o, shifted, here, NatL.mod-eq-sub-mod {n = i % n + d} {m = n} m)

turn-after : (n : ℕ) (h : List ℕ) (a : ℕ) → (turn n h + 1) % n ≡ turn n (h ++ (a ∷ []))
turn-after n h a = NatL.mod-add-mod (length h) n 1 ∙ ap (λ k. k % n) (let e : length h + 1 ≡ suc (length h) = omega arith in e ∙ sym (longer h a))

place_after : (h : List ℕ) (a j : ℕ) → length (h ++ (a ∷ [])) + j ≡ length h + suc j
place_after h a j = ap (λ k. k + j) (longer h a) ∙ (let e : suc (length h) + j ≡ length h + suc j = omega arith in e)

-- who has not bet and does not act here has not bet after the action
fresh-after : (n : ℕ) (h : List ℕ) (j : ℕ) → suc j < n → bets n h ((length h + suc j) % n) ≡ false → bets n (h ++ (BET ∷ [])) ((length (h ++ (BET ∷ [])) + j) % n) ≡ false
fresh-after n h j l e = ap (λ k. bets n (h ++ (BET ∷ [])) (k % n)) (place_after h BET j) ∙ bets-bet n h ((length h + suc j) % n) ∙ neither e (ne_eqb (turn n h) ((length h + suc j) % n) (other-turn n (length h) (suc j) (omega arith) l))

-- ---- what the builder carries, an action on
module _ {n : ℕ} {cs h : List ℕ} {seat r pays pot win : ℕ} (b : Betting n cs h seat r pays pot win) where
  pub seat_in : seat < n
  seat_in = rw b.acts (NatL.mod-lt (length h) (omega (arith, b.deal.least)))

  module _ (z : r ≡ 0 → ⊥) where
    unbet : bets n h (turn n h) ≡ false
    unbet = ap (λ k. bets n h (k % n)) (sym (NatL.add-zero (length h))) ∙ b.fresh 0 (omega (arith, z))

    pub betting_pass : Betting n cs (h ++ (PASS ∷ [])) ((seat + 1) % n) (r - 1) pays pot win
    betting_pass = record {
      deal = b.deal;
      acts = ap (λ s. (s + 1) % n) b.acts ∙ turn-after n h PASS;
      few = omega (arith, b.few);
      opened = opened_more n h PASS b.opened;
      fresh = λ j l. ap (λ k. bets n (h ++ (PASS ∷ [])) (k % n)) (place_after h PASS j) ∙ bets_pass n h ((length h + suc j) % n) ∙ b.fresh (suc j) (omega arith);
      lost = b.lost ∙ sym (losses_pass n h);
      stakes = b.stakes ∙ ap (sum n) (fun_ext (λ i. sym (contribution_pass n h i)));
      seated = b.seated;
      leads = wins_pass n h cs win b.opened b.leads;
    }

    losses_now : losses n (h ++ (BET ∷ [])) + unit_of seat ≡ pays
    losses_now = ap (λ s. losses n (h ++ (BET ∷ [])) + unit_of s) b.acts ∙ losses-bet n h (omega (arith, seat_in, b.acts, b.deal.most)) unbet ∙ sym b.lost

    pub unit_in : unit_of seat ≤ pays
    unit_in = omega (arith, losses_now)

    pub betting_bet : (top : ℕ) → top ≡ cond (ltb (get_or cs win 0) (get_or cs seat 0)) seat win → Betting n cs (h ++ (BET ∷ [])) ((seat + 1) % n) (r - 1) (pays - unit_of seat) (pot + 1) top
    betting_bet top e = record {
      deal = b.deal;
      acts = ap (λ s. (s + 1) % n) b.acts ∙ turn-after n h BET;
      few = omega (arith, b.few);
      opened = opened-bet n h;
      fresh = λ j l. fresh-after n h j (omega (arith, b.few)) (b.fresh (suc j) (omega arith));
      lost = omega (arith, losses_now);
      stakes = ap (λ x. x + 1) b.stakes ∙ sym (sum_one_more n (turn n h) (contribution ante stake n h) (contribution ante stake n (h ++ (BET ∷ []))) (rw (← b.acts) seat_in) (contribution-bet n h unbet));
      seated = rw e (at (tested (ltb (get_or cs win 0) (get_or cs seat 0))));
      leads = rw (e, b.acts) (wins-bet n h cs win b.opened b.leads);
    }
      where
        at : Tested (ltb (get_or cs win 0) (get_or cs seat 0)) → cond (ltb (get_or cs win 0) (get_or cs seat 0)) seat win < n
        at (holds t) = rw t seat_in
        at (fails t) = rw t b.seated

module _ {n : ℕ} {cs h : List ℕ} {seat number : ℕ} (p : Passing n cs h seat number) where
  module _ (z : seat ≡ n → ⊥) where
    seat-turn : turn n h ≡ seat
    seat-turn = ap (λ k. k % n) p.acted ∙ NatL.mod-eq_of_lt (omega (arith, p.few, z))

    pub passing_pass : Passing n cs (h ++ (PASS ∷ [])) (seat + 1) (2 * number + 1)
    passing_pass = record {
      deal = p.deal;
      acted = longer h PASS ∙ ap suc p.acted ∙ (let e : suc seat ≡ seat + 1 = omega arith in e);
      few = omega (arith, p.few, z);
      quiet = quiet_pass n h p.quiet;
      passes = let e : seat + 1 ≡ suc seat = omega arith in rw (e, NatL.pow-succ' 2 seat) (omega (arith, p.passes));
    }

    pub betting_first : Betting n cs (h ++ (BET ∷ [])) ((seat + 1) % n) (n - 1) (278163506396412 - unit_of seat) (n + 1) seat
    betting_first = record {
      deal = p.deal;
      acts = ap (λ s. (s + 1) % n) (sym seat-turn) ∙ turn-after n h BET;
      few = omega (arith, p.deal.least);
      opened = opened-bet n h;
      fresh = λ j l. fresh-after n h j (omega arith) (no_bets n h p.quiet ((length h + suc j) % n));
      lost = omega (arith, unit-off, losses-quiet n h p.quiet);
      stakes = sym (sum_one_more n (turn n h) (contribution ante stake n h) (contribution ante stake n (h ++ (BET ∷ []))) (rw seat-turn (omega (arith, p.few, z))) (contribution-bet n h (no_bets n h p.quiet (turn n h))) ∙ ap (λ x. x + 1) (sum_ones n (contribution ante stake n h) (paid-ante n h p.quiet)));
      seated = omega (arith, p.few, z);
      leads = rw (← seat-turn) (wins_first n h cs p.quiet);
    }
      where
        unit-off : losses n (h ++ (BET ∷ [])) + unit_of seat ≡ losses n h
        unit-off = ap (λ s. losses n (h ++ (BET ∷ [])) + unit_of s) (sym seat-turn) ∙ losses-bet n h (omega (arith, seat-turn, p.few, z, p.deal.most)) (no_bets n h p.quiet (turn n h))

    power : 2 ^ seat ≤ 32
    power = NatL.pow-le-pow_right {n = 2} (omega arith) {i = seat} {j = 5} (omega (arith, p.few, z, p.deal.most))

    pub number-few : number ≤ 31
    number-few = omega (arith, p.passes, power)

    pub first_left : (2 * number + 2 + 2) * 2 ^ (n - 1) ≤ 4096
    first_left = NatL.le_trans (NatL.mul-le-mul {n₁ = 2 * number + 2 + 2} {m₁ = 2 ^ (n - 1)} {n₂ = 66} {m₂ = 32} (omega (arith, number-few))
        (NatL.pow-le-pow_right {n = 2} (omega arith) {i = n - 1} {j = 5} (omega (arith, p.deal.most)))) (omega arith)

-- ---- the tree of a hand
-- with a bet it goes on for the actions that are to come
after-hand : (n : ℕ) (cs : List ℕ) (r x : ℕ) (h : List ℕ) → bet-made h ≡ true → length (after-bet h) + r ≡ n - 1 → hand ante stake n cs (r + x) (ended n h) h ≡ after_bet n cs r h
unfolding hand after_bet ended
after-hand n cs zero x h e l = rw (e, NatL.zero-add x, eq-eqb (length (after-bet h)) (n - 1) (omega arith)) (over x)
  where
    over : (k : ℕ) → hand ante stake n cs k true h ≡ end (payoff ante stake n cs h)
    over zero = refl
    over (suc k) = refl
after-hand n cs (suc r) x h e l =
    let next : (a : ℕ) → hand ante stake n cs (r + x) (ended n (h ++ (a ∷ []))) (h ++ (a ∷ [])) ≡ after_bet n cs r (h ++ (a ∷ [])) = λ a. after-hand n cs r x (h ++ (a ∷ [])) (opened_more n h a e) (omega (arith, after-bet_more h a e)) in
    rw (e, NatL.suc-add r x, ne_eqb (length (after-bet h)) (n - 1) (λ q. omega arith)) (ap₂ (λ t u. decide (turn n h) (key cs h (turn n h)) (cons t (cons u nil))) (next PASS) (next BET))

-- without one until all have passed
before-hand : (n : ℕ) (cs : List ℕ) (r : ℕ) (h : List ℕ) → bet-made h ≡ false → length h + r ≡ n → hand ante stake n cs (r + (n - 1)) (ended n h) h ≡ before_bet n cs r h
unfolding hand before_bet ended
before-hand n cs zero h e l = rw (e, NatL.zero-add (n - 1), eq-eqb (length h) n (omega arith)) (over (n - 1))
  where
    over : (k : ℕ) → hand ante stake n cs k true h ≡ end (payoff ante stake n cs h)
    over zero = refl
    over (suc k) = refl
before-hand n cs (suc r) h e l =
    let passed : hand ante stake n cs (r + (n - 1)) (ended n (h ++ (PASS ∷ []))) (h ++ (PASS ∷ [])) ≡ before_bet n cs r (h ++ (PASS ∷ [])) = before-hand n cs r (h ++ (PASS ∷ [])) (quiet_pass n h e) (omega (arith, longer h PASS)) in
    let bet : hand ante stake n cs (r + (n - 1)) (ended n (h ++ (BET ∷ []))) (h ++ (BET ∷ [])) ≡ after_bet n cs (n - 1) (h ++ (BET ∷ []))
    = ap (λ k. hand ante stake n cs k (ended n (h ++ (BET ∷ []))) (h ++ (BET ∷ []))) (NatL.add_comm r (n - 1)) ∙ after-hand n cs (n - 1) r (h ++ (BET ∷ [])) (opened-bet n h) (omega (arith, after-bet_first h e)) in
    rw (e, NatL.suc-add r (n - 1), ne_eqb (length h) n (λ q. omega arith)) (ap₂ (λ t u. decide (turn n h) (key cs h (turn n h)) (cons t (cons u nil))) passed bet)

pub whole_hand : (n : ℕ) (cs : List ℕ) → 1 ≤ n → hand ante stake n cs (2 * n - 1) (ended n []) [] ≡ before_bet n cs n []
unfolding bet-made
whole_hand n cs one = ap (λ k. hand ante stake n cs k (ended n []) []) (let e : 2 * n - 1 ≡ n + (n - 1) = omega arith in e) ∙ before-hand n cs n [] refl (NatL.zero-add n)

-- ---- a node, laid out
-- the decision at a position, over the trees after a pass and a bet
abbrev pub node : ℕ → List ℕ → ℕ → Tree → Tree → Tree
node n cards number t u = decide (turn n (history_at number)) (key cards (history_at number) (turn n (history_at number))) (cons t (cons u nil))

-- the word of a decision says what the node is
decision_says : (n : ℕ) (cards : List ℕ) (number seat at next : ℕ) (f : Trees) → n ≤ 6 → seat < n → get_or cards seat 0 < 256 → seat ≡ turn n (history_at number) → number ≤ 2046 → next < PLACES → fan f ≡ 2
    → next ≡ at + size (decide (turn n (history_at number)) (key cards (history_at number) (turn n (history_at number))) f)
    → Says n (code_of n) unlinked (decision_word seat 2 (number * (n + 1) + get_or cards seat 0) next 0) at (decide (turn n (history_at number)) (key cards (history_at number) (turn n (history_at number))) f)
unfolding Says code_of
decision_says n cards number seat at next f six seated byte acts small few fans behind =
    let set-few : number * (n + 1) + get_or cards seat 0 < 16384 = set_sum n number (get_or cards seat 0) six small byte in (
      kind_of_lem seat 2 (number * (n + 1) + get_or cards seat 0) next 0 (omega arith) (omega arith) set-few few (omega arith),
      actor_of_lem seat 2 (number * (n + 1) + get_or cards seat 0) next 0 (omega arith) (omega arith) set-few few (omega arith) ∙ acts,
      actions_of_lem seat 2 (number * (n + 1) + get_or cards seat 0) next 0 (omega arith) (omega arith) set-few few (omega arith) ∙ sym fans,
      set_of_lem seat 2 (number * (n + 1) + get_or cards seat 0) next 0 (omega arith) (omega arith) set-few few (omega arith)
          ∙ ap₂ (λ x y. x * (n + 1) + y) (sym (number_of number)) (ap (λ i. get_or cards i 0) acts),
      next_of_lem seat 2 (number * (n + 1) + get_or cards seat 0) next 0 (omega arith) (omega arith) set-few few (omega arith) ∙ behind,
      later_of_lem seat 2 (number * (n + 1) + get_or cards seat 0) next 0 (omega arith) (omega arith) set-few few (omega arith),
    )

module _ (n : ℕ) (cards : List ℕ) (number : ℕ) {at : ℕ} {w : List ℕ} {whole t u : Tree} (e : whole ≡ node n cards number t u) (g : Room at w (size whole)) where
  node-size : size whole ≡ suc (size t + size u)
  unfolding size
  node-size = ap size e ∙ ap (λ x. suc (size t + x)) (NatL.add-zero (size u))

  pub first_room : Room (at + 1) w (size t)
  first_room = record { words = omega (arith, g.words, node-size); places = omega (arith, g.places, node-size) }

  module _ {v : List ℕ} {r : ℕ} (b : Built n (code_of n) (at + 1) w v t r) where
    pub second_room : Room r v (size u)
    second_room = record { words = rw b.kept.long (omega (arith, b.next, g.words, node-size)); places = omega (arith, b.next, g.places, node-size) }

    module _ {y : List ℕ} {q : ℕ} (c : Built n (code_of n) r v y u q) where
      behind : q ≡ at + size whole
      behind = omega (arith, b.next, c.next, node-size)

      pub behind-few : q < PLACES
      behind-few = omega (arith, behind, g.places)

      row : Row n (code_of n) (suc at) w y (cons t (cons u nil)) q
      unfolding snoc
      row = let one : at + 1 ≡ suc at = omega arith in row_more n (code_of n) (suc at) w v y (cons t nil) u r q
          (row_more n (code_of n) (suc at) w w v nil t (suc at) r (row_none n (code_of n) (suc at) w) (subst (λ j. Built n (code_of n) j w v t r) one b)) c

      pub lays_decision : (seat x : ℕ) (new : List ℕ) → n ≤ 6 → seat < n → get_or cards seat 0 < 256 → seat ≡ turn n (history_at number) → number ≤ 2046
          → x ≡ decision_word seat 2 (number * (n + 1) + get_or cards seat 0) q 0 → new ≡ set y at x → Built n (code_of n) at w new whole q
      unfolding fan
      lays_decision seat x new six seated byte acts small f i = rw e (built_decide n (code_of n) at x w y new (turn n (history_at number)) (key cards (history_at number) (turn n (history_at number))) (cons t (cons u nil)) q row
          (omega (arith, g.words, size_some whole)) i (rw f (decision_says n cards number seat at q (cons t (cons u nil)) six seated byte acts small behind-few refl (behind ∙ ap (λ z. at + size z) e))))

-- an end, laid out
lays_end : (n : ℕ) (cs h : List ℕ) (at pot win x : ℕ) (w new : List ℕ) (whole : Tree) → whole ≡ end (payoff ante stake n cs h) → Room at w (size whole) → Dealt n cs → win < n → wins n cs h win ≡ true
    → pot ≡ sum n (contribution ante stake n h) → x ≡ losses n h + pot * unit_of win → new ≡ set w at x → Built n (code_of n) at w new whole (at + 1)
unfolding Says
lays_end n cs h at pot win x w new whole e g d seated leads stakes f i = rw e (built_end n (code_of n) at x w new (payoff ante stake n cs h) (omega (arith, g.words, size_some whole)) i
    (rw f (end_kind n cs h d win seated leads pot stakes, end_pays n cs h d win seated leads pot stakes)))

-- ---- after a bet
module _ (cards : List ℕ) (number : ℕ) {n seat r pays pot win at : ℕ} {w : List ℕ} (b : Betting n cards (history_at number) seat r pays pot win)
    (g : Room at w (size (after_at n cards number r))) where
  pub after_ends : r ≡ 0 → (x : ℕ) (new : List ℕ) → x ≡ pays + pot * unit_of win → new ≡ set w at x → Built n (code_of n) at w new (after_at n cards number r) (at + 1)
  unfolding after_at after_bet
  after_ends z x new e i = lays_end n cards (history_at number) at pot win x w new (after_at n cards number r) (rw z refl) g b.deal b.seated b.leads b.stakes (e ∙ ap (λ y. y + pot * unit_of win) b.lost) i

  pub after_goes_on : (r ≡ 0 → ⊥) → after_at n cards number r ≡ node n cards number (after_at n cards (2 * number + 1) (r - 1)) (after_at n cards (2 * number + 2) (r - 1))
  unfolding after_at
  after_goes_on z = by_one r z ∙ ap₂ (λ h k. node n cards number (after_bet n cards (r - 1) h) (after_bet n cards (r - 1) k)) (sym (history_pass number)) (sym (history-bet number))
    where
      by_one : (k : ℕ) → (k ≡ 0 → ⊥) → after_bet n cards k (history_at number)
          ≡ node n cards number (after_bet n cards (k - 1) (history_at number ++ (PASS ∷ []))) (after_bet n cards (k - 1) (history_at number ++ (BET ∷ [])))
      by_one zero z = absurd (z refl)
      by_one (suc k) z = let q : suc k - 1 ≡ k = omega arith in rw q refl

  pub after-words : (pays < 1125899906842624) × (pot ≤ 12) × (win < 6)
  after-words = (rw b.lost (losses-few n (history_at number)), rw b.stakes (pot-few n (history_at number) b.deal.most), omega (arith, b.seated, b.deal.most))

  pub after-seat : (seat < n) × (n ≤ 6)
  after-seat = (seat_in b, b.deal.most)

  module _ (z : r ≡ 0 → ⊥) where
    pub after_pass : Betting n cards (history_at (2 * number + 1)) ((seat + 1) % n) (r - 1) pays pot win
    after_pass = rw (history_pass number) (betting_pass b z)

    pub after-unit : unit_of seat ≤ pays
    after-unit = unit_in b z

    pub after_raise : (lost more top : ℕ) → lost ≡ pays - unit_of seat → more ≡ pot + 1 → top ≡ cond (ltb (get_or cards win 0) (get_or cards seat 0)) seat win
        → Betting n cards (history_at (2 * number + 2)) ((seat + 1) % n) (r - 1) lost more top
    after_raise lost more top e f i = rw (e, f, history-bet number) (betting_bet b z top i)

-- ---- before a bet
module _ (cards : List ℕ) {n number seat at : ℕ} {w : List ℕ} (p : Passing n cards (history_at number) seat number)
    (g : Room at w (size (before_at n cards number (n - seat)))) where
  pub before_ends : seat ≡ n → (x top : ℕ) (new : List ℕ) → Top n cards top → x ≡ 278163506396412 + n * unit_of top → new ≡ set w at x → Built n (code_of n) at w new (before_at n cards number (n - seat)) (at + 1)
  unfolding before_at before_bet
  before_ends z x top new f e i = lays_end n cards (history_at number) at n top x w new (before_at n cards number (n - seat)) (let q : n - seat ≡ 0 = omega arith in rw q refl) g p.deal f.seated
      (wins-quiet n cards (history_at number) top p.quiet f.highest)
      (sym (sum_ones n (contribution ante stake n (history_at number)) (paid-ante n (history_at number) p.quiet))) (e ∙ ap (λ y. y + n * unit_of top) (sym (losses-quiet n (history_at number) p.quiet))) i

  pub before_goes_on : (seat ≡ n → ⊥) → before_at n cards number (n - seat) ≡ node n cards number (before_at n cards (2 * number + 1) (n - (seat + 1))) (after_at n cards (2 * number + 2) (n - 1))
  unfolding before_at after_at
  before_goes_on z = by_one (n - seat) (λ q. z (omega (arith, q, p.few)))
      ∙ ap₂ (λ h k. node n cards number (before_bet n cards (n - seat - 1) h) (after_bet n cards (n - 1) k)) (sym (history_pass number)) (sym (history-bet number))
      ∙ ap (λ k. node n cards number (before_bet n cards k (history_at (2 * number + 1))) (after_bet n cards (n - 1) (history_at (2 * number + 2)))) (let q : n - seat - 1 ≡ n - (seat + 1) = omega arith in q)
    where
      by_one : (k : ℕ) → (k ≡ 0 → ⊥) → before_bet n cards k (history_at number)
          ≡ node n cards number (before_bet n cards (k - 1) (history_at number ++ (PASS ∷ []))) (after_bet n cards (n - 1) (history_at number ++ (BET ∷ [])))
      by_one zero z = absurd (z refl)
      by_one (suc k) z = let q : suc k - 1 ≡ k = omega arith in rw q refl

  module _ (z : seat ≡ n → ⊥) where
    pub before-seat : (seat < n) × (n ≤ 6)
    before-seat = (omega (arith, p.few, z), p.deal.most)

    pub before-turn : seat ≡ turn n (history_at number)
    before-turn = sym (seat-turn p z)

    pub before-number : number ≤ 31
    before-number = number-few p z

    pub before_pass : Passing n cards (history_at (2 * number + 1)) (seat + 1) (2 * number + 1)
    before_pass = rw (history_pass number) (passing_pass p z)

    pub before_raise : (unit : ℕ) → unit ≡ unit_of seat → Betting n cards (history_at (2 * number + 2)) ((seat + 1) % n) (n - 1) (278163506396412 - unit) (n + 1) seat
    before_raise unit e = rw (e, history-bet number) (betting_first p z)

-- The best choice takes in each set the lowest action with the greatest gains. Assumes nothing.
use Rattle.std.proofs.Common.{◌≡◌, ℕ, zero, suc, pred, ◌*◌, ◌^◌, ◌<◌, ◌≤◌, cond, ltb, ℤ, pos, ◌+ℤ◌, sym, refl, ap, ◌∙◌, ap₂, arith}
use native.Mathlib.Nat as NatL
use lib.Signed.{lt_z, ≤ℤ_refl, lt_z_no, lt_z_yes, clash_ℤ}
use Rattle.game_tree.specs.Sums.{sumℕ}
use Rattle.game_tree.specs.Tree.{Key, Tree, Strategy, all}
use Rattle.game_tree.specs.Conditions.{Splits, Every, Pays, Valid}
use Rattle.game_tree.specs.Reply.{Reply, reply_tree, Choice, members, set_sum, highest, lowest, actions, best}
use Rattle.game_tree.specs.Recall.{PerfectRecall, RecallsOwn}
use Rattle.game_tree.proofs.Integers.{+ℤ-mono, +ℤ-cancel}
use Rattle.game_tree.proofs.Tests.{Tested, is, isn't, tested, T_of}
use Rattle.game_tree.proofs.Units.{splits-fit}
use Rattle.game_tree.proofs.Own.{own_actions}
use Rattle.game_tree.proofs.Best.{lowest_of_greatest, best-decides}
use Rattle.game_tree.proofs.Against.{every_both, own→every, recall_kept}
use Rattle.units.specs.internal.Gain.{Member, found, set_gain, topmost}
use Rattle.units.specs.internal.Gains.{BestGains, GainBest}
use Rattle.units.proofs.Gains.{gain-value, set-gain_is}

-- ---- a shift keeps the order, and with it the lowest of the greatest
shift_less : (a b : ℤ) (w : ℕ) → lt_z (a +ℤ pos w) (b +ℤ pos w) ≡ lt_z a b
shift_less a b w = at (tested (lt_z a b)) (tested (lt_z (a +ℤ pos w) (b +ℤ pos w)))
  where
    at : Tested (lt_z a b) → Tested (lt_z (a +ℤ pos w) (b +ℤ pos w)) → lt_z (a +ℤ pos w) (b +ℤ pos w) ≡ lt_z a b
    at (is e) (is h) = h ∙ sym e
    at (is e) (isn't h) = clash_ℤ (lt_z_yes {a = a} {b = b} (T_of e)) (+ℤ-cancel b a (pos w) (lt_z_no (rw h tt)))
    at (isn't e) (is h) = clash_ℤ (lt_z_yes {a = a +ℤ pos w} {b = b +ℤ pos w} (T_of h)) (+ℤ-mono b a (pos w) (pos w) (lt_z_no (rw e tt)) (≤ℤ_refl (pos w)))
    at (isn't e) (isn't h) = h ∙ sym e

topmost_is : (q : ℕ → ℕ) (p : ℕ → ℤ) (w n : ℕ) → ((a : ℕ) → a ≤ n → pos (q a) ≡ p a +ℤ pos w) → topmost q n ≡ highest p n
unfolding topmost highest
topmost_is q p w zero e = refl
topmost_is q p w (suc n) e = ap (λ b. cond (ltb (q b) (q (suc n))) (suc n) b) (topmost_is q p w n (λ a l. e a (omega arith)))
    ∙ ap (λ b. cond b (suc n) (highest p n)) test
  where
    there : highest p n ≤ suc n
    there = omega (arith, (lowest_of_greatest (suc n) p (omega arith)).0)

    test : ltb (q (highest p n)) (q (suc n)) ≡ lt_z (p (highest p n)) (p (suc n))
    test = ap₂ lt_z (e (highest p n) there) (e (suc n) (NatL.le_refl (suc n))) ∙ shift_less (p (highest p n)) (p (suc n)) w

-- ---- the best choice
module _ (C m D i : ℕ) (s : Strategy) (t : Tree) (h : PerfectRecall i t) (some : Every (λ j k n. 1 ≤ n) t) where
  abbrev units : ℕ
  units = C * D ^ m

  abbrev seen : Reply
  seen = reply_tree D s i units t

  abbrev choice : Choice
  choice = best seen

  recalls : RecallsOwn seen
  recalls = recall_kept D i units s t h

  abbrev Chosen : ℕ → Key → ℕ → Type 0
  Chosen j k n = j ≡ i → (choice k < n) × (choice k ≡ lowest n (set_sum choice seen k))

  chosen : Every Chosen t
  chosen = every_both (λ j k n. j ≡ i → choice k ≡ lowest n (set_sum choice seen k)) (λ j k n. 1 ≤ n) Chosen
      (λ j k n e l o. (rw (e o) (lowest_of_greatest n (set_sum choice seen k) l).0, e o)) t
      (own→every D i s (λ k n. choice k ≡ lowest n (set_sum choice seen k)) t units (best-decides seen recalls)) some

  taken : Every (λ j k n. j ≡ i → choice k < n) t
  taken = every_both Chosen Chosen (λ j k n. j ≡ i → choice k < n) (λ j k n e x o. (e o).0) t chosen chosen

  counted : Every (λ j k n. j ≡ i → n ≡ actions (members seen k)) t
  counted = own→every D i s (λ k n. n ≡ actions (members seen k)) t units (own_actions recalls.0 recalls.1 seen recalls.2)

  module _ (d : 0 < D) (g : Splits C m t) (v : Valid (all D) s t) (w : Pays 60 i t) where
    topped : (k : Key) (n : ℕ) → 1 ≤ n → n ≡ actions (members seen k) → topmost (set_gain D s i choice t units k) (pred n) ≡ lowest n (set_sum choice seen k)
    topped k n l e = topmost_is (set_gain D s i choice t units k) (set_sum choice seen k) (64 * sumℕ (λ (x : Member). x.1) (found D s i k 0 units t)) (pred n)
        (λ a b. set-gain_is D d s i choice k (λ k. actions (members seen k)) t units (splits-fit D t C m g) v w taken counted a (omega arith))

    best_tops : Every (λ j k n. j ≡ i → (choice k < n) × (choice k ≡ topmost (set_gain D s i choice t units k) (pred n))) t
    best_tops = every_both Chosen (λ j k n. j ≡ i → n ≡ actions (members seen k))
        (λ j k n. j ≡ i → (choice k < n) × (choice k ≡ topmost (set_gain D s i choice t units k) (pred n)))
        (λ j k n e q o. ((e o).0, (e o).1 ∙ sym (topped k n (omega (arith, (e o).0)) (q o)))) t chosen counted

pub best-gains : BestGains
best-gains C m D i s t d g h v w some = best_tops C m D i s t h some d g v w

pub gain-best : GainBest
gain-best C m D i s t d g h v w some = gain-value C m D i s t (best (reply_tree D s i (C * D ^ m) t)) d g v w (taken C m D i s t h some)

-- No rival is worth more than the best value; the reply is a rival; its worth is the best value. Nothing is assumed.
use mathlib.Core.Path.{◌≡◌, refl, sym, ap, ◌∙◌, fun_ext, subst}
use mathlib.Core.Bool.{true, false, cond}
use Prim.Native.Nat.{ℕ, zero, suc, ◌*◌, ◌^◌, ◌<◌}
use native.Mathlib.Nat as NatL
use native.Mathlib.Omega.{arith}
use lib.Dec.{eqb}
use lib.Signed.{◌≤ℤ◌}
use Rattle.game_tree.specs.Sums.{◌·◌, parts}
use Rattle.game_tree.specs.Tree.{Key, Tree, Strategy, all, worth}
use Rattle.game_tree.specs.Conditions.{all_but, Splits, Valid, Keeps, Rival}
use Rattle.game_tree.specs.Reply.{Reply, reply_tree, set_sum, lowest, best, best_value, pure, reply}
use Rattle.game_tree.specs.Optimal.{EveryOwn, scaled}
use Rattle.game_tree.specs.Recall.{PerfectRecall, RecallsOwn}
use Rattle.game_tree.specs.Theorem.{NoFinerRivalBetter, ReplyIsRival, ReplyWorth, NoRivalBetter}
use Rattle.game_tree.proofs.Integers.{·-cancel, ·-cancel-eq}
use Rattle.game_tree.proofs.Tests.{Tested, is, isn't, tested, eqb_is, eqb_self, eqb_no}
use Rattle.game_tree.proofs.Against.{every_of, every_both, reply-depth, every→own, own→every, recall_kept}
use Rattle.game_tree.proofs.Best.{best-decides, best_optimal, lowest_of_greatest}
use Rattle.game_tree.proofs.Unbeaten.{optimal_unbeaten}
use Rattle.game_tree.proofs.Pure.{pure-worth, pure_parts}
use Rattle.game_tree.proofs.Link.{link, link_in_units, all_but_same, grain_worth}

-- ---- no rival is worth more
parts_unbeaten : (C m D E i u : ℕ) (s : Strategy) (p : Key → ℕ → ℕ) (t : Tree) → Splits C m t → PerfectRecall i t
    → EveryOwn (λ k n. parts n (p k) ≡ E) (reply_tree D s i u t)
    → scaled E p (reply_tree D s i u t) m ≤ℤ (E ^ m · best_value (reply_tree D s i u t))
parts_unbeaten C m D E i u s p t h g e = optimal_unbeaten E m p (best (reply_tree D s i u t)) (reply_tree D s i u t) recalls (reply-depth D i s t u C m h)
    (best_optimal (reply_tree D s i u t) recalls) e
  where
    recalls : RecallsOwn (reply_tree D s i u t)
    recalls = recall_kept D i u s t g

pub no_finer-rival_better : NoFinerRivalBetter
no_finer-rival_better C m D E i s z t d e h g v = rw (link C m D E i s z t d e h v.1) (parts_unbeaten C m D E i (C * D ^ m) s (z i) t h g
    (rw (eqb_self i) at (every→own D i s (λ j k n. parts n (z j k) ≡ all_but i E D j) t (C * D ^ m) v.0)))

pub no_rival_better : NoRivalBetter
no_rival_better C m D i s z t d h g v = ·-cancel (D ^ m) (worth (all D) z i (C * D ^ m) t) (best_value (reply_tree D s i (C * D ^ m) t)) (NatL.one-le-pow m D d)
    (rw (link_in_units C m D i s z t d h v.1)
    (parts_unbeaten C m D D i (C * D ^ m) s (z i) t h g (every→own D i s (λ j k n. parts n (z j k) ≡ D) t (C * D ^ m) v.0)))

-- a valid strategy is its own rival, so its worth is at most the best value
pub own_rival : (D : ℕ → ℕ) (i : ℕ) (s : Strategy) (t : Tree) → Valid D s t → Rival D i s s t
own_rival D i s t v = (v, every_of (λ j k n. (j ≡ i → ⊥) → (a : ℕ) → a < n → s j k a ≡ s j k a) (λ j k n e a l. refl) t)

-- ---- the reply, in any grain
module _ (D i u E : ℕ) (s : Strategy) (t : Tree) where
  abbrev seen : Reply
  seen = reply_tree D s i u t

  -- E on each chosen action of the seat, 0 on its others, the table's entries elsewhere
  abbrev pub copied : Strategy
  copied j k a = cond (eqb j i) (pure E (best seen) k a) (s j k a)

  copied_own : (j : ℕ) (k : Key) → eqb j i ≡ true → copied j k ≡ pure E (best seen) k
  copied_own j k e = fun_ext (λ a. ap (λ b. cond b (pure E (best seen) k a) (s j k a)) e)

  copied_else : (j : ℕ) (k : Key) → eqb j i ≡ false → copied j k ≡ s j k
  copied_else j k e = fun_ext (λ a. ap (λ b. cond b (pure E (best seen) k a) (s j k a)) e)

  pub copied_keeps : Keeps i s copied t
  copied_keeps = every_of (λ j k n. (j ≡ i → ⊥) → (a : ℕ) → a < n → copied j k a ≡ s j k a)
      (λ j k n e a l. ap (λ p. p a) (copied_else j k (eqb_no j i e))) t

  module _ (d : 0 < D) (v : Valid (all D) s t) where
    abbrev Chosen : ℕ → Key → ℕ → Type 0
    Chosen j k n = j ≡ i → best seen k ≡ lowest n (set_sum (best seen) seen k)

    copied_parts : (j : ℕ) (k : Key) (n : ℕ) → parts n (s j k) ≡ D → Chosen j k n → parts n (copied j k) ≡ all_but i E D j
    unfolding parts
    copied_parts j k n e c = at (tested (eqb j i))
      where
        some : (n : ℕ) → parts n (s j k) ≡ D → 0 < n
        some zero q = omega arith
        some (suc n) q = omega arith

        at : Tested (eqb j i) → parts n (copied j k) ≡ all_but i E D j
        at (is w) = ap (parts n) (copied_own j k w) ∙ pure_parts E (best seen) k n
            (rw (c (eqb_is j i w)) (lowest_of_greatest n (set_sum (best seen) seen k) (some n e)).0) ∙ sym (ap (λ b. cond b E D) w)
        at (isn't w) = ap (parts n) (copied_else j k w) ∙ e ∙ sym (ap (λ b. cond b E D) w)

    pub copied-valid : PerfectRecall i t → Valid (all_but i E D) copied t
    copied-valid h = every_both (λ j k n. parts n (s j k) ≡ D) Chosen (λ j k n. parts n (copied j k) ≡ all_but i E D j) copied_parts t v
        (own→every D i s (λ k n. best seen k ≡ lowest n (set_sum (best seen) seen k)) t u (best-decides seen (recall_kept D i u s t h)))

pub copied-worth : (C m D E i : ℕ) (s : Strategy) (t : Tree) → 0 < D → 0 < E → Splits C m t
    → worth (all_but i E D) (copied D i (C * D ^ m) E s t) i (E ^ m * (C * D ^ m)) t ≡ E ^ m · best_value (reply_tree D s i (C * D ^ m) t)
copied-worth C m D E i s t d e h = link C m D E i s (copied D i (C * D ^ m) E s t) t d e h (copied_keeps D i (C * D ^ m) E s t)
    ∙ ap (λ p. scaled E p r m) (fun_ext (λ k. copied_own D i (C * D ^ m) E s t i k (eqb_self i)))
    ∙ pure-worth E m (best r) r (reply-depth D i s t (C * D ^ m) C m h)
  where
    r : Reply
    r = reply_tree D s i (C * D ^ m) t

-- ---- the reply itself has D parts
pub reply_is_rival : ReplyIsRival
unfolding reply
reply_is_rival D i u s t d h v = (
  subst (λ g. Valid g (reply D s i u t) t) (all_but_same i D) (copied-valid D i u D s t d v h),
  copied_keeps D i u D s t,
)

pub reply-worth : ReplyWorth
unfolding reply
reply-worth C m D i s t d h = ·-cancel-eq (D ^ m) (worth (all D) (reply D s i (C * D ^ m) t) i (C * D ^ m) t) (best_value (reply_tree D s i (C * D ^ m) t))
    (NatL.one-le-pow m D d) (sym (grain_worth C m D i (reply D s i (C * D ^ m) t) t d h) ∙ copied-worth C m D D i s t d d h)

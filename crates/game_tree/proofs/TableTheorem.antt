-- The statements of specs/TableTheorem.antt, each by its proof: what other crates cite. Nothing is assumed.
use mathlib.Core.Path.{◌≡◌, refl, sym, ap, ap₂, ◌∙◌, subst}
use Prim.Native.Nat.{ℕ, zero, suc, ◌+◌, ◌*◌, ◌^◌, ◌<◌}
use native.Mathlib.Nat as NatL
use native.Mathlib.Omega.{arith}
use lib.Dec.{eqb}
use lib.IntN.{ℤ, pos, negsuc, ◌+ℤ◌, ◌-ℤ◌, nat_abs, +ℤ_idl, +ℤ_invr, -ℤ-+ℤ_cancel}
use lib.ListN.{length, get_or}
use lib.Signed.{◌≤ℤ◌, ≤ℤ_refl, le_z_yes}
use Rattle.game_tree.specs.Sums.{◌·◌, sumℕ, parts}
use Rattle.game_tree.specs.Tree.{Key, Tree, Strategy, all, U}
use Rattle.game_tree.specs.Conditions.{all_but, Every, Keeps, Rival, Splits}
use Rattle.game_tree.specs.Recall.{PerfectRecall}
use Rattle.game_tree.specs.Reply.{reply_tree, best, reply}
use Rattle.game_tree.specs.Sets.{sets, set_actions, entries, entries_of, before, seats_of}
use Rattle.game_tree.specs.Shape.{SameActions}
use Rattle.game_tree.specs.Table.{Table, strategy_of, table_of, add_up, ValidTable, KeepsTable, table_worth, table_best, reply_table, nash_conv_over, add_up_by, FinerRival, finer_worth, FinerUnbeaten}
use Rattle.game_tree.specs.Small.{small}
use Rattle.game_tree.specs.TableTheorem.{NodesCounted, DecisionsOfNodes, TableBack, StrategyBack, TableValid, StrategyValid, ValidMeans, TableRival, ReplyTableRival, ReplyTableWorth, NoRivalTableBetter, ReplyTableBest, ReplyTableEntries, OwnTableEntriesFree, TableUnitsAddUp, TableBounds, NashConvNotBelow, small_table, SmallNoRivalTable}
use Rattle.game_tree.specs.TableTheorem.{NoFinerTableBetter, FinerProducts, ProductsCompare, FinerTableUnits, RivalsOfGrainD, WorthOfGrainD, finer_reply, FinerReplyBest, FinerReplyOfD, FinerReplyOfOne, NashConvZero, small_finer, SmallFinerRivals, SmallNoFiner}
use Rattle.game_tree.proofs.Integers.{+ℤ-mono, +ℤ-cancel, ≤ℤ-antisym, ·-one, ·-mul, ·-mono, ·-cancel}
use Rattle.game_tree.proofs.Tests.{Tested, is, isn't, tested, eqb_is, eqb_isn't}
use Rattle.game_tree.proofs.Against.{every_both, own_entries-free}
use Rattle.game_tree.proofs.Units.{units-add_up}
use Rattle.game_tree.proofs.Bounds.{value_bound, worth_bound}
use Rattle.game_tree.proofs.Link.{finer-units_exact, finer-units-add_up, all_but_same, grain_worth}
use Rattle.game_tree.proofs.Rival.{no_finer-rival_better, no_rival_better, copied, copied_keeps, copied-valid, copied-worth, reply_is_rival, reply-worth}
use Rattle.game_tree.proofs.Small.{small_premises}
use Rattle.game_tree.proofs.Computed.{small_replies, small_adds, small_keeps, small-finer}
use Rattle.game_tree.proofs.Sets.{preorder-length, decisions_of_nodes, every→sets, sets_distinct, Stands, sets-stand}
use Rattle.game_tree.proofs.Tables.{Same, worth_same, laid_out-length, laid_out_at, laid_out_adds, adds_at, adds_all, laid_out_back, seats_at, laid_out_keeps, keeps_tested}
pub use Rattle.game_tree.proofs.Computed.{first_nodes, small-sets, small_tables}

pub nodes-counted : NodesCounted
nodes-counted t = preorder-length t

pub nodes-decisions : DecisionsOfNodes
nodes-decisions t = decisions_of_nodes t

pub table_back : TableBack
unfolding strategy_of
table_back t table e = laid_out_back (sets t) table (sets_distinct t) e

-- what holds of every set with its actions holds of every decision
module _ (t : Tree) (h : SameActions t) (R : ℕ → Key → ℕ → Type 0) (g : (j : ℕ) (k : Key) (n : ℕ) → Stands j k n (sets t) → R j k n) where
  at_sets : Every R t
  at_sets = every_both (λ j k n. Stands j k n (sets t)) (λ j k n. Stands j k n (sets t)) R (λ j k n s r. g j k n s) t (sets-stand t h) (sets-stand t h)

pub strategy_back : StrategyBack
unfolding strategy_of
strategy_back t s h = at_sets t h (Same (strategy_of t (table_of t s)) s) (λ j k n e a l. laid_out_at s j k n (sets t) e a l)

pub table-valid : TableValid
unfolding strategy_of
table-valid t D table h v = at_sets t h (λ j k n. parts n (strategy_of t table j k) ≡ D) (λ j k n e. adds_at (all D) j k n (sets t) table (adds_all D (sets t) table ∙ v.1) e)

pub strategy-valid : StrategyValid
strategy-valid t D s v = (
  laid_out-length s (sets t),
  sym (adds_all D (sets t) (table_of t s)) ∙ laid_out_adds s (all D) (sets t) (every→sets (λ j k n. parts n (s j k) ≡ D) t v),
)

pub valid_means : ValidMeans
valid_means t D table h = ((λ v. (v.0, table-valid t D table h v)), λ (e, v). subst (ValidTable t D) (table_back t table e) (strategy-valid t D (strategy_of t table) v))

table_keeps : (t : Tree) (i : ℕ) (table z : Table) → SameActions t → KeepsTable t i table z → Keeps i (strategy_of t table) (strategy_of t z) t
unfolding strategy_of
table_keeps t i table z h g = at_sets t h (λ j k n. (j ≡ i → ⊥) → (a : ℕ) → a < n → strategy_of t z j k a ≡ strategy_of t table j k a)
    (λ j k n e f a l. let (q, w) = seats_at j k n (sets t) e a l in g (entries_of (before j k (sets t)) + a) w (λ y. f (sym q ∙ y)))

-- and the table of a strategy that keeps the others' entries does
strategy_keeps : (t : Tree) (i : ℕ) (table : Table) (r : Strategy) → length table ≡ entries t → Keeps i (strategy_of t table) r t → KeepsTable t i table (table_of t r)
strategy_keeps t i table r long y e l f =
    laid_out_keeps i (strategy_of t table) r (sets t) (every→sets (λ j k n. (j ≡ i → ⊥) → (a : ℕ) → a < n → r j k a ≡ strategy_of t table j k a) t y) e l f
    ∙ ap (λ z. get_or z e 0) (table_back t table long)

pub table-rival : TableRival
table-rival t D i table z h (v, g) = (table-valid t D z h v, table_keeps t i table z h g)

-- ---- the reply table
pub reply-table-rival : ReplyTableRival
unfolding reply_table
reply-table-rival t D u i table d p h v = let (x, y) = reply_is_rival D i u s t d p (table-valid t D table h v) in (strategy-valid t D r x, strategy_keeps t i table r v.0 y)
  where
    s : Strategy
    s = strategy_of t table

    r : Strategy
    r = reply D (strategy_of t table) i u t

pub reply-table-entries : ReplyTableEntries
unfolding reply_table
reply-table-entries t D u i table h = strategy_back t (reply D (strategy_of t table) i u t) h

pub reply-table-worth : ReplyTableWorth
unfolding table_worth table_best reply_table
reply-table-worth t C m D i table d h g =
    worth_same (all D) (strategy_of t (table_of t r)) r i t (C * D ^ m) (strategy_back t r g) ∙ reply-worth C m D i (strategy_of t table) t d h
  where
    r : Strategy
    r = reply D (strategy_of t table) i (C * D ^ m) t

-- ---- no rival table is worth more
pub no_rival-table_better : NoRivalTableBetter
unfolding table_worth table_best
no_rival-table_better t C m D i table z d h p g v = no_rival_better C m D i (strategy_of t table) (strategy_of t z) t d h p (table-rival t D i table z g v)

-- ---- nor is a rival of finer grain
one_pow : (m : ℕ) → 1 ^ m ≡ 1
one_pow zero = refl
one_pow (suc m) = NatL.pow-succ' 1 m ∙ NatL.one-mul (1 ^ m) ∙ one_pow m

finer-rival : (t : Tree) (D E i : ℕ) (table z : Table) → SameActions t → FinerRival t D E i table z
    → Rival (all_but i E D) i (strategy_of t table) (strategy_of t z) t
unfolding strategy_of
finer-rival t D E i table z h (long, adds, keeps) = (
  at_sets t h (λ j k n. parts n (strategy_of t z j k) ≡ all_but i E D j) (λ j k n e. adds_at (all_but i E D) j k n (sets t) z adds e),
  table_keeps t i table z h keeps,
)

pub no_finer-table_better : NoFinerTableBetter
unfolding finer_worth table_best
no_finer-table_better t C m D i table d h p g E z e v =
    no_finer-rival_better C m D E i (strategy_of t table) (strategy_of t z) t d e h p (finer-rival t D E i table z g v)

pub finer-products : FinerProducts
finer-products t C m D E i table z d e h p g v = rw
    (·-mul (C * D ^ m) (E ^ m) (table_best t D (C * D ^ m) table i))
    (·-mono (C * D ^ m) (finer_worth t m D (C * D ^ m) E z i) (E ^ m · table_best t D (C * D ^ m) table i)
    (no_finer-table_better t C m D i table d h p g E z e v))

pub products-compare : ProductsCompare
products-compare C m D E x v c d =
    let e = ·-mul (C * D ^ m) (E ^ m) v in
    (λ l. rw e (·-mono (C * D ^ m) x (E ^ m · v) l), λ l. ·-cancel (C * D ^ m) x (E ^ m · v) (NatL.mul-pos c (NatL.one-le-pow m D d)) (rw e at l))

pub finer-table-units : FinerTableUnits
finer-table-units t C m D E i table z d e h g v = (
  finer-units_exact C m D E i (strategy_of t z) t d e h,
  finer-units-add_up C m D E i (strategy_of t z) t d e h (finer-rival t D E i table z g v).0,
)

-- grain D
pub rivals_of_grain_D : RivalsOfGrainD
rivals_of_grain_D t D i table z = (
  (λ (long, adds, keeps). ((long, sym same ∙ adds), keeps)),
  λ ((long, adds), keeps). (long, same ∙ adds, keeps),
)
  where
    same : add_up_by (all_but i D D) (sets t) z ≡ add_up D (set_actions t) z
    same = ap (λ g. add_up_by g (sets t) z) (all_but_same i D) ∙ adds_all D (sets t) z

pub worth_of_grain_D : WorthOfGrainD
unfolding finer_worth table_worth
worth_of_grain_D t C m D i z d h = grain_worth C m D i (strategy_of t z) t d h

-- the reply in grain E
pub finer-reply-best : FinerReplyBest
unfolding finer_worth table_best
finer-reply-best t C m D E i table d e h p g v = (
  (
    laid_out-length r (sets t),
    laid_out_adds r (all_but i E D) (sets t) (every→sets (λ j k n. parts n (r j k) ≡ all_but i E D j) t (copied-valid D i (C * D ^ m) E s t d (table-valid t D table g v) p)),
    strategy_keeps t i table r v.0 (copied_keeps D i (C * D ^ m) E s t),
  ),
  worth_same (all_but i E D) (strategy_of t (table_of t r)) r i t (E ^ m * (C * D ^ m)) (strategy_back t r g) ∙ copied-worth C m D E i s t d e h,
)
  where
    s : Strategy
    s = strategy_of t table

    r : Strategy
    r = copied D i (C * D ^ m) E s t

pub finer-reply_of_D : FinerReplyOfD
unfolding reply_table reply
finer-reply_of_D t D u i table = refl

pub finer-reply_of_one : FinerReplyOfOne
finer-reply_of_one t C m D i table d h p g v = let (r, w) = finer-reply-best t C m D 1 i table d (omega arith) h p g v in (
  r,
  w ∙ ap (λ n. n · table_best t D (C * D ^ m) table i) (one_pow m) ∙ ·-one (table_best t D (C * D ^ m) table i),
)

pub reply-table-best : ReplyTableBest
reply-table-best t C m D i table d s p h v = record {
  rival = reply-table-rival t D (U C D m) i table d p h v;
  worth = reply-table-worth t C m D i table d s h;
  unbeaten = λ z r. no_rival-table_better t C m D i table z d s p h r;
  finer = no_finer-table_better t C m D i table d s p h;
}

pub own_table-entries-free : OwnTableEntriesFree
unfolding table_best
own_table-entries-free t D u i table z h g = (own_entries-free D i u (strategy_of t table) (strategy_of t z) t (table_keeps t i table z h g)).1

-- ---- units and bounds
pub table-units-add_up : TableUnitsAddUp
table-units-add_up t C m D table d h g v = units-add_up C m D (strategy_of t table) t d h (table-valid t D table g v)

pub table_bounds : TableBounds
unfolding table_worth table_best
table_bounds t D u B i table d h v p = (
  worth_bound D i u B (strategy_of t table) t d (table-valid t D table h v) p,
  value_bound D i u B (strategy_of t table) t (best (reply_tree D (strategy_of t table) i u t)) d (table-valid t D table h v) p,
)

-- ---- NashConv
difference : (a b : ℤ) → a ≤ℤ b → pos 0 ≤ℤ (b -ℤ a)
difference a b l = +ℤ-cancel (pos 0) (b -ℤ a) a (rw (+ℤ_idl a, -ℤ-+ℤ_cancel b a) l)

-- a table is a rival of itself, so no best value is below its worth
own_worth : (t : Tree) (C m D i : ℕ) (table : Table) → 0 < D → Splits C m t → PerfectRecall i t → SameActions t → ValidTable t D table
    → table_worth t D (C * D ^ m) table i ≤ℤ table_best t D (C * D ^ m) table i
own_worth t C m D i table d h p g v = no_rival-table_better t C m D i table table d h p g (v, λ e l f. refl)

pub nash_conv_not_below : NashConvNotBelow
unfolding nash_conv_over
nash_conv_not_below t C m D zero table d h p g v = ≤ℤ_refl (pos 0)
nash_conv_not_below t C m D (suc n) table d h p g v = rw (sym (+ℤ_idl (pos 0))) (+ℤ-mono (pos 0) (nash_conv_over t D (C * D ^ m) table n) (pos 0)
    (table_best t D (C * D ^ m) table n -ℤ table_worth t D (C * D ^ m) table n)
    (nash_conv_not_below t C m D n table d h (λ i l. p i (omega arith)) g v)
    (difference (table_worth t D (C * D ^ m) table n) (table_best t D (C * D ^ m) table n) (own_worth t C m D n table d h (p n (omega arith)) g v)))

-- a sum of numbers not below 0 is 0 only if each is
none_above : (a b : ℤ) → pos 0 ≤ℤ a → pos 0 ≤ℤ b → a +ℤ b ≡ pos 0 → (a ≡ pos 0) × (b ≡ pos 0)
none_above (pos a) (pos b) h k e = let q : a + b ≡ 0 = ap nat_abs e in (ap pos (omega arith), ap pos (omega arith))
none_above (pos a) (negsuc b) h k e = absurd k.le
none_above (negsuc a) b h k e = absurd h.le

module _ (t : Tree) (C m D : ℕ) (table : Table) (d : 0 < D) (h : Splits C m t) (g : SameActions t) (v : ValidTable t D table) where
  abbrev B : ℕ → ℤ
  B i = table_best t D (C * D ^ m) table i

  abbrev W : ℕ → ℤ
  W i = table_worth t D (C * D ^ m) table i

  -- NashConv is 0 exactly if each seat's best value is its worth
  conv-best : (n : ℕ) → ((i : ℕ) → i < n → PerfectRecall i t) → nash_conv_over t D (C * D ^ m) table n ≡ pos 0 → (i : ℕ) → i < n → B i ≡ W i
  unfolding nash_conv_over
  conv-best zero p e i l = absurd (NatL.not-suc-le-zero l)
  conv-best (suc n) p e i l = at (tested (eqb i n)) (λ k. conv-best n (λ i l. p i (omega arith)) both.0 i k)
    where
      both : (nash_conv_over t D (C * D ^ m) table n ≡ pos 0) × ((B n -ℤ W n) ≡ pos 0)
      both = none_above (nash_conv_over t D (C * D ^ m) table n) (B n -ℤ W n) (nash_conv_not_below t C m D n table d h (λ i l. p i (omega arith)) g v)
          (difference (W n) (B n) (own_worth t C m D n table d h (p n (omega arith)) g v)) e

      at : Tested (eqb i n) → (i < n → B i ≡ W i) → B i ≡ W i
      at (is q) f = subst (λ j. B j ≡ W j) (sym (eqb_is i n q)) (sym (-ℤ-+ℤ_cancel (B n) (W n)) ∙ ap (λ x. x +ℤ W n) both.1 ∙ +ℤ_idl (W n))
      at (isn't q) f = f (let w : i ≡ n → ⊥ = eqb_isn't i n q in omega arith)

  best-conv : (n : ℕ) → ((i : ℕ) → i < n → B i ≡ W i) → nash_conv_over t D (C * D ^ m) table n ≡ pos 0
  unfolding nash_conv_over
  best-conv zero e = refl
  best-conv (suc n) e = ap₂ ◌+ℤ◌ (best-conv n (λ i l. e i (omega arith))) (ap (λ x. x -ℤ W n) (e n (omega arith)) ∙ +ℤ_invr (W n))

  -- no rival of any grain beats the table's own worth exactly if that is the best value: the reply has one of grain 1
  worth-best : (i : ℕ) → PerfectRecall i t → FinerUnbeaten t m D (C * D ^ m) i table (W i) → B i ≡ W i
  worth-best i p f = let (r, w) = finer-reply_of_one t C m D i table d h p g v in
      ≤ℤ-antisym (B i) (W i) (subst (λ x. x ≤ℤ W i) w (rw (one_pow m, ·-one (W i)) at (f 1 (finer_reply t D (C * D ^ m) 1 table i) (omega arith) r)))
      (own_worth t C m D i table d h p g v)

pub nash_conv_zero : NashConvZero
nash_conv_zero t C m D n table d h p g v = (
  (λ e i l. subst (FinerUnbeaten t m D (C * D ^ m) i table) (conv-best t C m D table d h g v n p e i l)
      (no_finer-table_better t C m D i table d h (p i l) g)),
  λ f. best-conv t C m D table d h g v n (λ i l. worth-best t C m D table d h g v i (p i l) (f i l)),
)

-- ---- the small tree
small_same : SameActions small
unfolding Every small
small_same = ((λ j k. 2), ((refl, (tt, ((refl, (tt, (tt, tt))), tt))), ((refl, (tt, ((refl, (tt, (tt, tt))), tt))), ((refl, (tt, ((refl, (tt, (tt, tt))), tt))), tt))))

pub small_no_rival-table : SmallNoRivalTable
small_no_rival-table = (
  small_same,
  λ z v. subst (λ x. table_worth small 2 12 z 0 ≤ℤ x) small_replies.1
      (no_rival-table_better small 3 2 2 0 small_table z (omega arith) small_premises.0 small_premises.1 small_same v),
)

small_below : pos 240000 ≤ℤ (300 ^ 2 · pos 4)
unfolding ◌·◌
small_below = le_z_yes tt

pub small-finer_rivals : SmallFinerRivals
small-finer_rivals = ((small-finer.0, small_adds, keeps_tested small 0 small_table small_finer small_keeps), small-finer.1, refl, small_below, small-finer.2, small-finer.3)

pub small_no_finer : SmallNoFiner
unfolding sets small add_up_by seats_of entries_of sumℕ
small_no_finer = (
  (λ v. let z : ◌≡◌ {A = ℕ} 0 1 = cc v.1 in omega arith),
  (λ v. let z : ◌≡◌ {A = ℕ} 1 2 = v.2 4 (omega arith) (λ e. omega (arith, e)) in omega arith),
  λ f. no_equal (worth-best small 3 2 2 small_table (omega arith) small_premises.0 small_same small_tables.1 0 small_premises.1 (f 0 (omega arith))),
)
  where
    no_equal : table_best small 2 12 small_table 0 ≡ table_worth small 2 12 small_table 0 → ⊥
    no_equal e = let z : ◌≡◌ {A = ℕ} 4 2 = ap nat_abs (sym small_replies.1 ∙ e ∙ small_replies.0) in omega arith

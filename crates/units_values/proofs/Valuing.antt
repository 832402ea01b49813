-- The value of a node from those of its children. Assumes nothing.
use Rattle.std.proofs.Common.{◌≡◌, ℕ, zero, suc, pred, ◌+◌, ◌-◌, ◌*◌, ◌/◌, ◌%◌, ◌^◌, ◌<◌, ◌≤◌, Bool, true, false, cond, ltb, List, get_or, sym, refl, ap, ◌∙◌, subst, arith, eq-eqb, ne_eqb}
use native.Mathlib.Nat as NatL
use Rattle.game_tree.specs.Tree.{Key, Tree, end, chance, decide, Trees, nil, cons, fan}
use Rattle.game_tree.specs.Conditions.{Every}
use Rattle.game_tree.specs.Shape.{Levels}
use Rattle.game_tree.specs.Sets.{size, sizes}
use Rattle.arena.specs.internal.Words.{END, DECISION, kind_of, actor_of, actions_of, set_of, next_of, byte_of, payoff_of}
use Rattle.arena.specs.internal.Held.{Says, Held}
use Rattle.arena.specs.internal.Walk.{Behind}
use Rattle.arena.proofs.Building.{size_some}
use Rattle.arena_walks.specs.internal.Child.{nth, Child}
use Rattle.arena_walks.specs.internal.Stage.{Known, Memo}
use Rattle.arena_walks.proofs.Standing.{levels_some, known_of, seen}
use Rattle.arena_walks.proofs.Descending.{child_at, row-rest}
use Rattle.units.specs.internal.Lifted.{lift}
use Rattle.units.specs.internal.Gain.{given, gain, gain_pick, Stocked, topmost}
use Rattle.units.proofs.Lifting.{lift_back}
use Rattle.units.proofs.Six.{product, sum_wraps}
use Rattle.units_values.specs.internal.Valued.{Scene, Here, HereAll, gained, gained_all, behind_action, Valued, ValuedAll, ValuedOwn, Chosen}
use Rattle.units_values.proofs.Scenes.{kids-chance, kids-decide, first, descent, pick-gain}
use Rattle.units.specs.internal.Readable.{UNITS}

-- ---- a node by its word
module _ (i d h b k a : ℕ) (old : List ℕ) where
  pub value_none : (r : ℕ) → d ≡ 0 → Valued i d h b k a old old r
  value_none r e S m t u y l g = absurd (omega (arith, l, levels_some S.stage.levels y t g.stands.level))

  module _ (x : ℕ) (e : x ≡ get_or old a 0) where
    says : (S : Scene i h b k) → Memo S.stage old → (t : Tree) (u y : ℕ) → Here S y a u t → x ≡ get_or S.stage.words a 0
    says S m t u y g = e ∙ seen S.stage old m y a t g.stands

    value_end : (y l v : ℕ) → kind_of x ≡ END → y ≡ get_or old (b + a) 0 → (l ≡ byte_of x i) × (l < 128) → v ≡ y % UNITS * l → Valued i d h b k a old old v
    unfolding Held Says Stocked gain
    value_end y l v z q p o S m (end f) u lev le g = (m, o ∙ ap (λ j. j * l) units ∙ product u l (byte_of x i) g.small p ∙ ap (λ j. u * j % 2 ^ 64) byte)
      where
        units : y % UNITS ≡ u
        units = let s : y ≡ u = q ∙ m.words (b + a) (omega (arith, g.stands.room, size_some (end f), S.below)) ∙ g.stocked in rw s (NatL.mod-eq_of_lt g.small)

        byte : byte_of x i ≡ lift (f i)
        byte = sym (lift_back (byte_of x i)) ∙ ap lift (ap (λ j. payoff_of j i) (says S m (end f) u lev g) ∙ g.stands.held.1 i S.stage.seat)
    value_end y l v z q p o S m (chance f) u lev le g = absurd (omega (arith, g.stands.held.0.0, ap kind_of (says S m (chance f) u lev g)))
    value_end y l v z q p o S m (decide j n f) u lev le g = absurd (omega (arith, z, g.stands.held.0.0, ap kind_of (says S m (decide j n f) u lev g)))

    pub value-ended : (v : ℕ) → kind_of x ≡ END → v ≡ get_or old (b + a) 0 % UNITS * byte_of x i → Valued i d h b k a old old v
    value-ended v z o = value_end (get_or old (b + a) 0) (byte_of x i) v z refl (refl, NatL.mod-lt _ (omega arith)) o

    module _ (new : List ℕ) (r : ℕ) where
      decided_here : (S : Scene i h b k) (j : ℕ) (n : Key) (f : Trees) (u y : ℕ) → Here S y a u (decide j n f) → HereAll S (pred y) (a + 1) (given S.parts S.strategy i u j n) 0 f
      decided_here S j n f u y g = let o : suc a ≡ a + 1 = omega arith in subst (λ z. HereAll S (pred y) z (given S.parts S.strategy i u j n) 0 f) o (kids-decide S y a u j n f g)

      -- a chance node, or another seat's decision
      pub value-row : (kind_of x ≡ END → ⊥) → (kind_of x ≡ DECISION → actor_of x ≡ i → ⊥) → ValuedAll i (d - 1) h b k (a + 1) (next_of x) old new r → Valued i d h b k a old new r
      unfolding Held Says gain size
      value-row z y v S m (end f) u lev le g = absurd (z (ap kind_of (says S m (end f) u lev g) ∙ g.stands.held.0))
      value-row z y v S m (chance f) u lev le g = v S m (λ j. u / fan f) f (pred lev) (omega arith) (subst (λ j. HereAll S (pred lev) j
          (λ j. u / fan f) 0 f) one (kids-chance S lev a u f g)) (ap next_of (says S m (chance f) u lev g) ∙ g.stands.held.0.1 ∙ omega arith)
        where
          one : suc a ≡ a + 1
          one = omega arith
      value-row z y v S m (decide j n f) u lev le g =
          let s : x ≡ get_or S.stage.words a 0 = says S m (decide j n f) u lev g in
          let l : j ≡ i → ⊥ = λ q. y (ap kind_of s ∙ g.stands.held.0.0) (ap actor_of s ∙ g.stands.held.0.1 ∙ q) in
          let o = v S m (given S.parts S.strategy i u j n) f (pred lev) (omega arith) (decided_here S j n f u lev g) (ap next_of s ∙ g.stands.held.0.4 ∙ omega arith) in
          (o.0, o.1 ∙ ap (λ t. cond t (gain_pick S.parts S.strategy i S.stage.choice (given S.parts S.strategy i u j n) 0 f (S.stage.choice n)) (gained_all S (given S.parts S.strategy i u j n) 0 f) % 2 ^ 64) (sym (ne_eqb j i l)))

      -- the seat's own
      pub value_own : kind_of x ≡ DECISION → actor_of x ≡ i → ValuedOwn i (d - 1) h b k a x old new r → Valued i d h b k a old new r
      unfolding Held Says
      value_own z y v S m (end f) u lev le g = absurd (omega (arith, z, g.stands.held.0, ap kind_of (says S m (end f) u lev g)))
      value_own z y v S m (chance f) u lev le g = absurd (omega (arith, z, g.stands.held.0.0, ap kind_of (says S m (chance f) u lev g)))
      value_own z y v S m (decide j n f) u lev le g = at j (sym g.stands.held.0.1 ∙ sym (ap actor_of (says S m (decide j n f) u lev g)) ∙ y) g
        where
          at : (j : ℕ) → j ≡ i → Here S lev a u (decide j n f) → Memo S.stage new × (r ≡ gained S u (decide j n f) % 2 ^ 64)
          at j q g =
              let o : Here S lev a u (decide i n f) = subst (λ y. Here S lev a u (decide y n f)) q g in
              let p : lev ≡ suc (pred lev) = omega (arith, levels_some S.stage.levels lev (decide i n f) o.stands.level) in
              subst (λ y. Memo S.stage new × (r ≡ gained S u (decide y n f) % 2 ^ 64)) (sym q)
              (v S m n u (pred lev) f (omega arith) (ap set_of (says S m (decide i n f) u lev o) ∙ o.stands.held.0.3)
              (ap actions_of (says S m (decide i n f) u lev o) ∙ o.stands.held.0.2) (subst (λ y. Here S y a u (decide i n f)) p o))

-- ---- a row, tree by tree
module _ (i d h b k a z : ℕ) (old : List ℕ) where
  -- place c is reached with the words w: the sum so far, and a row to come
  abbrev pub Along : List ℕ → ℕ → ℕ → Type 0
  Along w c sum = (S : Scene i h b k) → Memo S.stage old → (g : ℕ → ℕ) (f : Trees) (lev : ℕ) → lev ≤ d → HereAll S lev a g 0 f → z ≡ a + sizes f
      → Memo S.stage w × (e : Trees) × (x : ℕ) × HereAll S lev c g x e × (z ≡ c + sizes e) × (y : ℕ) × (sum ≡ y % 2 ^ 64) × (gained_all S g 0 f ≡ y + gained_all S g x e)

  pub along-start : Along old a 0
  along-start S m g f lev le r q = (m, f, 0, r, q, 0, refl, sym (NatL.zero-add (gained_all S g 0 f)))

  pub along_more : (w new : List ℕ) (c sum v s p : ℕ) → Along w c sum → c < z → Valued i d h b k c w new v → s ≡ (sum + v) % 2 ^ 64 → Behind new c p → Along new p s
  unfolding size gain
  along_more w new c sum v s p h l o n q S m g f lev le r e = at (h S m g f lev le r e)
    where
      at : Memo S.stage w × (e : Trees) × (x : ℕ) × HereAll S lev c g x e × (z ≡ c + sizes e) × (y : ℕ) × (sum ≡ y % 2 ^ 64) × (gained_all S g 0 f ≡ y + gained_all S g x e)
          → Memo S.stage new × (e : Trees) × (x : ℕ) × HereAll S lev p g x e × (z ≡ p + sizes e) × (y : ℕ) × (s ≡ y % 2 ^ 64) × (gained_all S g 0 f ≡ y + gained_all S g x e)
      at (A, nil, x, B, C, y, E, F) = absurd (omega arith)
      at (A, cons t u, x, B, C, y, E, F) =
          let G = o S A t (g x) lev le (first S lev c g x t u B) in
          let P = row-rest (descent S) new G.0 lev c g x t u B p q in (
            G.0,
            u,
            suc x,
            P.1,
            omega (arith, P.0),
            y + gained S (g x) t,
            n ∙ sum_wraps sum v y (gained S (g x) t) E G.1,
            F ∙ sym (NatL.add_assoc y (gained S (g x) t) (gained_all S g (suc x) u)),
          )

  pub along_end : (w : List ℕ) (c sum : ℕ) → Along w c sum → z ≤ c → ValuedAll i d h b k a z old w sum
  unfolding size gain
  along_end w c sum h l S m g f lev le r e = at (h S m g f lev le r e)
    where
      at : Memo S.stage w × (e : Trees) × (x : ℕ) × HereAll S lev c g x e × (z ≡ c + sizes e) × (y : ℕ) × (sum ≡ y % 2 ^ 64) × (gained_all S g 0 f ≡ y + gained_all S g x e)
          → Memo S.stage w × (sum ≡ gained_all S g 0 f % 2 ^ 64)
      at (A, nil, x, B, C, y, E, F) = (A, E ∙ ap (λ j. j % 2 ^ 64) (sym (F ∙ NatL.add-zero y)))
      at (A, cons t u, x, B, C, y, E, F) = absurd (omega (arith, size_some t))

  -- no tree ends before it begins
  pub along_stuck : (w new : List ℕ) (c sum v s p : ℕ) → Along w c sum → c < z → Valued i d h b k c w new v → Behind new c p → p ≤ c → ValuedAll i d h b k a z old new s
  unfolding size
  along_stuck w new c sum v s p h l o q y S m g f lev le r e = at (h S m g f lev le r e)
    where
      at : Memo S.stage w × (e : Trees) × (x : ℕ) × HereAll S lev c g x e × (z ≡ c + sizes e) × (y : ℕ) × (sum ≡ y % 2 ^ 64) × (gained_all S g 0 f ≡ y + gained_all S g x e)
          → Memo S.stage new × (s ≡ gained_all S g 0 f % 2 ^ 64)
      at (A, nil, x, B, C, y, E, F) = absurd (omega arith)
      at (A, cons t u, x, B, C, j, E, F) =
          let G = o S A t (g x) lev le (first S lev c g x t u B) in
          absurd (omega (arith, (row-rest (descent S) new G.0 lev c g x t u B p q).0, y, size_some t))

-- ---- the lowest of the greatest
topmost-few : (q : ℕ → ℕ) (n : ℕ) → topmost q n ≤ n
unfolding topmost
topmost-few q zero = NatL.le_refl 0
topmost-few q (suc n) = at (ltb (q (topmost q n)) (q (suc n))) (topmost-few q n)
  where
    at : (t : Bool) → topmost q n ≤ n → cond t (suc n) (topmost q n) ≤ suc n
    at true l = NatL.le_refl (suc n)
    at false l = omega arith

-- ---- an own node
-- the choice of a known set is one of its actions
pub choice-few : {i h b k : ℕ} (S : Scene i h b k) (y : Key) (n : ℕ) → Known S.stage i y n → S.stage.choice y < n
choice-few {i} S y n g =
    let few : (2 ≤ n) × (n ≤ 3) = known_of S.stage (λ j y n. (2 ≤ n) × (n ≤ 3)) S.stage.few i y n g in
    let e : S.stage.choice y ≡ topmost (behind_action S y) (pred n) = known_of S.stage (λ j y n. j ≡ i → S.stage.choice y ≡ topmost (behind_action S y) (pred n)) S.decided i y n g refl in
    omega (arith, e, topmost-few (behind_action S y) (pred n), few.0)

module _ (i d h b k a x : ℕ) (old mid new : List ℕ) (c at r : ℕ) (q : Child mid a c at) (v : Valued i d h b k at mid new r) (S : Scene i h b k) (m : Memo S.stage mid) (y : Key) (u lev : ℕ) (le : lev ≤ d) (f : Trees)
    (g : Here S (suc lev) a u (decide i y f)) (e : c ≡ S.stage.choice y) where
  abbrev to : ℕ → ℕ
  to = given S.parts S.strategy i u i y

  inside : c < fan f
  unfolding Every
  inside = omega (arith, choice-few S y (fan f) g.stands.known.0)

  child-value : Memo S.stage new × (r ≡ gain_pick S.parts S.strategy i S.stage.choice to 0 f c % 2 ^ 64)
  child-value = let one : Memo S.stage new × (r ≡ gained S (to c) (nth f c) % 2 ^ 64) = v S m (nth f c) (to c) lev le (child_at (descent S) mid m lev a u i y f g c at q inside) in
      (one.0, one.1 ∙ ap (λ j. j % 2 ^ 64) (sym (pick-gain S to f c inside)))

  own_value : Memo S.stage new × (r ≡ gained S u (decide i y f) % 2 ^ 64)
  unfolding gain
  own_value = (
    child-value.0,
    child-value.1 ∙ ap (λ j. gain_pick S.parts S.strategy i S.stage.choice to 0 f j % 2 ^ 64) e
        ∙ ap (λ t. cond t (gain_pick S.parts S.strategy i S.stage.choice to 0 f (S.stage.choice y)) (gained_all S to 0 f) % 2 ^ 64) (sym (eq-eqb i i refl)),
  )

pub own_is : (i d h b k a x : ℕ) (old mid new : List ℕ) (c at r : ℕ) → Chosen i d h b k (set_of x) (actions_of x) old mid c → Child mid a c at → Valued i d h b k at mid new r → ValuedOwn i d h b k a x old new r
unfolding Every Levels
own_is i d h b k a x old mid new c at r p q v S m y u z f le e n g =
    let o : Memo S.stage mid × (c ≡ S.stage.choice y) = p S m y (subst (Known S.stage i y) (sym n) g.stands.known.0) e (NatL.le_trans (NatL.le_of_eq g.stands.level.1) le) in
    own_value i d h b k a x old mid new c at r q v S o.0 y u z le f g o.1

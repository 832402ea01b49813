-- The value of a node from what its children give. Assumes nothing.
use mathlib.Core.Path.{◌≡◌, refl, sym, ap, ◌∙◌, subst}
use mathlib.Core.Bool.{cond}
use mathlib.Core.List.{List}
use Prim.Native.Nat.{ℕ, zero, suc, pred, ◌+◌, ◌-◌, ◌≤◌, ◌<◌}
use native.Mathlib.Nat as NatL
use native.Mathlib.Omega.{arith}
use lib.Ieee.{Float, nan, binary64, of_int}
use lib.ListN.{length, get_or, take, drop}
use borrow.Author.Tests.{eq-eqb, ne_eqb}
use Rattle.game_tree.specs.Tree.{Key, Tree, end, chance, decide, Trees, nil, cons, fan}
use Rattle.game_tree.specs.Conditions.{Every}
use Rattle.game_tree.specs.Shape.{Levels}
use Rattle.game_tree.specs.Sets.{size, sizes, first_entry}
use Rattle.arena.specs.internal.Words.{END, CHANCE, kind_of, actor_of, actions_of, set_of, next_of, payoff_of}
use Rattle.arena.specs.internal.Held.{Says, Held}
use Rattle.arena.specs.internal.Index.{later_in}
use Rattle.arena.specs.internal.Walk.{Behind, Fan}
use Rattle.arena.proofs.Building.{size_some, fan-few}
use Rattle.game_tree_f64.specs.Values.{profile_of, nought, plus, times, weight, edge, value, picked, lead}
use Rattle.prelude.proofs.Parts.{part_length, part_at}
use Rattle.arena_walks.specs.internal.Child.{nth, Child}
use Rattle.arena_walks.specs.internal.Stage.{Stage, Known, Memo, SubtreeAt, SubtreesAt}
use Rattle.arena_walks.proofs.Standing.{levels_some, kids-chance, kids-decide, first, rest, known_of, seen, held_in, held_in_all}
use Rattle.arena_walks.proofs.Descending.{Descent, child_at}
use Rattle.f64_values.specs.internal.Valued.{Scene, entries, own, valued, gained, added_up, behind_action, Valued, Gained, Dealt, Split, ValuedOwn, Chosen}
use Rattle.game_tree_f64.proofs.Leading.{lead-few}

-- ---- a node by its word
module _ (P : List Float) (i d h b k a : ℕ) (old : List ℕ) where
  pub value_none : (r : Float) → d ≡ 0 → Valued P i d h b k a old old r
  value_none r e S m t y l g = absurd (omega (arith, l, levels_some S.stage.levels y t g.level))

  module _ (x : ℕ) (e : x ≡ get_or old a 0) where
    says : (S : Scene P i h b k) → Memo S.stage old → (t : Tree) (y : ℕ) → SubtreeAt S.stage y a t → x ≡ get_or S.stage.words a 0
    says S m t y g = e ∙ seen S.stage old m y a t g

    pub value_end : kind_of x ≡ END → Valued P i d h b k a old old nought
    unfolding Held Says value
    value_end z S m (end f) y le g = (m, refl)
    value_end z S m (chance f) y le g = absurd (omega (arith, z, g.held.0.0, ap kind_of (says S m (chance f) y g)))
    value_end z S m (decide j n f) y le g = absurd (omega (arith, z, g.held.0.0, ap kind_of (says S m (decide j n f) y g)))

    -- an end gives its payoff
    pub gain_end : (v : Float) → kind_of x ≡ END → v ≡ plus (of_int binary64 (payoff_of x i)) nought → Gained P i d h b k a old old v
    unfolding Held Says value edge
    gain_end v z o S m (end f) y le g = (m, o ∙ ap (λ p. plus (of_int binary64 p) nought) (ap (λ j. payoff_of j i) (says S m (end f) y g) ∙ g.held.1 i S.stage.seat))
    gain_end v z o S m (chance f) y le g = absurd (omega (arith, z, g.held.0.0, ap kind_of (says S m (chance f) y g)))
    gain_end v z o S m (decide j n f) y le g = absurd (omega (arith, z, g.held.0.0, ap kind_of (says S m (decide j n f) y g)))

    module _ (new : List ℕ) (r : Float) where
      -- any other node its value
      pub gain_more : (v : Float) → (kind_of x ≡ END → ⊥) → Valued P i d h b k a old new r → v ≡ plus nought r → Gained P i d h b k a old new v
      unfolding Held Says edge
      gain_more v z q o S m (end f) y le g = absurd (z (ap kind_of (says S m (end f) y g) ∙ g.held.0))
      gain_more v z q o S m (chance f) y le g = let A = q S m (chance f) y le g in (A.0, o ∙ ap (plus nought) A.1)
      gain_more v z q o S m (decide j n f) y le g = let A = q S m (decide j n f) y le g in (A.0, o ∙ ap (plus nought) A.1)

      next_place : suc a ≡ a + 1
      next_place = omega arith

      pub value-chance : kind_of x ≡ CHANCE → Dealt P i (d - 1) h b k (a + 1) (next_of x) old new r → Valued P i d h b k a old new r
      unfolding Held Says value size
      value-chance z v S m (end f) y le g = absurd (omega (arith, z, g.held.0, ap kind_of (says S m (end f) y g)))
      value-chance z v S m (chance f) y le g = v S m f (pred y) (omega arith) (subst (λ j. SubtreesAt S.stage (pred y) j f) next_place (kids-chance S.stage y a f g)) (ap next_of (says S m (chance f) y g) ∙ g.held.0.1 ∙ omega arith)
      value-chance z v S m (decide j n f) y le g = absurd (omega (arith, z, g.held.0.0, ap kind_of (says S m (decide j n f) y g)))

      -- another seat's
      pub value-other : (kind_of x ≡ END → ⊥) → (kind_of x ≡ CHANCE → ⊥) → (actor_of x ≡ i → ⊥) → Split P i (d - 1) h b k (a + 1) x old new r → Valued P i d h b k a old new r
      unfolding Held Says value Every
      value-other z c q v S m (end f) y le g = absurd (z (ap kind_of (says S m (end f) y g) ∙ g.held.0))
      value-other z c q v S m (chance f) y le g = absurd (c (ap kind_of (says S m (chance f) y g) ∙ g.held.0.0))
      value-other z c q v S m (decide j n f) y le g =
          let l : j ≡ i → ⊥ = λ o. q (ap actor_of (says S m (decide j n f) y g) ∙ g.held.0.1 ∙ o) in
          let o = v S m j n f (pred y) (omega arith) (ap set_of (says S m (decide j n f) y g) ∙ g.held.0.3) (ap actions_of (says S m (decide j n f) y g) ∙ g.held.0.2) g.known.0
          (subst (λ w. SubtreesAt S.stage (pred y) w f) next_place (kids-decide S.stage y a j n f g)) in
          (o.0, o.1 ∙ ap (λ t. cond t (picked (entries S) i (own S) S.stage.choice f (S.stage.choice n)) (added_up S (entries S j n) 0 nought f)) (sym (ne_eqb j i l)))

      -- the seat's own
      pub value_own : (kind_of x ≡ END → ⊥) → (kind_of x ≡ CHANCE → ⊥) → actor_of x ≡ i → ValuedOwn P i (d - 1) h b k a x old new r → Valued P i d h b k a old new r
      unfolding Held Says
      value_own z c q v S m (end f) y le g = absurd (z (ap kind_of (says S m (end f) y g) ∙ g.held.0))
      value_own z c q v S m (chance f) y le g = absurd (c (ap kind_of (says S m (chance f) y g) ∙ g.held.0.0))
      value_own z c q v S m (decide j n f) y le g = at j (sym g.held.0.1 ∙ sym (ap actor_of (says S m (decide j n f) y g)) ∙ q) g
        where
          at : (j : ℕ) → j ≡ i → SubtreeAt S.stage y a (decide j n f) → Memo S.stage new × (r ≡ valued S (decide j n f))
          at j u g =
              let o : SubtreeAt S.stage y a (decide i n f) = subst (λ w. SubtreeAt S.stage y a (decide w n f)) u g in
              let p : y ≡ suc (pred y) = omega (arith, levels_some S.stage.levels y (decide i n f) o.level) in
              subst (λ w. Memo S.stage new × (r ≡ valued S (decide w n f))) (sym u)
              (v S m n (pred y) f (omega arith) (ap set_of (says S m (decide i n f) y o) ∙ o.held.0.3) (ap actions_of (says S m (decide i n f) y o) ∙ o.held.0.2) (subst (λ w. SubtreeAt S.stage w a (decide i n f)) p o))

-- ---- the children of a chance node, one after the other
-- where the next child stands
behind_is : {P : List Float} {i h b k : ℕ} (S : Scene P i h b k) (w : List ℕ) → Memo S.stage w → (lev c p : ℕ) (t : Tree) (u : Trees) → SubtreesAt S.stage lev c (cons t u) → Behind w c p → p ≡ c + size t
behind_is S w m lev c p t u B q = let o = first S.stage lev c t u B in
    q.place S.stage.seats (first_entry S.stage.tree) (later_in S.stage.tree) t (held_in S.stage w m lev c t o) (omega (arith, o.room, S.stage.room))

module _ (P : List Float) (i d h b k a z : ℕ) (old : List ℕ) (each : Float) where
  -- place c is reached with the words w: a row is to come, and its sum from here on is the sum of all
  abbrev pub Along : List ℕ → ℕ → Float → Type 0
  Along w c sum = (S : Scene P i h b k) → Memo S.stage old → (f : Trees) (lev : ℕ) → lev ≤ d → SubtreesAt S.stage lev a f → z ≡ a + sizes f
      → Memo S.stage w × (e : Trees) × (x : ℕ) × SubtreesAt S.stage lev c e × (z ≡ c + sizes e) × (added_up S (λ c. weight (fan f)) 0 nought f ≡ added_up S (λ c. each) x sum e)

  pub along-start : (count : ℕ) → Fan old a z count → (count < 4294967296 → each ≡ weight count) → Along old a nought
  along-start count c e S m f lev le r q = (m, f, 0, r, q, ap (λ w. added_up S (λ c. w) 0 nought f) (sym (e few ∙ ap weight is)))
    where
      is : count ≡ fan f
      is = c S.stage.seats (first_entry S.stage.tree) (later_in S.stage.tree) f (held_in_all S.stage old m lev a f r) q (omega (arith, q, r.room, S.stage.room))

      few : count < 4294967296
      few = omega (arith, is, fan-few f, r.room, S.stage.room)

  pub along_more : (w new : List ℕ) (c : ℕ) (sum g s : Float) (p : ℕ) → Along w c sum → c < z → Gained P i d h b k c w new g → s ≡ plus sum (times each g) → Behind new c p → Along new p s
  unfolding size value
  along_more w new c sum g s p h l o n q S m f lev le r e = at (h S m f lev le r e)
    where
      at : Memo S.stage w × (e : Trees) × (x : ℕ) × SubtreesAt S.stage lev c e × (z ≡ c + sizes e) × (added_up S (λ c. weight (fan f)) 0 nought f ≡ added_up S (λ c. each) x sum e)
          → Memo S.stage new × (e : Trees) × (x : ℕ) × SubtreesAt S.stage lev p e × (z ≡ p + sizes e) × (added_up S (λ c. weight (fan f)) 0 nought f ≡ added_up S (λ c. each) x s e)
      at (A, nil, x, B, C, E) = absurd (omega arith)
      at (A, cons t u, x, B, C, E) =
          let G = o S A t lev le (first S.stage lev c t u B) in
          let Q : p ≡ c + size t = behind_is S new G.0 lev c p t u B q in
          (G.0, u, suc x, subst (λ j. SubtreesAt S.stage lev j u) (sym Q) (rest S.stage lev c t u B), omega (arith, Q, C), E ∙ ap (λ v. added_up S (λ c. each) (suc x) v u) (sym (n ∙ ap (λ j. plus sum (times each j)) G.1)))

  pub along_end : (w : List ℕ) (c : ℕ) (sum : Float) → Along w c sum → z ≤ c → Dealt P i d h b k a z old w sum
  unfolding size value
  along_end w c sum h l S m f lev le r e = at (h S m f lev le r e)
    where
      at : Memo S.stage w × (e : Trees) × (x : ℕ) × SubtreesAt S.stage lev c e × (z ≡ c + sizes e) × (added_up S (λ c. weight (fan f)) 0 nought f ≡ added_up S (λ c. each) x sum e)
          → Memo S.stage w × (sum ≡ added_up S (λ c. weight (fan f)) 0 nought f)
      at (A, nil, x, B, C, E) = (A, sym E)
      at (A, cons t u, x, B, C, E) = absurd (omega (arith, size_some t))

  -- no tree ends before it begins
  pub along_stuck : (w new : List ℕ) (c : ℕ) (sum g s : Float) (p : ℕ) → Along w c sum → c < z → Gained P i d h b k c w new g → Behind new c p → p ≤ c → Dealt P i d h b k a z old new s
  unfolding size
  along_stuck w new c sum g s p h l o q y S m f lev le r e = at (h S m f lev le r e)
    where
      at : Memo S.stage w × (e : Trees) × (x : ℕ) × SubtreesAt S.stage lev c e × (z ≡ c + sizes e) × (added_up S (λ c. weight (fan f)) 0 nought f ≡ added_up S (λ c. each) x sum e)
          → Memo S.stage new × (s ≡ added_up S (λ c. weight (fan f)) 0 nought f)
      at (A, nil, x, B, C, E) = absurd (omega arith)
      at (A, cons t u, x, B, C, E) =
          let G = o S A t lev le (first S.stage lev c t u B) in
          let Q : p ≡ c + size t = behind_is S new G.0 lev c p t u B q in
          absurd (omega (arith, Q, y, size_some t))

-- ---- the children of another seat's decision, with the set's own part of the profile
module _ (P : List Float) (i d h b k a x : ℕ) (old : List ℕ) where
  pub split-short : (r : Float) → length P < set_of x + actions_of x → Split P i d h b k a x old old r
  split-short r l S m j y f lev le e n g o = absurd (omega (arith, l, e, n, known_of S.stage (λ j y n. first_entry S.stage.tree j y + n ≤ length P) S.inside j y (fan f) g))

  -- place c is reached with the words w: the children from number v on are to come, and their sum from here on is the sum of all
  abbrev pub Halfway : List ℕ → (c v : ℕ) → Float → Type 0
  Halfway w c v sum = (S : Scene P i h b k) → Memo S.stage old → (j : ℕ) (y : Key) (f : Trees) (lev : ℕ) → lev ≤ d → set_of x ≡ first_entry S.stage.tree j y → actions_of x ≡ fan f
      → Known S.stage j y (fan f) → SubtreesAt S.stage lev a f
      → Memo S.stage w × (u : Trees) × SubtreesAt S.stage lev c u × (fan f ≡ v + fan u) × (added_up S (entries S j y) 0 nought f ≡ added_up S (entries S j y) v sum u)

  pub halfway_start : Halfway old a 0 nought
  halfway_start S m j y f lev le e n g r = (m, f, r, omega arith, refl)

  module _ (e₀ n₀ : ℕ) (is-first : e₀ ≡ set_of x) (is-count : n₀ ≡ actions_of x) (room : e₀ + n₀ ≤ length P) where
    abbrev pub part : List Float
    part = take (e₀ + n₀ - e₀) (drop e₀ P)

    part_count : length part ≡ actions_of x
    part_count = part_length P e₀ (e₀ + n₀) room ∙ omega (arith, is-count)

    -- the entries of the part are the set's
    part_is : (S : Scene P i h b k) (j : ℕ) (y : Key) → set_of x ≡ first_entry S.stage.tree j y → (c : ℕ) → c < actions_of x → get_or part c nan ≡ entries S j y c
    unfolding profile_of
    part_is S j y e c l = part_at P e₀ (e₀ + n₀) c nan (omega (arith, is-count)) ∙ ap (λ n. get_or P (n + c) nan) (is-first ∙ e)

    pub halfway_more : (w new : List ℕ) (c v : ℕ) (sum g s : Float) (p : ℕ) → Halfway w c v sum → v < length part → Gained P i d h b k c w new g → s ≡ plus sum (times (get_or part v nan) g) → Behind new c p → Halfway new p (v + 1) s
    unfolding fan value
    halfway_more w new c v sum g s p before more o q next S m j y f lev le e n known r = at (before S m j y f lev le e n known r)
      where
        few : v < actions_of x
        few = omega (arith, more, part_count)

        one : suc v ≡ v + 1
        one = omega arith

        at : Memo S.stage w × (u : Trees) × SubtreesAt S.stage lev c u × (fan f ≡ v + fan u) × (added_up S (entries S j y) 0 nought f ≡ added_up S (entries S j y) v sum u)
            → Memo S.stage new × (u : Trees) × SubtreesAt S.stage lev p u × (fan f ≡ v + 1 + fan u) × (added_up S (entries S j y) 0 nought f ≡ added_up S (entries S j y) (v + 1) s u)
        at (A, nil, B, C, E) = absurd (omega (arith, few, n, C))
        at (A, cons t u, B, C, E) =
            let G = o S A t lev le (first S.stage lev c t u B) in
            let Q : p ≡ c + size t = behind_is S new G.0 lev c p t u B next in
            let more : s ≡ plus sum (times (entries S j y v) (gained S t)) = q ∙ ap (λ z. plus sum (times z g)) (part_is S j y e v few) ∙ ap (λ z. plus sum (times (entries S j y v) z)) G.1 in (
              G.0,
              u,
              subst (λ z. SubtreesAt S.stage lev z u) (sym Q) (rest S.stage lev c t u B),
              omega (arith, C),
              E ∙ ap (λ z. added_up S (entries S j y) (suc v) z u) (sym more) ∙ ap (λ z. added_up S (entries S j y) z s u) one,
            )

    pub halfway_end : (w : List ℕ) (c v : ℕ) (sum : Float) → Halfway w c v sum → length part ≤ v → Split P i d h b k a x old w sum
    unfolding fan value
    halfway_end w c v sum before none S m j y f lev le e n known r = at (before S m j y f lev le e n known r)
      where
        at : Memo S.stage w × (u : Trees) × SubtreesAt S.stage lev c u × (fan f ≡ v + fan u) × (added_up S (entries S j y) 0 nought f ≡ added_up S (entries S j y) v sum u)
            → Memo S.stage w × (sum ≡ added_up S (entries S j y) 0 nought f)
        at (A, nil, B, C, E) = (A, sym E)
        at (A, cons t u, B, C, E) = absurd (omega (arith, none, part_count, n, C))

-- ---- an own node
-- what stands goes down to the children
abbrev pub plain : {i h k : ℕ} (S : Stage i h k) → Descent S {W = Unit {0}} (λ u n. u) (λ u j y a. u)
plain S = record {
  Here = λ d a u t. SubtreeAt S d a t;
  HereAll = λ d a g x f. SubtreesAt S d a f;
  stands = λ d a u t r. r;
  «stands_all» = λ d a g x f r. r;
  dealt = λ d a u f r. kids-chance S d a f r;
  moved = λ d a u j y f r. kids-decide S d a j y f r;
  one = λ d a g x t f r. first S d a t f r;
  others = λ d a g x t f r. rest S d a t f r;
}

-- the child that is picked
pub picked-nth : {P : List Float} {i h b k : ℕ} (S : Scene P i h b k) (f : Trees) (c : ℕ) → c < fan f → picked (entries S) i (own S) S.stage.choice f c ≡ gained S (nth f c)
unfolding fan nth value
picked-nth S nil c l = absurd (NatL.not-suc-le-zero l)
picked-nth S (cons t f) zero l = refl
picked-nth S (cons t f) (suc c) l = picked-nth S f c (NatL.le_of_suc-le-suc l)

-- the choice of a known set is one of its actions
pub choice-few : {P : List Float} {i h b k : ℕ} (S : Scene P i h b k) (y : Key) (n : ℕ) → Known S.stage i y n → S.stage.choice y < n
choice-few {P} {i} S y n g =
    let few : (2 ≤ n) × (n ≤ 3) = known_of S.stage (λ j y n. (2 ≤ n) × (n ≤ 3)) S.stage.few i y n g in
    subst (λ c. c < n) (sym (known_of S.stage (λ j y n. j ≡ i → S.stage.choice y ≡ (lead (behind_action S y) n).0) S.decided i y n g refl)) (lead-few (behind_action S y) n (omega (arith, few.0)))

pub own_is : (P : List Float) (i d h b k a x : ℕ) (old mid new : List ℕ) (c at : ℕ) (r : Float) → Chosen P i d h b k (set_of x) (actions_of x) old mid c → Child mid a c at → Gained P i d h b k at mid new r
    → ValuedOwn P i d h b k a x old new r
unfolding Every Levels value
own_is P i d h b k a x old mid new c at r p q v S m y z f le e n g =
    let o : Memo S.stage mid × (c ≡ S.stage.choice y) = p S m y (subst (Known S.stage i y) (sym n) g.known.0) e (NatL.le_trans (NatL.le_of_eq g.level.1) le) in
    let l : c < fan f = subst (λ w. w < fan f) (sym o.1) (choice-few S y (fan f) g.known.0) in
    let u = v S o.0 (nth f c) z le (child_at (plain S.stage) mid o.0 z a tt i y f g c at q l) in (
      u.0,
      u.1 ∙ sym (picked-nth S f c l) ∙ ap (picked (entries S) i (own S) S.stage.choice f) o.1
          ∙ ap (λ t. cond t (picked (entries S) i (own S) S.stage.choice f (S.stage.choice y)) (added_up S (entries S i y) 0 nought f)) (sym (eq-eqb i i refl)),
    )

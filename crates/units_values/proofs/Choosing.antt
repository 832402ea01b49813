-- The choice of a set from the sums over its members. Assumes nothing.
use Rattle.std.proofs.Common.{◌≡◌, ℕ, zero, suc, pred, ◌+◌, ◌-◌, ◌%◌, ◌^◌, ◌<◌, ◌≤◌, cond, ltb, List, [], ◌∷◌, get_or, set, sym, refl, ap, ◌∙◌, subst, ap₂, arith, ltb-false}
use native.Mathlib.Nat as NatL
use Rattle.game_tree.specs.Sums.{sumℕ}
use Rattle.game_tree.proofs.Tests.{Tested, is, isn't, tested}
use Rattle.game_tree.specs.Tree.{Key, fan}
use Rattle.game_tree.specs.Sets.{first_entry}
use Rattle.arena.specs.internal.Words.{later_of, PLACES}
use Rattle.arena_walks.specs.internal.Child.{nth, Child}
use Rattle.arena_walks.specs.internal.Stage.{Known, Memo}
use Rattle.arena_walks.proofs.Standing.{known_of}
use Rattle.arena_walks.proofs.Noting as Noting
use Rattle.arena_walks.proofs.Remaining.{Remaining, remaining-start, remaining_more, remaining-child, remaining_none, remaining_some, remaining_rises}
use Rattle.units.specs.internal.Gain.{Member, given, gain_pick, found, set_gain, topmost}
use Rattle.units.proofs.Six.{sum_wraps}
use Rattle.units_values.specs.internal.Valued.{Scene, Here, gained, behind_action, Valued, Chosen, Totalled}
use Rattle.units_values.proofs.Scenes.{given_whole, descent, root_here, pick-gain}

-- ---- a choice on its way through the actions
-- past the first x of them: at action c, with the sum s
unfoldable pub Passed : (ℕ → ℕ) → (c s x : ℕ) → Type 0
Passed q c s zero = (c ≡ 0) × (s ≡ 0)
Passed q c s (suc x) = (c ≡ topmost q x) × (s ≡ q (topmost q x))

passed_more : (q : ℕ → ℕ) (c s x v a r : ℕ) → Passed q c s x → v ≡ q x → a ≡ cond (ltb s v) x c → r ≡ cond (ltb s v) v s → Passed q a r (suc x)
unfolding Passed topmost
passed_more q c s zero v a r p e f g = at (tested (ltb s v)) f g
  where
    at : Tested (ltb s v) → a ≡ cond (ltb s v) 0 c → r ≡ cond (ltb s v) v s → (a ≡ 0) × (r ≡ q 0)
    at (is w) f g = (rw w at f, (rw w at g) ∙ e)
    at (isn't w) f g = ((rw w at f) ∙ p.0, (rw w at g) ∙ omega (arith, ltb-false s v w, p.1) ∙ e)
passed_more q c s (suc x) v a r p e f g = at (tested (ltb s v)) f g
  where
    b : ℕ
    b = topmost q x

    same : ltb s v ≡ ltb (q b) (q (suc x))
    same = ap₂ ltb p.1 e

    at : Tested (ltb s v) → a ≡ cond (ltb s v) (suc x) c → r ≡ cond (ltb s v) v s → (a ≡ cond (ltb (q b) (q (suc x))) (suc x) b) × (r ≡ q (cond (ltb (q b) (q (suc x))) (suc x) b))
    at (is w) f g = rw (sym same ∙ w) (rw w at f, (rw w at g) ∙ e)
    at (isn't w) f g = rw (sym same ∙ w) ((rw w at f) ∙ p.0, (rw w at g) ∙ p.1)

module _ (i d h b k e n : ℕ) (old : List ℕ) where
  -- a choice that was found before
  pub chosen-known : (v r : ℕ) → v ≡ get_or old (k + e) 0 → (v ≡ 0 → ⊥) → r ≡ v - 1 → Chosen i d h b k e n old old r
  chosen-known v r q z p S m y g l x = (m, Noting.chosen-known S.stage old m y n g e l v r q z p)

  -- with the words w: a choice past the first x actions is at action c, with the sum s
  abbrev pub Led : List ℕ → (c s x : ℕ) → Type 0
  Led w c s x = (S : Scene i h b k) → Memo S.stage old → (y : Key) → Known S.stage i y n → e ≡ first_entry S.stage.tree i y → S.stage.levels i y ≤ d
      → Memo S.stage w × (x ≤ n) × Passed (behind_action S y) c s x

  pub led_start : (c s : ℕ) → c ≡ 0 → s ≡ 0 → Led old c s 0
  unfolding Passed
  led_start c s p q S m y g l f = (m, omega arith, (p, q))

  pub led_more : (w new : List ℕ) (c s x v a r : ℕ) → Led w c s x → x < n → Totalled i d h b k e x w new v → a ≡ cond (ltb s v) x c → r ≡ cond (ltb s v) v s → Led new a r (x + 1)
  led_more w new c s x v a r before more t p q S m y g l f =
      let A = before S m y g l f in
      let B : Memo S.stage new × (v ≡ behind_action S y x) = t S A.0 y n g l f more in
      let next : suc x ≡ x + 1 = omega arith in
      (B.0, omega (arith, more), subst (Passed (behind_action S y) a r) next (passed_more (behind_action S y) c s x v a r A.2 B.1 p q))

  -- past all actions it is the set's choice
  pub led_end : (w new : List ℕ) (c s x : ℕ) → Led w c s x → n ≤ x → new ≡ set w (k + e) (c + 1) → Chosen i d h b k e n old new c
  unfolding Passed
  led_end w new c s x before none o S m y g l f =
      let A = before S m y g l f in
      let few : (2 ≤ n) × (n ≤ 3) = known_of S.stage (λ j y n. (2 ≤ n) × (n ≤ 3)) S.stage.few i y n g in
      let all : x ≡ suc (pred n) = omega (arith, A.1, none, few.0) in
      let past : Passed (behind_action S y) c s (suc (pred n)) = subst (Passed (behind_action S y) c s) all A.2 in
      let top : c ≡ S.stage.choice y = past.0 ∙ sym (known_of S.stage (λ j y n. j ≡ i → S.stage.choice y ≡ topmost (behind_action S y) (pred n)) S.decided i y n g refl) in
      (Noting.noted_more S.stage w A.0 y n g e l new c top o, top)

-- ---- the members one after the other
module _ {i h b k : ℕ} (S : Scene i h b k) (y : Key) (a : ℕ) where
  -- what the members add behind action a
  abbrev adds : List Member → ℕ
  adds ms = sumℕ (λ (m : Member). gain_pick S.parts S.strategy i S.stage.choice (λ z. m.1) 0 m.2 a) ms

  -- members to come, the first of them at place c, and the sum before them
  pub record Rest (c sum : ℕ) (ms : List Member) : Type 0 where
    pub left : Remaining (descent S) y c ms
    pub done : ℕ
    pub is : sum ≡ done % 2 ^ 64
    pub all : behind_action S y a ≡ done + adds ms

  -- all of them
  rest-start : (old : List ℕ) → Memo S.stage old → (n : ℕ) → Known S.stage i y n → (c : ℕ) → c ≡ get_or old (h + first_entry S.stage.tree i y) 0 % PLACES
      → Rest c 0 (found S.parts S.strategy i y 0 S.root S.stage.tree)
  unfolding set_gain
  rest-start old m n g c e = record {
    left = remaining-start (descent S) y old m n g S.root (root_here S) c e;
    done = 0;
    is = refl;
    all = sym (NatL.zero-add (adds (found S.parts S.strategy i y 0 S.root S.stage.tree)));
  }

  -- one after the other
  module _ (n : ℕ) (g : Known S.stage i y n) (l : a < n) (cur new : List ℕ) (c q v s next sum : ℕ) (m : Memo S.stage cur) (o : Child cur c a q) (d : ℕ) (deep : S.stage.levels i y ≤ d) (w : Valued i d h b k q cur new v)
      (e : s ≡ (sum + v) % 2 ^ 64) (z : next ≡ later_of (get_or new c 0)) where
    rest_more : (x : Member) (ms : List Member) → Rest c sum (x ∷ ms) → Memo S.stage new × Rest next s ms
    unfolding sumℕ
    rest_more (p, u, f) ms r = (
      value.0,
      record {
        left = remaining_more (descent S) y new value.0 c next (p, u, f) ms r.left z;
        done = r.done + gain_pick S.parts S.strategy i S.stage.choice (λ z. u) 0 f a;
        is = e ∙ sum_wraps sum v r.done (gain_pick S.parts S.strategy i S.stage.choice (λ z. u) 0 f a) r.is value.1;
        all = r.all ∙ sym (NatL.add_assoc r.done (gain_pick S.parts S.strategy i S.stage.choice (λ z. u) 0 f a) (adds ms));
      },
    )
      where
        child : (a < fan f) × Here S (S.stage.levels i y) q (given S.parts S.strategy i u i y a) (nth f a)
        child = remaining-child (descent S) y cur m n g c a q (p, u, f) ms r.left o l

        value : Memo S.stage new × (v ≡ gain_pick S.parts S.strategy i S.stage.choice (λ z. u) 0 f a % 2 ^ 64)
        value = let one : Memo S.stage new × (v ≡ gained S u (nth f a) % 2 ^ 64) = w S m (nth f a) u (S.stage.levels i y) deep (subst (λ j. Here S (S.stage.levels i y) q j (nth f a)) (given_whole S u y a) child.1) in
            (one.0, one.1 ∙ ap (λ j. j % 2 ^ 64) (sym (pick-gain S (λ z. u) f a child.0)))

  -- none is left
  rest_end : (sum c : ℕ) → Rest c sum [] → sum ≡ behind_action S y a
  unfolding sumℕ
  rest_end sum c r = let q : behind_action S y a ≡ r.done = r.all ∙ NatL.add-zero r.done in r.is ∙ NatL.mod-eq_of_lt (subst (λ j. j < 2 ^ 64) q (S.bounded y a)) ∙ sym q

module _ (i d h b k e a : ℕ) (old : List ℕ) where
  -- with the words w: the member at place c is next
  abbrev pub Summed : List ℕ → ℕ → ℕ → Type 0
  Summed w c sum = (S : Scene i h b k) → Memo S.stage old → (y : Key) (n : ℕ) → Known S.stage i y n → e ≡ first_entry S.stage.tree i y → S.stage.levels i y ≤ d → a < n
      → Memo S.stage w × (ms : List Member) × Rest S y a c sum ms

  pub summed-start : (c : ℕ) → c ≡ get_or old (h + e) 0 % PLACES → Summed old c 0
  summed-start c q S m y n g l x z = (m, found S.parts S.strategy i y 0 S.root S.stage.tree, rest-start S y a old m n g c (q ∙ ap (λ j. get_or old (h + j) 0 % PLACES) l))

  pub summed_more : (w new : List ℕ) (c sum q v s next : ℕ) → Summed w c sum → 0 < c → Child w c a q → Valued i d h b k q w new v → s ≡ (sum + v) % 2 ^ 64 → next ≡ later_of (get_or new c 0) → Summed new next s
  summed_more w new c sum q v s next f p o r j x S m y n g l z t = at (f S m y n g l z t)
    where
      at : Memo S.stage w × (ms : List Member) × Rest S y a c sum ms → Memo S.stage new × (ms : List Member) × Rest S y a next s ms
      at (A, [], B) = absurd (omega (arith, p, remaining_none (descent S) y c B.left))
      at (A, m ∷ ms, B) = let X : Memo S.stage new × Rest S y a next s ms = rest_more S y a n g t w new c q v s next sum A o d z r j x m ms B in (X.0, ms, X.1)

  pub summed_stuck : (w new : List ℕ) (c sum q v s next : ℕ) → Summed w c sum → 0 < c → Child w c a q → Valued i d h b k q w new v → s ≡ (sum + v) % 2 ^ 64 → next ≡ later_of (get_or new c 0) → next ≤ c → Totalled i d h b k e a old new s
  summed_stuck w new c sum q v s next f p o r j x u S m y n g l z t = at (f S m y n g l z t)
    where
      at : Memo S.stage w × (ms : List Member) × Rest S y a c sum ms → Memo S.stage new × (s ≡ behind_action S y a)
      at (A, [], B) = absurd (omega (arith, p, remaining_none (descent S) y c B.left))
      at (A, m ∷ [], B) = let X : Memo S.stage new × Rest S y a next s [] = rest_more S y a n g t w new c q v s next sum A o d z r j x m [] B in (X.0, rest_end S y a s next X.1)
      at (A, m ∷ (two ∷ ms), B) = let X : Memo S.stage new × Rest S y a next s (two ∷ ms) = rest_more S y a n g t w new c q v s next sum A o d z r j x m (two ∷ ms) B in
          absurd (omega (arith, remaining_rises (descent S) y c next m two ms B.left X.1.left, u))

  pub summed_end : (w : List ℕ) (c sum : ℕ) → Summed w c sum → (0 < c → ⊥) → Totalled i d h b k e a old w sum
  summed_end w c sum f z S m y n g l x t = at (f S m y n g l x t)
    where
      at : Memo S.stage w × (ms : List Member) × Rest S y a c sum ms → Memo S.stage w × (sum ≡ behind_action S y a)
      at (A, [], B) = (A, rest_end S y a sum c B)
      at (A, m ∷ ms, B) = absurd (z (remaining_some (descent S) y c m ms B.left))

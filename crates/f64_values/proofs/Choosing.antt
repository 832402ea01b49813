-- The choice of a set from the sums over its members. Assumes nothing.
use mathlib.Core.Path.{◌≡◌, refl, sym, ap, ◌∙◌}
use mathlib.Core.Bool.{true, cond}
use mathlib.Core.List.{List, [], ◌∷◌, map}
use Prim.Native.Nat.{ℕ, suc, ◌+◌, ◌-◌, ◌%◌, ◌≤◌, ◌<◌}
use native.Mathlib.Omega.{arith}
use lib.Ieee.{Float, inf, binary64, of_bits, lt}
use lib.ListN.{get_or, set}
use Rattle.game_tree.specs.Tree.{Key, Tree, chance, decide, Trees, cons, fan}
use Rattle.game_tree.specs.Sets.{size, first_entry}
use Rattle.arena.specs.internal.Words.{later_of, PLACES}
use Rattle.arena.specs.internal.Index.{first_of}
use Rattle.game_tree_f64.specs.Values.{one, nought, plus, times, weight, picked, passed, lead, summed, set_sum}
use Rattle.arena_walks.specs.internal.Child.{nth, Child}
use Rattle.arena_walks.specs.internal.Stage.{Known, Memo, SubtreeAt, SubtreesAt}
use Rattle.arena_walks.specs.internal.Found.{Member, found}
use Rattle.arena_walks.proofs.Standing.{kids-chance, kids-decide, first, rest, known_of, root_stands}
use Rattle.arena_walks.proofs.Noting as noting
use Rattle.arena_walks.proofs.Finding.{EachMember}
use Rattle.arena_walks.proofs.Descending.{Descent}
use Rattle.arena_walks.proofs.Remaining.{Remaining, remaining-start, remaining_more, remaining-child, remaining_none, remaining_some, remaining_rises}
use Rattle.f64_collect.specs.internal.Reached.{Marked, MarkedAll}
use Rattle.f64_collect.proofs.Members.{dealt, reached, reached_found}
use Rattle.f64_values.specs.internal.Valued.{Scene, entries, own, behind_action, Gained, Chosen, Totalled}
use Rattle.game_tree_f64.proofs.Leading.{past_action, past_sum}
use Rattle.f64_values.proofs.Valuing.{picked-nth}

-- ---- a choice on its way through the actions
module _ (P : List Float) (i d h b k e n : ℕ) (old : List ℕ) where
  -- a choice that was found before
  pub chosen-known : (v r : ℕ) → v ≡ get_or old (k + e) 0 → (v ≡ 0 → ⊥) → r ≡ v - 1 → Chosen P i d h b k e n old old r
  chosen-known v r q z p S m y g l x = (m, noting.chosen-known S.stage old m y n g e l v r q z p)

  -- with the words w: a choice past the first x actions is at action c, with the sum s
  abbrev pub Led : List ℕ → (c : ℕ) → Float → (x : ℕ) → Type 0
  Led w c s x = (S : Scene P i h b k) → Memo S.stage old → (y : Key) → Known S.stage i y n → e ≡ first_entry S.stage.tree i y → S.stage.levels i y ≤ d
      → Memo S.stage w × (x ≤ n) × (c ≡ (lead (behind_action S y) x).0) × (s ≡ (lead (behind_action S y) x).1)

  pub led_start : (c : ℕ) (s : Float) → c ≡ 0 → s ≡ inf true → Led old c s 0
  unfolding lead
  led_start c s p q S m y g l f = (m, omega arith, p, q)

  pub led_more : (w new : List ℕ) (c : ℕ) (s : Float) (x : ℕ) (v : Float) (a : ℕ) (r : Float) → Led w c s x → x < n → Totalled P i d h b k e x w new v → a ≡ cond (lt s v) x c → r ≡ cond (lt s v) v s → Led new a r (x + 1)
  led_more w new c s x v a r before more t p q S m y g l f =
      let A = before S m y g l f in
      let B : Memo S.stage new × (v ≡ behind_action S y x) = t S A.0 y n g l f more in
      let next : suc x ≡ x + 1 = omega arith in (
        B.0,
        omega (arith, more),
        past_action (behind_action S y) x c s v A.2 A.3 B.1 a p ∙ ap (λ z. (lead (behind_action S y) z).0) next,
        past_sum (behind_action S y) x c s v A.2 A.3 B.1 r q ∙ ap (λ z. (lead (behind_action S y) z).1) next,
      )

  -- past all actions it is the set's choice
  pub led_end : (w new : List ℕ) (c : ℕ) (s : Float) (x : ℕ) → Led w c s x → n ≤ x → new ≡ set w (k + e) (c + 1) → Chosen P i d h b k e n old new c
  led_end w new c s x before none o S m y g l f =
      let A = before S m y g l f in
      let all : x ≡ n = omega (arith, A.1, none) in
      let top : c ≡ S.stage.choice y = A.2 ∙ ap (λ z. (lead (behind_action S y) z).0) all ∙ sym (known_of S.stage (λ j y n. j ≡ i → S.stage.choice y ≡ (lead (behind_action S y) n).0) S.decided i y n g refl) in
      (noting.noted_more S.stage w A.0 y n g e l new c top o, top)

-- ---- the way down with reaches
module _ {P : List Float} {i h b k : ℕ} (S : Scene P i h b k) where
  -- tree t stands at place a, and the reaches below it are stored, from r
  pub record Here (d a : ℕ) (r : Float) (t : Tree) : Type 0 where
    pub stands : SubtreeAt S.stage d a t
    pub marked : Marked (entries S) i b S.stage.words a r t

  pub record HereAll (d a : ℕ) (g : ℕ → Float) (x : ℕ) (f : Trees) : Type 0 where
    pub stands : SubtreesAt S.stage d a f
    pub marked : MarkedAll (entries S) i b S.stage.words a g x f

  pub chance-marked : (d a : ℕ) (r : Float) (f : Trees) → Here d a r (chance f) → MarkedAll (entries S) i b S.stage.words (suc a) (λ x. times r (weight (fan f))) 0 f
  unfolding Marked
  chance-marked d a r f x = x.marked

  pub decide-marked : (d a : ℕ) (r : Float) (j : ℕ) (y : Key) (f : Trees) → Here d a r (decide j y f) → MarkedAll (entries S) i b S.stage.words (suc a) (passed (entries S) i r j y) 0 f
  unfolding Marked
  decide-marked d a r j y f x = x.marked.1

  pub first_marked : (d a : ℕ) (g : ℕ → Float) (x : ℕ) (t : Tree) (f : Trees) → HereAll d a g x (cons t f) → Marked (entries S) i b S.stage.words a (g x) t × MarkedAll (entries S) i b S.stage.words (a + size t) g (suc x) f
  unfolding Marked
  first_marked d a g x t f r = r.marked

  abbrev pub reaching : Descent S.stage dealt (passed (entries S) i)
  reaching = record {
    Here = Here;
    HereAll = HereAll;
    stands = λ d a u t r. r.stands;
    «stands_all» = λ d a g x f r. r.stands;
    dealt = λ d a u f r. record { stands = kids-chance S.stage d a f r.stands; marked = chance-marked d a u f r };
    moved = λ d a u j y f r. record { stands = kids-decide S.stage d a j y f r.stands; marked = decide-marked d a u j y f r };
    one = λ d a g x t f r. record { stands = first S.stage d a t f r.stands; marked = (first_marked d a g x t f r).0 };
    others = λ d a g x t f r. record { stands = rest S.stage d a t f r.stands; marked = (first_marked d a g x t f r).1 };
  }

  -- the reach of a member stands at its place
  reach_at : (w : List ℕ) → Memo S.stage w → (d a : ℕ) (r : Float) (y : Key) (f : Trees) → Here d a r (decide i y f) → of_bits binary64 (get_or w (b + a) 0) ≡ r
  unfolding Marked size
  reach_at w m d a r y f x = ap (of_bits binary64) (m.words (b + a) (omega (arith, x.stands.room, S.below))) ∙ x.marked.0 refl

-- ---- the members one after the other
module _ {P : List Float} {i h b k : ℕ} (S : Scene P i h b k) (y : Key) (a : ℕ) where
  -- members to come, the first of them at place c, and the sum before them
  pub record Rest (c : ℕ) (sum : Float) (ms : List (Member Float)) : Type 0 where
    pub remaining : Remaining (reaching S) y c ms
    pub all : behind_action S y a ≡ summed (entries S) i S.stage.choice a sum (map (reached (entries S) i y) ms)

  rest-start : (old : List ℕ) → Memo S.stage old → (n : ℕ) → Known S.stage i y n → (c : ℕ) → c ≡ get_or old (h + first_entry S.stage.tree i y) 0 % PLACES
      → Rest c nought (found dealt (passed (entries S) i) i y 0 one S.stage.tree)
  unfolding set_sum
  rest-start old m n g c e = record {
    remaining = remaining-start (reaching S) y old m n g one (record { stands = root_stands S.stage; marked = S.marked }) c e;
    all = ap (summed (entries S) i S.stage.choice a nought) (sym (reached_found (entries S) i y S.stage.tree 0 one));
  }

  module _ (n : ℕ) (g : Known S.stage i y n) (l : a < n) (cur new : List ℕ) (c q : ℕ) (v s : Float) (next : ℕ) (sum : Float) (m : Memo S.stage cur) (o : Child cur c a q) (d : ℕ)
      (deep : S.stage.levels i y ≤ d) (w : Gained P i d h b k q cur new v) (e : s ≡ plus sum (times (of_bits binary64 (get_or new (b + c) 0)) v)) (z : next ≡ later_of (get_or new c 0)) where
    rest_more : (x : Member Float) (ms : List (Member Float)) → Rest c sum (x ∷ ms) → Memo S.stage new × Rest next s ms
    unfolding summed EachMember first_of
    rest_more (p, r, f) ms t = (
      given.0,
      record {
        remaining = remaining_more (reaching S) y new given.0 c next (p, r, f) ms t.remaining z;
        all = t.all ∙ ap (λ j. summed (entries S) i S.stage.choice a j (map (reached (entries S) i y) ms)) (sym (e ∙ ap (λ j. plus sum (times j v)) reach ∙ ap (λ j. plus sum (times r j)) given.1));
      },
    )
      where
        below : (a < fan f) × Here S (S.stage.levels i y) q (passed (entries S) i r i y a) (nth f a)
        below = remaining-child (reaching S) y cur m n g c a q (p, r, f) ms t.remaining o l

        given : Memo S.stage new × (v ≡ picked (entries S) i (own S) S.stage.choice f a)
        given = let A = w S m (nth f a) (S.stage.levels i y) deep below.1.stands in (A.0, A.1 ∙ sym (picked-nth S f a below.0))

        reach : of_bits binary64 (get_or new (b + c) 0) ≡ r
        reach = ap (λ j. of_bits binary64 (get_or new (b + j) 0)) t.remaining.here ∙ reach_at S new given.0 (suc (S.stage.levels i y)) p r y f t.remaining.each.0

  -- none is left
  rest_end : (sum : Float) (c : ℕ) → Rest c sum [] → sum ≡ behind_action S y a
  unfolding summed
  rest_end sum c r = sym r.all

module _ (P : List Float) (i d h b k e a : ℕ) (old : List ℕ) where
  -- with the words w: the member at place c is next
  abbrev pub Summed : List ℕ → ℕ → Float → Type 0
  Summed w c sum = (S : Scene P i h b k) → Memo S.stage old → (y : Key) (n : ℕ) → Known S.stage i y n → e ≡ first_entry S.stage.tree i y → S.stage.levels i y ≤ d → a < n
      → Memo S.stage w × (ms : List (Member Float)) × Rest S y a c sum ms

  pub summed-start : (c : ℕ) → c ≡ get_or old (h + e) 0 % PLACES → Summed old c nought
  summed-start c q S m y n g l x z = (m, found dealt (passed (entries S) i) i y 0 one S.stage.tree, rest-start S y a old m n g c (q ∙ ap (λ j. get_or old (h + j) 0 % PLACES) l))

  module _ (w new : List ℕ) (c : ℕ) (sum : Float) (q : ℕ) (v s : Float) (next : ℕ) (f : Summed w c sum) (p : 0 < c) (o : Child w c a q) (r : Gained P i d h b k q w new v)
      (j : s ≡ plus sum (times (of_bits binary64 (get_or new (b + c) 0)) v)) (x : next ≡ later_of (get_or new c 0)) where
    pub summed_more : Summed new next s
    summed_more S m y n g l z t = at (f S m y n g l z t)
      where
        at : Memo S.stage w × (ms : List (Member Float)) × Rest S y a c sum ms → Memo S.stage new × (ms : List (Member Float)) × Rest S y a next s ms
        at (A, [], B) = absurd (omega (arith, p, remaining_none (reaching S) y c B.remaining))
        at (A, m ∷ ms, B) = let X = rest_more S y a n g t w new c q v s next sum A o d z r j x m ms B in (X.0, ms, X.1)

    pub summed_stuck : next ≤ c → Totalled P i d h b k e a old new s
    summed_stuck u S m y n g l z t = at (f S m y n g l z t)
      where
        at : Memo S.stage w × (ms : List (Member Float)) × Rest S y a c sum ms → Memo S.stage new × (s ≡ behind_action S y a)
        at (A, [], B) = absurd (omega (arith, p, remaining_none (reaching S) y c B.remaining))
        at (A, m ∷ [], B) = let X = rest_more S y a n g t w new c q v s next sum A o d z r j x m [] B in (X.0, rest_end S y a s next X.1)
        at (A, m ∷ (two ∷ ms), B) = let X = rest_more S y a n g t w new c q v s next sum A o d z r j x m (two ∷ ms) B in
            absurd (omega (arith, remaining_rises (reaching S) y c next m two ms B.remaining X.1.remaining, u))

  pub summed_end : (w : List ℕ) (c : ℕ) (sum : Float) → Summed w c sum → (0 < c → ⊥) → Totalled P i d h b k e a old w sum
  summed_end w c sum f z S m y n g l x t = at (f S m y n g l x t)
    where
      at : Memo S.stage w × (ms : List (Member Float)) × Rest S y a c sum ms → Memo S.stage w × (sum ≡ behind_action S y a)
      at (A, [], B) = (A, rest_end S y a sum c B)
      at (A, m ∷ ms, B) = absurd (z (remaining_some (reaching S) y c m ms B.remaining))

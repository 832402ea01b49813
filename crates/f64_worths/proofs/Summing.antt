-- What a tree is worth to a seat, from what its children are. Assumes nothing.
use mathlib.Core.Path.{◌≡◌, refl, sym, ap, ◌∙◌}
use mathlib.Core.Bool.{false}
use mathlib.Core.List.{List}
use Prim.Native.Nat.{ℕ, suc, ◌+◌, ◌-◌, ◌≤◌, ◌<◌}
use native.Mathlib.Omega.{arith}
use lib.ListN.{length, get_or}
use lib.Ieee.{Float, nan, binary64, of_int}
use Rattle.game_tree.specs.Tree.{Key, Tree, end, chance, decide, Trees, nil, cons, fan}
use Rattle.game_tree.specs.Conditions.{Every}
use Rattle.game_tree.specs.Sets.{size, sizes, first_entry}
use Rattle.game_tree_f64.specs.Values.{profile_of, nought, plus, times, weight, edge, value, added, worth}
use Rattle.arena.specs.internal.Words.{END, CHANCE, kind_of, actions_of, set_of, next_of, payoff_of}
use Rattle.arena.specs.internal.Held.{Says, Held}
use Rattle.arena.specs.internal.Walk.{Behind, Fan}
use Rattle.arena.specs.internal.Legible.{LegibleAll}
use Rattle.arena.proofs.Building.{size_some, fan-few}
use Rattle.arena.proofs.Reading.{deep_some, chance-row, decide-row, first, rest, near}
use Rattle.f64_worths.specs.internal.Expected.{total, Expected, Gained, Dealt, Moved}

-- ---- a node by its word
module _ (profile : List Float) (w : List ℕ) (a d i : ℕ) (r : Float) where
  pub worth-shallow : d ≡ 0 → Expected profile w a d i r
  worth-shallow e n T t l k h = absurd (omega (arith, deep_some t, h.within))

  module _ (x : ℕ) (e : x ≡ get_or w a 0) where
    pub worth_end : kind_of x ≡ END → r ≡ nought → Expected profile w a d i r
    unfolding Held Says worth value
    worth_end z v n T (end p) l k h = v
    worth_end z v n T (chance f) l k h = absurd (omega (arith, h.held.0.0, ap kind_of e))
    worth_end z v n T (decide j y f) l k h = absurd (omega (arith, h.held.0.0, ap kind_of e))

    pub worth-chance : (z : ℕ) → kind_of x ≡ CHANCE → z ≡ next_of x → Dealt profile w (a + 1) z (d - 1) i r → Expected profile w a d i r
    unfolding Held Says worth value size
    worth-chance z c o v n T (end p) l k h = absurd (omega (arith, h.held.0, ap kind_of e))
    worth-chance z c o v n T (chance f) l k h = v n T f l k (chance-row n T l w (length profile) a d f h) (o ∙ ap next_of e ∙ h.held.0.1 ∙ omega arith)
    worth-chance z c o v n T (decide j y f) l k h = absurd (omega (arith, h.held.0.0, ap kind_of e))

    pub worth_decision : (kind_of x ≡ END → ⊥) → (kind_of x ≡ CHANCE → ⊥) → Moved profile w (a + 1) x (d - 1) i r → Expected profile w a d i r
    unfolding Held Says worth value Every
    worth_decision z c v n T (end p) l k h = absurd (z (ap kind_of e ∙ h.held.0))
    worth_decision z c v n T (chance f) l k h = absurd (c (ap kind_of e ∙ h.held.0.0))
    worth_decision z c v n T (decide j y f) l k h = v n T j y f l k (decide-row n T l w (length profile) a d j y f h) (ap actions_of e ∙ h.held.0.2) (ap set_of e ∙ h.held.0.3) h.entered.0

    pub gain_end : kind_of x ≡ END → r ≡ plus (of_int binary64 (payoff_of x i)) nought → Gained profile w a d i r
    unfolding Held Says worth value edge
    gain_end z v n T (end p) l k h = v ∙ ap (λ y. plus (of_int binary64 y) nought) (ap (λ y. payoff_of y i) e ∙ h.held.1 i k)
    gain_end z v n T (chance f) l k h = absurd (omega (arith, h.held.0.0, ap kind_of e))
    gain_end z v n T (decide j y f) l k h = absurd (omega (arith, h.held.0.0, ap kind_of e))

    pub gain-other : (v : Float) → (kind_of x ≡ END → ⊥) → Expected profile w a d i v → r ≡ plus nought v → Gained profile w a d i r
    unfolding Held Says edge
    gain-other v z o q n T (end p) l k h = absurd (z (ap kind_of e ∙ h.held.0))
    gain-other v z o q n T (chance f) l k h = q ∙ ap (plus nought) (o n T (chance f) l k h)
    gain-other v z o q n T (decide j y f) l k h = q ∙ ap (plus nought) (o n T (decide j y f) l k h)

-- ---- a row, tree by tree
module _ (profile : List Float) (w : List ℕ) (a d i : ℕ) where
  -- of row f with the weights p, the seat's sum over the x trees before place c is v, and the others are to come
  pub record Going (n : ℕ) (T : Tree) (l : ℕ → ℕ → Key → ℕ) (f : Trees) (p : ℕ → Float) (c x : ℕ) (v : Float) : Type 0 where
    pub rest : Trees
    pub legible : LegibleAll n T l w (length profile) c d rest
    pub room : a + sizes f ≡ c + sizes rest
    pub count : fan f ≡ x + fan rest
    pub sum : total (profile_of T profile) i p f ≡ added (profile_of T profile) i (λ j. false) (λ k. 0) p x v rest

  module _ (n : ℕ) (T : Tree) (l : ℕ → ℕ → Key → ℕ) (f : Trees) (p : ℕ → Float) where
    going_start : (v : Float) → v ≡ nought → LegibleAll n T l w (length profile) a d f → Going n T l f p a 0 v
    going_start v e h = record { rest = f; legible = h; room = refl; count = omega arith; sum = ap (λ y. added (profile_of T profile) i (λ j. false) (λ k. 0) p 0 y f) (sym e) }

    -- what is to come begins before the row ends
    going_some : (c x : ℕ) (v : Float) → Going n T l f p c x v → c < a + sizes f → x < fan f
    unfolding fan size
    going_some c x v G m = at G.rest G.room G.count
      where
        at : (r : Trees) → a + sizes f ≡ c + sizes r → fan f ≡ x + fan r → x < fan f
        at nil e q = absurd (omega arith)
        at (cons t r) e q = omega arith

    -- and has no tree at its end
    going-over : (c x : ℕ) (v : Float) → Going n T l f p c x v → a + sizes f ≤ c → fan f ≤ x
    unfolding fan size
    going-over c x v G m = at G.rest G.room G.count
      where
        at : (r : Trees) → a + sizes f ≡ c + sizes r → fan f ≡ x + fan r → fan f ≤ x
        at nil e q = omega arith
        at (cons t r) e q = absurd (omega (arith, size_some t))

    going_end : (c x : ℕ) (v : Float) → Going n T l f p c x v → fan f ≤ x → v ≡ total (profile_of T profile) i p f
    unfolding fan value
    going_end c x v G m = at G.rest G.count G.sum
      where
        at : (r : Trees) → fan f ≡ x + fan r → total (profile_of T profile) i p f ≡ added (profile_of T profile) i (λ j. false) (λ k. 0) p x v r → v ≡ total (profile_of T profile) i p f
        at nil q s = sym s
        at (cons t r) q s = absurd (omega arith)

    -- the next tree, with its g
    module _ (k : i < n) (c x : ℕ) (v g : Float) (N : Gained profile w c d i g) where
      summed : (t : Tree) (r : Trees) → LegibleAll n T l w (length profile) c d (cons t r) → (y u : Float) → y ≡ p x → u ≡ plus v (times y g)
          → u ≡ plus v (times (p x) (plus (edge i t) (worth (profile_of T profile) i t)))
      summed t r A y u e s = s ∙ ap (λ z. plus v (times z g)) e ∙ ap (λ z. plus v (times (p x) z)) (N n T t l k (first n T l w (length profile) c d t r A))

      -- it is the last
      going_last : (y u : Float) → Going n T l f p c x v → fan f ≡ x + 1 → y ≡ p x → u ≡ plus v (times y g) → u ≡ total (profile_of T profile) i p f
      unfolding fan value worth
      going_last y u G o e s = at G.rest G.legible G.count G.sum
        where
          at : (r : Trees) → LegibleAll n T l w (length profile) c d r → fan f ≡ x + fan r → total (profile_of T profile) i p f ≡ added (profile_of T profile) i (λ j. false) (λ k. 0) p x v r
              → u ≡ total (profile_of T profile) i p f
          at nil A C S = absurd (omega arith)
          at (cons t nil) A C S = summed t nil A y u e s ∙ sym S
          at (cons t (cons r q)) A C S = absurd (omega arith)

      -- the place behind it
      module _ (q : ℕ) (B : Behind w c q) where
        next_place : (t : Tree) (r : Trees) → LegibleAll n T l w (length profile) c d (cons t r) → q ≡ c + size t
        next_place t r A = B.place n (first_entry T) l t (first n T l w (length profile) c d t r A).held (near n T l w (length profile) c d t r A)

        going_more : (y u : Float) → Going n T l f p c x v → x < fan f → y ≡ p x → u ≡ plus v (times y g) → Going n T l f p q (x + 1) u
        unfolding fan size value worth
        going_more y u G o e s = at G.rest G.legible G.room G.count G.sum
          where
            at : (r : Trees) → LegibleAll n T l w (length profile) c d r → a + sizes f ≡ c + sizes r → fan f ≡ x + fan r
                → total (profile_of T profile) i p f ≡ added (profile_of T profile) i (λ j. false) (λ k. 0) p x v r → Going n T l f p q (x + 1) u
            at nil A E C S = absurd (omega arith)
            at (cons t r) A E C S =
                let P : q ≡ c + size t = next_place t r A in
                let X : suc x ≡ x + 1 = omega arith in
                record {
                  rest = r;
                  legible = rest n T l w (length profile) c d t r A q P;
                  room = omega arith;
                  count = omega arith;
                  sum = S ∙ ap (λ z. added (profile_of T profile) i (λ j. false) (λ k. 0) p (suc x) z r) (sym (summed t r A y u e s)) ∙ ap (λ z. added (profile_of T profile) i (λ j. false) (λ k. 0) p z u r) X;
                }

        -- no tree ends before it begins
        going_stuck : Going n T l f p c x v → x < fan f → q ≤ c → ⊥
        unfolding fan
        going_stuck G o e = at G.rest G.legible G.count
          where
            at : (r : Trees) → LegibleAll n T l w (length profile) c d r → fan f ≡ x + fan r → ⊥
            at nil A C = omega arith
            at (cons t r) A C = omega (arith, next_place t r A, size_some t)

  -- ---- the children of a chance node
  module _ (z : ℕ) where
    -- place c is reached with the sum v
    abbrev pub Dealing : ℕ → Float → Type 0
    Dealing c v = (n : ℕ) (T : Tree) (f : Trees) (l : ℕ → ℕ → Key → ℕ) → i < n → LegibleAll n T l w (length profile) a d f → z ≡ a + sizes f → (x : ℕ) × Going n T l f (λ y. weight (fan f)) c x v

    pub deal-start : (v : Float) → v ≡ nought → Dealing a v
    deal-start v e n T f l k h o = (0, going_start n T l f (λ y. weight (fan f)) v e h)

    -- each child has the node's one weight
    module _ (c q b : ℕ) (y v g u : Float) (F : Fan w a z b) (W : b < 4294967296 → y ≡ weight b) (D : Dealing c v) (o : c < z) (N : Gained profile w c d i g) (B : Behind w c q) where
      weighed : (n : ℕ) (T : Tree) (f : Trees) (l : ℕ → ℕ → Key → ℕ) → LegibleAll n T l w (length profile) a d f → z ≡ a + sizes f → y ≡ weight (fan f)
      weighed n T f l h e = let E : b ≡ fan f = F n (first_entry T) l f h.held e (omega (arith, h.room)) in W (omega (arith, fan-few f, h.room)) ∙ ap weight E

      pub deal_more : u ≡ plus v (times y g) → Dealing q u
      deal_more s n T f l k h e =
          let G = D n T f l k h e in
          (G.0 + 1, going_more n T l f (λ y. weight (fan f)) k c G.0 v g N q B y u G.1 (going_some n T l f (λ y. weight (fan f)) c G.0 v G.1 (omega arith)) (weighed n T f l h e) s)

      pub deal_stuck : q ≤ c → Dealt profile w a z d i u
      deal_stuck s n T f l k h e =
          let G = D n T f l k h e in
          absurd (going_stuck n T l f (λ y. weight (fan f)) k c G.0 v g N q B G.1 (going_some n T l f (λ y. weight (fan f)) c G.0 v G.1 (omega arith)) s)

    pub deal_end : (c : ℕ) (v : Float) → Dealing c v → z ≤ c → Dealt profile w a z d i v
    deal_end c v D o n T f l k h e =
        let G = D n T f l k h e in
        going_end n T l f (λ y. weight (fan f)) c G.0 v G.1 (going-over n T l f (λ y. weight (fan f)) c G.0 v G.1 (omega arith))

  -- ---- the children of a decision with word y
  module _ (y : ℕ) where
    -- x of them are passed, place c is reached with the sum v
    abbrev pub Moving : ℕ → ℕ → Float → Type 0
    Moving c x v = (n : ℕ) (T : Tree) (j : ℕ) (k : Key) (f : Trees) (l : ℕ → ℕ → Key → ℕ) → i < n → LegibleAll n T l w (length profile) a d f → actions_of y ≡ fan f → set_of y ≡ first_entry T j k
        → Going n T l f (profile_of T profile j k) c x v

    pub decide-start : (v : Float) → v ≡ nought → Moving a 0 v
    decide-start v e n T j k f l m h s o = going_start n T l f (profile_of T profile j k) v e h

    module _ (c x s : ℕ) (p v g u : Float) (S : s ≡ set_of y) (P : p ≡ get_or profile (s + x) nan) (M : Moving c x v) (N : Gained profile w c d i g) (U : u ≡ plus v (times p g)) where
      pub decide_more : (q : ℕ) → x < actions_of y → Behind w c q → Moving q (x + 1) u
      unfolding profile_of
      decide_more q o B n T j k f l m h e z = going_more n T l f (profile_of T profile j k) m c x v g N q B p u (M n T j k f l m h e z) (omega arith) (P ∙ ap (λ t. get_or profile (t + x) nan) (S ∙ z)) U

      pub decide_last : actions_of y ≡ x + 1 → Moved profile w a y d i u
      unfolding profile_of
      decide_last o n T j k f l m h e z E = going_last n T l f (profile_of T profile j k) m c x v g N p u (M n T j k f l m h e z) (sym e ∙ o) (P ∙ ap (λ t. get_or profile (t + x) nan) (S ∙ z)) U

    -- fewer than two actions, or no entries for them
    pub decide-few : (v : Float) → actions_of y < 2 → Moved profile w a y d i v
    decide-few v o n T j k f l m h e z E = absurd (omega (arith, E.0))

    pub decide_none : (v : Float) → length profile < set_of y + actions_of y → Moved profile w a y d i v
    decide_none v o n T j k f l m h e z E = absurd (omega (arith, E.2))

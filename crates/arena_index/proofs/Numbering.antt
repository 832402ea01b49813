-- A walk over the nodes gives each set its first entry. Assumes nothing.
use mathlib.Core.Path.{◌≡◌, refl, sym, ap, ap₂, ◌∙◌, subst}
use mathlib.Core.Logic.{◌⊎◌, inl, inr}
use mathlib.Core.Bool.{Bool, true, false, cond}
use mathlib.Core.List.{List, [], ◌∷◌, ◌++◌, append-nil}
use Prim.Native.Nat.{ℕ, suc, ◌+◌, ◌≤◌, ◌<◌}
use native.Mathlib.Nat as NatL
use native.Mathlib.Omega.{arith}
use lib.ListN.{length, get_or, set, take, drop, length-set}
use lib.Seq.{get_or-set_same, get_or-set_other, take-suc, take_all, split_at}
use Rattle.prelude.proofs.Tests.{Tested, holds, fails, tested, both, and_left_fails, and_right_fails}
use borrow.Author.Tests.{eq-eqb, ne_eqb}
use Rattle.game_tree.specs.Sums.{sumℕ}
use Rattle.game_tree.specs.Tree.{Key, Tree, end, chance, decide, fan}
use Rattle.game_tree.specs.Conditions.{Every}
use Rattle.game_tree.specs.Sets.{size, preorder, Decision, decisions, is_of, met, firsts, entries_of, first_entry}
use Rattle.game_tree.specs.Shape.{decision_of, decisions_of}
use Rattle.game_tree.proofs.Sets.{preorder-length, decisions_of_append, decisions_of_nodes, clash, is_of_seat, is_of_key, is_of_self}
use Rattle.game_tree.proofs.Counting.{In, in_left, in_right, in_met, every_in, in_every}
use Rattle.game_tree.proofs.Entries.{entries_of_append, met_append, met-alike, firsts-again, firsts_new, entry_new}
use Rattle.arena.specs.internal.Words.{DECISION, kind_of, actions_of, set_of}
use Rattle.arena.specs.internal.Held.{Says}
use Rattle.arena.specs.internal.Index.{unlinked, Kept, Coded}
use Rattle.arena_index.specs.internal.Indexing.{Numbered, is_new, Met}
use Rattle.arena.proofs.Nodes.{node-inside, none, node, held-node}

-- ---- the nodes of t: those before place a, that at place a, those behind it
module _ (t : Tree) where
  -- the decisions among the first a nodes
  abbrev pub passed_by : ℕ → List Decision
  passed_by a = decisions_of (take a (preorder t))

  pub passed_more : (a : ℕ) → a < size t → passed_by (a + 1) ≡ passed_by a ++ decision_of (node t a)
  unfolding decisions_of
  passed_more a h = let e : a + 1 ≡ suc a = omega arith in
      ap (λ i. decisions_of (take i (preorder t))) e ∙ ap decisions_of (take-suc (preorder t) a none (node-inside t a h)) ∙ decisions_of_append (take a (preorder t)) (node t a ∷ [])
      ∙ ap (λ l. passed_by a ++ l) (append-nil (decision_of (node t a)))

  pub passed_split : (a : ℕ) → a < size t → decisions t ≡ passed_by a ++ (decision_of (node t a) ++ decisions_of (drop (suc a) (preorder t)))
  unfolding decisions_of
  passed_split a h = decisions_of_nodes t ∙ ap decisions_of (split_at (preorder t) a none (node-inside t a h)) ∙ decisions_of_append (take a (preorder t)) (node t a ∷ drop (suc a) (preorder t))

  pub passed_all : passed_by (size t) ≡ decisions t
  passed_all = ap decisions_of (take_all (size t) (preorder t) (omega (arith, preorder-length t))) ∙ sym (decisions_of_nodes t)

-- ---- the walk
module _ (n : ℕ) (code : ℕ → Key → ℕ) (m : ℕ) (old : List ℕ) (t : Tree) (c : Coded n code m old t) where
  -- place a is reached: so many entries, and each set met has its first one at its code
  pub record Reached (a : ℕ) (w : List ℕ) (entry : ℕ) : Type 0 where
    pub count : entry ≡ entries_of (firsts [] (passed_by t a))
    pub known : (x : Decision) → In x (decisions t) → get_or w (size t + code x.0 x.1) 0 ≡ cond (met x.0 x.1 (passed_by t a)) (suc (first_entry t x.0 x.1)) 0
    pub kept : Kept (size t) (size t + m) old w

  inside : (x : Decision) → In x (decisions t) → code x.0 x.1 < m
  inside = every_in (λ j k a. code j k < m) t c.codes.inside

  apart : (x y : Decision) → In x (decisions t) → In y (decisions t) → code x.0 x.1 ≡ code y.0 y.1 → (x.0 ≡ y.0) × (x.1 ≡ y.1)
  apart x y h g = every_in (λ i l b. code x.0 x.1 ≡ code i l → (x.0 ≡ i) × (x.1 ≡ l)) t
      (every_in (λ j k a. Every (λ i l b. code j k ≡ code i l → (j ≡ i) × (k ≡ l)) t) t c.codes.apart x h) y g

  pub reached-start : Reached 0 old 0
  unfolding firsts entries_of met decisions_of
  reached-start = record {
    count = refl;
    known = λ x h. c.clear (code x.0 x.1) (omega (arith, inside x h));
    kept = record { words = λ i o. refl; long = refl };
  }

  -- a place that is no decision, or whose set is met already
  reached_same : (a : ℕ) (w new : List ℕ) (entry r : ℕ) → Reached a w entry → firsts [] (passed_by t (a + 1)) ≡ firsts [] (passed_by t a)
      → ((x : Decision) → In x (decisions t) → met x.0 x.1 (passed_by t (a + 1)) ≡ met x.0 x.1 (passed_by t a))
      → new ≡ w → r ≡ entry → Reached (a + 1) new r
  reached_same a w new entry r h e f p q = rw (p, q) (record {
    count = h.count ∙ ap entries_of (sym e);
    known = λ x g. h.known x g ∙ ap (λ b. cond b (suc (first_entry t x.0 x.1)) 0) (sym (f x g));
    kept = h.kept;
  })

  -- the decision at place a
  module _ (a : ℕ) (b : a < size t) (w new : List ℕ) (entry r : ℕ) (h : Reached a w entry) (j : ℕ) (k : Key) (o : ℕ) (x : ℕ) (isD : kind_of x ≡ DECISION) (is_a : actions_of x ≡ o) (isS : set_of x ≡ code j k)
      (d : decision_of (node t a) ≡ (j, k, o) ∷ []) (e : Met (size t) x entry w new r) where
    here : In (j, k, o) (decisions t)
    unfolding In
    here = rw (passed_split t a b) (in_right (j, k, o) (passed_by t a) (decision_of (node t a) ++ decisions_of (drop (suc a) (preorder t)))
        (in_left (j, k, o) (decision_of (node t a)) (decisions_of (drop (suc a) (preorder t))) (rw d (inl refl))))

    more : passed_by t (a + 1) ≡ passed_by t a ++ (j, k, o) ∷ []
    more = passed_more t a b ∙ ap (λ l. passed_by t a ++ l) d

    split : decisions t ≡ passed_by t a ++ (j, k, o) ∷ decisions_of (drop (suc a) (preorder t))
    split = passed_split t a b ∙ ap (λ l. passed_by t a ++ (l ++ decisions_of (drop (suc a) (preorder t)))) d

    word_here : get_or w (size t + set_of x) 0 ≡ cond (met j k (passed_by t a)) (suc (first_entry t j k)) 0
    word_here = ap (λ i. get_or w (size t + i) 0) isS ∙ h.known (j, k, o) here

    met_more : (y : Decision) → met y.0 y.1 (passed_by t (a + 1)) ≡ cond (met y.0 y.1 (passed_by t a)) true (is_of y.0 y.1 (j, k, o))
    unfolding met
    met_more y = ap (met y.0 y.1) more ∙ met_append y.0 y.1 (passed_by t a) ((j, k, o) ∷ []) ∙ ap (λ z. cond (met y.0 y.1 (passed_by t a)) true z) (at (is_of y.0 y.1 (j, k, o)))
      where
        at : (z : Bool) → cond z true false ≡ z
        at true = refl
        at false = refl

    again : met j k (passed_by t a) ≡ true → Reached (a + 1) new r
    unfolding is_new
    again q =
        let z : is_new w (size t) x ≡ false = and_right_fails _ (ne_eqb _ 0 λ v. let f : suc (first_entry t j k) ≡ 0 = sym (word_here ∙ ap (λ y. cond y (suc (first_entry t j k)) 0) q) ∙ v in omega arith) in
        reached_same a w new entry r h (ap (firsts []) more ∙ firsts-again (j, k, o) (passed_by t a) q) (λ y g. met_more y ∙ at y (tested (is_of y.0 y.1 (j, k, o)))) (rw z at e.words) (rw z at e.count)
      where
        at : (y : Decision) → Tested (is_of y.0 y.1 (j, k, o)) → cond (met y.0 y.1 (passed_by t a)) true (is_of y.0 y.1 (j, k, o)) ≡ met y.0 y.1 (passed_by t a)
        at y (holds u) = rw (met-alike y (j, k, o) (passed_by t a) u ∙ q) refl
        at y (fails u) = rw u (or_false (met y.0 y.1 (passed_by t a)))
          where
            or_false : (z : Bool) → cond z true false ≡ z
            or_false true = refl
            or_false false = refl

    module _ (q : met j k (passed_by t a) ≡ false) where
      room : size t + code j k < length w
      room = rw h.kept.long (omega (arith, inside (j, k, o) here, c.room))

      counted : entries_of (firsts [] (passed_by t (a + 1))) ≡ entry + o
      unfolding firsts entries_of sumℕ
      counted = ap (λ l. entries_of (firsts [] l)) more ∙ ap entries_of (firsts_new (j, k, o) (passed_by t a) [] q) ∙ entries_of_append (firsts [] (passed_by t a)) ((j, k, o) ∷ [])
          ∙ ap (λ y. y + (o + 0)) (sym h.count) ∙ ap (λ y. entry + y) (NatL.add-zero o)

      entered : entry + 1 ≡ suc (first_entry t j k)
      entered = NatL.add-suc entry 0 ∙ ap suc (NatL.add-zero entry ∙ h.count ∙ sym (entry_new t (j, k, o) (passed_by t a) (decisions_of (drop (suc a) (preorder t))) split q))

      at : (y : Decision) → In y (decisions t) → Tested (is_of y.0 y.1 (j, k, o))
          → get_or (set w (size t + code j k) (entry + 1)) (size t + code y.0 y.1) 0 ≡ cond (met y.0 y.1 (passed_by t (a + 1))) (suc (first_entry t y.0 y.1)) 0
      at y g (holds p) =
          let s : j ≡ y.0 = is_of_seat y.0 y.1 (j, k, o) p in
          let f : k ≡ y.1 = is_of_key y.0 y.1 (j, k, o) p in
          let b : met y.0 y.1 (passed_by t (a + 1)) ≡ true = met_more y ∙ rw p (always (met y.0 y.1 (passed_by t a))) in
          ap (λ i. get_or (set w (size t + code j k) (entry + 1)) (size t + i) 0) (sym (ap₂ code s f)) ∙ get_or-set_same w (size t + code j k) (entry + 1) 0 room
          ∙ entered ∙ ap₂ (λ u v. suc (first_entry t u v)) s f ∙ ap (λ z. cond z (suc (first_entry t y.0 y.1)) 0) (sym b)
        where
          always : (z : Bool) → cond z true true ≡ true
          always true = refl
          always false = refl
      at y g (fails p) = rw (met_more y, p) (get_or-set_other w (size t + code j k) (size t + code y.0 y.1) (entry + 1) 0 other ∙ h.known y g
          ∙ ap (λ z. cond z (suc (first_entry t y.0 y.1)) 0) (same (met y.0 y.1 (passed_by t a))))
        where
          same : (z : Bool) → z ≡ cond z true false
          same true = refl
          same false = refl

          other : size t + code y.0 y.1 ≡ size t + code j k → ⊥
          other f = let s = apart (j, k, o) y here g (omega arith) in
              clash (is_of y.0 y.1 (j, k, o)) (rw (← s.0, ← s.1) (is_of_self (j, k, o))) p

      outside : (i : ℕ) → (i < size t) ⊎ (size t + m ≤ i) → get_or (set w (size t + code j k) (entry + 1)) i 0 ≡ get_or old i 0
      outside i (inl f) = get_or-set_other w (size t + code j k) i (entry + 1) 0 (λ s. omega arith) ∙ h.kept.words i (inl f)
      outside i (inr f) = get_or-set_other w (size t + code j k) i (entry + 1) 0 (λ s. omega (arith, inside (j, k, o) here)) ∙ h.kept.words i (inr f)

      first : Reached (a + 1) new r
      unfolding is_new
      first =
          let z : is_new w (size t) x ≡ true = both (eq-eqb (kind_of x) DECISION isD) (eq-eqb _ 0 (word_here ∙ ap (λ y. cond y (suc (first_entry t j k)) 0) q)) in
          let u : new ≡ set w (size t + code j k) (entry + 1) = (rw z at e.words) ∙ ap (λ i. set w (size t + i) (entry + 1)) isS in
          let v : r ≡ entry + o = (rw z at e.count) ∙ ap (λ i. entry + i) is_a in
          rw (u, v) (record { count = sym counted; known = λ y g. at y g (tested (is_of y.0 y.1 (j, k, o))); kept = record { words = outside; long = length-set w (size t + code j k) (entry + 1) ∙ h.kept.long } })

    pub decided : Reached (a + 1) new r
    decided = at (tested (met j k (passed_by t a)))
      where
        at : Tested (met j k (passed_by t a)) → Reached (a + 1) new r
        at (holds q) = again q
        at (fails q) = first q

  -- any other node
  passed_by_lem : (a : ℕ) → a < size t → (w new : List ℕ) (entry r x : ℕ) → Reached a w entry → (kind_of x ≡ DECISION → ⊥) → decision_of (node t a) ≡ [] → Met (size t) x entry w new r → Reached (a + 1) new r
  unfolding is_new
  passed_by_lem a b w new entry r x h k d e =
      let z : is_new w (size t) x ≡ false = and_left_fails _ (ne_eqb (kind_of x) DECISION k) in
      let q : passed_by t (a + 1) ≡ passed_by t a = passed_more t a b ∙ ap (λ l. passed_by t a ++ l) d ∙ append-nil (passed_by t a) in
      reached_same a w new entry r h (ap (firsts []) q) (λ y g. ap (met y.0 y.1) q) (rw z at e.words) (rw z at e.count)

  -- one node more
  pub reached_more : (a : ℕ) → a < size t → (w new : List ℕ) (entry r : ℕ) → Reached a w entry → Met (size t) (get_or w a 0) entry w new r → Reached (a + 1) new r
  unfolding Says decision_of
  reached_more a b w new entry r h e = at (node t a) refl (subst (λ x. Says n code unlinked x a (node t a)) (sym (h.kept.words a (inl b))) (held-node n code unlinked old t c.held a b))
    where
      at : (u : Tree) → node t a ≡ u → Says n code unlinked (get_or w a 0) a u → Reached (a + 1) new r
      at (end p) q s = passed_by_lem a b w new entry r (get_or w a 0) h (λ z. omega (arith, s.0)) (ap decision_of q) e
      at (chance f) q s = passed_by_lem a b w new entry r (get_or w a 0) h (λ z. omega (arith, s.0)) (ap decision_of q) e
      at (decide j k f) q s = decided a b w new entry r h j k (fan f) (get_or w a 0) s.0 s.2 s.3 (ap decision_of q) e

  pub reached_end : (w : List ℕ) (entry : ℕ) → Reached (size t) w entry → Numbered code m old w t
  reached_end w entry h = record {
    entries = in_every (λ j k a. get_or w (size t + code j k) 0 ≡ suc (first_entry t j k)) t
        (λ x g. h.known x g ∙ ap (λ b. cond b (suc (first_entry t x.0 x.1)) 0) (ap (met x.0 x.1) (passed_all t) ∙ in_met x (decisions t) g));
    kept = h.kept;
  }

-- ---- whatever tree is held
abbrev pub Walked : (nodes : ℕ) (old w : List ℕ) (entry a : ℕ) → Type 0
Walked nodes old w entry a = (n : ℕ) (code : ℕ → Key → ℕ) (m : ℕ) (t : Tree) → size t ≡ nodes → (c : Coded n code m old t) → Reached n code m old t c a w entry

pub walked_start : (nodes : ℕ) (old : List ℕ) → Walked nodes old old 0 0
walked_start nodes old n code m t e c = reached-start n code m old t c

pub walked_more : (nodes : ℕ) (old w new : List ℕ) (entry a r x : ℕ) → a < nodes → Walked nodes old w entry a → x ≡ get_or w a 0 → Met nodes x entry w new r → Walked nodes old new r (a + 1)
walked_more nodes old w new entry a r x b h e f n code m t q c = reached_more n code m old t c a (rw q b) w new entry r (h n code m t q c) (rw (← e, q) f)

pub walked_end : (nodes : ℕ) (old w : List ℕ) (entry a : ℕ) → a ≡ nodes → Walked nodes old w entry a → (n : ℕ) (code : ℕ → Key → ℕ) (m : ℕ) (t : Tree) → size t ≡ nodes → Coded n code m old t → Numbered code m old w t
walked_end nodes old w entry a e h n code m t q c = reached_end n code m old t c w entry (rw (q ∙ sym e) (h n code m t q c))

pub met-few : (nodes x entry : ℕ) (w new : List ℕ) (r : ℕ) → Met nodes x entry w new r → (r ≤ entry + 4) × (length new ≡ length w)
met-few nodes x entry w new r e = at (tested (is_new w nodes x))
  where
    at : Tested (is_new w nodes x) → (r ≤ entry + 4) × (length new ≡ length w)
    at (holds b) = let q : r ≡ entry + actions_of x = rw b at e.count in (omega arith, ap length (rw b at e.words) ∙ length-set w (nodes + set_of x) (entry + 1))
    at (fails b) = let q : r ≡ entry = rw b at e.count in (omega arith, ap length (rw b at e.words))

-- A walk from the last node to the first links the members of each set. Assumes nothing.
use mathlib.Core.Path.{◌≡◌, refl, sym, ap, ap₂, ◌∙◌, subst}
use mathlib.Core.Logic.{inl, inr}
use mathlib.Core.Bool.{Bool, true, false, cond}
use mathlib.Core.List.{List, [], ◌∷◌, ◌++◌}
use Prim.Native.Nat.{ℕ, suc, ◌+◌, ◌-◌, ◌%◌, ◌≤◌, ◌<◌, suc-le-suc, zero-le}
use native.Mathlib.Nat as NatL
use native.Mathlib.Omega.{arith}
use lib.Dec.{eqb}
use lib.ListN.{length, get_or, set, drop, length-set, length-drop}
use lib.Seq.{get_or-set_same, get_or-set_other, drop-cons, drop-length}
use Rattle.prelude.proofs.Tests.{Tested, holds, fails, tested}
use borrow.Author.Tests.{eqb-true, eqb-false}
use Rattle.game_tree.specs.Tree.{Key, Tree, end, chance, decide, fan}
use Rattle.game_tree.specs.Sets.{size, preorder, Decision, decisions, is_of, decides, numbers, entries, first_entry, set_members}
use Rattle.game_tree.specs.Shape.{decision_of, decisions_of}
use Rattle.game_tree.proofs.Sets.{preorder-length, clash, is_of_seat, is_of_key, is_of_self}
use Rattle.game_tree.proofs.Counting.{In, in_left, in_right, every_in, in_every}
use Rattle.game_tree.proofs.Entries.{entry-inside, entry-apart}
use Rattle.arena.specs.internal.Words.{actor_of, actions_of, set_of, next_of, PLACES}
use Rattle.arena.specs.internal.Held.{Says, SaysAll}
use Rattle.arena.specs.internal.Index.{first_of, later_in, unlinked, Coded, Indexed}
use Rattle.arena_index.specs.internal.Indexing.{Numbered, entry_of, relinked, pushed, linked}
use Rattle.arena.proofs.Packing.{kind_of_lem, actor_of_lem, actions_of_lem, set_of_lem, next_of_lem, later_of_lem}
use Rattle.arena_index.proofs.Steps.{linked_kind, linked-known}
use Rattle.arena.proofs.Nodes.{says→held, none, node, held-node}
use Rattle.arena_index.proofs.Numbering.{passed_split, passed_by}

-- what the words say one by one they say all
says_from : (n : ℕ) (s : ℕ → Key → ℕ) (l : ℕ → ℕ → Key → ℕ) (w : List ℕ) (a : ℕ) (ts : List Tree) → ((i : ℕ) → i < length ts → Says n s l (get_or w (a + i) 0) (a + i) (get_or ts i none)) → SaysAll n s l w a ts
unfolding SaysAll
says_from n s l w a [] h = tt
says_from n s l w a (t ∷ ts) h = (
  subst (λ i. Says n s l (get_or w i 0) i t) (NatL.add-zero a) (h 0 (suc-le-suc zero-le)),
  says_from n s l w (suc a) ts (λ i b. subst (λ j. Says n s l (get_or w j 0) j (get_or ts i none)) (NatL.add-suc a i ∙ sym (NatL.suc-add a i)) (h (suc i) (suc-le-suc b))),
)

-- a member's number is that of a node
first_few : (j : ℕ) (k : Key) (a : ℕ) (ts : List Tree) (most : ℕ) → a + length ts ≤ most → 0 < most → first_of (numbers j k a ts) < most
unfolding numbers first_of
first_few j k a [] most h g = g
first_few j k a (t ∷ ts) most h g = at (decides j k t) (first_few j k (suc a) ts most (omega (arith, NatL.add-suc a (length ts), NatL.suc-add a (length ts))) g)
  where
    at : (b : Bool) → first_of (numbers j k (suc a) ts) < most → first_of (cond b (a ∷ numbers j k (suc a) ts) (numbers j k (suc a) ts)) < most
    at true f = omega (arith, NatL.add-suc a (length ts))
    at false f = f

module _ (n : ℕ) (code : ℕ → Key → ℕ) (m : ℕ) (bare old : List ℕ) (t : Tree) (small : size t ≤ PLACES) (c : Coded n code m bare t) (g : Numbered code m bare old t) where
  -- the nodes from place a on are linked
  pub record From (a : ℕ) (w : List ℕ) : Type 0 where
    pub low : (i : ℕ) → i < a → get_or w i 0 ≡ get_or old i 0
    pub codes : (i : ℕ) → i < m → get_or w (size t + i) 0 ≡ get_or old (size t + i) 0
    pub said : (i : ℕ) → a ≤ i → i < size t → Says n (first_entry t) (later_in t) (get_or w i 0) i (node t i)
    pub firsts : (x : Decision) → In x (decisions t) → get_or w (size t + m + first_entry t x.0 x.1) 0 ≡ first_of (numbers x.0 x.1 a (drop a (preorder t)))
    pub long : length w ≡ length old

  entry-few : (x : Decision) → In x (decisions t) → first_entry t x.0 x.1 < entries t
  entry-few x h = entry-inside t c.acts x h

  pub from_end : From (size t) old
  unfolding numbers first_of
  from_end = record {
    low = λ i b. refl;
    codes = λ i b. refl;
    said = λ i a b. absurd (omega arith);
    firsts = λ x h. zeros x h ∙ sym (ap (λ l. first_of (numbers x.0 x.1 (size t) l)) (subst (λ i. drop i (preorder t) ≡ []) (preorder-length t) (drop-length (preorder t))));
    long = refl;
  }
    where
      zeros : (x : Decision) → In x (decisions t) → get_or old (size t + m + first_entry t x.0 x.1) 0 ≡ 0
      zeros x h = let f = first_entry t x.0 x.1 in
          g.kept.words (size t + m + f) (inr (omega arith)) ∙ subst (λ i. get_or bare i 0 ≡ 0) (sym (NatL.add_assoc (size t) m f)) (c.clear (m + f) (omega (arith, entry-few x h)))

  -- one node more, at place a
  module _ (a : ℕ) (b : a < size t) (w : List ℕ) (h : From (suc a) w) where
    abbrev rest : List Tree
    rest = drop (suc a) (preorder t)

    here_first : drop a (preorder t) ≡ node t a ∷ rest
    here_first = drop-cons (preorder t) a none (rw (preorder-length t) b)

    -- a set of which the node is no member
    passes : (j : ℕ) (k : Key) → decides j k (node t a) ≡ false → first_of (numbers j k (suc a) rest) ≡ first_of (numbers j k a (drop a (preorder t)))
    unfolding numbers
    passes j k e = sym (ap (λ l. first_of (numbers j k a l)) here_first ∙ rw e refl)

    -- a node that is no decision
    kept : (e : (j : ℕ) (k : Key) → decides j k (node t a) ≡ false) → Says n (first_entry t) (later_in t) (get_or w a 0) a (node t a) → From a w
    kept e s = record {
      low = λ i f. h.low i (omega arith);
      codes = h.codes;
      said = λ i f p. at i p (tested (eqb i a)) f;
      firsts = λ x m. h.firsts x m ∙ passes x.0 x.1 (e x.0 x.1);
      long = h.long;
    }
      where
        at : (i : ℕ) → i < size t → Tested (eqb i a) → a ≤ i → Says n (first_entry t) (later_in t) (get_or w i 0) i (node t i)
        at i p (holds q) f = rw (eqb-true i a q) s
        at i p (fails q) f = h.said i (omega (arith, eqb-false i a q)) p

    -- a decision
    module _ (j : ℕ) (k : Key) (kids : _) (q : node t a ≡ decide j k kids) (s : Says n code unlinked (get_or w a 0) a (decide j k kids)) where
      abbrev x : ℕ
      x = get_or w a 0

      abbrev me : Decision
      me = (j, k, fan kids)

      here : In me (decisions t)
      unfolding In decision_of
      here = rw (passed_split t a b) (in_right me (passed_by t a) (decision_of (node t a) ++ decisions_of rest) (in_left me (decision_of (node t a)) (decisions_of rest) (rw q (inl refl))))

      abbrev e : ℕ
      e = first_entry t j k

      e_few : e < 16384
      e_few = omega (arith, entry-few me here, c.few)

      room : size t + m + e < length w
      room = rw (h.long ∙ g.kept.long) (omega (arith, entry-few me here, c.room))

      abbrev later : ℕ
      later = later_in t a j k

      later-few : later < PLACES
      unfolding later_in
      later-few = first_few j k (suc a) rest PLACES (omega (arith, length-drop (suc a) (preorder t), preorder-length t)) (omega arith)

      at_code : get_or w (size t + set_of x) 0 ≡ suc e
      unfolding Says
      at_code = ap (λ i. get_or w (size t + i) 0) s.3 ∙ h.codes (code j k) (every_in (λ j k a. code j k < m) t c.codes.inside me here)
          ∙ every_in (λ j k a. get_or old (size t + code j k) 0 ≡ suc (first_entry t j k)) t g.entries me here

      entry_is : entry_of w (size t) x ≡ e
      entry_is = ap (λ i. (i - 1) % 16384) at_code ∙ omega (arith, e_few)

      later_is : get_or w (size t + m + e) 0 % PLACES ≡ later
      unfolding later_in
      later_is = ap (λ i. i % PLACES) (h.firsts me here) ∙ omega (arith, later-few)

      abbrev new : List ℕ
      new = set (set w a (relinked x e later)) (size t + m + e) a

      new_is : linked (size t) (size t + m) a w ≡ new
      unfolding Says
      new_is = linked-known (size t) (size t + m) a w s.0 (λ z. let f : suc e ≡ 0 = sym at_code ∙ z in omega arith)
          ∙ ap (λ i. pushed (size t + m) a x i w) entry_is ∙ ap (λ l. set (set w a (relinked x e l)) (size t + m + e) a) later_is

      other : (i : ℕ) → (i ≡ a → ⊥) → (i ≡ size t + m + e → ⊥) → get_or new i 0 ≡ get_or w i 0
      other i f g = get_or-set_other (set w a (relinked x e later)) (size t + m + e) i a 0 g ∙ get_or-set_other w a i (relinked x e later) 0 f

      word_here : get_or new a 0 ≡ relinked x e later
      word_here = get_or-set_other (set w a (relinked x e later)) (size t + m + e) a a 0 (λ f. omega arith)
          ∙ get_or-set_same w a (relinked x e later) 0 (omega (arith, room))

      says_here : Says n (first_entry t) (later_in t) (get_or new a 0) a (decide j k kids)
      unfolding Says
      says_here = rw word_here (
        kind_of_lem (actor_of x) (actions_of x) e (next_of x) later (omega arith) (omega arith) e_few (omega arith) later-few,
        actor_of_lem (actor_of x) (actions_of x) e (next_of x) later (omega arith) (omega arith) e_few (omega arith) later-few ∙ s.1,
        actions_of_lem (actor_of x) (actions_of x) e (next_of x) later (omega arith) (omega arith) e_few (omega arith) later-few ∙ s.2,
        set_of_lem (actor_of x) (actions_of x) e (next_of x) later (omega arith) (omega arith) e_few (omega arith) later-few,
        next_of_lem (actor_of x) (actions_of x) e (next_of x) later (omega arith) (omega arith) e_few (omega arith) later-few ∙ s.4,
        later_of_lem (actor_of x) (actions_of x) e (next_of x) later (omega arith) (omega arith) e_few (omega arith) later-few,
      )

      said_all : (i : ℕ) → i < size t → Tested (eqb i a) → a ≤ i → Says n (first_entry t) (later_in t) (get_or new i 0) i (node t i)
      said_all i p (holds f) o = rw (eqb-true i a f, q) says_here
      said_all i p (fails f) o = subst (λ y. Says n (first_entry t) (later_in t) y i (node t i)) (sym (other i (eqb-false i a f) (λ z. omega arith))) (h.said i (omega (arith, eqb-false i a f)) p)

      member : (y : Decision) → is_of y.0 y.1 me ≡ decides y.0 y.1 (node t a)
      unfolding is_of decides
      member y = rw q refl

      firsts_all : (y : Decision) → In y (decisions t) → Tested (is_of y.0 y.1 me) → get_or new (size t + m + first_entry t y.0 y.1) 0 ≡ first_of (numbers y.0 y.1 a (drop a (preorder t)))
      unfolding numbers first_of
      firsts_all y p (holds f) =
          ap₂ (λ i l. get_or new (size t + m + first_entry t i l) 0) (sym (is_of_seat y.0 y.1 me f)) (sym (is_of_key y.0 y.1 me f))
          ∙ get_or-set_same (set w a (relinked x e later)) (size t + m + e) a 0 (rw (length-set w a (relinked x e later)) room)
          ∙ sym (ap (λ l. first_of (numbers y.0 y.1 a l)) here_first ∙ rw (sym (member y) ∙ f) refl)
      firsts_all y p (fails f) = other (size t + m + first_entry t y.0 y.1) (λ z. omega arith) (λ z. apart (omega arith)) ∙ h.firsts y p ∙ passes y.0 y.1 (sym (member y) ∙ f)
        where
          apart : first_entry t y.0 y.1 ≡ e → ⊥
          apart z = let r = entry-apart t c.acts me y here p (sym z) in clash (is_of y.0 y.1 me) (rw (← r.0, ← r.1) (is_of_self me)) f

      pub pushes : From a (linked (size t) (size t + m) a w)
      pushes = rw new_is (record {
        low = λ i f. other i (λ z. omega arith) (λ z. omega arith) ∙ h.low i (omega arith);
        codes = λ i f. other (size t + i) (λ z. omega arith) (λ z. omega arith) ∙ h.codes i f;
        said = λ i o p. said_all i p (tested (eqb i a)) o;
        firsts = λ y p. firsts_all y p (tested (is_of y.0 y.1 me));
        long = length-set (set w a (relinked x e later)) (size t + m + e) a ∙ length-set w a (relinked x e later) ∙ h.long;
      })

    pub from_more : From a (linked (size t) (size t + m) a w)
    unfolding Says decides
    from_more = at (node t a) refl (subst (λ x. Says n code unlinked x a (node t a)) (sym (h.low a (omega arith) ∙ g.kept.words a (inl b))) (held-node n code unlinked bare t c.held a b))
      where
        at : (u : Tree) → node t a ≡ u → Says n code unlinked (get_or w a 0) a u → From a (linked (size t) (size t + m) a w)
        at (end p) q s = rw (linked_kind (size t) (size t + m) a w (λ z. omega (arith, s.0))) (kept (λ j k. ap (decides j k) q) (rw q s))
        at (chance f) q s = rw (linked_kind (size t) (size t + m) a w (λ z. omega (arith, s.0))) (kept (λ j k. ap (decides j k) q) (rw q s))
        at (decide j k f) q s = pushes j k f q s

  pub from_start : (w : List ℕ) → From 0 w → Indexed n (size t + m) w t
  from_start w h = record {
    held = says→held n (first_entry t) (later_in t) w 0 t (says_from n (first_entry t) (later_in t) w 0 (preorder t)
        (λ i b. subst (λ j. Says n (first_entry t) (later_in t) (get_or w j 0) j (node t i)) (sym (NatL.zero-add i)) (h.said i zero-le (rw (preorder-length t) at b))));
    heads = in_every (λ j k a. get_or w (size t + m + first_entry t j k) 0 ≡ first_of (set_members t j k)) t (λ x p. h.firsts x p);
  }

-- ---- whatever tree is held
abbrev pub Linked : (nodes heads : ℕ) (old w : List ℕ) (a : ℕ) → Type 0
Linked nodes heads old w a = (n : ℕ) (code : ℕ → Key → ℕ) (m : ℕ) (bare : List ℕ) (t : Tree) → size t ≡ nodes → nodes + m ≡ heads → (s : size t ≤ PLACES) (c : Coded n code m bare t) (g : Numbered code m bare old t)
    → From n code m bare old t s c g a w

pub linked_end : (nodes heads : ℕ) (old : List ℕ) → Linked nodes heads old old nodes
linked_end nodes heads old n code m bare t e f s c g = subst (λ a. From n code m bare old t s c g a old) e (from_end n code m bare old t s c g)

pub linked_more : (nodes heads : ℕ) (old w new : List ℕ) (a b : ℕ) → a < nodes → b ≡ suc a → Linked nodes heads old w b → new ≡ linked nodes heads a w → Linked nodes heads old new a
linked_more nodes heads old w new a b h q l e n code m bare t f k s c g = rw (e, ← k, ← f)
    (from_more n code m bare old t s c g a (rw f h) w (subst (λ i. From n code m bare old t s c g i w) q (l n code m bare t f k s c g)))

pub linked-start : (nodes heads : ℕ) (old w : List ℕ) (a : ℕ) → a ≡ 0 → nodes ≤ PLACES → Linked nodes heads old w a → (n : ℕ) (code : ℕ → Key → ℕ) (m : ℕ) (bare : List ℕ) (t : Tree) → size t ≡ nodes → nodes + m ≡ heads
    → Coded n code m bare t → Numbered code m bare old t → Indexed n heads w t
linked-start nodes heads old w a z h l n code m bare t e f c g = let s : size t ≤ PLACES = rw e h in
    rw (← f, ← e) (from_start n code m bare old t s c g w (subst (λ i. From n code m bare old t s c g i w) z (l n code m bare t e f s c g)))

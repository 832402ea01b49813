-- Ways down a stored tree with what is passed down: to the children of a node, and to the members of a set. Assumes nothing.
use mathlib.Core.Path.{◌≡◌, sym, subst}
use mathlib.Core.Bool.{false, cond}
use mathlib.Core.List.{List}
use Prim.Native.Nat.{ℕ, zero, suc, pred, ◌+◌, ◌≤◌, ◌<◌}
use native.Mathlib.Nat as NatL
use native.Mathlib.Omega.{arith}
use lib.Dec.{eqb}
use Rattle.game_tree.specs.Tree.{Key, Tree, end, chance, decide, Trees, nil, cons, fan}
use Rattle.game_tree.specs.Conditions.{Every}
use Rattle.game_tree.specs.Reply.{same}
use Rattle.game_tree.specs.Shape.{Levels}
use Rattle.game_tree.specs.Sets.{size, first_entry, is_of}
use Rattle.game_tree.proofs.Sets.{is_of_seat, is_of_key}
use Rattle.arena.specs.internal.Index.{later_in}
use Rattle.arena.specs.internal.Walk.{Behind}
use Rattle.arena_walks.specs.internal.Child.{nth, place_of, Child}
use Rattle.arena_walks.specs.internal.Stage.{Stage, Memo, SubtreeAt, SubtreesAt}
use Rattle.arena_walks.specs.internal.Found.{Member, found, found_all}
use Rattle.arena_walks.proofs.Standing.{kids-decide, known_of, held_in, held_in_all}
use Rattle.arena_walks.proofs.Finding.{EachMember, each_append, each_cond}

-- what holds of a standing tree with u, and goes down to its children with what is passed to them
pub record Descent {i h k : ℕ} (S : Stage i h k) {W : Type 0} (deal : W → ℕ → W) (move : W → ℕ → Key → ℕ → W) : Type 1 where
  pub Here : (d a : ℕ) → W → Tree → Type 0
  pub HereAll : (d a : ℕ) → (ℕ → W) → ℕ → Trees → Type 0
  pub stands : (d a : ℕ) (u : W) (t : Tree) → Here d a u t → SubtreeAt S d a t
  pub stands_all : (d a : ℕ) (g : ℕ → W) (x : ℕ) (f : Trees) → HereAll d a g x f → SubtreesAt S d a f
  pub dealt : (d a : ℕ) (u : W) (f : Trees) → Here d a u (chance f) → HereAll (pred d) (suc a) (λ x. deal u (fan f)) 0 f
  pub moved : (d a : ℕ) (u : W) (j : ℕ) (y : Key) (f : Trees) → Here d a u (decide j y f) → HereAll (pred d) (suc a) (move u j y) 0 f
  pub one : (d a : ℕ) (g : ℕ → W) (x : ℕ) (t : Tree) (f : Trees) → HereAll d a g x (cons t f) → Here d a (g x) t
  pub others : (d a : ℕ) (g : ℕ → W) (x : ℕ) (t : Tree) (f : Trees) → HereAll d a g x (cons t f) → HereAll d (a + size t) g (suc x) f

module _ {i h k : ℕ} {S : Stage i h k} {W : Type 0} {deal : W → ℕ → W} {move : W → ℕ → Key → ℕ → W} (D : Descent S deal move) where
  -- ---- a child
  child_from : (d a : ℕ) (g : ℕ → W) (x : ℕ) (f : Trees) (c : ℕ) → D.HereAll d a g x f → c < fan f → D.Here d (place_of a f c) (g (x + c)) (nth f c)
  unfolding fan place_of nth
  child_from d a g x nil c r l = absurd (NatL.not-suc-le-zero l)
  child_from d a g x (cons t f) zero r l = subst (λ z. D.Here d a (g z) t) (sym (NatL.add-zero x)) (D.one d a g x t f r)
  child_from d a g x (cons t f) (suc c) r l = let e : suc x + c ≡ x + suc c = omega arith in
      subst (λ z. D.Here d (place_of (a + size t) f c) (g z) (nth f c)) e (child_from d (a + size t) g (suc x) f c (D.others d a g x t f r) (NatL.le_of_suc-le-suc l))

  -- child c of a row
  pub child_here : (d a : ℕ) (g : ℕ → W) (f : Trees) (c : ℕ) → D.HereAll d a g 0 f → c < fan f → D.Here d (place_of a f c) (g c) (nth f c)
  child_here d a g f c r l = subst (λ z. D.Here d (place_of a f c) (g z) (nth f c)) (NatL.zero-add c) (child_from d a g 0 f c r l)

  module _ (w : List ℕ) (m : Memo S w) where
    -- child c of a decision, at the place where it is found
    pub child_at : (d a : ℕ) (u : W) (j : ℕ) (y : Key) (f : Trees) → D.Here (suc d) a u (decide j y f) → (c q : ℕ) → Child w a c q → c < fan f → D.Here d q (move u j y c) (nth f c)
    unfolding Every
    child_at d a u j y f r c q o l = subst (λ z. D.Here d z (move u j y c) (nth f c)) (sym place) (child_here d (suc a) (move u j y) f c (D.moved (suc d) a u j y f r) l)
      where
        here : SubtreeAt S (suc d) a (decide j y f)
        here = D.stands (suc d) a u (decide j y f) r

        kids : SubtreesAt S d (suc a) f
        kids = kids-decide S (suc d) a j y f here

        few : fan f ≤ 3
        few = (known_of S (λ j y n. (2 ≤ n) × (n ≤ 3)) S.few j y (fan f) here.known.0).1

        place : q ≡ place_of (suc a) f c
        place = o.place S.seats (first_entry S.tree) (later_in S.tree) f (held_in_all S w m d (suc a) f kids) (omega (arith, kids.room, S.room)) l (omega (arith, few, l))

    -- behind the first of a row stand the others
    pub row-rest : (d a : ℕ) (g : ℕ → W) (x : ℕ) (t : Tree) (f : Trees) → D.HereAll d a g x (cons t f) → (q : ℕ) → Behind w a q → (q ≡ a + size t) × D.HereAll d q g (suc x) f
    row-rest d a g x t f r q o = (place, subst (λ z. D.HereAll d z g (suc x) f) (sym place) (D.others d a g x t f r))
      where
        here : SubtreeAt S d a t
        here = D.stands d a (g x) t (D.one d a g x t f r)

        place : q ≡ a + size t
        place = o.place S.seats (first_entry S.tree) (later_in S.tree) t (held_in S w m d a t here) (omega (arith, here.room, S.room))

  -- ---- the members of seat i's set y
  module _ (y : Key) where
    abbrev pub Found : Member W → Type 0
    Found m = D.Here (suc (S.levels i y)) m.0 m.1 (decide i y m.2)

    abbrev pub EachFound : List (Member W) → Type 0
    EachFound ms = EachMember Found ms

    this : (d a : ℕ) (u : W) (j : ℕ) (l : Key) (f : Trees) → j ≡ i → l ≡ y → D.Here d a u (decide j l f) → Found (a, u, f)
    unfolding Levels
    this d a u j l f p q r =
        let o : D.Here d a u (decide i y f) = subst (λ z. D.Here d a u (decide i z f)) q (subst (λ z. D.Here d a u (decide z l f)) p r) in
        let s : SubtreeAt S d a (decide i y f) = D.stands d a u (decide i y f) o in
        let e : d ≡ suc (S.levels i y) = omega (arith, s.level.0, s.level.1) in
        subst (λ x. D.Here x a u (decide i y f)) e o

    mutual
      unfolding found EachMember is_of

      -- each stands with its level
      pub each_found : (t : Tree) (d a : ℕ) (u : W) → D.Here d a u t → EachFound (found deal move i y a u t)
      each_found (end p) d a u r = tt
      each_found (chance f) d a u r = each_found_all f (pred d) (suc a) (λ x. deal u (fan f)) 0 (D.dealt d a u f r)
      each_found (decide j l f) d a u r = each_cond Found (a, u, f) (found_all deal move i y (suc a) (move u j l) 0 f) (cond (eqb j i) (same l y) false)
          (λ w. this d a u j l f (is_of_seat i y (j, l, 0) w) (is_of_key i y (j, l, 0) w) r) (each_found_all f (pred d) (suc a) (move u j l) 0 (D.moved d a u j l f r))

      each_found_all : (f : Trees) (d a : ℕ) (g : ℕ → W) (x : ℕ) → D.HereAll d a g x f → EachFound (found_all deal move i y a g x f)
      each_found_all nil d a g x r = tt
      each_found_all (cons t f) d a g x r = each_append Found (found deal move i y a (g x) t) (found_all deal move i y (a + size t) g (suc x) f)
          (each_found t d a (g x) (D.one d a g x t f r)) (each_found_all f d (a + size t) g (suc x) (D.others d a g x t f r))

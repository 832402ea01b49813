-- Ways down a stored tree with its units. Assumes nothing.
use Rattle.std.proofs.Common.{◌≡◌, ℕ, zero, suc, pred, ◌+◌, ◌/◌, ◌<◌, Bool, true, false, eqb, sym, refl, ap, ◌∙◌, arith, eq-eqb}
use native.Mathlib.Nat as NatL
use Rattle.game_tree.specs.Tree.{Key, Tree, chance, decide, Trees, nil, cons, fan}
use Rattle.game_tree.specs.Conditions.{Pays}
use Rattle.game_tree.specs.Reply.{share}
use Rattle.game_tree.specs.Sets.{size}
use Rattle.arena_walks.specs.internal.Child.{nth}
use Rattle.arena_walks.proofs.Standing as Standing
use Rattle.arena_walks.proofs.Descending.{Descent}
use Rattle.units.specs.internal.Gain.{given, gain, gain_pick, Stocked}
use Rattle.units.proofs.Passing.{share-few, quotient_few}
use Rattle.units_values.specs.internal.Valued.{Scene, Here, HereAll, gained}
use Rattle.units.specs.internal.Readable.{UNITS}

module _ {i h b k : ℕ} (S : Scene i h b k) where
  -- no share is more than the whole
  given-few : (u j : ℕ) (y : Key) (x : ℕ) → u < UNITS → given S.parts S.strategy i u j y x < UNITS
  unfolding share
  given-few u j y x l = at (eqb j i)
    where
      at : (t : Bool) → share S.parts t u (S.strategy j y x) < UNITS
      at true = l
      at false = omega (arith, share-few u (S.strategy j y x) S.parts (S.fair j y x))

  -- the seat's own moves pass the whole
  pub given_whole : (u : ℕ) (y : Key) (x : ℕ) → given S.parts S.strategy i u i y x ≡ u
  unfolding share
  given_whole u y x = ap (λ t. share S.parts t u (S.strategy i y x)) (eq-eqb i i refl)

  -- the children of a node
  pub kids-chance : (d a u : ℕ) (f : Trees) → Here S d a u (chance f) → HereAll S (pred d) (suc a) (λ x. u / fan f) 0 f
  unfolding Stocked Pays
  kids-chance d a u f r = record { stands = Standing.kids-chance S.stage d a f r.stands; stocked = r.stocked.1; pays = r.pays; small = λ x. quotient_few u (fan f) r.small }

  pub kids-decide : (d a u j : ℕ) (y : Key) (f : Trees) → Here S d a u (decide j y f) → HereAll S (pred d) (suc a) (given S.parts S.strategy i u j y) 0 f
  unfolding Stocked Pays
  kids-decide d a u j y f r = record { stands = Standing.kids-decide S.stage d a j y f r.stands; stocked = r.stocked.1; pays = r.pays; small = λ x. given-few u j y x r.small }

  -- the first of a row, and the rest
  pub first : (d a : ℕ) (g : ℕ → ℕ) (x : ℕ) (t : Tree) (f : Trees) → HereAll S d a g x (cons t f) → Here S d a (g x) t
  unfolding Stocked Pays
  first d a g x t f r = record { stands = Standing.first S.stage d a t f r.stands; stocked = r.stocked.0; pays = r.pays.0; small = r.small x }

  pub rest : (d a : ℕ) (g : ℕ → ℕ) (x : ℕ) (t : Tree) (f : Trees) → HereAll S d a g x (cons t f) → HereAll S d (a + size t) g (suc x) f
  unfolding Stocked Pays
  rest d a g x t f r = record { stands = Standing.rest S.stage d a t f r.stands; stocked = r.stocked.1; pays = r.pays.1; small = r.small }

  abbrev pub descent : Descent S.stage (λ u n. u / n) (given S.parts S.strategy i)
  descent = record {
    Here = Here S;
    HereAll = HereAll S;
    stands = λ d a u t r. r.stands;
    stands_all = λ d a g x f r. r.stands;
    dealt = kids-chance;
    moved = λ d a u j y f r. kids-decide d a u j y f r;
    one = first;
    others = rest;
  }

  -- the root
  pub root_here : Here S 32 0 S.root S.stage.tree
  root_here = record { stands = Standing.root_stands S.stage; stocked = S.stocked; pays = S.pays; small = S.small }

  -- child c of a row gains what is picked there
  pick_from : (g : ℕ → ℕ) (x : ℕ) (f : Trees) (c : ℕ) → c < fan f → gain_pick S.parts S.strategy i S.stage.choice g x f c ≡ gained S (g (x + c)) (nth f c)
  unfolding fan nth gain
  pick_from g x nil c l = absurd (NatL.not-suc-le-zero l)
  pick_from g x (cons t f) zero l = ap (λ z. gained S (g z) t) (sym (NatL.add-zero x))
  pick_from g x (cons t f) (suc c) l = let e : suc x + c ≡ x + suc c = omega arith in pick_from g (suc x) f c (NatL.le_of_suc-le-suc l) ∙ ap (λ z. gained S (g z) (nth f c)) e

  pub pick-gain : (g : ℕ → ℕ) (f : Trees) (c : ℕ) → c < fan f → gain_pick S.parts S.strategy i S.stage.choice g 0 f c ≡ gained S (g c) (nth f c)
  pick-gain g f c l = pick_from g 0 f c l ∙ ap (λ z. gained S (g z) (nth f c)) (NatL.zero-add c)

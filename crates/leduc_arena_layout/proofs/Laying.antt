-- Nodes and rows laid out one after the other, within the room there is. Assumes nothing.
use mathlib.Core.Path.{◌≡◌, refl, sym, ap, ◌∙◌, subst}
use mathlib.Core.Bool.{Bool, true, false, not, cond}
use mathlib.Core.List.{List, [], ◌∷◌}
use Prim.Native.Nat.{ℕ, zero, suc, ◌+◌, ◌*◌, ◌-◌, ◌≤◌, ◌<◌}
use native.Mathlib.Nat as NatL
use native.Mathlib.Omega.{arith}
use lib.Dec.{eqb}
use borrow.Author.Tests.{eq-eqb, ne_eqb}
use lib.IntN.{pos, ◌-ℤ◌}
use lib.ListN.{length, set}
use mir.Syntax.{w64}
use mir.Val.{Fits}
use Rattle.std.specs.declared.cmp.Ordering.{Ordering}
use Rattle.std.specs.declared.cmp.Ordering.TheVariants.{Less, Equal, Greater}
use Rattle.std.specs.Ordering.{ordering_index, ordering_reverse}
use Rattle.game_tree.specs.Tree.{Key, Tree, chance, decide, Trees, nil, cons, fan}
use Rattle.game_tree.specs.Sets.{size, sizes}
use Rattle.arena.specs.internal.Words.{byte_of, chance_word, decision_word, PLACES}
use Rattle.arena.specs.internal.Held.{Says}
use Rattle.arena.specs.internal.Built.{Built, Row, Room}
use Rattle.arena.proofs.Packing.{kind_of_lem, actor_of_lem, actions_of_lem, set_of_lem, next_of_lem, later_of_lem, chance_kind, chance_next}
use Rattle.arena.proofs.Building.{sizes-join, snoc, row_none, row_one, row_more, row-join, built_chance, built_decide, built_end}
use Rattle.leduc_arena_layout.specs.internal.Layout.{plain, byte_for, end_tree, raised_tree, round_tree, only, row_to, showdown_for, second_tree, public_tree, first_tree, deal_tree, other, Chosen, Raise}

-- ---- an end
pub end_place : (at e x : ℕ) (w : List ℕ) → Room at w (size (end_tree e x)) → at < length w
unfolding end_tree size
end_place at e x w g = omega (arith, g.words)

pub lays_end : (at e x a b : ℕ) (w v : List ℕ) → Room at w (size (end_tree e x)) → a ≡ byte_for e x → a < 128 → b ≡ byte_for (2 - e) x → b < 128 → v ≡ set w at (4 * a + 1024 * b) → Built 2 plain at w v (end_tree e x) (at + 1)
unfolding end_tree Says size
lays_end at e x a b w v g i j k l h = built_end 2 plain at (4 * a + 1024 * b) w v _ (omega (arith, g.words)) h (omega arith, pays)
  where
    pays : (s : ℕ) → s < 2 → pos (byte_of (4 * a + 1024 * b) s) -ℤ pos 64 ≡ pos (byte_for (cond (eqb s 0) e (2 - e)) x) -ℤ pos 64
    pays zero n = ap (λ y. pos y -ℤ pos 64) (let z : byte_of (4 * a + 1024 * b) 0 ≡ a = omega arith in z ∙ i)
    pays (suc zero) n = ap (λ y. pos y -ℤ pos 64) (let z : byte_of (4 * a + 1024 * b) 1 ≡ b = omega arith in z ∙ k)
    pays (suc (suc s)) n = absurd (omega arith)

-- how the other seat fares
pub reversed : (o r : Ordering) → r ≡ ordering_reverse o → ordering_index r ≡ 2 - ordering_index o
reversed Less r e = rw e refl
reversed Equal r e = rw e refl
reversed Greater r e = rw e refl

-- ---- a node at place at, where there is room for z nodes
module _ {at z : ℕ} {w : List ℕ} (g : Room at w z) where
  pub place_fits : Fits w64 (at + 1)
  place_fits = record { fits = omega (arith, g.places) }

  pub first_room : (y : ℕ) → y < z → Room (at + 1) w y
  first_room y l = record { words = omega (arith, g.words); places = omega (arith, g.places) }

  next_room : {v : List ℕ} {f : Trees} {r : ℕ} → Row 2 plain (at + 1) w v f r → (y : ℕ) → sizes f + y < z → Room r v y
  next_room b y l = record { words = rw b.kept.long (omega (arith, g.words, b.next)); places = omega (arith, g.places, b.next) }

  -- over the whole row of its children
  module _ {v : List ℕ} {f : Trees} {r : ℕ} (b : Row 2 plain (at + 1) w v f r) (e : suc (sizes f) ≡ z) where
    behind-few : r < PLACES
    behind-few = omega (arith, g.places, b.next)

    pub row_fits : (r < PLACES) × (at < length v)
    row_fits = (behind-few, rw b.kept.long (omega (arith, g.words)))

    behind : r ≡ at + suc (sizes f)
    behind = omega (arith, b.next)

    row : Row 2 plain (suc at) w v f r
    row = subst (λ i. Row 2 plain i w v f r) (omega arith) b

    pub lays_chance : {u : List ℕ} {x : ℕ} → x ≡ chance_word r → u ≡ set v at x → Built 2 plain at w u (chance f) r
    unfolding Says size
    lays_chance {u} {x} q i = built_chance 2 plain at x w v u f r row (omega (arith, g.words)) i (rw q (chance_kind r, chance_next r behind-few ∙ behind))

    lays_decision : {u : List ℕ} {j n k : ℕ} → fan f ≡ n → Chosen at j n k r v u → Built 2 plain at w u (decide j (k ∷ []) f) r
    unfolding Says size
    lays_decision {u} {j} {n} {k} q c =
        let a : j < 8 = omega (arith, c.seat) in
        let m : n < 4 = c.few in
        let d : k < 16384 = c.small in
        let o : 0 < PLACES = omega arith in
        built_decide 2 plain at (decision_word j n k r 0) w v u j (k ∷ []) f r row (omega (arith, g.words)) c.word (
          kind_of_lem j n k r 0 a m d behind-few o,
          actor_of_lem j n k r 0 a m d behind-few o,
          actions_of_lem j n k r 0 a m d behind-few o ∙ sym q,
          set_of_lem j n k r 0 a m d behind-few o,
          next_of_lem j n k r 0 a m d behind-few o ∙ behind,
          later_of_lem j n k r 0 a m d behind-few o,
        )

-- ---- a decision with two or three children, one after the other
row_two : {a r q : ℕ} {w v u : List ℕ} {t s : Tree} → Built 2 plain a w v t r → Built 2 plain r v u s q → Row 2 plain a w u (cons t (cons s nil)) q
unfolding snoc
row_two {a} {r} {q} {w} {v} {u} {t} {s} h g = row_more 2 plain a w v u (cons t nil) s r q (row_one 2 plain a w v t r h) g

row_three : {a r q p : ℕ} {w v u x : List ℕ} {t s o : Tree} → Built 2 plain a w v t r → Built 2 plain r v u s q → Built 2 plain q u x o p → Row 2 plain a w x (cons t (cons s (cons o nil))) p
unfolding snoc
row_three {a} {r} {q} {p} {w} {v} {u} {x} {t} {s} {o} h g i = row_more 2 plain a w u x (cons t (cons s nil)) o q p (row_two h g) i

pub room_one : {at : ℕ} {w : List ℕ} (j : ℕ) (k : Key) (t : Tree) (f : Trees) → Room at w (size (decide j k (cons t f))) → Room (at + 1) w (size t)
unfolding size
room_one j k t f g = first_room g (size t) (omega arith)

module _ {at : ℕ} {w : List ℕ} (j : ℕ) (k : Key) (t s : Tree) (f : Trees) where
  module _ {v : List ℕ} {r : ℕ} (h : Built 2 plain (at + 1) w v t r) where
    pub room_two : Room at w (size (decide j k (cons t (cons s f)))) → Room r v (size s)
    unfolding size
    room_two g = next_room g (row_one 2 plain (at + 1) w v t r h) (size s) (omega arith)

    module _ {u : List ℕ} {q : ℕ} (i : Built 2 plain r v u s q) where
      pub room_three : (o : Tree) → Room at w (size (decide j k (cons t (cons s (cons o f))))) → Room q u (size o)
      unfolding size
      room_three o g = next_room g (row_two h i) (size o) (omega arith)

module _ {at r q : ℕ} {w v u : List ℕ} (j : ℕ) (k : Key) {t s : Tree} (h : Built 2 plain (at + 1) w v t r) (i : Built 2 plain r v u s q) where
  pub two_fit : Room at w (size (decide j k (cons t (cons s nil)))) → (q < PLACES) × (at < length u)
  unfolding size
  two_fit g = row_fits g (row_two h i) refl

  pub lays_two : {x : List ℕ} {m : ℕ} → Room at w (size (decide j k (cons t (cons s nil)))) → Chosen at j 2 m q u x → Built 2 plain at w x (decide j (m ∷ []) (cons t (cons s nil))) q
  unfolding size fan
  lays_two g c = lays_decision g (row_two h i) refl refl c

  module _ {x : List ℕ} {p : ℕ} {o : Tree} (l : Built 2 plain q u x o p) where
    pub three_fit : Room at w (size (decide j k (cons t (cons s (cons o nil))))) → (p < PLACES) × (at < length x)
    unfolding size
    three_fit g = row_fits g (row_three h i l) refl

    pub lays_three : {y : List ℕ} {m : ℕ} → Room at w (size (decide j k (cons t (cons s (cons o nil))))) → Chosen at j 3 m p x y → Built 2 plain at w y (decide j (m ∷ []) (cons t (cons s (cons o nil)))) p
    unfolding size fan
    lays_three g c = lays_decision g (row_three h i l) refl refl c

-- ---- the decision after a raise, where r more may come
module _ (k₀ k₁ base step inc : ℕ) (close : ℕ → ℕ → Tree) (j n x : ℕ) {at : ℕ} {w : List ℕ} where
  pub fold_room : (r : ℕ) → Room at w (size (raised_tree k₀ k₁ base step inc close r j n x)) → Room (at + 1) w (size (end_tree (2 * j) x))
  unfolding raised_tree
  fold_room zero g = room_one _ _ _ _ g
  fold_room (suc r) g = room_one _ _ _ _ g

  -- its FOLD stands
  module _ {v : List ℕ} {q : ℕ} (h : Built 2 plain (at + 1) w v (end_tree (2 * j) x) q) where
    pub call_room : {y : ℕ} → y ≡ x + inc → (r : ℕ) → Room at w (size (raised_tree k₀ k₁ base step inc close r j n x))
        → Room q v (size (close (2 * n + step) y))
    unfolding raised_tree
    call_room e zero g = rw e (room_two _ _ _ _ _ h g)
    call_room e (suc r) g = rw e (room_two _ _ _ _ _ h g)

    -- and its CALL, for which the seat pays so much
    module _ {c : ℕ} {u : List ℕ} {p : ℕ} (i : Built 2 plain q v u (close (2 * n + step) c) p) (d : c ≡ x + inc) where
      pub last_fits : (r : ℕ) → r ≡ 0 → Room at w (size (raised_tree k₀ k₁ base step inc close r j n x)) → (p < PLACES) × (at < length u)
      unfolding raised_tree
      last_fits zero e g = two_fit _ _ h (rw d at i) g
      last_fits (suc r) e g = absurd (omega arith)

      pub lays_last : (r : ℕ) → r ≡ 0 → Room at w (size (raised_tree k₀ k₁ base step inc close r j n x)) → {y : List ℕ} {m : ℕ} → m ≡ n + base
          → Chosen at j 2 (cond (eqb j 0) k₀ k₁ + m) p u y → Built 2 plain at w y (raised_tree k₀ k₁ base step inc close r j n x) p
      unfolding raised_tree
      lays_last zero e g f c = lays_two _ _ h (rw d at i) g (rw f at c)
      lays_last (suc r) e g f c = absurd (omega arith)

      pub again_room : {y : ℕ} → y ≡ x + inc → (r : ℕ) → 0 < r → Room at w (size (raised_tree k₀ k₁ base step inc close r j n x))
          → Room p u (size (raised_tree k₀ k₁ base step inc close (r - 1) (1 - j) (2 * n + 2 * step) y))
      unfolding raised_tree
      again_room a zero l g = absurd (omega arith)
      again_room a (suc r) l g = let e : suc r - 1 ≡ r = omega arith in rw (a, e) (room_three _ _ _ _ _ h (rw d at i) _ g)

      -- and its RAISE
      module _ {y : ℕ} {z : List ℕ} {o : ℕ} where
        pub again_fits : (r : ℕ) → 0 < r → Room at w (size (raised_tree k₀ k₁ base step inc close r j n x)) → Built 2 plain p u z
            (raised_tree k₀ k₁ base step inc close (r - 1) (1 - j) (2 * n + 2 * step) y) o → y ≡ x + inc → (o < PLACES) × (at < length z)
        unfolding raised_tree
        again_fits zero l g b a = absurd (omega arith)
        again_fits (suc r) l g b a = let e : suc r - 1 ≡ r = omega arith in three_fit _ _ h (rw d at i) (rw (a, e) at b) g

        pub lays_again : (r : ℕ) → 0 < r → Room at w (size (raised_tree k₀ k₁ base step inc close r j n x))
            → Built 2 plain p u z (raised_tree k₀ k₁ base step inc close (r - 1) (1 - j) (2 * n + 2 * step) y) o → y ≡ x + inc → {t : List ℕ} {m : ℕ}
            → m ≡ n + base → Chosen at j 3 (cond (eqb j 0) k₀ k₁ + m) o z t → Built 2 plain at w t (raised_tree k₀ k₁ base step inc close r j n x) o
        unfolding raised_tree
        lays_again zero l g b a f c = absurd (omega arith)
        lays_again (suc r) l g b a f c = let e : suc r - 1 ≡ r = omega arith in lays_three _ _ h (rw d at i) (rw (a, e) at b) g (rw f at c)

-- ---- the numbers stay small
module _ {j : ℕ} (l : j < 2) where
  pub fold_few : 2 * j ≤ 2
  fold_few = omega arith

  pub other-seat : 1 - j < 2
  other-seat = omega arith

-- of a raise
module _ {step inc most n x r : ℕ} (h : Raise step inc most n x r) where
  pub raise_few : (n ≤ 10 * step) × (2 * n + step ≤ 21 * step) × (x + inc ≤ most + 2 * inc)
  raise_few = (omega (arith, h.few), omega (arith, h.few), omega (arith, h.stakes))

  pub raise_again : {y : ℕ} → y ≡ x + inc → 0 < r → Raise step inc most (2 * n + 2 * step) y (r - 1)
  raise_again a l = let e : suc (r - 1) ≡ r = omega arith in
      let f : n + 6 * (step * suc (r - 1)) ≤ 10 * step = rw e h.few in
      let s : x + inc * suc (r - 1) ≤ most + inc = rw e h.stakes in
      record { few = omega (arith, f, NatL.mul-suc step (r - 1)); stakes = omega (arith, a, s, NatL.mul-suc inc (r - 1)) }

-- ---- the tree of a number that is kept, or not
module _ (g : ℕ → Tree) (x : ℕ) (b : Bool) (at : ℕ) (w : List ℕ) where
  pub passes : b ≡ false → Row 2 plain at w w (only b g x) at
  unfolding only
  passes e = rw e (row_none 2 plain at w)

  pub keeps : {v : List ℕ} {r : ℕ} → b ≡ true → Built 2 plain at w v (g x) r → Row 2 plain at w v (only b g x) r
  unfolding only
  keeps {v} {r} e h = rw e (row_one 2 plain at w v (g x) r h)

  pub kept_room : b ≡ true → Room at w (sizes (only b g x)) → Room at w (size (g x))
  unfolding only size
  kept_room e h = let r : Room at w (size (g x) + 0) = rw e at h in rw (NatL.add-zero (size (g x))) at r

-- ---- the row of the numbers that are kept, one by one
module _ (p : ℕ → Bool) (g : ℕ → Tree) where
  row-sizes : (n : ℕ) → sizes (row_to p g (suc n)) ≡ sizes (row_to p g n) + sizes (only (p n) g n)
  unfolding row_to
  row-sizes n = sizes-join (row_to p g n) (only (p n) g n)

  row-grows : (n d : ℕ) → sizes (row_to p g n) ≤ sizes (row_to p g (d + n))
  row-grows n zero = rw (NatL.zero-add n) (NatL.le_refl _)
  row-grows n (suc d) = rw (NatL.suc-add d n) (omega (arith, row-grows n d, row-sizes (d + n)))

  module _ (at : ℕ) (w : List ℕ) where
    pub row-start : Row 2 plain at w w (row_to p g 0) at
    unfolding row_to
    row-start = row_none 2 plain at w

    pub row_done : (x r : ℕ) (v : List ℕ) → Row 2 plain at w v (row_to p g x) r → x ≤ 6 → 6 ≤ x → Row 2 plain at w v (row_to p g 6) r
    row_done x r v b l m = subst (λ i. Row 2 plain at w v (row_to p g i) r) (omega arith) b

    module _ (x r : ℕ) (v : List ℕ) (b : Row 2 plain at w v (row_to p g x) r) where
      pub row_on : (u : List ℕ) (i : ℕ) → Row 2 plain r v u (only (p x) g x) i → Row 2 plain at w u (row_to p g (x + 1)) i
      unfolding row_to
      row_on u i h = let e : x + 1 ≡ suc x = omega arith in rw e (row-join 2 plain at w v u (row_to p g x) (only (p x) g x) r i b h)

      pub child_room : Room at w (sizes (row_to p g 6)) → x < 6 → Room r v (sizes (only (p x) g x))
      child_room z l =
          let grows : sizes (row_to p g (suc x)) ≤ sizes (row_to p g 6) = subst (λ i. sizes (row_to p g (suc x)) ≤ sizes (row_to p g i)) (omega arith) (row-grows (suc x) (5 - x)) in
          record { words = rw b.kept.long (omega (arith, z.words, b.next, row-sizes x)); places = omega (arith, z.places, b.next, row-sizes x) }

-- ---- round 2, by the codes at its start and its showdown
module _ (c d n x p z o e : ℕ) (f : z ≡ n + 6 * p + c) (g : o ≡ n + 6 * p + d) (h : e ≡ showdown_for c d p) where
  second_is : round_tree z o 0 42 4 (λ m y. end_tree e y) x ≡ second_tree c d n x p
  unfolding second_tree
  second_is = rw (f, g, h) refl

  pub second_room : {at : ℕ} {w : List ℕ} → Room at w (size (second_tree c d n x p)) → Room at w (size (round_tree z o 0 42 4 (λ m y. end_tree e y) x))
  second_room {at} {w} r = subst (λ t. Room at w (size t)) (sym second_is) r

  pub second_built : {at r : ℕ} {w v : List ℕ} → Built 2 plain at w v (round_tree z o 0 42 4 (λ m y. end_tree e y) x) r → Built 2 plain at w v (second_tree c d n x p) r
  second_built {at} {r} {w} {v} b = subst (λ t. Built 2 plain at w v t r) second_is b

-- ---- round 1, behind the last card
module _ (c d : ℕ) {at : ℕ} {w : List ℕ} where
  pub first_tree_room : Room at w (size (deal_tree 0 c d)) → Room at w (size (round_tree c d 36 462 2 (public_tree c d) 1))
  unfolding deal_tree first_tree
  first_tree_room h = h

  pub first_tree_built : {v : List ℕ} {r : ℕ} → Built 2 plain at w v (round_tree c d 36 462 2 (public_tree c d) 1) r → Built 2 plain at w v (deal_tree 0 c d) r
  unfolding deal_tree first_tree
  first_tree_built h = h

-- ---- the tree of a card is kept where it is another than those dealt
pub unlike : (d c : ℕ) → (d ≡ c → ⊥) → not (eqb d c) ≡ true
unlike d c n = rw (ne_eqb d c n) refl

pub alike : (d c : ℕ) → d ≡ c → not (eqb d c) ≡ false
alike d c e = rw (eq-eqb d c e) refl

pub unlike_both : (c d p : ℕ) → (p ≡ c → ⊥) → (p ≡ d → ⊥) → other c d p ≡ true
unlike_both c d p n m = rw (ne_eqb p c n, ne_eqb p d m) refl

pub alike_one : (c d p : ℕ) → p ≡ c → other c d p ≡ false
alike_one c d p e = rw (eq-eqb p c e) refl

pub alike_two : (c d p : ℕ) → (p ≡ c → ⊥) → p ≡ d → other c d p ≡ false
alike_two c d p n e = rw (ne_eqb p c n, eq-eqb p d e) refl

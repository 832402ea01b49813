-- In a reply tree with recall no parts are worth more than a locally optimal choice. Nothing is assumed.
-- The worth of parts and the value of a choice differ by a sum over the own nodes (`balance`): each adds what the parts gain there over the choice,
-- weighed by how much of the parts comes there. By recall that weight is the set's (`gain`), so the sum goes set by set (`weigh-mono`), and in no set is
-- anything gained.
use mathlib.Core.Path.{◌≡◌, refl, sym, ap, ap₂, ◌∙◌}
use mathlib.Core.Logic.{◌⊎◌, inl, inr}
use mathlib.Core.List.{List, [], ◌∷◌, ◌++◌}
use Prim.Native.Nat.{ℕ, zero, suc, ◌+◌, ◌*◌, ◌-◌, ◌^◌, ◌≤◌, ◌<◌}
use native.Mathlib.Nat as NatL
use native.Mathlib.Omega.{arith}
use lib.IntN.{ℤ, pos, ◌+ℤ◌}
use lib.Signed.{◌≤ℤ◌, ≤ℤ_refl}
use lib.ListN.{length}
use Rattle.game_tree.specs.Sums.{◌·◌, sum, parts}
use Rattle.game_tree.specs.Tree.{Key}
use Rattle.game_tree.specs.Reply.{Reply, leaf, split, own, Replies, none, more, count, Choice, value, total, pick, Node, nodes, nodes_all, members, set_sum, depth, depth_all}
use Rattle.game_tree.specs.Optimal.{EveryOwn, Optimal, scaled, scaled_all, scaled_kids}
use Rattle.game_tree.specs.Recall.{Path, Recalled, RecalledAll, RecalledKids}
use Rattle.game_tree.specs.Theorem.{OptimalUnbeaten}
use Rattle.game_tree.proofs.Integers.{·-zero, ·-one, ·-sum, ·-mul, ·-swap, +ℤ-mono, +ℤ-cancel, +ℤ-left-comm, +ℤ-four}
use Rattle.game_tree.proofs.Sums.{upto, upto_ext, upto_mono, sum_upto, sum_append, sum_scale}
use Rattle.game_tree.proofs.Members.{weigh, weigh_mono}
use Rattle.game_tree.proofs.Own.{own_both, of_set}

-- two balances, added
balances : (x₁ n₁ y₁ p₁ x₂ n₂ y₂ p₂ : ℤ) → x₁ +ℤ n₁ ≡ y₁ +ℤ p₁ → x₂ +ℤ n₂ ≡ y₂ +ℤ p₂ → x₁ +ℤ x₂ +ℤ (n₁ +ℤ n₂) ≡ y₁ +ℤ y₂ +ℤ (p₁ +ℤ p₂)
balances x₁ n₁ y₁ p₁ x₂ n₂ y₂ p₂ e₁ e₂ = +ℤ-four x₁ x₂ n₁ n₂ ∙ ap₂ ◌+ℤ◌ e₁ e₂ ∙ +ℤ-four y₁ p₁ y₂ p₂

-- how much of the parts comes along a path
unfoldable reach : (Key → ℕ → ℕ) → Path → ℕ
reach p [] = 1
reach p (x ∷ π) = reach p π * p x.0 x.1

module _ (E m : ℕ) (p : Key → ℕ → ℕ) (c : Choice) (H : Key → Path) (n : Key → ℕ) where
  -- how much of the parts comes to the set, times the scale that is left behind it
  unfoldable gain : Key → ℕ
  gain k = reach p (H k) * E ^ (m - suc (length (H k)))

  -- what the parts give at a node, and the choice
  unfoldable theirs : Key → Node → ℤ
  theirs k x = upto (n k) (λ a. p k a · pick c x.2 a)

  unfoldable ours : Key → Node → ℤ
  ours k x = E · pick c x.2 (c k)

  abbrev Theirs : List Node → ℤ
  Theirs xs = weigh gain theirs xs

  abbrev Ours : List Node → ℤ
  Ours xs = weigh gain ours xs

  weigh_append : (h : Key → Node → ℤ) (xs ys : List Node) → weigh gain h (xs ++ ys) ≡ weigh gain h xs +ℤ weigh gain h ys
  unfolding weigh
  weigh_append h xs ys = sum_append (λ (x : Node). gain x.1 · h x.1 x) xs ys

  -- the children's values, each times its part
  unfoldable blend : Key → ℕ → Replies → ℤ
  blend k a none = pos 0
  blend k a (more t f) = p k a · value c t +ℤ blend k (suc a) f

  blend-upto : (k : Key) (i : ℕ) (f : Replies) → blend k i f ≡ upto (count f) (λ a. p k (i + a) · pick c f a)
  unfolding blend upto count pick
  blend-upto k i none = refl
  blend-upto k i (more t f) = ap₂ ◌+ℤ◌ (ap (λ x. p k x · value c t) (sym (NatL.add-zero i)))
      (blend-upto k (suc i) f ∙ upto_ext (count f) (λ a. p k (suc i + a) · pick c f a) (λ a. p k (i + suc a) · pick c f a)
      (λ a. ap (λ x. p k x · pick c f a) (omega arith)))

  blend-theirs : (u : ℕ) (k : Key) (f : Replies) → count f ≡ n k → blend k 0 f ≡ theirs k (u, k, f)
  unfolding theirs
  blend-theirs u k f e = blend-upto k 0 f
      ∙ upto_ext (count f) (λ a. p k (0 + a) · pick c f a) (λ a. p k a · pick c f a) (λ a. ap (λ x. p k x · pick c f a) (NatL.zero-add a))
      ∙ ap (λ x. upto x (λ a. p k a · pick c f a)) e

  -- a tree, or children, in balance: `w` of the parts comes there
  abbrev Balance : ℕ → ℤ → ℕ → ℤ → List Node → Type 0
  Balance w x r v xs = w · x +ℤ Ours xs ≡ w · (E ^ r · v) +ℤ Theirs xs

  balance_none : (w r : ℕ) → Balance w (pos 0) r (pos 0) []
  unfolding weigh sum
  balance_none w r = simp ·-zero

  balance-join : (w r : ℕ) (x y u v : ℤ) (xs ys : List Node) → Balance w x r u xs → Balance w y r v ys → Balance w (x +ℤ y) r (u +ℤ v) (xs ++ ys)
  balance-join w r x y u v xs ys h k = rw (·-sum w x y, ·-sum (E ^ r) u v, ·-sum w (E ^ r · u) (E ^ r · v), weigh_append ours xs ys, weigh_append theirs xs ys)
      (balances (w · x) (Ours xs) (w · (E ^ r · u)) (Theirs xs) (w · y) (Ours ys) (w · (E ^ r · v)) (Theirs ys) h k)

  -- a part goes on to a child
  balance_part : (w q r : ℕ) (x v : ℤ) (xs : List Node) → Balance (w * q) x r v xs → Balance w (q · x) r (q · v) xs
  balance_part w q r x v xs h = rw (·-swap (E ^ r) q v, ← (·-mul w q x), ← (·-mul w q (E ^ r · v))) h

  gain_is : (k : Key) (π : Path) (r : ℕ) → suc r + length π ≡ m → π ≡ H k → gain k ≡ reach p π * E ^ r
  unfolding gain
  gain_is k π r l e = ap (λ ρ. reach p ρ * E ^ (m - suc (length ρ))) (sym e) ∙ ap (λ x. reach p π * E ^ x) (omega arith)

  ours_is : (u : ℕ) (k : Key) (f : Replies) (π : Path) (r : ℕ) → suc r + length π ≡ m → π ≡ H k
      → gain k · ours k (u, k, f) ≡ reach p π · (E ^ suc r · pick c f (c k))
  unfolding ours
  ours_is u k f π r l e = rw (gain_is k π r l e, NatL.pow-suc E r, ·-mul (reach p π) (E ^ r) (E · pick c f (c k)), ·-mul (E ^ r) E (pick c f (c k)))

  theirs_is : (u : ℕ) (k : Key) (f : Replies) (π : Path) (r : ℕ) → suc r + length π ≡ m → π ≡ H k → count f ≡ n k
      → gain k · theirs k (u, k, f) ≡ reach p π · (E ^ r · blend k 0 f)
  theirs_is u k f π r l e q = rw (gain_is k π r l e, blend-theirs u k f q, ·-mul (reach p π) (E ^ r) (theirs k (u, k, f)))

  -- an own node, from the balance of its children
  balance_own : (u : ℕ) (k : Key) (f : Replies) (π : Path) (r : ℕ) → suc r + length π ≡ m → π ≡ H k → count f ≡ n k
      → Balance (reach p π) (scaled_kids E p k 0 f r) r (blend k 0 f) (nodes_all f)
      → Balance (reach p π) (scaled_kids E p k 0 f r) (suc r) (pick c f (c k)) ((u, k, f) ∷ nodes_all f)
  unfolding weigh sum
  balance_own u k f π r l e q h = rw (ours_is u k f π r l e, theirs_is u k f π r l e q)
      (turn (reach p π · scaled_kids E p k 0 f r) (reach p π · (E ^ suc r · pick c f (c k))) (Ours (nodes_all f)) (reach p π · (E ^ r · blend k 0 f))
      (Theirs (nodes_all f)) h)
    where
      turn : (x a n b q : ℤ) → x +ℤ n ≡ b +ℤ q → x +ℤ (a +ℤ n) ≡ a +ℤ (b +ℤ q)
      turn x a n b q e = +ℤ-left-comm x a n ∙ ap (λ z. a +ℤ z) e

  mutual
    unfolding scaled value nodes depth Recalled reach weigh sum blend

    balance : (t : Reply) (π : Path) (r : ℕ) → r + length π ≡ m → depth t ≤ r → Recalled H n π t → Balance (reach p π) (scaled E p t r) r (value c t) (nodes t)
    balance (leaf u v) π r l d h = refl
    balance (split f) π r l d h = balance_all f π r l d h
    balance (own u k f) π zero l d h = absurd (NatL.not-suc-le-zero d)
    balance (own u k f) π (suc r) l d h = balance_own u k f π r l h.0 h.1 (balance-kids f π k 0 r (omega arith) (NatL.le_of_suc-le-suc d) h.2)

    balance_all : (f : Replies) (π : Path) (r : ℕ) → r + length π ≡ m → depth_all f ≤ r → RecalledAll H n π f
        → Balance (reach p π) (scaled_all E p f r) r (total c f) (nodes_all f)
    balance_all none π r l d h = balance_none (reach p π) r
    balance_all (more t f) π r l d h = balance-join (reach p π) r (scaled E p t r) (scaled_all E p f r) (value c t) (total c f) (nodes t) (nodes_all f)
        (balance t π r l (omega arith) h.0) (balance_all f π r l (omega arith) h.1)

    balance-kids : (f : Replies) (π : Path) (k : Key) (a r : ℕ) → r + suc (length π) ≡ m → depth_all f ≤ r → RecalledKids H n π k a f
        → Balance (reach p π) (scaled_kids E p k a f r) r (blend k a f) (nodes_all f)
    balance-kids none π k a r l d h = balance_none (reach p π) r
    balance-kids (more t f) π k a r l d h = balance-join (reach p π) r (p k a · scaled E p t r) (scaled_kids E p k (suc a) f r) (p k a · value c t)
        (blend k (suc a) f) (nodes t) (nodes_all f)
        (balance_part (reach p π) (p k a) r (scaled E p t r) (value c t) (nodes t) (balance t ((k, a) ∷ π) r l (omega arith) h.0))
        (balance-kids f π k (suc a) r l (omega arith) h.1)

  -- in each set the parts add up to E, and no action betters the choice
  module _ (r : Reply) where
    abbrev Fair : Key → ℕ → Type 0
    Fair k b = (parts b (p k) ≡ E) × ((a : ℕ) → a < b → set_sum c r k a ≤ℤ set_sum c r k (c k))

    -- nothing is gained in a set
    no_gain : (k : Key) → (members r k ≡ []) ⊎ Fair k (n k) → sum (theirs k) (members r k) ≤ℤ sum (ours k) (members r k)
    unfolding theirs ours sum
    no_gain k (inl q) = rw q (≤ℤ_refl (pos 0))
    no_gain k (inr q) = rw (
      sum_upto (n k) (p k) (λ (x : Node) a. pick c x.2 a) (members r k),
      sum_scale E (λ (x : Node). pick c x.2 (c k))
          (members r k),
      ← q.0,
    )
        (upto_mono (n k) (p k) (set_sum c r k) (set_sum c r k (c k)) q.1)

    unbeaten : Recalled H n [] r → depth r ≤ m → Optimal c r → EveryOwn (λ k b. parts b (p k) ≡ E) r → scaled E p r m ≤ℤ (E ^ m · value c r)
    unfolding reach
    unbeaten h d o e = +ℤ-cancel (scaled E p r m) (E ^ m · value c r) (Ours (nodes r))
        (rw (rw (·-one (scaled E p r m), ·-one (E ^ m · value c r)) at (balance r [] m (NatL.add-zero m) d h))
        (+ℤ-mono (E ^ m · value c r) (E ^ m · value c r) (Theirs (nodes r)) (Ours (nodes r)) (≤ℤ_refl (E ^ m · value c r))
        (weigh_mono gain theirs ours (nodes r) (λ k. no_gain k (of_set H n Fair k r [] fair h)))))
      where
        fair : EveryOwn Fair r
        fair = own_both (λ k b. parts b (p k) ≡ E) (λ k b. (a : ℕ) → a < b → set_sum c r k a ≤ℤ set_sum c r k (c k)) Fair (λ k b x y. (x, y)) r e o

pub optimal_unbeaten : OptimalUnbeaten
optimal_unbeaten E m p c r h d o e = unbeaten E m p c h.0 h.1 r h.2 d o e

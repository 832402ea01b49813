-- No two sets of Kuhn's tree share a code. Assumes nothing.
use mathlib.Core.Path.{◌≡◌, refl, sym, ap, ap₂, ◌∙◌}
use mathlib.Core.Logic.{inl, inr}
use mathlib.Core.Bool.{Bool, true, false, not}
use mathlib.Core.List.{List, [], ◌∷◌, ◌++◌}
use Prim.Native.Nat.{ℕ, zero, suc, ◌+◌, ◌*◌, ◌^◌, ◌≤◌, ◌<◌, zero-le}
use native.Mathlib.Nat as NatL
use native.Mathlib.Omega.{arith}
use lib.Dec.{leb, ltb}
use lib.ListN.{length, get_or, length-append}
use borrow.Author.Tests.{leb-true, ltb-true, ltb-false}
use Rattle.prelude.specs.Finite.{has}
use Rattle.prelude.proofs.Tests.{Tested, holds, fails, tested, and_left}
use Rattle.game_tree.specs.Tree.{Key, Tree}
use Rattle.game_tree.specs.Conditions.{Every, EveryAll}
use Rattle.game_tree.proofs.Counting.{In}
use Rattle.game_tree.proofs.Sets.{every→each, each→every, each_map}
use Rattle.arena.specs.internal.Index.{Codes}
use Rattle.kuhn_rules.specs.Rules.{PASS, BET, ended, turn, left, remaining}
use Rattle.kuhn_tree.specs.Tree.{each, m, tree_of_kuhn}
use Rattle.kuhn_tree.proofs.Cards.{left_of_in}
use Rattle.kuhn_tree.proofs.Shape.{hand, deals, kuhn-deals}
use Rattle.kuhn_arena_layout.specs.internal.Layout.{number_from, code_of, code_count}

-- ---- histories of passes and bets, by number
-- every action is a pass or a bet
unfoldable pub Bits : List ℕ → Type 0
Bits [] = Unit {0}
Bits (a ∷ h) = (a ≤ 1) × Bits h

bits_more : (h : List ℕ) (a : ℕ) → Bits h → a ≤ 1 → Bits (h ++ (a ∷ []))
unfolding Bits
bits_more [] a b l = (l, tt)
bits_more (c ∷ h) a b l = (b.0, bits_more h a b.1 l)

twice : (x k : ℕ) → x * 2 ^ suc k ≡ 2 * x * 2 ^ k
twice x k = ap (λ y. x * y) (NatL.pow-succ' 2 k) ∙ sym (NatL.mul_assoc x 2 (2 ^ k)) ∙ ap (λ y. y * 2 ^ k) (NatL.mul_comm x 2)

-- the numbers of histories of one length stand together
number_least : (c : ℕ) (h : List ℕ) → (c + 1) * 2 ^ length h ≤ number_from c h + 1
unfolding number_from
number_least c [] = omega arith
number_least c (a ∷ h) = let i = number_least (2 * c + a + 1) h in
    NatL.le_trans (rw (twice (c + 1) (length h)) (NatL.mul-le-mul_right {m = 2 * (c + 1)} {n = 2 * c + a + 1 + 1} (2 ^ length h) (omega arith))) i

number_most : (c : ℕ) (h : List ℕ) → Bits h → number_from c h + 2 ≤ (c + 2) * 2 ^ length h
unfolding number_from Bits
number_most c [] b = omega arith
number_most c (a ∷ h) b = let i = number_most (2 * c + a + 1) h b.1 in
    NatL.le_trans i (rw (twice (c + 2) (length h)) (NatL.mul-le-mul_right {m = 2 * c + a + 1 + 2} {n = 2 * (c + 2)} (2 ^ length h) (omega (arith, b.0))))

-- so a shorter history has a smaller number
shorter : (h g : List ℕ) → Bits h → length h < length g → number_from 0 h < number_from 0 g
shorter h g b l =
    let p : 2 ^ suc (length h) ≤ 2 ^ length g = NatL.pow-le-pow_right {n = 2} (omega arith) {i = suc (length h)} {j = length g} l in
    omega (arith, number_most 0 h b, number_least 0 g, p, NatL.pow-succ' 2 (length h))

-- and of one length only one has it
same_length : (c d : ℕ) (h g : List ℕ) → Bits h → Bits g → length h ≡ length g → number_from c h ≡ number_from d g → (c ≡ d) × (h ≡ g)
unfolding number_from Bits
same_length c d [] [] p q l e = (e, refl)
same_length c d [] (b ∷ g) p q l e = absurd (omega arith)
same_length c d (a ∷ h) [] p q l e = absurd (omega arith)
same_length c d (a ∷ h) (b ∷ g) p q l e = let (i, j) = same_length (2 * c + a + 1) (2 * d + b + 1) h g p.1 q.1 (omega arith) e in
    let k : a ≡ b = omega (arith, i, p.0, q.0) in (omega (arith, i, p.0, q.0), ap₂ ◌∷◌ k j)

pub number-tells : (h g : List ℕ) → Bits h → Bits g → number_from 0 h ≡ number_from 0 g → h ≡ g
number-tells h g p q e = at (tested (ltb (length h) (length g))) (tested (ltb (length g) (length h)))
  where
    at : Tested (ltb (length h) (length g)) → Tested (ltb (length g) (length h)) → h ≡ g
    at (holds l) y = absurd (omega (arith, shorter h g p (ltb-true (length h) (length g) l)))
    at (fails l) (holds k) = absurd (omega (arith, shorter g h q (ltb-true (length g) (length h) k)))
    at (fails l) (fails k) = (same_length 0 0 h g p q (omega (arith, ltb-false (length h) (length g) l, ltb-false (length g) (length h) k)) e).1

-- ---- the keys of the tree
-- a key of n seats: the seat whose turn it is, a card up to n, and a history of at most 2n - 2 passes and bets
pub record Keyed (n j : ℕ) (k : Key) (a : ℕ) : Type 0 where
  pub card : ℕ
  pub history : List ℕ
  pub seat : j ≡ turn n history
  pub is : k ≡ j ∷ card ∷ history
  pub deck : card ≤ n
  pub bits : Bits history
  pub few : length history < m n

module _ (ante stake n : ℕ) where
  hand-keyed : (cs : List ℕ) → ((i : ℕ) → get_or cs i 0 ≤ n) → (r : ℕ) (b : Bool) (h : List ℕ) → Bits h → length h + r ≤ m n → Every (Keyed n) (hand ante stake n cs r b h)
  unfolding hand Every
  hand-keyed cs d zero b h p l = tt
  hand-keyed cs d (suc r) true h p l = tt
  hand-keyed cs d (suc r) false h p l = (
    record { card = get_or cs (turn n h) 0; history = h; seat = refl; is = refl; deck = d (turn n h); bits = p; few = omega arith },
    (
      hand-keyed cs d r (ended n (h ++ (PASS ∷ []))) (h ++ (PASS ∷ [])) (bits_more h PASS p (omega arith)) (omega (arith, length-append h (PASS ∷ []))),
      (hand-keyed cs d r (ended n (h ++ (BET ∷ []))) (h ++ (BET ∷ [])) (bits_more h BET p (omega arith)) (omega (arith, length-append h (BET ∷ []))), tt),
    ),
  )

  each_keyed : (l : List ℕ) (g : ℕ → Tree) → ((c : ℕ) → In c l → Every (Keyed n) (g c)) → EveryAll (Keyed n) (each l g)
  unfolding each Every In
  each_keyed [] g h = tt
  each_keyed (c ∷ l) g h = (h c (inl refl), each_keyed l g (λ d w. h d (inr w)))

  deck_more : (cs : List ℕ) (c : ℕ) → ((i : ℕ) → get_or cs i 0 ≤ n) → c ≤ n → (i : ℕ) → get_or (cs ++ (c ∷ [])) i 0 ≤ n
  deck_more [] c d l zero = l
  deck_more [] c d l (suc i) = zero-le
  deck_more (x ∷ cs) c d l zero = d 0
  deck_more (x ∷ cs) c d l (suc i) = deck_more cs c (λ i. d (suc i)) l i

  in_deck : (cs : List ℕ) (c : ℕ) → In c (remaining n cs) → c ≤ n
  unfolding left
  in_deck cs c w = leb-true c n (and_left (leb c n) (not (has c cs)) (left_of_in n cs c w))

  deals-keyed : (k : ℕ) (cs : List ℕ) → ((i : ℕ) → get_or cs i 0 ≤ n) → Every (Keyed n) (deals ante stake n k cs)
  unfolding deals Every Bits
  deals-keyed zero cs d = hand-keyed cs d (m n) (ended n []) [] tt (omega arith)
  deals-keyed (suc k) cs d = each_keyed (remaining n cs) (λ c. deals ante stake n k (cs ++ (c ∷ []))) (λ c w. deals-keyed k (cs ++ (c ∷ [])) (deck_more cs c d (in_deck cs c w)))

  pub kuhn-keyed : Every (Keyed n) (tree_of_kuhn ante stake n)
  kuhn-keyed = rw (kuhn-deals ante stake n) (deals-keyed n [] (λ i. zero-le))

every_map : (P R : ℕ → Key → ℕ → Type 0) → ((j : ℕ) (k : Key) (a : ℕ) → P j k a → R j k a) → (t : Tree) → Every P t → Every R t
every_map P R f t h = each→every R t (each_map P R f _ (every→each P t h))

-- ---- the codes
code_is : (n j : ℕ) (k : Key) (a : ℕ) (x : Keyed n j k a) → code_of n j k ≡ number_from 0 x.history * (n + 1) + x.card
unfolding code_of
code_is n j k a x = ap (code_of n j) x.is

code_few : (n j : ℕ) (k : Key) (a : ℕ) → Keyed n j k a → code_of n j k < code_count n
code_few n j k a x =
    let u : ℕ = number_from 0 x.history in
    let p : 2 ^ suc (length x.history) ≤ 2 ^ m n = NatL.pow-le-pow_right {n = 2} (omega arith) {i = suc (length x.history)} {j = m n} x.few in
    let q : u + 1 ≤ 2 ^ m n = omega (arith, number_most 0 x.history x.bits, p, NatL.pow-succ' 2 (length x.history)) in
    let r : (u + 1) * (n + 1) ≤ 2 ^ m n * (n + 1) = NatL.mul-le-mul_right {m = u + 1} {n = 2 ^ m n} (n + 1) q in
    rw (code_is n j k a x) (omega (arith, r, NatL.add-mul u 1 (n + 1), x.deck))

-- a product and a rest tell both
rest-tells : (n u v c d : ℕ) → c ≤ n → d ≤ n → u * (n + 1) + c ≡ v * (n + 1) + d → (u ≡ v) × (c ≡ d)
rest-tells n zero zero c d p q e = (refl, omega (arith, NatL.zero-mul (n + 1)))
rest-tells n zero (suc v) c d p q e = absurd (omega (arith, NatL.zero-mul (n + 1), NatL.suc-mul v (n + 1)))
rest-tells n (suc u) zero c d p q e = absurd (omega (arith, NatL.zero-mul (n + 1), NatL.suc-mul u (n + 1)))
rest-tells n (suc u) (suc v) c d p q e = let (i, j) = rest-tells n u v c d p q (omega (arith, NatL.suc-mul u (n + 1), NatL.suc-mul v (n + 1))) in (ap suc i, j)

code_tells : (n j : ℕ) (k : Key) (a i : ℕ) (l : Key) (b : ℕ) → Keyed n j k a → Keyed n i l b → code_of n j k ≡ code_of n i l → (j ≡ i) × (k ≡ l)
code_tells n j k a i l b x y e =
    let (u, c) = rest-tells n (number_from 0 x.history) (number_from 0 y.history) x.card y.card x.deck y.deck (sym (code_is n j k a x) ∙ e ∙ code_is n i l b y) in
    let h : x.history ≡ y.history = number-tells x.history y.history x.bits y.bits u in
    let s : j ≡ i = x.seat ∙ ap (turn n) h ∙ sym y.seat in
    (s, x.is ∙ ap₂ ◌∷◌ s (ap₂ ◌∷◌ c h) ∙ sym y.is)

pub kuhn-codes : (ante stake n : ℕ) → Codes (code_of n) (code_count n) (tree_of_kuhn ante stake n)
kuhn-codes ante stake n = record {
  inside = every_map (Keyed n) (λ j k a. code_of n j k < code_count n) (code_few n) (tree_of_kuhn ante stake n) (kuhn-keyed ante stake n);
  apart = every_map (Keyed n) (λ j k a. Every (λ i l b. code_of n j k ≡ code_of n i l → (j ≡ i) × (k ≡ l)) (tree_of_kuhn ante stake n))
      (λ j k a x. every_map (Keyed n) (λ i l b. code_of n j k ≡ code_of n i l → (j ≡ i) × (k ≡ l)) (λ i l b y. code_tells n j k a i l b x y) (tree_of_kuhn ante stake n) (kuhn-keyed ante stake n)) (tree_of_kuhn ante stake n) (kuhn-keyed ante stake n);
}

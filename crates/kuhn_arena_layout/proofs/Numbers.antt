-- Histories as numbers, and the highest card. Assumes nothing.
use mathlib.Core.Path.{◌≡◌, refl, sym, ap, ap₂, ◌∙◌}
use mathlib.Core.Bool.{cond}
use mathlib.Core.List.{List, [], ◌∷◌, ◌++◌}
use Prim.Native.Nat.{ℕ, zero, suc, ◌+◌, ◌*◌, ◌-◌, ◌/◌, ◌%◌, ◌^◌, ◌≤◌, ◌<◌}
use native.Mathlib.Nat as NatL
use native.Mathlib.Omega.{arith}
use lib.ListN.{get_or}
use lib.Dec.{ltb}
use borrow.Author.Tests.{ltb-true, ltb-false}
use Rattle.prelude.proofs.Tests.{Tested, holds, fails, tested, below_cases}
use Rattle.kuhn_arena_layout.specs.internal.Layout.{number_from, last_actions, history_at, Top}

-- ---- histories
number-after : (c : ℕ) (h : List ℕ) (a : ℕ) → number_from c (h ++ (a ∷ [])) ≡ 2 * number_from c h + a + 1
unfolding number_from
number-after c [] a = refl
number-after c (b ∷ h) a = number-after (2 * c + b + 1) h a

-- reading more actions than there are changes nothing
enough : (f g x : ℕ) → x ≤ f → x ≤ g → last_actions f x ≡ last_actions g x
unfolding last_actions
enough zero zero x p q = refl
enough zero (suc g) zero p q = refl
enough zero (suc g) (suc x) p q = absurd (omega arith)
enough (suc f) zero zero p q = refl
enough (suc f) zero (suc x) p q = absurd (omega arith)
enough (suc f) (suc g) zero p q = refl
enough (suc f) (suc g) (suc x) p q = ap (λ l. l ++ (x % 2 ∷ [])) (enough f g (x / 2) (omega arith) (omega arith))

-- an action more
pub history_more : (x a : ℕ) → a ≤ 1 → history_at (2 * x + a + 1) ≡ history_at x ++ (a ∷ [])
unfolding history_at last_actions
history_more x a l =
    ap (λ y. last_actions y y) (let e : 2 * x + a + 1 ≡ suc (2 * x + a) = omega arith in e)
    ∙ ap₂ (λ y b. last_actions (2 * x + a) y ++ (b ∷ [])) (let e : (2 * x + a) / 2 ≡ x = omega arith in e) (let e : (2 * x + a) % 2 ≡ a = omega arith in e)
    ∙ ap (λ l. l ++ (a ∷ [])) (enough (2 * x + a) x x (omega arith) (omega arith))

pub history_pass : (x : ℕ) → history_at (2 * x + 1) ≡ history_at x ++ (0 ∷ [])
history_pass x = ap history_at (let e : 2 * x + 1 ≡ 2 * x + 0 + 1 = omega arith in e) ∙ history_more x 0 (omega arith)

pub history-bet : (x : ℕ) → history_at (2 * x + 2) ≡ history_at x ++ (1 ∷ [])
history-bet x = ap history_at (let e : 2 * x + 2 ≡ 2 * x + 1 + 1 = omega arith in e) ∙ history_more x 1 (omega arith)

number_read : (f x : ℕ) → x ≤ f → number_from 0 (last_actions f x) ≡ x
unfolding last_actions number_from
number_read zero x l = omega arith
number_read (suc f) zero l = refl
number_read (suc f) (suc x) l = number-after 0 (last_actions f (x / 2)) (x % 2) ∙ ap (λ y. 2 * y + x % 2 + 1) (number_read f (x / 2) (omega arith)) ∙ (let e : 2 * (x / 2) + x % 2 + 1 ≡ suc x = omega arith in e)

-- no other history has the number
pub number_of : (x : ℕ) → number_from 0 (history_at x) ≡ x
unfolding history_at
number_of x = number_read x x (omega arith)

doubled : (h k : ℕ) → (h + 2) * 2 ^ suc k ≡ (2 * h + 4) * 2 ^ k
doubled h k = ap (λ x. (h + 2) * x) (NatL.pow-succ' 2 k) ∙ sym (NatL.mul_assoc (h + 2) 2 (2 ^ k)) ∙ ap (λ x. x * 2 ^ k) (omega arith)

-- one action more: twice as many numbers, and half as many to come
pub less_left : (h k a : ℕ) → (k ≡ 0 → ⊥) → (h + 2) * 2 ^ k ≤ 4096 → a ≤ 2 → (2 * h + a + 2) * 2 ^ (k - 1) ≤ 4096
less_left h zero a z b l = absurd (z refl)
less_left h (suc k) a z b l = let q : suc k - 1 ≡ k = omega arith in
    rw q (NatL.le_trans (NatL.mul-le-mul_right {m = 2 * h + a + 2} {n = 2 * h + 4} (2 ^ k) (omega arith)) (rw (doubled h k) at b))

pub last_left : (h k : ℕ) → (k ≡ 0 → ⊥) → (h + 2) * 2 ^ k ≤ 4096 → h ≤ 2046
last_left h zero z b = absurd (z refl)
last_left h (suc k) z b = let c : (2 * h + 4) * 2 ^ k ≤ 4096 = rw (doubled h k) at b in
    omega (arith, NatL.le-mul_of_pos_right {m = 2 ^ k} (2 * h + 4) (NatL.one-le-pow k 2 (omega arith)))

-- ---- the highest of the first cards
pub top_one : (cs : List ℕ) → Top 1 cs 0
top_one cs = record { seated = omega arith; highest = λ q l. below_cases q 0 l (λ k. absurd (omega arith)) (λ e. rw e (NatL.le_refl _)) }

pub top_more : (k : ℕ) (cs : List ℕ) (t r : ℕ) → Top k cs t → r ≡ cond (ltb (get_or cs t 0) (get_or cs k 0)) k t → Top (k + 1) cs r
top_more k cs t r p e = at (tested (ltb (get_or cs t 0) (get_or cs k 0)))
  where
    at : Tested (ltb (get_or cs t 0) (get_or cs k 0)) → Top (k + 1) cs r
    at (holds u) = let q : r ≡ k = e ∙ rw u refl in let l = ltb-true (get_or cs t 0) (get_or cs k 0) u in
        rw q (record { seated = omega arith; highest = λ i m. below_cases i k (omega arith) (λ v. NatL.le_trans (p.highest i v) (omega arith)) (λ v. rw v (NatL.le_refl _)) })
    at (fails u) = let q : r ≡ t = e ∙ rw u refl in let l = ltb-false (get_or cs t 0) (get_or cs k 0) u in
        rw q (record { seated = omega (arith, p.seated); highest = λ i m. below_cases i k (omega arith) (λ v. p.highest i v) (λ v. rw v l) })

-- the sum of a set's code
pub set_sum : (n h c : ℕ) → n ≤ 6 → h ≤ 2046 → c < 256 → h * (n + 1) + c < 16384
set_sum n h c six small byte = let times : h * (n + 1) ≤ 2046 * 7 = NatL.mul-le-mul {m₁ = n + 1} {m₂ = 7} small (omega arith) in omega arith

-- The decisions of Leduc's tree are its turns, and the rule on the cards tells which of them is met for the first time: that can be computed. Assumes nothing.
use mathlib.Core.Path.{◌≡◌, refl, sym, ap, ap₂, ◌∙◌}
use mathlib.Core.Bool.{Bool, true, false, not, cond}
use mathlib.Core.List.{List, [], ◌∷◌, ◌++◌, map, map-append}
use Prim.Native.Nat.{ℕ, zero, suc}
use lib.IntN.{ℤ}
use lib.ListN.{length}
use Rattle.prelude.specs.Finite.{◌and◌}
use Rattle.prelude.proofs.Tests.{Tested, holds, fails, tested, true≢false, and_left, and_right}
use Rattle.game_tree.specs.Tree.{Key, Tree, fan}
use Rattle.game_tree.specs.Reply.{same}
use Rattle.game_tree.specs.Sets.{Decision, decisions, decisions_all, is_of, met, firsts}
use Rattle.game_tree.proofs.Tests.{T_of, same→eq}
use Rattle.game_tree.proofs.Tries.{Trie, finds, add, finds-add}
use Rattle.leduc_tree.specs.Tree.{Position, acted, actor, choices, key, after_deal, after_action, Next, card, action, nothing, next, each, below}
use Rattle.leduc_tree.specs.Turns.{joined, turns, is_first, first_ones, decision_at}

pub fan_each : (f : ℕ → Position) (l : List ℕ) (g : Position → Tree) → fan (each (map f l) g) ≡ length l
unfolding fan each
fan_each f [] g = refl
fan_each f (a ∷ l) g = ap suc (fan_each f l g)

each_decisions : (l : List Position) (g : Position → Tree) (x : Position → List Position) → ((s : Position) → decisions (g s) ≡ map decision_at (x s)) → decisions_all (each l g) ≡ map decision_at (joined l x)
unfolding each decisions joined
each_decisions [] g x f = refl
each_decisions (s ∷ l) g x f = ap₂ ◌++◌ (f s) (each_decisions l g x f) ∙ sym (map-append decision_at (x s) (joined l x))

pub below_decisions : (pay : Position → ℕ → ℤ) (r : ℕ) (x : Next) (q : Position) → decisions (below pay r x q) ≡ map decision_at (turns r x q)
unfolding below decisions turns
below_decisions pay zero x q = refl
below_decisions pay (suc r) nothing q = refl
below_decisions pay (suc r) card q = each_decisions (after_deal q) (λ s. below pay r (next s) s) (λ s. turns r (next s) s) (λ s. below_decisions pay r (next s) s)
below_decisions pay (suc r) action q = ap₂ (λ n xs. (actor q, key q, n) ∷ xs) (fan_each (acted q) (choices q) (λ s. below pay r (next s) s))
    (each_decisions (after_action q) (λ s. below pay r (next s) s) (λ s. turns r (next s) s) (λ s. below_decisions pay r (next s) s))

-- ---- which are the first of their set
-- the rule tells of each position whether its set is met for the first time, those in front being met
unfoldable pub Tells : List Decision → List Position → Type 0
Tells front [] = Unit {0}
Tells front (q ∷ qs) = (met (actor q) (key q) front ≡ not (is_first q)) × Tells (decision_at q ∷ front) qs

pub tells-firsts : (front : List Decision) (qs : List Position) → Tells front qs → firsts front (map decision_at qs) ≡ map decision_at (first_ones qs)
unfolding Tells firsts first_ones
tells-firsts front [] h = refl
tells-firsts front (q ∷ qs) (e, h) = rw e (at (is_first q) (first_ones qs) (tells-firsts (decision_at q ∷ front) qs h))
  where
    at : (b : Bool) {r : List Decision} (s : List Position) → r ≡ map decision_at s → cond (not b) r (decision_at q ∷ r) ≡ map decision_at (cond b (q ∷ s) s)
    at true s w = ap (λ l. decision_at q ∷ l) w
    at false s w = w

-- ---- as a test, with a store of the keys that are met
unfoldable differ : Bool → Bool → Bool
differ a true = not a
differ a false = a

differ-sound : (a b : Bool) → differ a b ≡ true → a ≡ not b
unfolding differ
differ-sound true true e = true≢false false e refl
differ-sound false true e = refl
differ-sound true false e = refl
differ-sound false false e = true≢false false e refl

unfoldable pub told : Trie → List Position → Bool
unfolding differ finds add is_first
told t [] = true
told t (q ∷ qs) = let k : Key = actor q ∷ key q in (differ (finds t k) (is_first q) and told (cond (is_first q) (add t k) t) qs)

-- a key that is stored need not be stored again
kept : (b : Bool) (t : Trie) (l k : Key) → finds t l ≡ not b → finds (cond b (add t l) t) k ≡ cond (same l k) true (finds t k)
kept true t l k e = finds-add t l k
kept false t l k e = at (tested (same l k))
  where
    at : Tested (same l k) → finds t k ≡ cond (same l k) true (finds t k)
    at (holds w) = rw w (ap (finds t) (sym (same→eq l k (T_of w))) ∙ e)
    at (fails w) = rw w refl

pub told-tells : (t : Trie) (front : List Decision) (qs : List Position) → ((j : ℕ) (k : Key) → finds t (j ∷ k) ≡ met j k front) → told t qs ≡ true → Tells front qs
unfolding told Tells met is_of same
told-tells t front [] h e = tt
told-tells t front (q ∷ qs) h e =
    let k : Key = actor q ∷ key q in
    let w : finds t k ≡ not (is_first q) = differ-sound (finds t k) (is_first q) (and_left _ _ e) in
    (sym (h (actor q) (key q)) ∙ w, told-tells (cond (is_first q) (add t k) t) (decision_at q ∷ front) qs (λ j l. kept (is_first q) t k (j ∷ l) w ∙ ap (λ b. cond (is_of j l (decision_at q)) true b) (h j l)) (and_right _ _ e))

-- A store of keys that is fast to search, so that the sets of a tree can be computed. Nothing is assumed.
use mathlib.Core.Path.{◌≡◌, refl, sym, ap, ◌∙◌}
use mathlib.Core.Bool.{Bool, true, false, cond}
use mathlib.Core.List.{[], ◌∷◌}
use Prim.Native.Nat.{ℕ}
use lib.Dec.{eqb}
use Rattle.game_tree.specs.Tree.{Key}
use Rattle.game_tree.specs.Reply.{same}
use Rattle.game_tree.proofs.Tests.{Tested, is, isn't, tested, eqb_is, eqb_isn't, eqb_no, eqb_self}

-- ---- keys by their first numbers
pub data Trie : Type 0 where
  none : Trie
  here : Trie → Trie  -- the empty key, and others
  branch : ℕ → Trie → Trie → Trie  -- the keys that begin with a number, without it, and others

-- a key is stored
unfoldable pub finds : Trie → Key → Bool
finds none k = false
finds (here t) [] = true
finds (here t) (a ∷ k) = finds t (a ∷ k)
finds (branch b d s) [] = finds s []
finds (branch b d s) (a ∷ k) = let x : Bool = finds d k in let y : Bool = finds s (a ∷ k) in cond (eqb a b) x y

-- one key alone
unfoldable pub alone : Key → Trie
alone [] = here none
alone (a ∷ k) = branch a (alone k) none

-- one key more
unfoldable pub add : Trie → Key → Trie
unfolding alone
add none k = alone k
add (here t) [] = here t
add (here t) (a ∷ k) = here (add t (a ∷ k))
add (branch b d s) [] = branch b d (add s [])
add (branch b d s) (a ∷ k) = let x : Trie = branch b (add d k) s in let y : Trie = branch b d (add s (a ∷ k)) in cond (eqb a b) x y

same_head : (a c : ℕ) (l k : Key) → a ≡ c → same (a ∷ l) (c ∷ k) ≡ same l k
unfolding same
same_head a c l k e = rw (e, eqb_self c) refl

other-head : (a c : ℕ) (l k : Key) → (a ≡ c → ⊥) → same (a ∷ l) (c ∷ k) ≡ false
unfolding same
other-head a c l k f = rw (eqb_no a c f) refl

finds-alone : (l k : Key) → finds (alone l) k ≡ cond (same l k) true false
unfolding finds alone same
finds-alone [] [] = refl
finds-alone [] (c ∷ k) = refl
finds-alone (a ∷ l) [] = refl
finds-alone (a ∷ l) (c ∷ k) = at (tested (eqb c a)) (finds-alone l k)
  where
    at : Tested (eqb c a) → finds (alone l) k ≡ cond (same l k) true false → finds (branch a (alone l) none) (c ∷ k) ≡ cond (same (a ∷ l) (c ∷ k)) true false
    at (is e) h = rw e (h ∙ ap (λ b. cond b true false) (sym (same_head a c l k (sym (eqb_is c a e)))))
    at (isn't e) h = rw e (ap (λ b. cond b true false) (sym (other-head a c l k (λ q. eqb_isn't c a e (sym q)))))

pub finds-add : (t : Trie) (l k : Key) → finds (add t l) k ≡ cond (same l k) true (finds t k)
unfolding finds add same
finds-add none l k = finds-alone l k
finds-add (here t) [] [] = refl
finds-add (here t) [] (c ∷ k) = refl
finds-add (here t) (a ∷ l) [] = refl
finds-add (here t) (a ∷ l) (c ∷ k) = finds-add t (a ∷ l) (c ∷ k)
finds-add (branch b d s) [] [] = finds-add s [] []
finds-add (branch b d s) [] (c ∷ k) = ap (λ y. cond (eqb c b) (finds d k) y) (finds-add s [] (c ∷ k))
finds-add (branch b d s) (a ∷ l) [] = at (eqb a b) (finds-add s (a ∷ l) [])
  where
    at : (x : Bool) → finds (add s (a ∷ l)) [] ≡ finds s [] → finds (cond x (branch b (add d l) s) (branch b d (add s (a ∷ l)))) [] ≡ finds s []
    at true h = refl
    at false h = h
finds-add (branch b d s) (a ∷ l) (c ∷ k) = at (tested (eqb a b)) (tested (eqb c b)) (finds-add d l k) (finds-add s (a ∷ l) (c ∷ k))
  where
    Claim : Type 0
    Claim = finds (add (branch b d s) (a ∷ l)) (c ∷ k) ≡ cond (same (a ∷ l) (c ∷ k)) true (finds (branch b d s) (c ∷ k))

    at : Tested (eqb a b) → Tested (eqb c b) → finds (add d l) k ≡ cond (same l k) true (finds d k) → finds (add s (a ∷ l)) (c ∷ k) ≡ cond (same (a ∷ l) (c ∷ k)) true (finds s (c ∷ k))
        → finds (cond (eqb a b) (branch b (add d l) s) (branch b d (add s (a ∷ l)))) (c ∷ k) ≡ cond (same (a ∷ l) (c ∷ k)) true (cond (eqb c b) (finds d k) (finds s (c ∷ k)))
    at (is e) (is f) h g = rw (e, f) (h ∙ ap (λ x. cond x true (finds d k)) (sym (same_head a c l k (eqb_is a b e ∙ sym (eqb_is c b f)))))
    at (is e) (isn't f) h g = rw (e, f) (ap (λ x. cond x true (finds s (c ∷ k))) (sym (other-head a c l k (λ q. eqb_isn't c b f (sym q ∙ eqb_is a b e)))))
    at (isn't e) (is f) h g = rw (e, f) (ap (λ x. cond x true (finds d k)) (sym (other-head a c l k (λ q. eqb_isn't a b e (q ∙ eqb_is c b f)))))
    at (isn't e) (isn't f) h g = rw (e, f) g

-- The fifteen histories of a round that the rules allow, and a rule that turns a computed test of them into a fact of each. Assumes nothing.
use mathlib.Core.Path.{◌≡◌, refl, sym, ap, ◌∙◌}
use mathlib.Core.Bool.{Bool, true, false, not}
use mathlib.Core.List.{List, [], ◌∷◌, ◌++◌, append_assoc, append-nil}
use Prim.Native.Nat.{ℕ, ◌≤◌}
use native.Mathlib.Omega.{arith}
use lib.Dec.{eqb, leb}
use lib.ListN.{length}
use borrow.Author.Tests.{eqb-true, leb-true, not-true}
use Rattle.prelude.specs.Finite.{◌and◌, ◌or◌, some, every}
use Rattle.prelude.proofs.Tests.{and_left, and_right, or_cases, every_at, true≢false}
use Rattle.leduc_betting.specs.Betting.{ends_with, folded, closes, open_round, behind, raises, may, played}
use Rattle.leduc_betting.proofs.Histories.{may-small}

-- two histories are the same
unfoldable same : List ℕ → List ℕ → Bool
same [] [] = true
same [] (b ∷ y) = false
same (a ∷ x) [] = false
same (a ∷ x) (b ∷ y) = eqb a b and same x y

same_true : (x y : List ℕ) → same x y ≡ true → x ≡ y
unfolding same
same_true [] [] e = refl
same_true [] (b ∷ y) e = true≢false false e refl
same_true (a ∷ x) [] e = true≢false false e refl
same_true (a ∷ x) (b ∷ y) e =
    ap (λ t. t ∷ x) (eqb-true a b (and_left (eqb a b) (same x y) e)) ∙ ap (λ t. b ∷ t) (same_true x y (and_right (eqb a b) (same x y) e))

unfoldable among : List ℕ → List (List ℕ) → Bool
among h [] = false
among h (x ∷ xs) = same h x or among h xs

unfoldable pub all_of : (List ℕ → Bool) → List (List ℕ) → Bool
all_of P [] = true
all_of P (x ∷ xs) = P x and all_of P xs

at_among : (P : List ℕ → Bool) (xs : List (List ℕ)) → all_of P xs ≡ true → (h : List ℕ) → among h xs ≡ true → P h ≡ true
unfolding all_of among
at_among P [] e h m = true≢false false m refl
at_among P (x ∷ xs) e h m =
    or_cases (same h x) (among h xs) m
    (λ q. ap P (same_true h x q) ∙ and_left (P x) (all_of P xs) e)
    (λ q. at_among P xs (and_right (P x) (all_of P xs) e) h q)

-- CALL is 1, RAISE is 2, FOLD is 0
unfoldable pub rounds : List (List ℕ)
rounds =
    []
    ∷ (1 ∷ [])
    ∷ (2 ∷ [])
    ∷ (1 ∷ 1 ∷ [])
    ∷ (1 ∷ 2 ∷ [])
    ∷ (2 ∷ 0 ∷ [])
    ∷ (2 ∷ 1 ∷ [])
    ∷ (2 ∷ 2 ∷ [])
    ∷ (1 ∷ 2 ∷ 0 ∷ [])
    ∷ (1 ∷ 2 ∷ 1 ∷ [])
    ∷ (1 ∷ 2 ∷ 2 ∷ [])
    ∷ (2 ∷ 2 ∷ 0 ∷ [])
    ∷ (2 ∷ 2 ∷ 1 ∷ [])
    ∷ (1 ∷ 2 ∷ 2 ∷ 0 ∷ [])
    ∷ (1 ∷ 2 ∷ 2 ∷ 1 ∷ [])
    ∷ []

-- a legal action leads from one of them to another
grown : List ℕ → Bool
grown h = every 3 (λ a. not (open_round h and may h a) or among (h ++ (a ∷ [])) rounds)

all_grown : all_of grown rounds ≡ true
unfolding all_of grown rounds among same ◌and◌ ◌or◌ some every ends_with folded closes open_round behind raises may
all_grown = refl

grow : (h : List ℕ) (a : ℕ) → among h rounds ≡ true → (open_round h and may h a) ≡ true → among (h ++ (a ∷ [])) rounds ≡ true
unfolding grown
grow h a m e =
    let s : a ≤ 2 = may-small h a (and_right (open_round h) (may h a) e) in
    or_cases (not (open_round h and may h a)) (among (h ++ (a ∷ [])) rounds)
    (every_at 3 _ (at_among grown rounds all_grown h m) a (omega arith))
    (λ q. true≢false (open_round h and may h a) e (not-true _ q))
    (λ q. q)

played-among : (before h : List ℕ) → among before rounds ≡ true → played before h ≡ true → among (before ++ h) rounds ≡ true
unfolding played
played-among before [] m e = ap (λ t. among t rounds) (append-nil before) ∙ m
played-among before (a ∷ h) m e =
    ap (λ t. among t rounds) (sym (append_assoc before (a ∷ []) h))
    ∙ played-among (before ++ (a ∷ [])) h
    (grow before a m (and_left (open_round before and may before a) (played (before ++ (a ∷ [])) h) e))
    (and_right (open_round before and may before a) (played (before ++ (a ∷ [])) h) e)

start-among : among [] rounds ≡ true
unfolding among rounds same ◌or◌
start-among = refl

-- a test that holds of the fifteen histories holds of every history played by the rules
pub round_rule : (P : List ℕ → Bool) → all_of P rounds ≡ true → (h : List ℕ) → played [] h ≡ true → P h ≡ true
round_rule P t h e = at_among P rounds t h (played-among [] h start-among e)

-- ---- what the rule gives

-- a round that goes on has at most three actions
goes_on : List ℕ → Bool
goes_on h = not (open_round h) or leb (length h) 3

all_go_on : all_of goes_on rounds ≡ true
unfolding all_of goes_on rounds ◌and◌ ◌or◌ some ends_with folded closes open_round
all_go_on = refl

pub open_short : (h : List ℕ) → played [] h ≡ true → open_round h ≡ true → length h ≤ 3
unfolding goes_on
open_short h e o =
    or_cases (not (open_round h)) (leb (length h) 3) (round_rule goes_on all_go_on h e)
    (λ q. true≢false (open_round h) o (not-true _ q))
    (λ q. leb-true (length h) 3 q)

-- nobody has folded in a round that has closed
unfolded : List ℕ → Bool
unfolded h = not (closes h) or not (folded h)

all_unfolded : all_of unfolded rounds ≡ true
unfolding all_of unfolded rounds ◌and◌ ◌or◌ some ends_with folded closes
all_unfolded = refl

pub closed-unfolded : (h : List ℕ) → played [] h ≡ true → closes h ≡ true → folded h ≡ false
unfolding unfolded
closed-unfolded h e c =
    or_cases (not (closes h)) (not (folded h)) (round_rule unfolded all_unfolded h e)
    (λ q. true≢false (closes h) c (not-true _ q))
    (λ q. not-true _ q)

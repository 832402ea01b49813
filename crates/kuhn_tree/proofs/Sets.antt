-- The sets of Kuhn's tree: one for each card and each history at which a seat acts. Assumes nothing.
use mathlib.Core.Path.{◌≡◌, refl, sym, ap, ap₂, ◌∙◌}
use mathlib.Core.Logic.{◌⊎◌, inl, inr}
use mathlib.Core.Bool.{Bool, true, false, not}
use mathlib.Core.List.{List, [], ◌∷◌, ◌++◌, append-nil, append_assoc}
use Prim.Native.Nat.{ℕ, zero, suc, ◌+◌, ◌*◌, ◌≤◌, ◌<◌, zero-le}
use native.Mathlib.Nat as NatL
use native.Mathlib.Omega.{arith}
use lib.Dec.{eqb, leb}
use lib.ListN.{length, get_or, length-append, get_or-append}
use lib.Seq.{get_or-append_seam}
use borrow.Author.Tests.{eqb-true, eqb-false, le-leb}
use Rattle.prelude.specs.Finite.{has}
use Rattle.prelude.proofs.Tests.{Tested, holds, fails, tested, true≢false, both, and_left}
use Rattle.game_tree.specs.Tree.{Tree, fan}
use Rattle.game_tree.specs.Sets.{Decision, decisions, decisions_all, sets, set_count, entries, entries_of}
use Rattle.game_tree.specs.Shape.{SameActions}
use Rattle.game_tree.proofs.Sets.{Each, every→sets}
use Rattle.game_tree.proofs.Counting.{In, in_left, in_right, in_append, Once, once_append, once_length, sets_once, sets_in, in_sets}
use Rattle.game_tree.proofs.Numbers.{those_once}
use Rattle.kuhn_rules.specs.Rules.{PASS, BET, ended, turn, left, remaining}
use Rattle.kuhn_tree.specs.Tree.{each, m, tree_of_kuhn}
use Rattle.kuhn_tree.specs.Order.{turns, histories, decision_at}
use Rattle.kuhn_tree.proofs.Cards.{left_of_in, in_of_left, left_other, left_itself, remaining_less, remaining_all}
use Rattle.kuhn_tree.proofs.Shape.{hand, deals, kuhn-deals}
use Rattle.kuhn_tree.proofs.Units.{kuhn-every}

-- ---- the histories at which a seat acts
-- a history from h on begins with h
Begins : List ℕ → List ℕ → Type 0
Begins h x = (t : List ℕ) × (x ≡ h ++ t)

turns_begin : (n r : ℕ) (b : Bool) (h x : List ℕ) → In x (turns n r b h) → Begins h x
unfolding turns In Begins
turns_begin n zero b h x w = absurd w
turns_begin n (suc r) true h x w = absurd w
turns_begin n (suc r) false h x (inl e) = ([], sym e ∙ sym (append-nil h))
turns_begin n (suc r) false h x (inr w) = at (in_append x (ts PASS) (ts BET ++ []) w) (λ v. turns_begin n r (ended n (h ++ (PASS ∷ []))) (h ++ (PASS ∷ [])) x v) (λ v. turns_begin n r (ended n (h ++ (BET ∷ []))) (h ++ (BET ∷ [])) x v)
  where
    ts : ℕ → List (List ℕ)
    ts a = turns n r (ended n (h ++ (a ∷ []))) (h ++ (a ∷ []))

    longer : (a : ℕ) → Begins (h ++ (a ∷ [])) x → Begins h x
    longer a (t, e) = (a ∷ t, e ∙ append_assoc h (a ∷ []) t)

    at : In x (ts PASS) ⊎ In x (ts BET ++ []) → (In x (ts PASS) → Begins (h ++ (PASS ∷ [])) x) → (In x (ts BET) → Begins (h ++ (BET ∷ [])) x) → Begins h x
    at (inl v) f g = longer PASS (f v)
    at (inr v) f g = longer BET (g (rw (append-nil (ts BET)) at v))

-- no history twice: the longer ones differ from h in length, and from one another in the action after h
pub turns_once : (n r : ℕ) (b : Bool) (h : List ℕ) → Once (turns n r b h)
unfolding turns Once In Begins
turns_once n zero b h = tt
turns_once n (suc r) true h = tt
turns_once n (suc r) false h = (
  (λ w. shorter (in_append h (ts PASS) (ts BET ++ []) w)),
  once_append (ts PASS) (ts BET ++ []) (turns_once n r (ended n (h ++ (PASS ∷ []))) (h ++ (PASS ∷ [])))
      (rw (append-nil (ts BET)) (turns_once n r (ended n (h ++ (BET ∷ []))) (h ++ (BET ∷ [])))) apart,
)
  where
    ts : ℕ → List (List ℕ)
    ts a = turns n r (ended n (h ++ (a ∷ []))) (h ++ (a ∷ []))

    begins : (a : ℕ) (x : List ℕ) → In x (ts a) → Begins (h ++ (a ∷ [])) x
    begins a x w = turns_begin n r (ended n (h ++ (a ∷ []))) (h ++ (a ∷ [])) x w

    not_h : (a : ℕ) → In h (ts a) → ⊥
    not_h a w = let (t, e) = begins a h w in omega (arith, ap length e, length-append (h ++ (a ∷ [])) t, length-append h (a ∷ []))

    shorter : In h (ts PASS) ⊎ In h (ts BET ++ []) → ⊥
    shorter (inl w) = not_h PASS w
    shorter (inr w) = not_h BET (rw (append-nil (ts BET)) at w)

    after : (a : ℕ) (x : List ℕ) → Begins (h ++ (a ∷ [])) x → get_or x (length h) 0 ≡ a
    after a x (t, e) = ap (λ y. get_or y (length h) 0) (e ∙ append_assoc h (a ∷ []) t) ∙ get_or-append_seam h a t 0

    apart : (x : List ℕ) → In x (ts PASS) → In x (ts BET ++ []) → ⊥
    apart x v w = let q : ◌≡◌ {A = ℕ} 0 1 = sym (after PASS x (begins PASS x v)) ∙ after BET x (begins BET x (rw (append-nil (ts BET)) at w)) in omega arith

-- ---- the decision at a history
module _ (ante bet n : ℕ) where
  hand-has : (cs : List ℕ) (r : ℕ) (b : Bool) (h x : List ℕ) → In x (turns n r b h) → In (decision_at n cs x) (decisions (hand ante bet n cs r b h))
  unfolding hand turns decisions In fan
  hand-has cs zero b h x w = absurd w
  hand-has cs (suc r) true h x w = absurd w
  hand-has cs (suc r) false h x (inl e) = inl (ap (decision_at n cs) e)
  hand-has cs (suc r) false h x (inr w) = inr (at (in_append x (ts PASS) (ts BET ++ []) w) (λ v. hand-has cs r (ended n (h ++ (PASS ∷ []))) (h ++ (PASS ∷ [])) x v) (λ v. hand-has cs r (ended n (h ++ (BET ∷ []))) (h ++ (BET ∷ [])) x v))
    where
      ts : ℕ → List (List ℕ)
      ts a = turns n r (ended n (h ++ (a ∷ []))) (h ++ (a ∷ []))

      ds : ℕ → List Decision
      ds a = decisions (hand ante bet n cs r (ended n (h ++ (a ∷ []))) (h ++ (a ∷ [])))

      at : In x (ts PASS) ⊎ In x (ts BET ++ []) → (In x (ts PASS) → In (decision_at n cs x) (ds PASS)) → (In x (ts BET) → In (decision_at n cs x) (ds BET)) → In (decision_at n cs x) (ds PASS ++ (ds BET ++ []))
      at (inl v) f g = in_left (decision_at n cs x) (ds PASS) (ds BET ++ []) (f v)
      at (inr v) f g = in_right (decision_at n cs x) (ds PASS) (ds BET ++ []) (in_left (decision_at n cs x) (ds BET) [] (g (rw (append-nil (ts BET)) at v)))

  abbrev pub Found : List ℕ → Decision → List (List ℕ) → Type 0
  Found cs d hs = (x : List ℕ) × In x hs × (decision_at n cs x ≡ d)

  pub has-hand : (cs : List ℕ) (r : ℕ) (b : Bool) (h : List ℕ) (d : Decision) → In d (decisions (hand ante bet n cs r b h)) → Found cs d (turns n r b h)
  unfolding hand turns decisions In fan
  has-hand cs zero b h d w = absurd w
  has-hand cs (suc r) true h d w = absurd w
  has-hand cs (suc r) false h d (inl e) = (h, inl refl, e)
  has-hand cs (suc r) false h d (inr w) = at (in_append d (ds PASS) (ds BET ++ []) w) (λ v. has-hand cs r (ended n (h ++ (PASS ∷ []))) (h ++ (PASS ∷ [])) d v) (λ v. has-hand cs r (ended n (h ++ (BET ∷ []))) (h ++ (BET ∷ [])) d v)
    where
      ts : ℕ → List (List ℕ)
      ts a = turns n r (ended n (h ++ (a ∷ []))) (h ++ (a ∷ []))

      ds : ℕ → List Decision
      ds a = decisions (hand ante bet n cs r (ended n (h ++ (a ∷ []))) (h ++ (a ∷ [])))

      at : In d (ds PASS) ⊎ In d (ds BET ++ []) → (In d (ds PASS) → Found cs d (ts PASS)) → (In d (ds BET) → Found cs d (ts BET)) → Found cs d (h ∷ (ts PASS ++ (ts BET ++ [])))
      at (inl v) f g = let (x, y, z) = f v in (x, inr (in_left x (ts PASS) (ts BET ++ []) y), z)
      at (inr v) f g = let (x, y, z) = g (rw (append-nil (ds BET)) at v) in (x, inr (in_right x (ts PASS) (ts BET ++ []) (in_left x (ts BET) [] y)), z)

-- ---- the decisions below a chance node
pub each_has : (d : Decision) (l : List ℕ) (g : ℕ → Tree) (c : ℕ) → In c l → In d (decisions (g c)) → In d (decisions_all (each l g))
unfolding each decisions In
each_has d [] g c w v = absurd w
each_has d (x ∷ l) g c (inl e) v = in_left d (decisions (g x)) (decisions_all (each l g)) (rw e v)
each_has d (x ∷ l) g c (inr w) v = in_right d (decisions (g x)) (decisions_all (each l g)) (each_has d l g c w v)

pub has_each : (d : Decision) (l : List ℕ) (g : ℕ → Tree) → In d (decisions_all (each l g)) → (c : ℕ) × In c l × In d (decisions (g c))
unfolding each decisions In
has_each d [] g w = absurd w
has_each d (x ∷ l) g w = at (in_append d (decisions (g x)) (decisions_all (each l g)) w) (λ v. has_each d l g v)
  where
    at : In d (decisions (g x)) ⊎ In d (decisions_all (each l g)) → (In d (decisions_all (each l g)) → (c : ℕ) × In c l × In d (decisions (g c))) → (c : ℕ) × In c (x ∷ l) × In d (decisions (g c))
    at (inl v) f = (x, inl refl, v)
    at (inr v) f = let (c, y, z) = f v in (c, inr y, z)

-- ---- every history with every card
unfoldable with_cards : ℕ → List ℕ → List ℕ → List Decision
with_cards n h [] = []
with_cards n h (c ∷ l) = (turn n h, turn n h ∷ c ∷ h, 2) ∷ with_cards n h l

unfoldable pub grid : ℕ → List ℕ → List (List ℕ) → List Decision
unfolding with_cards
grid n l [] = []
grid n l (h ∷ hs) = with_cards n h l ++ grid n l hs

module _ (n : ℕ) where
  cards-has : (h : List ℕ) (c : ℕ) (l : List ℕ) → In c l → In (turn n h, turn n h ∷ c ∷ h, 2) (with_cards n h l)
  unfolding with_cards In
  cards-has h c [] w = absurd w
  cards-has h c (d ∷ l) (inl e) = inl (ap (at h) e)
    where
      at : List ℕ → ℕ → Decision
      at h x = (turn n h, turn n h ∷ x ∷ h, 2)
  cards-has h c (d ∷ l) (inr w) = inr (cards-has h c l w)

  grid-has : (l : List ℕ) (c : ℕ) (h : List ℕ) (hs : List (List ℕ)) → In c l → In h hs → In (turn n h, turn n h ∷ c ∷ h, 2) (grid n l hs)
  unfolding grid In
  grid-has l c h [] w v = absurd v
  grid-has l c h (x ∷ hs) w (inl e) = in_left (turn n h, turn n h ∷ c ∷ h, 2) (with_cards n x l) (grid n l hs) (rw e (cards-has h c l w))
  grid-has l c h (x ∷ hs) w (inr v) = in_right (turn n h, turn n h ∷ c ∷ h, 2) (with_cards n x l) (grid n l hs) (grid-has l c h hs w v)

  abbrev Card : List ℕ → List ℕ → Decision → Type 0
  Card l h d = (c : ℕ) × In c l × ((turn n h, turn n h ∷ c ∷ h, 2) ≡ d)

  abbrev Cell : List ℕ → List (List ℕ) → Decision → Type 0
  Cell l hs d = (h : List ℕ) × In h hs × Card l h d

  has-cards : (h : List ℕ) (d : Decision) (l : List ℕ) → In d (with_cards n h l) → Card l h d
  unfolding with_cards In
  has-cards h d [] w = absurd w
  has-cards h d (c ∷ l) (inl e) = (c, inl refl, e)
  has-cards h d (c ∷ l) (inr w) = let (x, y, z) = has-cards h d l w in (x, inr y, z)

  has-grid : (l : List ℕ) (hs : List (List ℕ)) (d : Decision) → In d (grid n l hs) → Cell l hs d
  unfolding grid In
  has-grid l [] d w = absurd w
  has-grid l (h ∷ hs) d w = at (in_append d (with_cards n h l) (grid n l hs) w) (λ v. has-grid l hs d v)
    where
      at : In d (with_cards n h l) ⊎ In d (grid n l hs) → (In d (grid n l hs) → Cell l hs d) → Cell l (h ∷ hs) d
      at (inl v) f = (h, inl refl, has-cards h d l v)
      at (inr v) f = let (x, y, z) = f v in (x, inr y, z)

  same_card : (h : List ℕ) (a b : ℕ) → ◌≡◌ {A = Decision} (turn n h, turn n h ∷ a ∷ h, 2) (turn n h, turn n h ∷ b ∷ h, 2) → a ≡ b
  same_card h a b e = ap (λ d. get_or d.1 1 0) e

  pub same_history : (g h : List ℕ) (a b : ℕ) → ◌≡◌ {A = Decision} (turn n g, turn n g ∷ a ∷ g, 2) (turn n h, turn n h ∷ b ∷ h, 2) → g ≡ h
  same_history g h a b e = ap (λ d. lib.ListN.drop 2 d.1) e

  cards_once : (h : List ℕ) (l : List ℕ) → Once l → Once (with_cards n h l)
  unfolding with_cards Once
  cards_once h [] o = tt
  cards_once h (c ∷ l) o = ((λ w. let (x, y, z) = has-cards h (turn n h, turn n h ∷ c ∷ h, 2) l w in o.0 (rw (same_card h x c z) at y)), cards_once h l o.1)

  grid_once : (l : List ℕ) (hs : List (List ℕ)) → Once l → Once hs → Once (grid n l hs)
  unfolding grid Once
  grid_once l [] o p = tt
  grid_once l (h ∷ hs) o p = once_append (with_cards n h l) (grid n l hs) (cards_once h l o) (grid_once l hs o p.1)
      (λ d w v. let (c, x, y) = has-cards h d l w in let (g, q, k) = has-grid l hs d v in p.0 (rw (same_history g h k.0 c (k.2 ∙ sym y)) at q))

  cards-length : (h l : List ℕ) → length (with_cards n h l) ≡ length l
  unfolding with_cards
  cards-length h [] = refl
  cards-length h (c ∷ l) = ap suc (cards-length h l)

  grid-length : (l : List ℕ) (hs : List (List ℕ)) → length (grid n l hs) ≡ length hs * length l
  unfolding grid
  grid-length l [] = sym (NatL.zero-mul (length l))
  grid-length l (h ∷ hs) = length-append (with_cards n h l) (grid n l hs) ∙ ap₂ ◌+◌ (cards-length h l) (grid-length l hs) ∙ NatL.add_comm (length l) (length hs * length l) ∙ sym (NatL.suc-mul (length hs) (length l))

  -- ---- cards that were dealt
  abbrev Dealt : List ℕ → Type 0
  Dealt cs = (j : ℕ) → In (get_or cs j 0) (remaining n [])

  dealt_more : (c : ℕ) (cs : List ℕ) → Dealt cs → In c (remaining n []) → Dealt (cs ++ (c ∷ []))
  dealt_more c [] d w zero = w
  dealt_more c [] d w (suc j) = d 0
  dealt_more c (x ∷ cs) d w zero = d 0
  dealt_more c (x ∷ cs) d w (suc j) = dealt_more c cs (λ i. d (suc i)) w j

  card_in_deck : (cs : List ℕ) (c : ℕ) → In c (remaining n cs) → In c (remaining n [])
  unfolding left has
  card_in_deck cs c w = in_of_left n [] c (both (and_left (leb c n) (not (has c cs)) (left_of_in n cs c w)) refl)

  -- c is seat j's card, or may become it
  abbrev pub May : List ℕ → ℕ → ℕ → Type 0
  May cs j c = ((j < length cs) × (get_or cs j 0 ≡ c)) ⊎ ((length cs ≤ j) × In c (remaining n cs))

  head_in : (xs : List ℕ) → 1 ≤ length xs → (x : ℕ) × In x xs
  unfolding In
  head_in [] l = absurd (omega arith)
  head_in (x ∷ xs) l = (x, inl refl)

  -- of two cards or more, one is not c
  another : (cs : List ℕ) (c : ℕ) → 2 ≤ length (remaining n cs) → In c (remaining n cs) → (x : ℕ) × In x (remaining n cs) × In c (remaining n (cs ++ (x ∷ [])))
  another cs c l w = at (head_in (remaining n (cs ++ (c ∷ []))) (omega (arith, remaining_less n cs c w)))
    where
      at : (x : ℕ) × In x (remaining n (cs ++ (c ∷ []))) → (x : ℕ) × In x (remaining n cs) × In c (remaining n (cs ++ (x ∷ [])))
      at (x, v) = (x, in_of_left n cs x (sym (left_other n cs c x other) ∙ left_of_in n (cs ++ (c ∷ [])) x v), in_of_left n (cs ++ (x ∷ [])) c (left_other n cs x c (λ e. other (sym e)) ∙ left_of_in n cs c w))
        where
          other : x ≡ c → ⊥
          other e = true≢false (left n (cs ++ (c ∷ [])) c) (ap (left n (cs ++ (c ∷ []))) (sym e) ∙ left_of_in n (cs ++ (c ∷ [])) x v) (left_itself n cs c)

  -- a next card that keeps it so
  next_card : (cs : List ℕ) (j c : ℕ) → 2 ≤ length (remaining n cs) → May cs j c → (x : ℕ) × In x (remaining n cs) × May (cs ++ (x ∷ [])) j c
  next_card cs j c l (inl (v, e)) = let (x, w) = head_in (remaining n cs) (omega arith) in
      (x, w, inl (omega (arith, length-append cs (x ∷ [])), get_or-append cs (x ∷ []) 0 j v ∙ e))
  next_card cs j c l (inr (v, w)) = at (tested (eqb (length cs) j))
    where
      at : Tested (eqb (length cs) j) → (x : ℕ) × In x (remaining n cs) × May (cs ++ (x ∷ [])) j c
      at (holds q) = let e : length cs ≡ j = eqb-true (length cs) j q in
          (c, w, inl (omega (arith, length-append cs (c ∷ [])), ap (λ i. get_or (cs ++ (c ∷ [])) i 0) (sym e) ∙ get_or-append_seam cs c [] 0))
      at (fails q) = let e : length cs ≡ j → ⊥ = eqb-false (length cs) j q in let (x, y, z) = another cs c l w in
          (x, y, inr (omega (arith, length-append cs (x ∷ [])), z))

-- ---- the sets are the grid's cells
module _ (ante bet n : ℕ) where
  abbrev cells : List Decision
  cells = grid n (remaining n []) (histories n)

  deals-grid : (k : ℕ) (cs : List ℕ) (d : Decision) → Dealt n cs → In d (decisions (deals ante bet n k cs)) → In d cells
  unfolding deals decisions histories
  deals-grid zero cs d e w = let (x, y, z) = has-hand ante bet n cs (m n) (ended n []) [] d w in
      rw (← z) (grid-has n (remaining n []) (get_or cs (turn n x) 0) x (histories n) (e (turn n x)) y)
  deals-grid (suc k) cs d e w = let (c, y, z) = has_each d (remaining n cs) (λ c. deals ante bet n k (cs ++ (c ∷ []))) w in
      deals-grid k (cs ++ (c ∷ [])) d (dealt_more n c cs e (card_in_deck n cs c y)) z

  pub grid-deals : (k : ℕ) (cs : List ℕ) (c : ℕ) (h : List ℕ) → length (remaining n cs) ≡ suc k → length cs + k ≡ n → turn n h < n → In h (histories n) → May n cs (turn n h) c
      → In (turn n h, turn n h ∷ c ∷ h, 2) (decisions (deals ante bet n k cs))
  unfolding deals decisions histories
  grid-deals zero cs c h e f s w (inl (v, q)) = rw (← q) (hand-has ante bet n cs (m n) (ended n []) [] h w)
  grid-deals zero cs c h e f s w (inr (v, q)) = absurd (omega arith)
  grid-deals (suc k) cs c h e f s w y = let (x, v, z) = next_card n cs (turn n h) c (omega arith) y in
      each_has (turn n h, turn n h ∷ c ∷ h, 2) (remaining n cs) (λ c. deals ante bet n k (cs ++ (c ∷ []))) x v
      (grid-deals k (cs ++ (x ∷ [])) c h (omega (arith, remaining_less n cs x v)) (omega (arith, length-append cs (x ∷ []))) s w z)

  pub kuhn_same_actions : SameActions (tree_of_kuhn ante bet n)
  kuhn_same_actions = ((λ j k. 2), kuhn-every ante bet n (λ j k a. a ≡ 2) (λ j c h. refl))

  all_dealt : Dealt n []
  unfolding left has
  all_dealt j = in_of_left n [] 0 (both (le-leb 0 n zero-le) refl)

  pub kuhn-set-count : 0 < n → set_count (tree_of_kuhn ante bet n) ≡ length (histories n) * suc n
  unfolding remaining histories
  kuhn-set-count p = once_length (sets (tree_of_kuhn ante bet n)) cells (sets_once (tree_of_kuhn ante bet n))
      (grid_once n (remaining n []) (histories n) deck_once (turns_once n (m n) (ended n []) [])) there back
      ∙ grid-length n (remaining n []) (histories n) ∙ ap (λ l. length (histories n) * l) (remaining_all n)
    where
      deck_once : Once (remaining n [])
      deck_once = those_once (left n []) (n + 1)

      there : (d : Decision) → In d (sets (tree_of_kuhn ante bet n)) → In d cells
      there d w = deals-grid n [] d all_dealt (rw (ap decisions (kuhn-deals ante bet n)) at (sets_in (tree_of_kuhn ante bet n) d w))

      cell : (d : Decision) → Cell n (remaining n []) (histories n) d → In d (decisions (deals ante bet n n []))
      cell d (h, w, (c, v, e)) = rw (← e) (grid-deals n [] c h (remaining_all n) (NatL.zero-add n) (NatL.mod-lt (length h) p) w (inr (zero-le, v)))

      back : (d : Decision) → In d cells → In d (sets (tree_of_kuhn ante bet n))
      back d w = in_sets (tree_of_kuhn ante bet n) kuhn_same_actions d (rw (ap decisions (kuhn-deals ante bet n)) (cell d (has-grid n (remaining n []) (histories n) d w)))

  -- two entries a set
  two_each : (xs : List Decision) → Each (λ j k a. a ≡ 2) xs → entries_of xs ≡ length xs * 2
  unfolding entries_of Each
  two_each [] h = refl
  two_each (x ∷ xs) h = ap₂ ◌+◌ h.0 (two_each xs h.1) ∙ NatL.add_comm 2 (length xs * 2) ∙ sym (NatL.suc-mul (length xs) 2)

  pub kuhn-entries : entries (tree_of_kuhn ante bet n) ≡ set_count (tree_of_kuhn ante bet n) * 2
  unfolding kuhn_same_actions
  kuhn-entries = two_each (sets (tree_of_kuhn ante bet n)) (every→sets (λ j k a. a ≡ 2) (tree_of_kuhn ante bet n) kuhn_same_actions.1)

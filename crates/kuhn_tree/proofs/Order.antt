-- The sets of Kuhn's tree in order: a node is first of its set if every other seat was dealt the lowest card left, but for the acting seat's own. Assumes nothing.
use mathlib.Core.Path.{◌≡◌, refl, sym, ap, ap₂, ◌∙◌}
use mathlib.Core.Logic.{inl, inr}
use mathlib.Core.Bool.{Bool, true, false, not, cond}
use mathlib.Core.List.{List, [], ◌∷◌, ◌++◌, append-nil, append_assoc, map, map-append}
use Prim.Native.Nat.{ℕ, zero, suc, ◌+◌, ◌≤◌, ◌<◌}
use native.Mathlib.Nat as NatL
use native.Mathlib.Numerals.{add-one}
use native.Mathlib.Omega.{arith}
use lib.Dec.{eqb, ltb}
use lib.ListN.{length, get_or, take, length-append, get_or-append}
use lib.Seq.{get_or-append_seam, take-append-le, take-append_seam}
use borrow.Author.Tests.{eqb-false, eq-eqb, ne_eqb, ltb-true, ltb-false, not-true}
use Rattle.prelude.specs.Finite.{◌and◌, ◌or◌, some, every, those, has}
use Rattle.prelude.proofs.Tests.{Tested, holds, fails, tested, true≢false, iff, both, and_left, and_right, or_left, or_right, some_here, some_at}
use Rattle.prelude.proofs.Lists.{those_kept, those_passed}
use Rattle.game_tree.specs.Tree.{Tree, fan}
use Rattle.game_tree.specs.Sets.{Decision, decisions, decisions_all, is_of, met, firsts, sets}
use Rattle.game_tree.proofs.Sets.{is_of_key, is_of_seat, met_past}
use Rattle.game_tree.proofs.Walk.{passed, firsts_append, met_passed, met_in}
use Rattle.game_tree.proofs.Counting.{In, Once, in_met}
use Rattle.game_tree.proofs.Numbers.{in_those, those_in}
use Rattle.kuhn_rules.specs.Rules.{PASS, BET, ended, turn, key, left, remaining}
use Rattle.kuhn_tree.specs.Tree.{each, m}
use Rattle.kuhn_tree.specs.Order.{turns, histories, decision_at, lowest_but, lowest, first, first_of, joined, in_order}
use Rattle.kuhn_tree.specs.Facts.{SetsInOrder}
use Rattle.kuhn_tree.proofs.Cards.{left_of_in, in_of_left, left_other, left_itself, remaining_less, remaining_all}
use Rattle.kuhn_tree.proofs.Shape.{hand, deals, kuhn-deals}
use Rattle.kuhn_tree.proofs.Sets.{turns_once, has-hand, each_has, has_each, May, grid-deals}

module _ (ante bet n : ℕ) where
  hand-decisions : (cs : List ℕ) (r : ℕ) (b : Bool) (h : List ℕ) → decisions (hand ante bet n cs r b h) ≡ map (decision_at n cs) (turns n r b h)
  unfolding hand turns decisions fan
  hand-decisions cs zero b h = refl
  hand-decisions cs (suc r) true h = refl
  hand-decisions cs (suc r) false h = ap (λ l. decision_at n cs h ∷ l)
      (ap₂ (λ x y. x ++ (y ++ [])) (hand-decisions cs r (ended n (h ++ (PASS ∷ []))) (h ++ (PASS ∷ []))) (hand-decisions cs r (ended n (h ++ (BET ∷ []))) (h ++ (BET ∷ [])))
      ∙ ap (λ l. map (decision_at n cs) (ts PASS) ++ l) (sym (map-append (decision_at n cs) (ts BET) [])) ∙ sym (map-append (decision_at n cs) (ts PASS) (ts BET ++ [])))
    where
      ts : ℕ → List (List ℕ)
      ts a = turns n r (ended n (h ++ (a ∷ []))) (h ++ (a ∷ []))

-- another history is another set
pub other-history : (n : ℕ) (cs g h : List ℕ) → (g ≡ h → ⊥) → is_of (turn n h) (key cs h (turn n h)) (decision_at n cs g) ≡ false
other-history n cs g h d = at (tested (is_of (turn n h) (key cs h (turn n h)) (decision_at n cs g)))
  where
    at : Tested (is_of (turn n h) (key cs h (turn n h)) (decision_at n cs g)) → is_of (turn n h) (key cs h (turn n h)) (decision_at n cs g) ≡ false
    at (holds e) = absurd (d (ap (lib.ListN.drop 2) (is_of_key (turn n h) (key cs h (turn n h)) (decision_at n cs g) e)))
    at (fails e) = e

firsts_of_hand : (n : ℕ) (cs : List ℕ) (front : List Decision) (hs : List (List ℕ)) → Once hs
    → ((h : List ℕ) → In h hs → met (turn n h) (key cs h (turn n h)) front ≡ not (first n cs (turn n h))) → firsts front (map (decision_at n cs) hs) ≡ first_of n cs hs
unfolding firsts first_of Once In
firsts_of_hand n cs front [] o f = refl
firsts_of_hand n cs front (h ∷ hs) o f = rw (f h (inl refl)) (at (first n cs (turn n h)) (firsts_of_hand n cs (decision_at n cs h ∷ front) hs o.1 later))
  where
    later : (g : List ℕ) → In g hs → met (turn n g) (key cs g (turn n g)) (decision_at n cs h ∷ front) ≡ not (first n cs (turn n g))
    later g w = met_past (turn n g) (key cs g (turn n g)) (decision_at n cs h) front (other-history n cs h g (λ e. o.0 (rw (← e) at w))) ∙ f g (inr w)

    at : (b : Bool) → firsts (decision_at n cs h ∷ front) (map (decision_at n cs) hs) ≡ first_of n cs hs
        → cond (not b) (firsts (decision_at n cs h ∷ front) (map (decision_at n cs) hs)) (decision_at n cs h ∷ firsts (decision_at n cs h ∷ front) (map (decision_at n cs) hs))
        ≡ cond b (decision_at n cs h ∷ first_of n cs hs) (first_of n cs hs)
    at true e = ap (λ l. decision_at n cs h ∷ l) e
    at false e = e

-- ---- one card more
every_same : (n : ℕ) (p q : ℕ → Bool) → ((i : ℕ) → i < n → p i ≡ q i) → every n p ≡ every n q
unfolding every
every_same zero p q f = refl
every_same (suc n) p q f = ap₂ ◌and◌ (every_same n p q (λ i l. f i (omega arith))) (f n (omega arith))

has_at : (cs : List ℕ) (j : ℕ) → j < length cs → has (get_or cs j 0) cs ≡ true
unfolding has
has_at [] j l = absurd (omega arith)
has_at (x ∷ cs) zero l = or_left (has x cs) (eq-eqb x x refl)
has_at (x ∷ cs) (suc j) l = or_right (eqb x (get_or cs j 0)) (has_at cs j (omega arith))

module _ (n : ℕ) (cs : List ℕ) (c : ℕ) where
  -- a card below c was left, other than x
  lower : ℕ → Bool
  lower x = some c (λ y. left n cs y and not (eqb y x))

  lowest_more : (j x : ℕ) → lowest n (cs ++ (c ∷ [])) j x ≡ (lowest n cs j x and (eqb (length cs) j or not (lower x)))
  unfolding lowest lowest_but every lower
  lowest_more j x = ap (λ l. every l after) (length-append cs (c ∷ []) ∙ add-one (length cs))
      ∙ ap₂ ◌and◌ (every_same (length cs) after before' (λ q l. ap (◌or◌ (eqb q j)) (same q l))) (ap (◌or◌ (eqb (length cs) j)) last)
    where
      after : ℕ → Bool
      after q = eqb q j or lowest_but n (cs ++ (c ∷ [])) x q

      before' : ℕ → Bool
      before' q = eqb q j or lowest_but n cs x q

      low : ℕ → List ℕ → Bool
      low y ds = not (some y (λ y. left n ds y and not (eqb y x)))

      same : (q : ℕ) → q < length cs → low (get_or (cs ++ (c ∷ [])) q 0) (take q (cs ++ (c ∷ []))) ≡ low (get_or cs q 0) (take q cs)
      same q l = ap₂ low (get_or-append cs (c ∷ []) 0 q l) (take-append-le q cs (c ∷ []) (omega arith))

      last : low (get_or (cs ++ (c ∷ [])) (length cs) 0) (take (length cs) (cs ++ (c ∷ []))) ≡ low c cs
      last = ap₂ low (get_or-append_seam cs c [] 0) (take-append_seam cs (c ∷ []))

  -- a card that is left once c is dealt is not c, and was left before
  still_left : (x : ℕ) → In x (remaining n (cs ++ (c ∷ []))) → (x ≡ c → ⊥) × In x (remaining n cs)
  still_left x w = (other, in_of_left n cs x (sym (left_other n cs c x other) ∙ left_of_in n (cs ++ (c ∷ [])) x w))
    where
      other : x ≡ c → ⊥
      other e = true≢false (left n (cs ++ (c ∷ [])) c) (ap (left n (cs ++ (c ∷ []))) (sym e) ∙ left_of_in n (cs ++ (c ∷ [])) x w) (left_itself n cs c)

  -- where seat j's card is x, or may become it, it was so before
  may_back : (j x : ℕ) → In c (remaining n cs) → May n (cs ++ (c ∷ [])) j x → May n cs j x
  may_back j x w (inl (l, e)) = at (tested (ltb j (length cs)))
    where
      at : Tested (ltb j (length cs)) → May n cs j x
      at (holds q) = let v : j < length cs = ltb-true j (length cs) q in inl (v, sym (get_or-append cs (c ∷ []) 0 j v) ∙ e)
      at (fails q) = let v : length cs ≤ j = ltb-false j (length cs) q in let z : j ≡ length cs = omega (arith, length-append cs (c ∷ [])) in
          inr (v, rw (← (sym (ap (λ i. get_or (cs ++ (c ∷ [])) i 0) z ∙ get_or-append_seam cs c [] 0) ∙ e)) w)
  may_back j x w (inr (l, v)) = inr (omega (arith, length-append cs (c ∷ [])), (still_left x v).1)

  -- the card just dealt to seat j is x
  may_here : (j x : ℕ) → length cs ≡ j → May n (cs ++ (c ∷ [])) j x → c ≡ x
  may_here j x q (inl (l, e)) = sym (ap (λ i. get_or (cs ++ (c ∷ [])) i 0) (sym q) ∙ get_or-append_seam cs c [] 0) ∙ e
  may_here j x q (inr (l, v)) = absurd (omega (arith, length-append cs (c ∷ [])))

  -- a card dealt to another seat is not x
  may_not : (j x : ℕ) → (length cs ≡ j → ⊥) → In c (remaining n cs) → May n (cs ++ (c ∷ [])) j x → c ≡ x → ⊥
  unfolding left
  may_not j x d w (inl (l, e)) z = let v : j < length cs = omega (arith, length-append cs (c ∷ [])) in
      true≢false (has c cs) (ap (λ y. has y cs) (z ∙ sym e ∙ get_or-append cs (c ∷ []) 0 j v) ∙ has_at cs j v)
      (not-true (has c cs) (and_right (lib.Dec.leb c n) (not (has c cs)) (left_of_in n cs c w)))
  may_not j x d w (inr (l, v)) z = (still_left x v).0 (sym z)

-- another card than c, and not x, leaves it so
may-other : (n : ℕ) (cs : List ℕ) (c y j x : ℕ) → (length cs ≡ j → ⊥) → (y ≡ x → ⊥) → May n (cs ++ (c ∷ [])) j x → May n (cs ++ (y ∷ [])) j x
may-other n cs c y j x d f (inl (l, e)) = let v : j < length cs = omega (arith, length-append cs (c ∷ [])) in
    inl (omega (arith, length-append cs (y ∷ [])), get_or-append cs (y ∷ []) 0 j v ∙ sym (get_or-append cs (c ∷ []) 0 j v) ∙ e)
may-other n cs c y j x d f (inr (l, v)) = inr (
  omega (arith, length-append cs (c ∷ []), length-append cs (y ∷ [])),
  in_of_left n (cs ++ (y ∷ [])) x (left_other n cs y x (λ e. f (sym e)) ∙ left_of_in n cs x (still_left n cs c x v).1),
)

turned : (a b d : Bool) → cond (not a and b) true (not d) ≡ not (d and (a or not b))
unfolding ◌and◌ ◌or◌
turned true b true = refl
turned true b false = refl
turned false true true = refl
turned false true false = refl
turned false false true = refl
turned false false false = refl

-- ---- a last card
each_last : (l : List ℕ) (c : ℕ) (g : ℕ → Tree) → decisions_all (each (l ++ (c ∷ [])) g) ≡ decisions_all (each l g) ++ decisions (g c)
unfolding each decisions
each_last [] c g = append-nil (decisions (g c))
each_last (x ∷ l) c g = ap (λ r. decisions (g x) ++ r) (each_last l c g) ∙ sym (append_assoc (decisions (g x)) (decisions_all (each l g)) (decisions (g c)))

joined_last : (l : List ℕ) (c : ℕ) (g : ℕ → List Decision) → joined (l ++ (c ∷ [])) g ≡ joined l g ++ g c
unfolding joined
joined_last [] c g = append-nil (g c)
joined_last (x ∷ l) c g = ap (λ r. g x ++ r) (joined_last l c g) ∙ sym (append_assoc (g x) (joined l g) (g c))

module _ (ante bet n : ℕ) (one : 1 ≤ n) where
  -- a decision below the cards cs has a card that they allow
  deals-may : (k : ℕ) (cs : List ℕ) (d : Decision) → length cs + k ≡ n → In d (decisions (deals ante bet n k cs)) → May n cs d.0 (get_or d.1 1 0)
  unfolding deals decisions
  deals-may zero cs d l w = let (h, v, e) = has-hand ante bet n cs (m n) (ended n []) [] d w in
      rw (← e) (inl (let q : turn n h < n = NatL.mod-lt (length h) one in omega arith, refl))
  deals-may (suc k) cs d l w = let (c, v, e) = has_each d (remaining n cs) (λ c. deals ante bet n k (cs ++ (c ∷ []))) w in
      may_back n cs c d.0 (get_or d.1 1 0) v (deals-may k (cs ++ (c ∷ [])) d (omega (arith, length-append cs (c ∷ []))) e)

  -- the decisions in front meet just those sets for which an earlier deal has the card
  abbrev pub Meets : List Decision → List ℕ → Type 0
  Meets front cs = (h : List ℕ) (x : ℕ) → In h (histories n) → May n cs (turn n h) x → met (turn n h) (turn n h ∷ x ∷ h) front ≡ not (lowest n cs (turn n h) x)

  module _ (k : ℕ) (cs : List ℕ) (cards : length cs + suc k ≡ n) (deck : length (remaining n cs) ≡ suc (suc k)) where
    -- what the cards below b lead to
    unfoldable pub under : ℕ → List Decision
    under b = decisions_all (each (those b (left n cs)) (λ c. deals ante bet n k (cs ++ (c ∷ []))))

    module _ (c : ℕ) (in_deck : In c (remaining n cs)) (h : List ℕ) (x : ℕ) (w : In h (histories n)) (may : May n (cs ++ (c ∷ [])) (turn n h) x) where
      abbrev j : ℕ
      j = turn n h

      abbrev earlier : Bool
      earlier = not (eqb (length cs) j) and lower n cs c x

      in_remaining : (y : ℕ) → In y (those c (left n cs)) → In y (remaining n cs)
      in_remaining y v = in_of_left n cs y (in_those (left n cs) c y v).1

      found : (d : Decision) → In d (under c) → is_of j (j ∷ x ∷ h) d ≡ true → earlier ≡ true
      unfolding lower under
      found d v e = let (y, a, b) = has_each d (those c (left n cs)) (λ c. deals ante bet n k (cs ++ (c ∷ []))) v in at y a (there y b)
        where
          there : (y : ℕ) → In d (decisions (deals ante bet n k (cs ++ (y ∷ [])))) → May n (cs ++ (y ∷ [])) j x
          there y b = mathlib.Core.Path.subst₂ (λ i z. May n (cs ++ (y ∷ [])) i z) (is_of_seat j (j ∷ x ∷ h) d e) (ap (λ z. get_or z 1 0) (is_of_key j (j ∷ x ∷ h) d e))
              (deals-may k (cs ++ (y ∷ [])) d (omega (arith, length-append cs (y ∷ []))) b)

          at : (y : ℕ) → In y (those c (left n cs)) → May n (cs ++ (y ∷ [])) j x → earlier ≡ true
          at y a q = both (ap not (ne_eqb (length cs) j elsewhere)) (some_here c (λ y. left n cs y and not (eqb y x)) y (in_those (left n cs) c y a).0
              (both (in_those (left n cs) c y a).1 (ap not (ne_eqb y x (may_not n cs y j x elsewhere (in_remaining y a) q)))))
            where
              elsewhere : length cs ≡ j → ⊥
              elsewhere z = let u : y < c = (in_those (left n cs) c y a).0 in omega (arith, may_here n cs y j x z q, may_here n cs c j x z may)

      lies : earlier ≡ true → met j (j ∷ x ∷ h) (under c) ≡ true
      unfolding lower under
      lies e = some_at c (λ y. left n cs y and not (eqb y x)) (and_right (not (eqb (length cs) j)) (lower n cs c x) e) at
        where
          elsewhere : length cs ≡ j → ⊥
          elsewhere = eqb-false (length cs) j (not-true (eqb (length cs) j) (and_left (not (eqb (length cs) j)) (lower n cs c x) e))

          at : (y : ℕ) → y < c → (left n cs y and not (eqb y x)) ≡ true → met j (j ∷ x ∷ h) (under c) ≡ true
          at y l q =
              let u : left n cs y ≡ true = and_left (left n cs y) (not (eqb y x)) q in
              let v : y ≡ x → ⊥ = eqb-false y x (not-true (eqb y x) (and_right (left n cs y) (not (eqb y x)) q)) in
              in_met (j, j ∷ x ∷ h, 2) (under c) (each_has (j, j ∷ x ∷ h, 2) (those c (left n cs)) (λ c. deals ante bet n k (cs ++ (c ∷ []))) y (those_in (left n cs) c y l u)
              (grid-deals ante bet n k (cs ++ (y ∷ [])) x h (omega (arith, remaining_less n cs y (in_of_left n cs y u))) (omega (arith, length-append cs (y ∷ [])))
              (NatL.mod-lt (length h) one) w (may-other n cs c y j x elsewhere v may)))

      met-under : met j (j ∷ x ∷ h) (under c) ≡ earlier
      met-under = iff (λ e. let (d, a, b) = met_in j (j ∷ x ∷ h) (under c) e in found d a b) lies

    pub meets_more : (front : List Decision) → Meets front cs → (c : ℕ) → In c (remaining n cs) → Meets (passed (under c) front) (cs ++ (c ∷ []))
    meets_more front g c v h x w q = met_passed (turn n h) (turn n h ∷ x ∷ h) (under c) front
        ∙ ap₂ (λ a b. cond a true b) (met-under c v h x w q) (g h x w (may_back n cs c (turn n h) x v q))
        ∙ turned (eqb (length cs) (turn n h)) (lower n cs c x) (lowest n cs (turn n h) x) ∙ ap not (sym (lowest_more n cs c (turn n h) x))

    -- so the first decisions below each card, in ascending order, are those of the rule
    firsts-under : (front : List Decision) → Meets front cs
        → ((c : ℕ) (now : List Decision) → In c (remaining n cs) → Meets now (cs ++ (c ∷ [])) → firsts now (decisions (deals ante bet n k (cs ++ (c ∷ [])))) ≡ in_order n k (cs ++ (c ∷ [])))
        → (b : ℕ) → b ≤ n + 1 → firsts front (under b) ≡ joined (those b (left n cs)) (λ c. in_order n k (cs ++ (c ∷ [])))
    unfolding firsts joined those each decisions under
    firsts-under front g f zero l = refl
    firsts-under front g f (suc b) l = at (tested (left n cs b)) (firsts-under front g f b (omega arith))
      where
        G : ℕ → Tree
        G c = deals ante bet n k (cs ++ (c ∷ []))

        M : ℕ → List Decision
        M c = in_order n k (cs ++ (c ∷ []))

        at : Tested (left n cs b) → firsts front (decisions_all (each (those b (left n cs)) G)) ≡ joined (those b (left n cs)) M
            → firsts front (decisions_all (each (those (suc b) (left n cs)) G)) ≡ joined (those (suc b) (left n cs)) M
        at (fails e) h = ap (λ l. firsts front (decisions_all (each l G))) (those_passed (left n cs) b e) ∙ h ∙ ap (λ l. joined l M) (sym (those_passed (left n cs) b e))
        at (holds e) h = ap (λ l. firsts front (decisions_all (each l G))) (those_kept (left n cs) b e) ∙ ap (firsts front) (each_last (those b (left n cs)) b G)
            ∙ firsts_append front (decisions_all (each (those b (left n cs)) G)) (decisions (G b))
            ∙ ap₂ ◌++◌ h (f b (passed (under b) front) (in_of_left n cs b e) (meets_more front g b (in_of_left n cs b e)))
            ∙ sym (joined_last (those b (left n cs)) b M) ∙ ap (λ l. joined l M) (sym (those_kept (left n cs) b e))

  firsts-deals : (k : ℕ) (cs : List ℕ) (front : List Decision) → length cs + k ≡ n → length (remaining n cs) ≡ suc k → Meets front cs
      → firsts front (decisions (deals ante bet n k cs)) ≡ in_order n k cs
  unfolding deals decisions in_order histories remaining under
  firsts-deals zero cs front l e g = ap (firsts front) (hand-decisions ante bet n cs (m n) (ended n []) [])
      ∙ firsts_of_hand n cs front (histories n) (turns_once n (m n) (ended n []) [])
      (λ h w. g h (get_or cs (turn n h) 0) w (inl (let q : turn n h < n = NatL.mod-lt (length h) one in omega arith, refl)))
  firsts-deals (suc k) cs front l e g = firsts-under k cs l e front g
      (λ c now w q. firsts-deals k (cs ++ (c ∷ [])) now (omega (arith, length-append cs (c ∷ []))) (omega (arith, remaining_less n cs c w)) q) (n + 1) (NatL.le_refl (n + 1))

pub sets_in_order : SetsInOrder
unfolding sets met lowest every
sets_in_order ante bet n l = ap sets (kuhn-deals ante bet n) ∙ firsts-deals ante bet n l n [] [] (NatL.zero-add n) (remaining_all n) (λ h x w q. refl)

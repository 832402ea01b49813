-- The test of a position holds of those that legal moves reach, and of no other. Assumes nothing.
use mathlib.Core.Path.{◌≡◌, refl, sym, ap, ap₂, subst, ◌∙◌}
use mathlib.Core.Bool.{Bool, true, not}
use mathlib.Core.List.{List, [], ◌∷◌, ◌++◌}
use Prim.Native.Nat.{ℕ, zero, suc, ◌+◌, ◌≤◌, ◌<◌}
use native.Mathlib.Omega.{arith}
use lib.Dec.{eqb, leb, ltb, leb-zero}
use borrow.Author.Tests.{lt-ltb, le-ltb, le-leb, eq-eqb, ltb-true, ltb-false, leb-true, eqb-true, not-true}
use lib.ListN.{length, get_or, take, length-append}
use lib.Seq.{take-append_seam, take_all, take-suc, take-length, length-take-le, get_or_at}
use Rattle.prelude.specs.Finite.{◌and◌, ◌or◌, some, has}
use Rattle.prelude.proofs.Tests.{both, neither, and_left, and_right, or_left, or_right, or_cases, none_at}
use Rattle.kuhn_rules.specs.Rules.{BET, due, left, live, ended, overrun}
use Rattle.kuhn_rules.specs.Moves.{Reached, start, deal, act}
use Rattle.kuhn_rules.specs.Reached.{strange, twice, unknown, fair, played, possible}
use Rattle.kuhn_rules.proofs.Deals.{strange-take, twice-take}
use Rattle.kuhn_rules.proofs.Histories.{unknown-take, overrun-take}

-- ---- one element more

module _ (xs : List ℕ) (x : ℕ) where
  long : length (xs ++ (x ∷ [])) ≡ suc (length xs)
  long = length-append xs (x ∷ []) ∙ (let e : length xs + 1 ≡ suc (length xs) = omega arith in e)

  all_of : take (suc (length xs)) (xs ++ (x ∷ [])) ≡ xs ++ (x ∷ [])
  all_of = take_all (suc (length xs)) (xs ++ (x ∷ [])) (rw long (omega arith))

  front_of : take (length xs) (xs ++ (x ∷ [])) ≡ xs
  front_of = take-append_seam xs (x ∷ [])

  last_of : get_or (xs ++ (x ∷ [])) (length xs) 0 ≡ x
  last_of = get_or_at xs x [] 0 (length xs) refl

  -- a test of a list that is a test of some place, at one element more
  by_place : (P : List ℕ → Bool) (Q : List ℕ → ℕ → Bool) → ((a : ℕ) (l : List ℕ) → a ≤ length l → P (take a l) ≡ some a (Q l)) → P (xs ++ (x ∷ [])) ≡ (P xs or Q (xs ++ (x ∷ [])) (length xs))
  unfolding some
  by_place P Q f =
      sym (ap P all_of) ∙ f (suc (length xs)) (xs ++ (x ∷ [])) (rw long (omega arith))
      ∙ ap (λ b. b or Q (xs ++ (x ∷ [])) (length xs)) (sym (f (length xs) (xs ++ (x ∷ [])) (rw long (omega arith))) ∙ ap P front_of)

  strange_more : (n : ℕ) → strange n (xs ++ (x ∷ [])) ≡ (strange n xs or ltb n x)
  strange_more n = by_place (strange n) (λ l i. ltb n (get_or l i 0)) (strange-take n) ∙ ap (λ c. strange n xs or ltb n c) last_of

  twice_more : twice (xs ++ (x ∷ [])) ≡ (twice xs or has x xs)
  twice_more = by_place twice (λ l i. has (get_or l i 0) (take i l)) twice-take ∙ ap₂ (λ c l. twice xs or has c l) last_of front_of

  unknown_more : unknown (xs ++ (x ∷ [])) ≡ (unknown xs or ltb BET x)
  unknown_more = by_place unknown (λ l i. ltb BET (get_or l i 0)) unknown-take ∙ ap (λ a. unknown xs or ltb BET a) last_of

  overrun_more : (n : ℕ) → overrun n (xs ++ (x ∷ [])) ≡ (overrun n xs or ended n xs)
  overrun_more n = by_place (overrun n) (λ l k. ended n (take k l)) (overrun-take n) ∙ ap (λ l. overrun n xs or ended n l) front_of

-- ---- what moves reach passes the test

module _ (n : ℕ) where
  start-possible : possible n [] [] ≡ true
  unfolding possible fair played strange twice unknown overrun some ◌and◌ ◌or◌
  start-possible = rw (leb-zero n)

  deal-possible : (cs h : List ℕ) (c : ℕ) → possible n cs h ≡ true → due n cs ≡ true → left n cs c ≡ true → possible n (cs ++ (c ∷ [])) h ≡ true
  unfolding possible fair left
  deal-possible cs h c p d l =
      let f = and_left (fair n cs) _ p in
      let g = and_right (leb (length cs) n) _ f in
      let w = ltb-true (length cs) n d in
      both
      (both (le-leb (length (cs ++ (c ∷ []))) n (rw (long cs c) w))
      (both (ap not (strange_more cs c n ∙ neither (not-true _ (and_left (not (strange n cs)) _ g)) (le-ltb n c (leb-true c n (and_left (leb c n) _ l)))))
      (ap not (twice_more cs c ∙ neither (not-true _ (and_right (not (strange n cs)) _ g)) (not-true _ (and_right (leb c n) _ l))))))
      (both (or_left _ (no_action w (and_left (eqb (length h) 0 or eqb (length cs) n) _ (and_right (fair n cs) _ p))))
      (and_right (eqb (length h) 0 or eqb (length cs) n) _ (and_right (fair n cs) _ p)))
    where
      no_action : length cs < n → (eqb (length h) 0 or eqb (length cs) n) ≡ true → eqb (length h) 0 ≡ true
      no_action w e = or_cases (eqb (length h) 0) (eqb (length cs) n) e (λ q. q) (λ q. absurd (let z = eqb-true (length cs) n q in omega arith))

  act-possible : (cs h : List ℕ) (a : ℕ) → possible n cs h ≡ true → live n cs h ≡ true → leb a BET ≡ true → possible n cs (h ++ (a ∷ [])) ≡ true
  unfolding possible played
  act-possible cs h a p l b =
      let q = and_right (eqb (length h) 0 or eqb (length cs) n) _ (and_right (fair n cs) _ p) in
      both (and_left (fair n cs) _ p)
      (both (or_right _ (and_left (eqb (length cs) n) _ l))
      (both (ap not (unknown_more h a ∙ neither (not-true _ (and_left (not (unknown h)) _ q)) (le-ltb BET a (leb-true a BET b))))
      (ap not (overrun_more h a n ∙ neither (not-true _ (and_right (not (unknown h)) _ q)) (not-true _ (and_right (eqb (length cs) n) _ l))))))

  pub reached-possible : {cs h : List ℕ} → Reached n cs h → possible n cs h ≡ true
  reached-possible start = start-possible
  reached-possible (deal {cs = cs} {h = h} c r d l) = deal-possible cs h c (reached-possible r) d l
  reached-possible (act {cs = cs} {h = h} a r l b) = act-possible cs h a (reached-possible r) l b

  -- ---- what passes the test is reached: card by card, then action by action

  module _ (cs : List ℕ) (f : fair n cs ≡ true) where
    fair-length : length cs ≤ n
    unfolding fair
    fair-length = leb-true (length cs) n (and_left (leb (length cs) n) _ f)

    fair_left : (k : ℕ) → k < length cs → left n (take k cs) (get_or cs k 0) ≡ true
    unfolding fair left strange twice
    fair_left k w =
        let g = and_right (leb (length cs) n) _ f in
        both
        (le-leb (get_or cs k 0) n (ltb-false n (get_or cs k 0) (none_at (length cs) (λ i. ltb n (get_or cs i 0)) (not-true _ (and_left (not (strange n cs)) _ g)) k w)))
        (ap not (none_at (length cs) (λ i. has (get_or cs i 0) (take i cs)) (not-true _ (and_right (not (strange n cs)) _ g)) k w))

    cards-reached : (k : ℕ) → k ≤ length cs → Reached n (take k cs) []
    cards-reached zero h = start
    cards-reached (suc k) h =
        subst (λ l. Reached n l []) (sym (take-suc cs k 0 h))
        (deal (get_or cs k 0) (cards-reached k (omega arith)) (lt-ltb (length (take k cs)) n (let e = length-take-le k cs (omega arith) in let w = fair-length in omega arith)) (fair_left k h))

    deal-reached : Reached n cs []
    deal-reached = subst (λ l. Reached n l []) (take-length cs) (cards-reached (length cs) (omega arith))

  module _ (cs h : List ℕ) (f : fair n cs ≡ true) (full : length cs ≡ n) (p : played n h ≡ true) where
    actions-reached : (k : ℕ) → k ≤ length h → Reached n cs (take k h)
    unfolding played unknown overrun
    actions-reached zero w = deal-reached cs f
    actions-reached (suc k) w =
        subst (Reached n cs) (sym (take-suc h k 0 w))
        (act (get_or h k 0) (actions-reached k (omega arith))
        (both (eq-eqb (length cs) n full) (ap not (none_at (length h) (λ i. ended n (take i h)) (not-true _ (and_right (not (unknown h)) _ p)) k w)))
        (le-leb (get_or h k 0) BET (ltb-false BET (get_or h k 0) (none_at (length h) (λ i. ltb BET (get_or h i 0)) (not-true _ (and_left (not (unknown h)) _ p)) k w))))

  empty : (h : List ℕ) → length h ≡ 0 → [] ≡ h
  empty [] e = refl
  empty (x ∷ h) e = absurd (omega arith)

  pub possible-reached : (cs h : List ℕ) → possible n cs h ≡ true → Reached n cs h
  unfolding possible
  possible-reached cs h p =
      let f = and_left (fair n cs) _ p in
      let q = and_right (fair n cs) _ p in
      or_cases (eqb (length h) 0) (eqb (length cs) n) (and_left (eqb (length h) 0 or eqb (length cs) n) _ q)
      (λ e. subst (Reached n cs) (empty h (eqb-true (length h) 0 e)) (deal-reached cs f))
      (λ e. subst (Reached n cs) (take-length h) (actions-reached cs h f (eqb-true (length cs) n e) (and_right (eqb (length h) 0 or eqb (length cs) n) _ q) (length h) (omega arith)))

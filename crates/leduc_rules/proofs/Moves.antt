-- The test of number 19 holds of what legal moves reach, and of nothing else. Assumes nothing.
use mathlib.Core.Path.{◌≡◌, refl, sym, ap, ap₂, subst, ◌∙◌}
use mathlib.Core.Logic.{◌⊎◌, inl, inr}
use mathlib.Core.Bool.{Bool, true, false, not}
use mathlib.Core.List.{List, [], ◌∷◌, ◌++◌, append_assoc, append-nil}
use Prim.Native.Nat.{ℕ, suc, ◌+◌, ◌≤◌, ◌<◌}
use native.Mathlib.Omega.{arith}
use lib.Dec.{eqb, leb, ltb}
use lib.ListN.{length, get_or, take, length-append, get_or-append}
use lib.Seq.{take-append-le, take-append_seam, get_or_at}
use borrow.Author.Tests.{eqb-true, eq-eqb, leb-false, le-leb, lt-leb, lt-ltb, le-ltb, ltb-true, ltb-false, not-true}
use Rattle.std.specs.Prelude.{Option, None, Some}
use Rattle.prelude.specs.Finite.{◌and◌, ◌or◌, some, has}
use Rattle.prelude.proofs.Tests.{some_same, both, and_left, and_right, and_left_fails, and_right_fails, or_left, or_right, or_cases, or_false_left, or_false_right, neither, true≢false}
use Rattle.leduc_betting.specs.Betting.{folded, closes, open_round, may, ended, played}
use Rattle.leduc_betting.specs.Cards.{hidden, seen, left, strange, twice}
use Rattle.leduc_rules.specs.Rules.{public-due, due, live}
use Rattle.leduc_rules.specs.Moves.{Reached, start, deal, reveal, act₁, act₂, DecidesReached}
use Rattle.leduc_rules.specs.Reached.{possible}
use Rattle.leduc_betting.proofs.Rounds.{closed-unfolded}
use Rattle.leduc_rules.proofs.Reaching.{Possible, possible_parts, still_open, no_actions, second-later, nothing-closed}

-- ---- one element more

module _ (xs : List ℕ) (x : ℕ) where
  long : length (xs ++ (x ∷ [])) ≡ suc (length xs)
  long = length-append xs (x ∷ []) ∙ (let e : length xs + 1 ≡ suc (length xs) = omega arith in e)

  some_more : (Q : List ℕ → ℕ → Bool) → ((i : ℕ) → i < length xs → Q (xs ++ (x ∷ [])) i ≡ Q xs i) → some (length (xs ++ (x ∷ []))) (Q (xs ++ (x ∷ []))) ≡ (some (length xs) (Q xs) or Q (xs ++ (x ∷ [])) (length xs))
  unfolding some
  some_more Q f =
      ap (λ n. some n (Q (xs ++ (x ∷ [])))) long
      ∙ ap (λ b. b or Q (xs ++ (x ∷ [])) (length xs)) (some_same (length xs) (Q (xs ++ (x ∷ []))) (Q xs) f)

  pub strange_more : strange (xs ++ (x ∷ [])) ≡ (strange xs or leb 6 x)
  unfolding strange
  strange_more =
      some_more (λ l i. leb 6 (get_or l i 0)) (λ i w. ap (leb 6) (get_or-append xs (x ∷ []) 0 i w))
      ∙ ap (λ y. some (length xs) (λ i. leb 6 (get_or xs i 0)) or leb 6 y) (get_or_at xs x [] 0 (length xs) refl)

  pub twice_more : twice (xs ++ (x ∷ [])) ≡ (twice xs or has x xs)
  unfolding twice
  twice_more =
      some_more (λ l i. has (get_or l i 0) (take i l)) (λ i w. ap₂ has (get_or-append xs (x ∷ []) 0 i w) (take-append-le i xs (x ∷ []) (omega arith)))
      ∙ ap₂ (λ y l. some (length xs) (λ i. has (get_or xs i 0) (take i xs)) or has y l) (get_or_at xs x [] 0 (length xs) refl) (take-append_seam xs (x ∷ []))

  -- a card that is left may be added, and only such
  pub added : strange xs ≡ false → twice xs ≡ false → left xs x ≡ true → (strange (xs ++ (x ∷ [])) ≡ false) × (twice (xs ++ (x ∷ [])) ≡ false)
  unfolding left
  added s t l =
      (strange_more ∙ neither s (lt-leb 6 x (ltb-true x 6 (and_left (ltb x 6) (not (has x xs)) l))), twice_more ∙ neither t (not-true (has x xs) (and_right (ltb x 6) (not (has x xs)) l)))

  pub was_left : strange (xs ++ (x ∷ [])) ≡ false → twice (xs ++ (x ∷ [])) ≡ false → left xs x ≡ true
  unfolding left
  was_left s t =
      both (lt-ltb x 6 (leb-false 6 x (or_false_right (strange xs) (leb 6 x) (sym strange_more ∙ s)))) (ap not (or_false_right (twice xs) (has x xs) (sym twice_more ∙ t)))

  pub front_fits : strange (xs ++ (x ∷ [])) ≡ false → twice (xs ++ (x ∷ [])) ≡ false → (strange xs ≡ false) × (twice xs ≡ false)
  front_fits s t = (or_false_left (strange xs) (leb 6 x) (sym strange_more ∙ s), or_false_left (twice xs) (has x xs) (sym twice_more ∙ t))

-- one action more of a round
pub played_more : (before h : List ℕ) (a : ℕ) → played before h ≡ true → open_round (before ++ h) ≡ true → may (before ++ h) a ≡ true → played before (h ++ (a ∷ [])) ≡ true
unfolding played ◌and◌
played_more before [] a e o m = both (both (ap open_round (sym (append-nil before)) ∙ o) (ap (λ t. may t a) (sym (append-nil before)) ∙ m)) refl
played_more before (b ∷ h) a e o m =
    both (and_left (open_round before and may before b) (played (before ++ (b ∷ [])) h) e)
    (played_more (before ++ (b ∷ [])) h a (and_right (open_round before and may before b) (played (before ++ (b ∷ [])) h) e)
    (ap open_round (append_assoc before (b ∷ []) h) ∙ o)
    (ap (λ t. may t a) (append_assoc before (b ∷ []) h) ∙ m))

-- ---- what moves reach passes the test

module _ (cs : List ℕ) (p : Option ℕ) (h₁ h₂ : List ℕ) where
  pub possible_all : Possible cs p h₁ h₂ → possible cs p h₁ h₂ ≡ true
  unfolding possible
  possible_all w =
      both (le-leb (length cs) 2 w.few)
      (both (ap not w.in_deck)
      (both (ap not w.once)
      (both w.dealt_first
      (both w.first_played
      (both w.second-played
      (both w.shown-late w.blind_early))))))

start-possible : Possible [] None [] []
unfolding strange twice some played ◌or◌
start-possible =
    record { few = omega arith; in_deck = refl; once = refl; dealt_first = refl; first_played = refl; second-played = refl; shown-late = refl; blind_early = refl }

-- while a seat has no card nobody has acted, and the public card is hidden
module _ {cs : List ℕ} {p : Option ℕ} {h₁ h₂ : List ℕ} (w : Possible cs p h₁ h₂) where
  pub none_acted : length cs < 2 → h₁ ≡ []
  none_acted l =
      or_cases (eqb (length cs) 2) (eqb (length h₁) 0) w.dealt_first
      (λ q. let r = eqb-true (length cs) 2 q in absurd (omega arith))
      (λ q. no_actions h₁ q)

  pub still_hidden : closes h₁ ≡ false → hidden p ≡ true
  still_hidden e = or_cases (hidden p) (closes h₁) w.shown-late (λ q. q) (λ q. true≢false (closes h₁) q e)

  pub hidden_none : hidden p ≡ true → h₂ ≡ []
  hidden_none e = or_cases (not (hidden p)) (eqb (length h₂) 0) w.blind_early (λ q. true≢false (hidden p) e (not-true _ q)) (λ q. no_actions h₂ q)

  -- round 2 begins once round 1 has closed
  pub closed_or_none : (closes h₁ ≡ true) ⊎ (h₂ ≡ [])
  closed_or_none = or_cases (hidden p) (closes h₁) w.shown-late (λ q. inr (hidden_none q)) (λ q. inl q)

deal-possible : (cs : List ℕ) (p : Option ℕ) (h₁ h₂ : List ℕ) (c : ℕ) → Possible cs p h₁ h₂ → length cs < 2 → left (seen cs p) c ≡ true → Possible (cs ++ (c ∷ [])) p h₁ h₂
deal-possible cs (Some x) h₁ h₂ c w l e = true≢false false (still_hidden w (ap closes (none_acted w l) ∙ nothing-closed)) refl
deal-possible cs None h₁ h₂ c w l e =
    let (s, t) = added cs c w.in_deck w.once e in
    record {
      few = omega (arith, long cs c);
      in_deck = s;
      once = t;
      dealt_first = or_right (eqb (length (cs ++ (c ∷ []))) 2) (eq-eqb (length h₁) 0 (ap length (none_acted w l)));
      first_played = w.first_played;
      second-played = w.second-played;
      shown-late = w.shown-late;
      blind_early = w.blind_early;
    }

reveal-possible : (cs : List ℕ) (p : Option ℕ) (h₁ h₂ : List ℕ) (c : ℕ) → Possible cs p h₁ h₂ → public-due p h₁ h₂ ≡ true → left (seen cs p) c ≡ true → Possible cs (Some c) h₁ h₂
unfolding public-due
reveal-possible cs (Some x) h₁ h₂ c w d e = true≢false false (and_left false (closes h₁ and not (ended h₁ h₂)) d) refl
reveal-possible cs None h₁ h₂ c w d e =
    let (s, t) = added cs c w.in_deck w.once e in
    record {
      few = w.few;
      in_deck = s;
      once = t;
      dealt_first = w.dealt_first;
      first_played = w.first_played;
      second-played = w.second-played;
      shown-late = or_right false (and_left (closes h₁) (not (ended h₁ h₂)) (and_right true (closes h₁ and not (ended h₁ h₂)) d));
      blind_early = or_left (eqb (length h₂) 0) refl;
    }

-- where a seat acts, both have a card, nobody has folded, and round 2 is open
pub record Acting (cs : List ℕ) (p : Option ℕ) (h₁ h₂ : List ℕ) : Type 0 where
  pub two_cards : 2 ≤ length cs
  pub none_due : public-due p h₁ h₂ ≡ false
  pub not_ended : ended h₁ h₂ ≡ false
  pub first_unfolded : folded h₁ ≡ false
  pub second_open : open_round h₂ ≡ true

pub acting : (cs : List ℕ) (p : Option ℕ) (h₁ h₂ : List ℕ) → live cs p h₁ h₂ ≡ true → Acting cs p h₁ h₂
unfolding live due ended
acting cs p h₁ h₂ e =
    let n : ((ltb (length cs) 2 or public-due p h₁ h₂) or (folded h₁ or (folded h₂ or closes h₂))) ≡ false = not-true _ e in
    let d = or_false_left (ltb (length cs) 2 or public-due p h₁ h₂) _ n in
    let o = or_false_right (ltb (length cs) 2 or public-due p h₁ h₂) _ n in
    record {
      two_cards = ltb-false (length cs) 2 (or_false_left (ltb (length cs) 2) (public-due p h₁ h₂) d);
      none_due = or_false_right (ltb (length cs) 2) (public-due p h₁ h₂) d;
      not_ended = o;
      first_unfolded = or_false_left (folded h₁) (folded h₂ or closes h₂) o;
      second_open = still_open h₂ (or_false_right (folded h₁) (folded h₂ or closes h₂) o);
    }

act₁-possible : (cs : List ℕ) (p : Option ℕ) (h₁ h₂ : List ℕ) (a : ℕ) → Possible cs p h₁ h₂ → live cs p h₁ h₂ ≡ true → closes h₁ ≡ false → may h₁ a ≡ true → Possible cs p (h₁ ++ (a ∷ [])) h₂
act₁-possible cs p h₁ h₂ a w l c m =
    let v = acting cs p h₁ h₂ l in
    let two : length cs ≡ 2 = omega (arith, w.few, v.two_cards) in
    record {
      few = w.few;
      in_deck = w.in_deck;
      once = w.once;
      dealt_first = or_left (eqb (length (h₁ ++ (a ∷ []))) 0) (eq-eqb (length cs) 2 two);
      first_played = played_more [] h₁ a w.first_played (still_open h₁ (neither v.first_unfolded c)) m;
      second-played = w.second-played;
      shown-late = or_left (closes (h₁ ++ (a ∷ []))) (still_hidden w c);
      blind_early = w.blind_early;
    }

-- the public card lies there once round 1 has closed and a seat acts
shown_by_then : (p : Option ℕ) (h₁ h₂ : List ℕ) → public-due p h₁ h₂ ≡ false → ended h₁ h₂ ≡ false → closes h₁ ≡ true → hidden p ≡ false
unfolding public-due ◌and◌
shown_by_then (Some x) h₁ h₂ d n c = refl
shown_by_then None h₁ h₂ d n c = true≢false (closes h₁ and not (ended h₁ h₂)) (both c (ap not n)) d

act₂-possible : (cs : List ℕ) (p : Option ℕ) (h₁ h₂ : List ℕ) (a : ℕ) → Possible cs p h₁ h₂ → live cs p h₁ h₂ ≡ true → closes h₁ ≡ true → may h₂ a ≡ true → Possible cs p h₁ (h₂ ++ (a ∷ []))
act₂-possible cs p h₁ h₂ a w l c m =
    let v = acting cs p h₁ h₂ l in
    record {
      few = w.few;
      in_deck = w.in_deck;
      once = w.once;
      dealt_first = w.dealt_first;
      first_played = w.first_played;
      second-played = played_more [] h₂ a w.second-played v.second_open m;
      shown-late = w.shown-late;
      blind_early = or_left (eqb (length (h₂ ++ (a ∷ []))) 0) (ap not (shown_by_then p h₁ h₂ v.none_due v.not_ended c));
    }

pub reached_parts : {cs : List ℕ} {p : Option ℕ} {h₁ h₂ : List ℕ} → Reached cs p h₁ h₂ → Possible cs p h₁ h₂
reached_parts start = start-possible
reached_parts (deal {cs = cs} {h₁ = h₁} {h₂ = h₂} {p = p} c r d e) = deal-possible cs p h₁ h₂ c (reached_parts r) (ltb-true (length cs) 2 d) e
reached_parts (reveal {cs = cs} {h₁ = h₁} {h₂ = h₂} {p = p} c r d e) = reveal-possible cs p h₁ h₂ c (reached_parts r) d e
reached_parts (act₁ {cs = cs} {h₁ = h₁} {h₂ = h₂} {p = p} a r l c m) = act₁-possible cs p h₁ h₂ a (reached_parts r) l c m
reached_parts (act₂ {cs = cs} {h₁ = h₁} {h₂ = h₂} {p = p} a r l c m) = act₂-possible cs p h₁ h₂ a (reached_parts r) l c m

-- ---- what passes the test is reached by moves

-- a round goes on: nobody has folded, and it has not closed
pub goes_on : (h : List ℕ) → open_round h ≡ true → (folded h ≡ false) × (closes h ≡ false)
unfolding open_round
goes_on h o =
    let q : (folded h or closes h) ≡ false = not-true (folded h or closes h) o in
    (or_false_left (folded h) (closes h) q, or_false_right (folded h) (closes h) q)

nothing-folded : folded [] ≡ false
unfolding folded some
nothing-folded = refl

-- a seat acts in round 1, and in round 2 once the public card lies there
live_first : (cs h : List ℕ) → length cs ≡ 2 → open_round h ≡ true → live cs None h [] ≡ true
unfolding live due public-due ended
live_first cs h two o =
    let (f, c) = goes_on h o in
    ap not (neither (neither (le-ltb (length cs) 2 (omega arith)) (and_right_fails true (and_left_fails _ c))) (neither f (neither nothing-folded nothing-closed)))

live-second : (cs h₁ h₂ : List ℕ) (x : ℕ) → length cs ≡ 2 → folded h₁ ≡ false → open_round h₂ ≡ true → live cs (Some x) h₁ h₂ ≡ true
unfolding live due public-due ended
live-second cs h₁ h₂ x two f o =
    let (g, c) = goes_on h₂ o in
    ap not (neither (neither (le-ltb (length cs) 2 (omega arith)) (and_left_fails _ refl)) (neither f (neither g c)))

play_first : (cs : List ℕ) → length cs ≡ 2 → (before h : List ℕ) → played before h ≡ true → Reached cs None before [] → Reached cs None (before ++ h) []
unfolding played
play_first cs two before [] e r = subst (λ t. Reached cs None t []) (sym (append-nil before)) r
play_first cs two before (a ∷ h) e r =
    let now = and_left (open_round before and may before a) (played (before ++ (a ∷ [])) h) e in
    let o = and_left (open_round before) (may before a) now in
    subst (λ t. Reached cs None t []) (append_assoc before (a ∷ []) h)
    (play_first cs two (before ++ (a ∷ [])) h (and_right (open_round before and may before a) (played (before ++ (a ∷ [])) h) e)
    (act₁ a r (live_first cs before two o) (goes_on before o).1 (and_right (open_round before) (may before a) now)))

play_second : (cs : List ℕ) (x : ℕ) (h₁ : List ℕ) → length cs ≡ 2 → closes h₁ ≡ true → folded h₁ ≡ false → (before h : List ℕ) → played before h ≡ true → Reached cs (Some x) h₁ before → Reached cs (Some x) h₁ (before ++ h)
unfolding played
play_second cs x h₁ two c f before [] e r = subst (λ t. Reached cs (Some x) h₁ t) (sym (append-nil before)) r
play_second cs x h₁ two c f before (a ∷ h) e r =
    let now = and_left (open_round before and may before a) (played (before ++ (a ∷ [])) h) e in
    let o = and_left (open_round before) (may before a) now in
    subst (λ t. Reached cs (Some x) h₁ t) (append_assoc before (a ∷ []) h)
    (play_second cs x h₁ two c f (before ++ (a ∷ [])) h (and_right (open_round before and may before a) (played (before ++ (a ∷ [])) h) e)
    (act₂ a r (live-second cs h₁ before x two f o) c (and_right (open_round before) (may before a) now)))

-- the cards of both seats
one_dealt : (a : ℕ) → strange (a ∷ []) ≡ false → twice (a ∷ []) ≡ false → Reached (a ∷ []) None [] []
one_dealt a s t = deal a start refl (was_left [] a s t)

both_dealt : (a b : ℕ) → strange (a ∷ b ∷ []) ≡ false → twice (a ∷ b ∷ []) ≡ false → Reached (a ∷ b ∷ []) None [] []
both_dealt a b s t =
    let (s₁, t₁) = front_fits (a ∷ []) b s t in
    deal b (one_dealt a s₁ t₁) refl (was_left (a ∷ []) b s t)

-- the public card is due when round 1 has closed
due_then : (h : List ℕ) → closes h ≡ true → folded h ≡ false → public-due None h [] ≡ true
unfolding public-due ended
due_then h c f = both refl (both c (ap not (neither f (neither nothing-folded nothing-closed))))

nobody_acted : (cs : List ℕ) (p : Option ℕ) (h₁ h₂ : List ℕ) → Possible cs p h₁ h₂ → length cs < 2 → Reached cs None [] [] → Reached cs p h₁ h₂
nobody_acted cs None h₁ h₂ w l r =
    subst (λ t. Reached cs None t h₂) (sym (none_acted w l)) (subst (λ t. Reached cs None [] t) (sym (second-later w (none_acted w l))) r)
nobody_acted cs (Some x) h₁ h₂ w l r = true≢false false (still_hidden w (ap closes (none_acted w l) ∙ nothing-closed)) refl

all_acted : (a b : ℕ) (p : Option ℕ) (h₁ h₂ : List ℕ) → Possible (a ∷ b ∷ []) p h₁ h₂ → Reached (a ∷ b ∷ []) p h₁ h₂
all_acted a b None h₁ h₂ w =
    subst (λ t. Reached (a ∷ b ∷ []) None h₁ t) (sym (hidden_none w refl))
    (play_first (a ∷ b ∷ []) refl [] h₁ w.first_played (both_dealt a b w.in_deck w.once))
all_acted a b (Some x) h₁ h₂ w =
    let c : closes h₁ ≡ true = or_cases false (closes h₁) w.shown-late (λ q. true≢false false q refl) (λ q. q) in
    let f = closed-unfolded h₁ w.first_played c in
    let (s, t) = front_fits (a ∷ b ∷ []) x w.in_deck w.once in
    play_second (a ∷ b ∷ []) x h₁ refl c f [] h₂ w.second-played
    (reveal x (play_first (a ∷ b ∷ []) refl [] h₁ w.first_played (both_dealt a b s t)) (due_then h₁ c f) (was_left (a ∷ b ∷ []) x w.in_deck w.once))

pub parts_reached : (cs : List ℕ) (p : Option ℕ) (h₁ h₂ : List ℕ) → Possible cs p h₁ h₂ → Reached cs p h₁ h₂
parts_reached [] p h₁ h₂ w = nobody_acted [] p h₁ h₂ w (omega arith) start
parts_reached (a ∷ []) None h₁ h₂ w = nobody_acted (a ∷ []) None h₁ h₂ w (omega arith) (one_dealt a w.in_deck w.once)
parts_reached (a ∷ []) (Some x) h₁ h₂ w = true≢false false (still_hidden w (ap closes (none_acted w (omega arith)) ∙ nothing-closed)) refl
parts_reached (a ∷ b ∷ []) p h₁ h₂ w = all_acted a b p h₁ h₂ w
parts_reached (a ∷ b ∷ c ∷ cs) p h₁ h₂ w = absurd (let l = w.few in omega arith)

pub decides-reached : DecidesReached
decides-reached = record {
  sound = λ cs p h₁ h₂ e. parts_reached cs p h₁ h₂ (possible_parts cs p h₁ h₂ e);
  complete = λ cs p h₁ h₂ r. possible_all cs p h₁ h₂ (reached_parts r);
}

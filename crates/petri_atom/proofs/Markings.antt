use Rattle.std.proofs.Common.{◌≡◌, ℕ, zero, suc, ◌<◌, ◌^◌, Bool, true, false, not, ◌&&◌, ◌||◌, eqb, ltb, length, get_or, refl, sym, ◌∙◌, ap, arith, List, [], ◌∷◌, ⊎_elim}
use Rattle.std.specs.Prelude.{bit_and, bit_or}
use Rattle.std.specs.Int.{bit_not, w64}
use Rattle.std.specs.Int.Bits.{and_lt}
use Rattle.std.specs.List.{list_all, list_any}
use Rattle.std.proofs.lemmas.Bool.{false≢true, and_parts, and_from, or_cases, or_left, or_right, ltb-true, eqb-true, eq-eqb}
use Rattle.std.proofs.lemmas.Nat.{or_lt, pow_pos}
use Rattle.petri_atom.specs.Local.{has, is_in, set_below, are_places, all_marked, is_blocked, moved}
use Rattle.petri_atom.proofs.Sets.{has-and, has-or, has-not, has-above, same_set, set_below-lt, has-set_below, set_below-is}

-- two tests are the same if each follows from the other
pub same_answer : (a b : Bool) → (a ≡ true → b ≡ true) → (b ≡ true → a ≡ true) → a ≡ b
same_answer true b forth back = sym (forth refl)
same_answer false true forth back = back refl
same_answer false false forth back = refl

-- a test that another one implies may be left out beside it
and_absorbed : (x y : Bool) → (y ≡ true → x ≡ true) → (x && y) ≡ y
and_absorbed true y implied = refl
and_absorbed false true implied = implied refl
and_absorbed false false implied = refl

-- three tests of which the outer two fail together if the middle one holds
and_fails : (a b c : Bool) → (b ≡ true → not (a && c) ≡ true) → (a && (b && c)) ≡ false
and_fails false b c fails = refl
and_fails true false c fails = refl
and_fails true true true fails = sym (fails refl)
and_fails true true false fails = refl

and_failed : (a b c : Bool) → (a && (b && c)) ≡ false → b ≡ true → not (a && c) ≡ true
and_failed false b c none here = refl
and_failed true true c none here = ap not none
and_failed true false c none here = absurd (false≢true here)

-- what holds of each number of a list
pub list_all-at : (f : ℕ → Bool) (ks : List ℕ) (k : ℕ) → list_all f ks ≡ true → is_in ks k ≡ true → f k ≡ true
list_all-at f [] k all inside = absurd (false≢true inside)
list_all-at f (j ∷ ks) k all inside =
    let parts = and_parts (f j) (list_all f ks) all in
    ⊎_elim (λ same. ap f (sym (eqb-true j k same)) ∙ parts.0) (λ later. list_all-at f ks k parts.1 later)
    (or_cases (eqb j k) (is_in ks k) inside)

pub list_all-from : (f : ℕ → Bool) (ks : List ℕ) → ((k : ℕ) → is_in ks k ≡ true → f k ≡ true) → list_all f ks ≡ true
list_all-from f [] each = refl
list_all-from f (j ∷ ks) each =
    and_from (f j) (list_all f ks) (each j (or_left (eqb j j) (is_in ks j) (eq-eqb j j refl)))
    (list_all-from f ks (λ k inside. each k (or_right (eqb j k) (is_in ks k) inside)))

-- none passes if each fails
pub not-list_any : (f : ℕ → Bool) (ks : List ℕ) → not (list_any f ks) ≡ list_all (λ k. not (f k)) ks
not-list_any f [] = refl
not-list_any f (k ∷ ks) = elim (f k) as (λ b. not (b || list_any f ks) ≡ (not b && list_all (λ j. not (f j)) ks)) [ true ↦ refl | false ↦ not-list_any f ks ]

-- each number of a list of places is a place
pub place_at : (ks : List ℕ) (i : ℕ) → are_places ks ≡ true → i < length ks → get_or ks i 0 < 64
place_at [] i places within = absurd (omega arith)
place_at (k ∷ ks) zero places within = ltb-true k 64 (and_parts (ltb k 64) (are_places ks) places).0
place_at (k ∷ ks) (suc i) places within =
    place_at ks i (and_parts (ltb k 64) (are_places ks) places).1 (omega arith)

-- the test of the sources, on words
pub all_marked-word : (m : ℕ) (ss : List ℕ) → m < 2 ^ 64 → are_places ss ≡ true → eqb (bit_and m (set_below 64 (is_in ss))) (set_below 64 (is_in ss)) ≡ all_marked m ss
all_marked-word m ss small places = same_answer _ _ forth back
  where
    word : ℕ
    word = set_below 64 (is_in ss)

    place : (k : ℕ) → is_in ss k ≡ true → k < 64
    place k inside = ltb-true k 64 (list_all-at _ ss k places inside)

    forth : eqb (bit_and m word) word ≡ true → all_marked m ss ≡ true
    forth e =
        list_all-from (has m) ss
        (λ k inside. (and_parts (has m k) (has word k) (sym (has-and m word k) ∙ ap (λ w. has w k) (eqb-true _ _ e) ∙ has-set_below 64 (is_in ss) k (place k inside) ∙ inside)).0)

    back : all_marked m ss ≡ true → eqb (bit_and m word) word ≡ true
    back all =
        eq-eqb _ _
        (same_set 64 _ _ (and_lt 64 m word small (set_below-lt 64 (is_in ss))) (set_below-lt 64 (is_in ss))
        (λ k below. has-and m word k ∙ and_absorbed _ _ (λ there. list_all-at (has m) ss k all (sym (has-set_below 64 (is_in ss) k below) ∙ there))))

-- the test of the targets that are no sources, on words
pub is_blocked-word : (m : ℕ) (ts ss : List ℕ) → m < 2 ^ 64 → are_places ts ≡ true → eqb (bit_and m (set_below 64 (λ p. is_in ts p && not (is_in ss p)))) 0 ≡ not (is_blocked m ts ss)
is_blocked-word m ts ss small places =
    same_answer _ _ forth back ∙ sym (not-list_any (λ p. has m p && not (is_in ss p)) ts)
  where
    blocking : ℕ → Bool
    blocking p = is_in ts p && not (is_in ss p)

    word : ℕ
    word = set_below 64 blocking

    place : (k : ℕ) → is_in ts k ≡ true → k < 64
    place k inside = ltb-true k 64 (list_all-at _ ts k places inside)

    both : (k : ℕ) → k < 64 → has (bit_and m word) k ≡ (has m k && blocking k)
    both k below = has-and m word k ∙ ap (λ b. has m k && b) (has-set_below 64 blocking k below)

    forth : eqb (bit_and m word) 0 ≡ true → list_all (λ p. not (has m p && not (is_in ss p))) ts ≡ true
    forth e =
        list_all-from _ ts
        (λ k inside. and_failed (has m k) (is_in ts k) (not (is_in ss k)) (sym (both k (place k inside)) ∙ ap (λ w. has w k) (eqb-true _ _ e) ∙ has-above 0 0 k (pow_pos 0) (omega arith)) inside)

    back : list_all (λ p. not (has m p && not (is_in ss p))) ts ≡ true → eqb (bit_and m word) 0 ≡ true
    back all =
        eq-eqb _ _
        (same_set 64 _ _ (and_lt 64 m word small (set_below-lt 64 blocking)) (pow_pos 64)
        (λ k below. both k below ∙ and_fails _ _ _ (λ inside. list_all-at _ ts k all inside) ∙ sym (has-above 0 0 k (pow_pos 0) (omega arith))))

-- the marking after a transition moved, on words
pub moved-word : (m : ℕ) (ss ts : List ℕ) → m < 2 ^ 64 → bit_or (bit_and m (bit_not w64 (set_below 64 (is_in ss)))) (set_below 64 (is_in ts)) ≡ moved m ss ts
unfolding moved
moved-word m ss ts small =
    set_below-is 64 _ _ (or_lt 64 _ _ (and_lt 64 m _ small rest_small) (set_below-lt 64 (is_in ts)))
    (λ k below. has-or _ _ k ∙ ap (λ b. b || has (set_below 64 (is_in ts)) k) (has-and m _ k ∙ ap (λ b. has m k && b) (has-not w64 word k (set_below-lt 64 (is_in ss)) below ∙ ap not (has-set_below 64 (is_in ss) k below))) ∙ ap (λ b. (has m k && not (is_in ss k)) || b) (has-set_below 64 (is_in ts) k below))
  where
    word : ℕ
    word = set_below 64 (is_in ss)

    rest_small : bit_not w64 word < 2 ^ 64
    rest_small = omega arith

-- the word of the targets that are no sources
pub blocking-word : (ss ts : List ℕ) → bit_and (set_below 64 (is_in ts)) (bit_not w64 (set_below 64 (is_in ss))) ≡ set_below 64 (λ p. is_in ts p && not (is_in ss p))
blocking-word ss ts =
    set_below-is 64 _ _ (and_lt 64 (set_below 64 (is_in ts)) _ (set_below-lt 64 (is_in ts)) rest_small)
    (λ k below. has-and _ _ k ∙ ap (λ b. b && has (bit_not w64 word) k) (has-set_below 64 (is_in ts) k below) ∙ ap (λ b. is_in ts k && b) (has-not w64 word k (set_below-lt 64 (is_in ss)) below ∙ ap not (has-set_below 64 (is_in ss) k below)))
  where
    word : ℕ
    word = set_below 64 (is_in ss)

    rest_small : bit_not w64 word < 2 ^ 64
    rest_small = omega arith

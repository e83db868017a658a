-- What a set of interactions holds, by the bits of its words, and what a write to one word does to it.
use Rattle.std.proofs.Common.{◌≡◌, ◌≢◌, ◌↔◌, ℕ, suc, ◌+◌, ◌*◌, ◌/◌, ◌%◌, ◌^◌, ◌<◌, ◌≤◌, Bool, true, false, not, ◌&&◌, ◌||◌, eqb, List, [], ◌∷◌, length, get_or, set, replicate, filter, sym, ap, ◌∙◌, ⊎_elim, zero, bit_and, bit_or, w64, arith, get_or-set_same, get_or-set_other, IsTrue}
use Rattle.std.specs.List.{range_with_len, list_any}
use Rattle.std.specs.Int.{bit_at, bit_not}
use Rattle.std.specs.Ordering.{nat_cmp}
use Rattle.std.specs.Cmp.{nat_cmp_total, unsigned_tied}
use Rattle.std.specs.FinSet as fin
use Rattle.std.specs.FinSet.{from_list, contains-from_list_nat}
use Rattle.std.proofs.Math.Bool.{and-true, and-false}
use Rattle.std.proofs.lemmas.Bool.{cases_eq, cases_Bool, cases_lt, eq-eqb, ne_eqb, eqb-true, and_parts, and_from, both_ways}
use Rattle.std.proofs.lemmas.Bool.Decides.{nat_tests}
use Rattle.std.proofs.lemmas.List.{get_or_past, length-replicate, get_or-replicate}
use Rattle.std.proofs.lemmas.Nat.Bits.{bit_at-zero, bit_at_set_same, bit_at_set_other, bit_at_clear_same, bit_at_clear_other, shr_and_one}
use Rattle.priority_filter.specs.Members.{holds, members_of}
use Rattle.priority_filter.proofs.DecidedTests.{any_in_range}

-- a number is among those that pass if it passes and is among them
any-filter : (p : ℕ → Bool) (q : ℕ) (xs : List ℕ) → list_any (λ y. eqb y q) (filter p xs) ≡ (p q && list_any (λ y. eqb y q) xs)
any-filter p q [] = sym (and-false (p q))
any-filter p q (x ∷ xs) = grind (arith, nat_tests, any-filter p q xs, cases_Bool (p x), cases_Bool (p q), cases_eq x q)

-- the numbers from a on hold each one of them
any-range : (q a n : ℕ) → a ≤ q → q < a + n → list_any (λ y. eqb y q) (range_with_len a n) ≡ true
any-range q a zero low high = absurd (omega arith)
any-range q a (suc n) low high = grind (arith, nat_tests, any-range q (a + 1) n, cases_eq a q)

-- the set of all numbers below n that pass
pub contains_passing : (p : ℕ → Bool) (n q : ℕ) → IsTrue (fin.contains (from_list {R = nat_cmp} (filter p (range_with_len 0 n))) q) ↔ (IsTrue (p q) × (q < n))
contains_passing p n q =
    let answer : fin.contains (from_list {R = nat_cmp} (filter p (range_with_len 0 n))) q ≡ (p q && list_any (λ y. eqb y q) (range_with_len 0 n))
    = contains-from_list_nat (filter p (range_with_len 0 n)) q ∙ any-filter p q (range_with_len 0 n) in (
      λ yes.
          let both = and_parts (p q) (list_any (λ y. eqb y q) (range_with_len 0 n)) (sym answer ∙ yes) in
          let found = any_in_range (λ y. eqb y q) 0 n both.1 in
          (both.0, omega (arith, found.1, eqb-true found.0 q found.2)),
      λ facts. answer ∙ and_from (p q) (list_any (λ y. eqb y q) (range_with_len 0 n)) facts.0 (any-range q 0 n (omega arith) (omega (arith, facts.1))),
    )

-- past the words no bit is set
pub holds_past : (words : List ℕ) (q : ℕ) → 64 * length words ≤ q → holds words q ≡ false
holds_past words q past =
    let beyond : length words ≤ q / 64 = omega arith in
    let none : get_or words (q / 64) 0 ≡ 0 = get_or_past words (q / 64) 0 beyond in
    ap (λ w. eqb (bit_at w (q % 64)) 1) none ∙ ap (λ b. eqb b 1) (bit_at-zero (q % 64))

-- the set has each number whose bit is set
pub contains-members_of : (words : List ℕ) (q : ℕ) → fin.contains (members_of words) q ≡ holds words q
unfolding members_of
contains-members_of words q =
    contains-from_list_nat (filter (holds words) (range_with_len 0 (64 * length words))) q
    ∙ any-filter (holds words) q (range_with_len 0 (64 * length words))
    ∙ ⊎_elim (λ within. ap (λ b. holds words q && b) (any-range q 0 (64 * length words) (omega arith) (omega arith)) ∙ and-true (holds words q))
    (λ past. ap (λ b. b && list_any (λ y. eqb y q) (range_with_len 0 (64 * length words))) (holds_past words q past) ∙ sym (holds_past words q past))
    (cases_lt q (64 * length words))

-- the same of the set of which they are the words
pub held : (words : List ℕ) (set : fin.FinSet nat_cmp) → members_of words ≡ set → (q : ℕ) → holds words q ≡ fin.contains set q
held words set same q = sym (contains-members_of words q) ∙ ap (λ s. fin.contains s q) same

-- what is held is among the numbers of the words
pub holds_within : (words : List ℕ) (q : ℕ) → IsTrue (holds words q) → q < 64 * length words
holds_within words q there =
    ⊎_elim (λ within. within) (λ past. absurd (both_ways (holds words q) (holds_past words q past) there)) (cases_lt q (64 * length words))

-- words and a set with the same members
pub members_of-same : (words : List ℕ) (s : fin.FinSet nat_cmp) → ((q : ℕ) → holds words q ≡ fin.contains s q) → members_of words ≡ s
members_of-same words s same = fin.same_set nat_cmp_total fin.nat_cmp-IsAntisymmetric (members_of words) s (λ q. contains-members_of words q ∙ same q)

-- words that are all 0 hold nothing
get_or_zeros : (n k : ℕ) → get_or {A = ℕ} (replicate n 0) k 0 ≡ 0
get_or_zeros n k = ⊎_elim (λ within. get_or-replicate n k 0 0 within) (λ past. get_or_past (replicate n 0) k 0 (omega (arith, length-replicate {A = ℕ} n 0))) (cases_lt k n)

pub members_of-zeros : (n : ℕ) → members_of (replicate n 0) ≡ fin.empty
members_of-zeros n =
    members_of-same (replicate n 0) fin.empty (λ q.
    ap (λ w. eqb (bit_at w (q % 64)) 1) (get_or_zeros n (q / 64)) ∙ ap (λ b. eqb b 1) (bit_at-zero (q % 64)) ∙ sym (fin.contains-empty nat_cmp q))

-- the bit of another word, and another bit of the same word
other_bit : (q p : ℕ) → q ≢ p → q / 64 ≡ p / 64 → q % 64 ≢ p % 64
other_bit q p differ same = λ e. differ (omega arith)

-- a write to the word of p that keeps all of its other bits
pub holds-write : (words : List ℕ) (p v q : ℕ) → p / 64 < length words
    → ((i : ℕ) → i < 64 → i ≢ p % 64 → bit_at v i ≡ bit_at (get_or words (p / 64) 0) i)
    → q ≢ p → holds (set words (p / 64) v) q ≡ holds words q
holds-write words p v q within keeps differ =
    ⊎_elim
    (λ same. let here : get_or (set words (p / 64) v) (q / 64) 0 ≡ v = ap (λ k. get_or (set words (p / 64) v) k 0) same ∙ get_or-set_same words (p / 64) v 0 within in
    let was : get_or words (q / 64) 0 ≡ get_or words (p / 64) 0 = ap (λ k. get_or words k 0) same in
    ap (λ w. eqb (bit_at w (q % 64)) 1) here ∙ ap (λ b. eqb b 1) (keeps (q % 64) (omega arith) (other_bit q p differ same)) ∙ ap (λ w. eqb (bit_at w (q % 64)) 1) (sym was))
    (λ apart. ap (λ w. eqb (bit_at w (q % 64)) 1) (get_or-set_other words (p / 64) (q / 64) v 0 apart))
    (cases_eq (q / 64) (p / 64))

-- the bit that is written
pub holds-write_same : (words : List ℕ) (p v : ℕ) → p / 64 < length words → holds (set words (p / 64) v) p ≡ eqb (bit_at v (p % 64)) 1
holds-write_same words p v within = ap (λ w. eqb (bit_at w (p % 64)) 1) (get_or-set_same words (p / 64) v 0 within)

-- what a number is in after it was put in, and the others
contains-insert_same : (s : fin.FinSet nat_cmp) (p q : ℕ) → q ≡ p → fin.contains (fin.insert s p) q ≡ true
contains-insert_same s p q same = fin.contains-insert nat_cmp_total s p q ∙ ap (λ b. b || fin.contains s q) (unsigned_tied q p ∙ eq-eqb q p same)

contains-insert_other : (s : fin.FinSet nat_cmp) (p q : ℕ) → q ≢ p → fin.contains (fin.insert s p) q ≡ fin.contains s q
contains-insert_other s p q differ = fin.contains-insert nat_cmp_total s p q ∙ ap (λ b. b || fin.contains s q) (unsigned_tied q p ∙ ne_eqb q p differ)

contains-remove_same : (s : fin.FinSet nat_cmp) (p q : ℕ) → q ≡ p → fin.contains (fin.remove s p) q ≡ false
contains-remove_same s p q same = fin.contains-remove nat_cmp_total s p q ∙ ap (λ b. not b && fin.contains s q) (unsigned_tied q p ∙ eq-eqb q p same)

pub contains-remove_other : (s : fin.FinSet nat_cmp) (p q : ℕ) → q ≢ p → fin.contains (fin.remove s p) q ≡ fin.contains s q
contains-remove_other s p q differ = fin.contains-remove nat_cmp_total s p q ∙ ap (λ b. not b && fin.contains s q) (unsigned_tied q p ∙ ne_eqb q p differ)

-- setting the bit of p puts p in
pub members_of-set_bit : (words : List ℕ) (p : ℕ) → p / 64 < length words
    → members_of (set words (p / 64) (bit_or (get_or words (p / 64) 0) (1 * 2 ^ (p % 64) % 2 ^ 64))) ≡ fin.insert (members_of words) p
members_of-set_bit words p within =
    let old : ℕ = get_or words (p / 64) 0 in
    let inside : p % 64 < 64 = omega arith in
    let new : ℕ = bit_or old (1 * 2 ^ (p % 64) % 2 ^ 64) in
    members_of-same _ _ (λ q.
    ⊎_elim
    (λ same. ap (holds (set words (p / 64) new)) same ∙ holds-write_same words p new within ∙ ap (λ b. eqb b 1) (bit_at_set_same w64 old (p % 64) inside) ∙ sym (contains-insert_same (members_of words) p q same))
    (λ differ. holds-write words p new q within (λ i small other. bit_at_set_other w64 old (p % 64) inside i other) differ ∙ sym (contains-members_of words q) ∙ sym (contains-insert_other (members_of words) p q differ))
    (cases_eq q p))

-- clearing the bit of p takes p out
pub members_of-clear_bit : (words : List ℕ) (p : ℕ) → p / 64 < length words
    → members_of (set words (p / 64) (bit_and (get_or words (p / 64) 0) (bit_not w64 (1 * 2 ^ (p % 64) % 2 ^ 64)))) ≡ fin.remove (members_of words) p
members_of-clear_bit words p within =
    let old : ℕ = get_or words (p / 64) 0 in
    let inside : p % 64 < 64 = omega arith in
    let new : ℕ = bit_and old (bit_not w64 (1 * 2 ^ (p % 64) % 2 ^ 64)) in
    members_of-same _ _ (λ q.
    ⊎_elim
    (λ same. ap (holds (set words (p / 64) new)) same ∙ holds-write_same words p new within ∙ ap (λ b. eqb b 1) (bit_at_clear_same w64 old (p % 64) inside) ∙ sym (contains-remove_same (members_of words) p q same))
    (λ differ. holds-write words p new q within (λ i small other. bit_at_clear_other w64 old (p % 64) inside i small other) differ ∙ sym (contains-members_of words q) ∙ sym (contains-remove_other (members_of words) p q differ))
    (cases_eq q p))

-- the test of one bit
pub bit_test : (words : List ℕ) (p : ℕ) → eqb (bit_and (get_or words (p / 64) 0 / 2 ^ (p % 64)) 1) 1 ≡ fin.contains (members_of words) p
bit_test words p = ap (λ b. eqb b 1) (shr_and_one (get_or words (p / 64) 0) (p % 64)) ∙ sym (contains-members_of words p)

-- ---- a number past the words

-- it is in no set
pub contains_past : (words : List ℕ) (q : ℕ) → 64 * length words ≤ q → fin.contains (members_of words) q ≡ false
contains_past words q past = contains-members_of words q ∙ holds_past words q past

-- taking it out changes nothing
pub remove_past : (words : List ℕ) (p : ℕ) → 64 * length words ≤ p → members_of words ≡ fin.remove (members_of words) p
remove_past words p past =
    members_of-same words _ (λ q.
    ⊎_elim
    (λ same. ap (holds words) same ∙ holds_past words p past ∙ sym (contains-remove_same (members_of words) p q same))
    (λ differ. sym (contains-members_of words q) ∙ sym (contains-remove_other (members_of words) p q differ))
    (cases_eq q p))

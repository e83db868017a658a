use Rattle.std.proofs.Common.{◌≡◌, ℕ, zero, suc, ◌+◌, ◌*◌, ◌^◌, ◌<◌, ◌≤◌, Bool, true, false, cond, not, ◌&&◌, ◌||◌, eqb, ltb, refl, sym, ◌∙◌, ap, arith, List, [], ◌∷◌, ◌++◌, length, filter, ⊎_elim}
use Rattle.std.specs.Prelude.{bit_and}
use Rattle.std.specs.Int.Bits.{and_lt}
use Rattle.std.specs.Int.Count.{ones, ones-ones}
use Rattle.std.specs.List.{list_all, list_any, range_with_len}
use Rattle.std.proofs.lemmas.List.{length-append}
use Rattle.std.proofs.lemmas.List.Elements.{filter-append}
use Rattle.std.proofs.lemmas.Bool.{cases_eq, ne_eqb}
use Rattle.std.proofs.lemmas.Nat.{pow_pos, ones-le, ones_cat, zero_from_ones}
use Rattle.petri_atom.specs.Local.{has, set_below}
use Rattle.petri_atom.specs.Definition.{TransitionDefinition, numbers_from, numbers_of}
use Rattle.petri_atom.specs.Parts.{is_of_port, set_of_port}
use Rattle.petri_atom.proofs.Sets.{has-and, has-set_below, set_below-lt, set_below-is}
use Rattle.petri_atom.proofs.Numbers.{numbers-none}

-- a longer range has one more number at its end
range-more : (a n : ℕ) → range_with_len a (suc n) ≡ range_with_len a n ++ (a + n) ∷ []
range-more a zero = let e : a ≡ a + 0 = omega arith in ap (λ k. k ∷ []) e
range-more a (suc n) =
    let e : a + 1 + n ≡ a + suc n = omega arith in
    ap (λ xs. a ∷ xs) (range-more (a + 1) n ∙ ap (λ k. range_with_len (a + 1) n ++ k ∷ []) e)

-- the transitions of a port are those of all numbers that a test passes, if the test passes those of the port
numbers-filter : (test : ℕ → Bool) (n port : ℕ) (ts : List TransitionDefinition) → ((i : ℕ) → test (n + i) ≡ is_of_port port ts i) → numbers_from n port ts ≡ filter test (range_with_len n (length ts))
numbers-filter test n port [] same = refl
numbers-filter test n port (t ∷ ts) same =
    let first : n ≡ n + 0 = omega arith in
    let here : test n ≡ eqb t.port port = ap test first ∙ same 0 in
    let later : (i : ℕ) → test (n + 1 + i) ≡ is_of_port port ts i =
    λ i. let e : n + 1 + i ≡ n + suc i = omega arith in ap test e ∙ same (suc i) in
    let next : suc n ≡ n + 1 = omega arith in
    let rest : numbers_from (suc n) port ts ≡ filter test (range_with_len (n + 1) (length ts)) =
    ap (λ k. numbers_from k port ts) next ∙ numbers-filter test (n + 1) port ts later in
    ap (λ b. cond b (n ∷ numbers_from (suc n) port ts) (numbers_from (suc n) port ts)) (sym here) ∙
    ap (λ r. cond (test n) (n ∷ r) r) rest

-- what passes a test among what passes another passes both
pub filter-filter : {X : Type 0} (p q : X → Bool) (xs : List X) → filter p (filter q xs) ≡ filter (λ x. p x && q x) xs
filter-filter p q [] = refl
filter-filter p q (x ∷ xs) =
    let rest = filter-filter p q xs in
    elim (q x) as (λ c. filter p (cond c (x ∷ filter q xs) (filter q xs)) ≡ cond (p x && c) (x ∷ filter (λ y. p y && q y) xs) (filter (λ y. p y && q y) xs)) [
      | true ↦ elim (p x) as (λ b. cond b (x ∷ filter p (filter q xs)) (filter p (filter q xs)) ≡ cond (b && true) (x ∷ filter (λ y. p y && q y) xs) (filter (λ y. p y && q y) xs)) [ true ↦ ap (λ r. x ∷ r) rest | false ↦ rest ]
      | false ↦ elim (p x) as (λ b. filter p (filter q xs) ≡ cond (b && false) (x ∷ filter (λ y. p y && q y) xs) (filter (λ y. p y && q y) xs)) [ true ↦ rest | false ↦ rest ]
    ]

-- some pass a test exactly if it keeps some
any-kept : {X : Type 0} (p : X → Bool) (xs : List X) → list_any p xs ≡ not (eqb (length (filter p xs)) 0)
any-kept p [] = refl
any-kept p (x ∷ xs) =
    elim (p x) as (λ b. (b || list_any p xs) ≡ not (eqb (length (cond b (x ∷ filter p xs) (filter p xs))) 0)) [
      | true ↦ ap not (sym (ne_eqb (suc (length (filter p xs))) 0 (λ same. absurd (omega arith))))
      | false ↦ any-kept p xs
    ]

-- the empty set has no bits
pub ones-none : ones 0 ≡ 0
ones-none = let few : ones 0 ≤ 0 = ones-le 0 0 (pow_pos 0) in omega (arith, few)

-- a set of numbers below n has as many bits as numbers pass its test
pub ones-set_below : (n : ℕ) (f : ℕ → Bool) → ones (set_below n f) ≡ length (filter f (range_with_len 0 n))
unfolding set_below
ones-set_below zero f = ones-none
ones-set_below (suc n) f =
    top (f n) ∙ ap (λ k. k + length (last (f n))) (ones-set_below n f) ∙
    sym (ap (λ xs. length (filter f xs)) (range-more 0 n ∙ ap (λ k. range_with_len 0 n ++ k ∷ []) plain) ∙ ap length (filter-append f (range_with_len 0 n) (n ∷ [])) ∙ length-append (filter f (range_with_len 0 n)) (last (f n)))
  where
    plain : 0 + n ≡ n
    plain = omega arith

    last : Bool → List ℕ
    last b = cond b (n ∷ []) []

    top : (b : Bool) → ones (set_below n f + cond b (2 ^ n) 0) ≡ ones (set_below n f) + length (last b)
    top true =
        let e : set_below n f + 2 ^ n ≡ 1 * 2 ^ n + set_below n f = omega arith in
        let turned : 1 + ones (set_below n f) ≡ ones (set_below n f) + 1 = omega arith in
        ap ones e ∙ ones_cat n 1 (set_below n f) (set_below-lt n f) ∙ ap (λ k. k + ones (set_below n f)) (ones-ones 1) ∙
        turned
    top false =
        let e : set_below n f + 0 ≡ set_below n f = omega arith in
        let none : ones (set_below n f) ≡ ones (set_below n f) + 0 = omega arith in
        ap ones e ∙ none

-- the numbers in both of two sets
pub set_below-both : (n : ℕ) (f g : ℕ → Bool) → bit_and (set_below n f) (set_below n g) ≡ set_below n (λ k. f k && g k)
set_below-both n f g =
    set_below-is n _ (λ k. f k && g k) (and_lt n _ _ (set_below-lt n f) (set_below-lt n g))
    (λ k h. has-and _ _ k ∙ ap (λ b. b && has (set_below n g) k) (has-set_below n f k h) ∙ ap (λ b. f k && b) (has-set_below n g k h))

-- a set is empty exactly if it has no bits
empty-ones : (w : ℕ) → eqb w 0 ≡ eqb (ones w) 0
empty-ones w =
    ⊎_elim (λ none. ap (λ k. eqb k 0) none ∙ sym (ap (λ k. eqb (ones k) 0) none ∙ ap (λ k. eqb k 0) ones-none))
    (λ some. ne_eqb w 0 some ∙ sym (ne_eqb (ones w) 0 (λ none. some (zero_from_ones w none)))) (cases_eq w 0)

-- a port's transitions are the numbers of its set
pub numbers-set : (port : ℕ) (ts : List TransitionDefinition) → numbers_of port ts ≡ filter (is_of_port port ts) (range_with_len 0 (length ts))
numbers-set port ts =
    numbers-filter (is_of_port port ts) 0 port ts (λ i. ap (is_of_port port ts) (let e : 0 + i ≡ i = omega arith in e))

-- the set of a port that no transition has is empty
pub set_of_port-none : (ports port : ℕ) (ts : List TransitionDefinition) → list_all (λ t. ltb t.port ports) ts ≡ true → ports ≤ port → 0 ≡ set_of_port port ts
set_of_port-none ports port ts known past =
    sym (zero_from_ones (set_of_port port ts) (ones-set_below (length ts) (is_of_port port ts) ∙ ap length (sym (numbers-set port ts) ∙ numbers-none ports port 0 ts known past)))

-- of a set of transitions, those of a port
module _ (f : ℕ → Bool) (port : ℕ) (ts : List TransitionDefinition) where
  -- are as many as pass the set's test among the port's transitions
  pub ones-of_port : ones (bit_and (set_below (length ts) f) (set_of_port port ts)) ≡ length (filter f (numbers_of port ts))
  ones-of_port =
      ap ones (set_below-both (length ts) f (is_of_port port ts)) ∙ ones-set_below (length ts) (λ k. f k && is_of_port port ts k) ∙
      ap length (sym (ap (filter f) (numbers-set port ts) ∙ filter-filter f (is_of_port port ts) (range_with_len 0 (length ts))))

  -- and are none exactly if none of those passes
  pub any-of_port : not (eqb (bit_and (set_below (length ts) f) (set_of_port port ts)) 0) ≡ list_any f (numbers_of port ts)
  any-of_port =
      ap not (empty-ones _ ∙ ap (λ k. eqb k 0) ones-of_port) ∙ sym (any-kept f (numbers_of port ts))

  -- so there is one if one of those passes
  pub some-of_port : 0 < length (filter f (numbers_of port ts)) → 0 < bit_and (set_below (length ts) f) (set_of_port port ts)
  some-of_port some =
      ⊎_elim
      (λ none. absurd (omega (arith, some, sym ones-none ∙ ap ones (sym none) ∙ ones-of_port)))
      (λ filled. omega (arith, filled))
      (cases_eq (bit_and (set_below (length ts) f) (set_of_port port ts)) 0)

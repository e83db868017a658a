-- Where the first element of a list that passes a test stands.
use Rattle.std.proofs.Common.{◌≡◌, refl, ℕ, suc, ◌+◌, ◌<◌, Bool, true, false, not, ◌||◌, cond, List, [], ◌∷◌, length, map, Some, None, position, arith}
use Rattle.std.specs.Prelude.{nat_lt}
use Rattle.std.specs.List.{list_any, position_or_len}
use Rattle.std.proofs.Math.ListN.{length-map}
use Rattle.std.proofs.lemmas.Bool.{ltb-true, lt-ltb, false_from_ne_true, false≢true}
use Rattle.std.proofs.lemmas.Option.{cond_some}

-- where the first of mapped elements that passes a test stands
position_or_len_of_mapped : {X Y : Type 0} (f : X → Y) (test : Y → Bool) (xs : List X) → position_or_len (λ x. test (f x)) xs ≡ position_or_len test (map f xs)
position_or_len_of_mapped f test [] = refl
position_or_len_of_mapped f test (x ∷ xs) = simp (position_or_len_of_mapped f test xs)

-- the first of mapped elements that passes a test
pub position_of_mapped : {X Y : Type 0} (f : X → Y) (test : Y → Bool) (xs : List X) → position (λ x. test (f x)) xs ≡ position test (map f xs)
position_of_mapped f test xs = simp (position_or_len_of_mapped f test xs, length-map)

-- where the first that passes stands is within the list
pub position-within : {X : Type 0} (test : X → Bool) (xs : List X) (i : ℕ) → position test xs ≡ Some i → i < length xs
position-within test xs i is =
    let found = cond_some (nat_lt (position_or_len test xs) (length xs)) (position_or_len test xs) i is in
    omega (arith, ltb-true (position_or_len test xs) (length xs) found.0, found.1)

-- where one passes, the first is within the list
first_or_later : (b : Bool) (later : Bool) (first : ℕ) (n : ℕ) → (later ≡ true → first < n) → (b || later) ≡ true → cond (not b) (1 + first) 0 < suc n
first_or_later true later first n inside some = omega arith
first_or_later false later first n inside some = let there : first < n = inside some in omega (arith, there)

any-first : {X : Type 0} (test : X → Bool) (xs : List X) → list_any test xs ≡ true → position_or_len test xs < length xs
any-first test [] some = absurd (false≢true some)
any-first test (x ∷ xs) some = first_or_later (test x) (list_any test xs) (position_or_len test xs) (length xs) (λ later. any-first test xs later) some

-- if none is first, none passes
pub none-passes : {X : Type 0} (test : X → Bool) (xs : List X) → position test xs ≡ None → list_any test xs ≡ false
none-passes test xs none =
    false_from_ne_true (list_any test xs)
    (λ some. let there : nat_lt (position_or_len test xs) (length xs) ≡ true = lt-ltb _ _ (any-first test xs some) in
    absurd (no_none (nat_lt (position_or_len test xs) (length xs)) (position_or_len test xs) there none))
  where
    no_none : (b : Bool) (i : ℕ) → b ≡ true → ¬ (cond b (Some i) None ≡ None)
    no_none true i is none = cc
    no_none false i is none = false≢true is

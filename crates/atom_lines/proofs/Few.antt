-- Different numbers below a bound are no more than the bound.
use Rattle.std.proofs.Common.{◌≡◌, ◌∙◌, refl, sym, ap, ℕ, zero, suc, ◌≤◌, Bool, true, false, not, if◌then◌else◌, List, [], ◌∷◌, length, arith}
use Rattle.std.specs.Prelude.{nat_lt, nat_eq}
use Rattle.std.specs.List.{list_any}
use Rattle.std.proofs.lemmas.Bool.{and_parts, and_from, or_from, or_parts, not-true, not_from_false, ltb-true, lt-ltb, eqb-true, eqb-false}
use Rattle.petri_atom.specs.Definition.{are_below, is_each_once}

-- the numbers but one
without : ℕ → List ℕ → List ℕ
without n [] = []
without n (k ∷ ks) = if nat_eq k n then without n ks else (k ∷ without n ks)

-- a test of the numbers that one fails
none_without : (f : ℕ → Bool) (n : ℕ) (ks : List ℕ) → list_any f ks ≡ false → list_any f (without n ks) ≡ false
unfolding without
none_without f n [] none = refl
none_without f n (k ∷ ks) none =
    let parts = or_parts (f k) (list_any f ks) none in
    elim (nat_eq k n) as (λ b. list_any f (if b then without n ks else (k ∷ without n ks)) ≡ false) [
      | true ↦ none_without f n ks parts.1
      | false ↦ or_from _ _ parts.0 (none_without f n ks parts.1)
    ]

once_without : (n : ℕ) (ks : List ℕ) → is_each_once nat_eq ks ≡ true → is_each_once nat_eq (without n ks) ≡ true
unfolding without
once_without n [] once = refl
once_without n (k ∷ ks) once =
    let parts = and_parts (not (list_any (λ z. nat_eq z k) ks)) (is_each_once nat_eq ks) once in
    elim (nat_eq k n) as (λ b. is_each_once nat_eq (if b then without n ks else (k ∷ without n ks)) ≡ true) [
      | true ↦ once_without n ks parts.1
      | false ↦ and_from _ _ (not_from_false _ (none_without (λ z. nat_eq z k) n ks (not-true _ parts.0))) (once_without n ks parts.1)
    ]

-- a number that isn't there takes none away
all_kept : (n : ℕ) (ks : List ℕ) → list_any (λ z. nat_eq z n) ks ≡ false → without n ks ≡ ks
unfolding without
all_kept n [] none = refl
all_kept n (k ∷ ks) none =
    let parts = or_parts (nat_eq k n) (list_any (λ z. nat_eq z n) ks) none in
    ap (λ b. if b then without n ks else (k ∷ without n ks)) parts.0 ∙ ap (λ rest. k ∷ rest) (all_kept n ks parts.1)

one_fewer_at : (b : Bool) (n k : ℕ) (ks : List ℕ) → nat_eq k n ≡ b → list_any (λ z. nat_eq z k) ks ≡ false → length ks ≤ suc (length (without n ks)) →
    length (k ∷ ks) ≤ suc (length (if b then without n ks else (k ∷ without n ks)))
one_fewer_at true n k ks is none fewer =
    let same : without n ks ≡ ks = all_kept n ks (ap (λ m. list_any (λ z. nat_eq z m) ks) (sym (eqb-true k n is)) ∙ none) in
    omega (arith, ap length same)
one_fewer_at false n k ks is none fewer = omega (arith, fewer)

-- of different numbers, one at most is taken away
one_fewer : (n : ℕ) (ks : List ℕ) → is_each_once nat_eq ks ≡ true → length ks ≤ suc (length (without n ks))
unfolding without
one_fewer n [] once = omega arith
one_fewer n (k ∷ ks) once =
    let parts = and_parts (not (list_any (λ z. nat_eq z k) ks)) (is_each_once nat_eq ks) once in
    one_fewer_at (nat_eq k n) n k ks refl (not-true _ parts.0) (one_fewer n ks parts.1)

below_at : (b : Bool) (n k : ℕ) (ks : List ℕ) → nat_eq k n ≡ b → nat_lt k (suc n) ≡ true → are_below n (without n ks) ≡ true →
    are_below n (if b then without n ks else (k ∷ without n ks)) ≡ true
below_at true n k ks is first rest = rest
below_at false n k ks is first rest = and_from _ _ (lt-ltb k n (omega (arith, ltb-true k (suc n) first, eqb-false k n is))) rest

below_without : (n : ℕ) (ks : List ℕ) → are_below (suc n) ks ≡ true → are_below n (without n ks) ≡ true
unfolding without
below_without n [] below = refl
below_without n (k ∷ ks) below =
    let parts = and_parts (nat_lt k (suc n)) (are_below (suc n) ks) below in
    below_at (nat_eq k n) n k ks refl parts.0 (below_without n ks parts.1)

pub few_below : (bound : ℕ) (ks : List ℕ) → is_each_once nat_eq ks ≡ true → are_below bound ks ≡ true → length ks ≤ bound
few_below zero [] once below = omega arith
few_below zero (k ∷ ks) once below = absurd (omega (arith, ltb-true k 0 (and_parts (nat_lt k 0) (are_below 0 ks) below).0))
few_below (suc n) ks once below =
    omega (arith, one_fewer n ks once, few_below n (without n ks) (once_without n ks once) (below_without n ks below))

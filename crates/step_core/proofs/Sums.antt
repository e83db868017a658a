-- Sums of numbers of which one is set.
use Rattle.std.proofs.Common.{◌≡◌, ◌⊎◌, inl, inr, ℕ, zero, suc, ◌+◌, ◌*◌, ◌/◌, ◌<◌, ◌≤◌, refl, ap, sym, ◌∙◌, List, [], ◌∷◌, length, replicate, arith, ⊎_elim}
use Rattle.std.specs.Prelude.{slice_index_or, slice_set}
use Rattle.std.proofs.lemmas.Bool.{cases_eq, cases_lt}
use Rattle.std.proofs.lemmas.List.{get_or-set_other, get_or-set_same}
use Rattle.step_core.specs.Weights.{AreSums, sum_from, sum_of}
use Rattle.step_core.specs.declared.weights.Weights.{Weights}

-- each of them is no more than the sum
pub one-of-sum : (xs : List ℕ) (k : ℕ) → slice_index_or xs k 0 ≤ sum_of xs
one-of-sum [] k = omega arith
one-of-sum (x ∷ xs) zero = omega arith
one-of-sum (x ∷ xs) (suc k) = omega (arith, one-of-sum xs k)

-- one that is set takes the place of the old one
pub sum-set : (xs : List ℕ) (k y : ℕ) → k < length xs → sum_of (slice_set xs k y) + slice_index_or xs k 0 ≡ sum_of xs + y
sum-set [] k y within = absurd (omega (arith, within))
sum-set (x ∷ xs) zero y within = omega arith
sum-set (x ∷ xs) (suc k) y within = omega (arith, sum-set xs k y (omega (arith, within)))

-- ---- the sum of some of them

later-sum : (x : ℕ) (xs : List ℕ) (from count : ℕ) → sum_from (x ∷ xs) (suc from) count ≡ sum_from xs from count
later-sum x xs from zero = refl
later-sum x xs from (suc count) = ap (λ n. slice_index_or xs from 0 + n) (later-sum x xs (suc from) count)

-- it is no more than the sum of all
pub some-of-sum : (xs : List ℕ) (from count : ℕ) → sum_from xs from count ≤ sum_of xs
some-of-sum [] from zero = omega arith
some-of-sum [] from (suc count) = omega (arith, some-of-sum [] (suc from) count)
some-of-sum (x ∷ xs) zero zero = omega arith
some-of-sum (x ∷ xs) zero (suc count) = omega (arith, later-sum x xs 0 count, some-of-sum xs 0 count)
some-of-sum (x ∷ xs) (suc from) count = omega (arith, later-sum x xs from count, some-of-sum xs from count)

-- each of these is no more than it
pub one-of-some : (xs : List ℕ) (from count k : ℕ) → from ≤ k → k < from + count → slice_index_or xs k 0 ≤ sum_from xs from count
one-of-some xs from zero k low high = absurd (omega (arith, low, high))
one-of-some xs from (suc count) k low high =
    ⊎_elim
    (λ same. omega (arith, ap (λ n. slice_index_or xs n 0) same))
    (λ other. omega (arith, one-of-some xs (suc from) count k (omega (arith, low, other)) (omega (arith, high))))
    (cases_eq k from)

-- one that is set elsewhere changes nothing
pub some-other : (xs : List ℕ) (from count k y : ℕ) → (k < from) ⊎ (from + count ≤ k) → sum_from (slice_set xs k y) from count ≡ sum_from xs from count
some-other xs from zero k y out = refl
some-other xs from (suc count) k y out =
    let apart : from ≡ k → ⊥ = λ same. ⊎_elim (λ less. omega (arith, same, less)) (λ past. omega (arith, same, past)) out in
    let later : (k < suc from) ⊎ (suc from + count ≤ k) = ⊎_elim (λ less. inl (omega (arith, less))) (λ past. inr (omega (arith, past))) out in
    let head = get_or-set_other xs k from y 0 apart in
    omega (arith, head, some-other xs (suc from) count k y later)

-- and one of these that is set takes the place of the old one
pub some-set : (xs : List ℕ) (from count k y : ℕ) → from ≤ k → k < from + count → k < length xs → sum_from (slice_set xs k y) from count + slice_index_or xs k 0 ≡ sum_from xs from count + y
some-set xs from zero k y low high within = absurd (omega (arith, low, high))
some-set xs from (suc count) k y low high within =
    ⊎_elim
    (λ same.
    let head : slice_index_or (slice_set xs k y) from 0 ≡ y = ap (λ n. slice_index_or (slice_set xs k y) n 0) (sym same) ∙ get_or-set_same xs k y 0 within in
    let old : slice_index_or xs from 0 ≡ slice_index_or xs k 0 = ap (λ n. slice_index_or xs n 0) (sym same) in
    omega (arith, head, old, some-other xs (suc from) count k y (inl (omega (arith, same)))))
    (λ other.
    let apart : from ≡ k → ⊥ = λ same. other (sym same) in
    omega (arith, get_or-set_other xs k from y 0 apart, some-set xs (suc from) count k y (omega (arith, low, other)) (omega (arith, high)) within))
    (cases_eq k from)

-- where one of sixty-four is set, and with it the sum of its eight, each of the eight groups has its sum
pub groups-set : (xs groups : List ℕ) (k y new : ℕ) → length xs ≡ 64 → length groups ≡ 8 → k < 64 → ((g : ℕ) → slice_index_or groups g 0 ≡ sum_from xs (8 * g) 8)
    → new + slice_index_or xs k 0 ≡ slice_index_or groups (k / 8) 0 + y → (g : ℕ) → slice_index_or (slice_set groups (k / 8) new) g 0 ≡ sum_from (slice_set xs k y) (8 * g) 8
groups-set xs groups k y new long many within are is g =
    ⊎_elim
    (λ same.
    let head : slice_index_or (slice_set groups (k / 8) new) g 0 ≡ new = ap (λ n. slice_index_or (slice_set groups (k / 8) new) n 0) same ∙ get_or-set_same groups (k / 8) new 0 (omega (arith, many, within)) in
    let old : slice_index_or groups (k / 8) 0 ≡ sum_from xs (8 * g) 8 = ap (λ n. slice_index_or groups n 0) (sym same) ∙ are g in
    let set = some-set xs (8 * g) 8 k y (omega (arith, same)) (omega (arith, same)) (omega (arith, long, within)) in
    omega (arith, head, old, set, is))
    (λ other.
    let out : (k < 8 * g) ⊎ (8 * g + 8 ≤ k) = ⊎_elim (λ less. inl less) (λ past. inr (omega (arith, other, past))) (cases_lt k (8 * g)) in
    get_or-set_other groups (k / 8) g new 0 other ∙ are g ∙ sym (some-other xs (8 * g) 8 k y out))
    (cases_eq g (k / 8))

-- ---- zeros

abbrev pub zeros : ℕ → List ℕ
zeros n = replicate n 0

pub zero-at : (n k : ℕ) → slice_index_or (zeros n) k 0 ≡ 0
zero-at zero k = refl
zero-at (suc n) zero = refl
zero-at (suc n) (suc k) = zero-at n k

pub zero-some : (n from count : ℕ) → sum_from (zeros n) from count ≡ 0
zero-some n from zero = refl
zero-some n from (suc count) = omega (arith, zero-at n from, zero-some n (suc from) count)

-- ---- the sum of those before one

sum-joined : (xs : List ℕ) (from some more : ℕ) → sum_from xs from (some + more) ≡ sum_from xs from some + sum_from xs (from + some) more
sum-joined xs from zero more =
    let e : from ≡ from + 0 = omega arith in
    let n : 0 + more ≡ more = omega arith in
    omega (arith, ap (sum_from xs from) n, ap (λ k. sum_from xs k more) e)
sum-joined xs from (suc some) more =
    let e : suc from + some ≡ from + suc some = omega arith in
    let n : suc some + more ≡ suc (some + more) = omega arith in
    omega (arith, ap (sum_from xs from) n, sum-joined xs (suc from) some more, ap (λ k. sum_from xs k more) e)

-- with one or with eight more
pub sum-before-next : (xs : List ℕ) (k : ℕ) → sum_from xs 0 (k + 1) ≡ sum_from xs 0 k + slice_index_or xs k 0
sum-before-next xs k = let e : 0 + k ≡ k = omega arith in omega (arith, sum-joined xs 0 k 1, ap (λ n. slice_index_or xs n 0) e)

pub sum-before-group : (xs : List ℕ) (group : ℕ) → sum_from xs 0 (8 * (group + 1)) ≡ sum_from xs 0 (8 * group) + sum_from xs (8 * group) 8
sum-before-group xs group =
    let e : 8 * (group + 1) ≡ 8 * group + 8 = omega arith in
    let start : 0 + 8 * group ≡ 8 * group = omega arith in
    ap (sum_from xs 0) e ∙ sum-joined xs 0 (8 * group) 8 ∙ ap (λ k. sum_from xs 0 (8 * group) + sum_from xs k 8) start

-- the sum of those before the end, or more, is that of all
sum-to-end : (xs : List ℕ) (k : ℕ) → length xs ≤ k → sum_of xs ≤ sum_from xs 0 k
sum-to-end [] k past = omega arith
sum-to-end (x ∷ xs) zero past = absurd (omega (arith, past))
sum-to-end (x ∷ xs) (suc k) past = omega (arith, later-sum x xs 0 k, sum-to-end xs k (omega (arith, past)))

-- so where a place below the sum of all is not below that of those before one, this one is there
one-there : (xs : List ℕ) (k left place : ℕ) → place < sum_of xs → place ≡ sum_from xs 0 k + left → k < length xs
one-there xs k left place below is =
    ⊎_elim (λ there. there) (λ past. absurd (omega (arith, below, is, sum-to-end xs k past))) (cases_lt k (length xs))

-- the same by the weights: the connector is below 64, and a group of which it is the first is below 8
pub small-connector : (w : Weights) (sums : AreSums w) (k left place : ℕ) → place < w.total → place ≡ sum_from w.of_connectors 0 k + left → k < 64
small-connector w sums k left place below is = omega (arith, one-there w.of_connectors k left place (omega (arith, below, sums.total)) is, sums.many)

pub small-group : (w : Weights) (sums : AreSums w) (group left place : ℕ) → place < w.total → place ≡ sum_from w.of_connectors 0 (8 * group) + left → group < 8
small-group w sums group left place below is = omega (arith, small-connector w sums (8 * group) left place below is)

-- no weight is more than the total, and no sum of a group
pub weight-in-total : (w : Weights) (sums : AreSums w) (k : ℕ) → slice_index_or w.of_connectors k 0 ≤ w.total
weight-in-total w sums k = omega (arith, one-of-sum w.of_connectors k, sums.total)

pub group-in-total : (w : Weights) (sums : AreSums w) (group : ℕ) → slice_index_or w.groups group 0 ≤ w.total
group-in-total w sums group = omega (arith, some-of-sum w.of_connectors (8 * group) 8, sums.groups group, sums.total)

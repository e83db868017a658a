-- Counting how often numbers came.
use Rattle.std.proofs.Common.{◌≡◌, ◌+◌, ◌-◌, ◌^◌, ◌<◌, ◌≤◌, ◌∙◌, ℕ, suc, refl, sym, ap, subst, arith, inl, inr, cond, eqb, min, List, [], ◌∷◌, length, filter, get_or, set, replicate}
use Rattle.std.proofs.lemmas.Bool.{cases_eq, eq-eqb, ne_eqb}
use Rattle.std.proofs.lemmas.List.{get_or-replicate, get_or-set_other, get_or-set_same, length-replicate, length-set}
use Rattle.std.proofs.lemmas.List.FromFn.{fill_by_all, get_or-map-range_with_len, length-map-range_with_len}
use Rattle.run_summary.specs.Counts.{counts_of, kept, times}

-- a number that comes once more is counted
times-same : (k : ℕ) (numbers : List ℕ) → times k (k ∷ numbers) ≡ min (times k numbers + 1) (2 ^ 64 - 1)
times-same k numbers =
    let often = length (filter (λ n. eqb n k) numbers) in
    let more : min (suc often) (2 ^ 64 - 1) ≡ min (min often (2 ^ 64 - 1) + 1) (2 ^ 64 - 1) = omega arith in
    ap (λ b. kept (length (cond b (k ∷ filter (λ n. eqb n k) numbers) (filter (λ n. eqb n k) numbers)))) (eq-eqb k k refl) ∙ more

-- and no other is
times-other : (j k : ℕ) (numbers : List ℕ) → (k ≡ j → ⊥) → times j (k ∷ numbers) ≡ times j numbers
times-other j k numbers other = ap (λ b. kept (length (cond b (k ∷ filter (λ n. eqb n j) numbers) (filter (λ n. eqb n j) numbers)))) (ne_eqb k j other)

-- the count of a number below the bound
count-at : (bound : ℕ) (numbers : List ℕ) (j : ℕ) → j < bound → get_or (counts_of bound numbers) j 0 ≡ times j numbers
count-at bound numbers j below = get_or-map-range_with_len (λ k. times k numbers) 0 bound j j 0 below (omega arith)

-- none came yet
pub counted-none : (bound : ℕ) → replicate bound 0 ≡ counts_of bound []
counted-none bound = fill_by_all (λ k. times k []) (replicate bound 0) bound 0 (length-replicate bound 0) (λ k below. get_or-replicate bound k 0 0 below)

-- a number below the bound came once more
pub counted-more : (bound k : ℕ) (numbers counts : List ℕ) (count : ℕ) → counts ≡ counts_of bound numbers → k < bound
    → count ≡ min (get_or counts k 0 + 1) (2 ^ 64 - 1) → set counts k count ≡ counts_of bound (k ∷ numbers)
counted-more bound k numbers counts count known below is =
    let long : length counts ≡ bound = ap length known ∙ length-map-range_with_len (λ j. times j numbers) 0 bound in
    let at : (j : ℕ) → j < bound → get_or counts j 0 ≡ times j numbers = λ j within. ap (λ xs. get_or xs j 0) known ∙ count-at bound numbers j within in
    let here : get_or (set counts k count) k 0 ≡ times k (k ∷ numbers) =
    get_or-set_same counts k count 0 (omega (arith, long, below)) ∙ is ∙ ap (λ n. min (n + 1) (2 ^ 64 - 1)) (at k below) ∙ sym (times-same k numbers) in
    fill_by_all (λ j. times j (k ∷ numbers)) (set counts k count) bound 0 (length-set counts k count ∙ long) (λ j within.
    elim (cases_eq j k) [
      | inl same ↦ subst (λ i. get_or (set counts k count) i 0 ≡ times i (k ∷ numbers)) (sym same) here
      | inr other ↦ get_or-set_other counts k j count 0 other ∙ at j within ∙ sym (times-other j k numbers (λ same. other (sym same)))
    ])

-- one that is not below the bound changes nothing
pub counted-past : (bound k : ℕ) (numbers : List ℕ) → bound ≤ k → counts_of bound numbers ≡ counts_of bound (k ∷ numbers)
counted-past bound k numbers past =
    fill_by_all (λ j. times j (k ∷ numbers)) (counts_of bound numbers) bound 0 (length-map-range_with_len (λ j. times j numbers) 0 bound) (λ j within.
    count-at bound numbers j within ∙ sym (times-other j k numbers (λ same. absurd (omega (arith, same, within, past)))))

-- there are as many counts as numbers below the bound
pub counts-long : (bound : ℕ) (numbers : List ℕ) → length (counts_of bound numbers) ≡ bound
counts-long bound numbers = length-map-range_with_len (λ k. times k numbers) 0 bound

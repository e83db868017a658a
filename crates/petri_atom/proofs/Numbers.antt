use Rattle.std.proofs.Common.{◌≡◌, ℕ, zero, suc, ◌+◌, ◌-◌, ◌<◌, ◌≤◌, true, cond, ltb, refl, ◌∙◌, ap, arith, List, [], ◌∷◌, ◌++◌, get_or, length, ⊎_elim}
use Rattle.std.specs.List.{list_all}
use Rattle.std.proofs.lemmas.Bool.{and_parts, ltb-true, ne_eqb, cases_lt}
use Rattle.std.proofs.lemmas.List.{length-append, get_or_append_left, get_or-append_right}
use Rattle.petri_atom.specs.Definition.{TransitionDefinition, numbers_from}
use Rattle.petri_atom.specs.Parts.{table_below}

-- no transition has a port past those that are there
pub numbers-none : (ports port n : ℕ) (ts : List TransitionDefinition) → list_all (λ t. ltb t.port ports) ts ≡ true → ports ≤ port → numbers_from n port ts ≡ []
numbers-none ports port n [] known past = refl
numbers-none ports port n (t ∷ ts) known past =
    let parts = and_parts (ltb t.port ports) (list_all (λ u. ltb u.port ports) ts) known in
    let below : t.port < ports = ltb-true t.port ports parts.0 in
    ap (λ b. cond b (n ∷ numbers_from (suc n) port ts) (numbers_from (suc n) port ts)) (ne_eqb t.port port (λ same. absurd (omega arith))) ∙
    numbers-none ports port (suc n) ts parts.1 past

-- a table has an entry for each number below its bound
pub length-table_below : {X : Type 0} (of : ℕ → X) (n : ℕ) → length (table_below of n) ≡ n
length-table_below of zero = refl
length-table_below of (suc n) =
    length-append (table_below of n) (of n ∷ []) ∙ ap (λ k. k + 1) (length-table_below of n) ∙ omega arith

-- and it is what belongs to the number
pub get_or-table_below : {X : Type 0} (of : ℕ → X) (none : X) (n i : ℕ) → i < n → get_or (table_below of n) i none ≡ of i
get_or-table_below of none zero i within = absurd (omega arith)
get_or-table_below of none (suc n) i within =
    let before : i < n → get_or (table_below of n ++ of n ∷ []) i none ≡ of i =
    λ h. get_or_append_left (table_below of n) (of n ∷ []) none i (omega (arith, length-table_below of n)) ∙ get_or-table_below of none n i h in
    let last : n ≤ i → get_or (table_below of n ++ of n ∷ []) i none ≡ of i =
    λ h. let here : i - n ≡ 0 = omega arith in
    let same : n ≡ i = omega arith in
    get_or-append_right (table_below of n) (of n ∷ []) n i none (length-table_below of n) h ∙
    ap (λ k. get_or (of n ∷ []) k none) here ∙ ap of same in
    ⊎_elim before last (cases_lt i n)

-- The faults that were found, and those that are behind them.
use Rattle.std.proofs.Common.{◌≡◌, ◌≢◌, refl, ◌<◌, ◌≤◌, arith, ℕ, zero, suc, List, [], ◌∷◌, Option, Some, None, ◌++◌, ◌-◌, ◌+◌, ◌∙◌, ap, sym}
use Rattle.std.proofs.lemmas.List.{append-nil, append_assoc}
use Rattle.plant_text.specs.declared.fault.PlantFault.{PlantFault}
use Rattle.line_faults.specs.Blank.{without_line}
use Rattle.line_faults.specs.Faults.{fault_in, faults_in, behind_line, with_those_behind}

-- behind a fault of a line stand those of the text with that line blank
pub behind-line : (number : ℕ) (behind : ℕ → List PlantFault) → number ≢ 0 → behind_line number behind ≡ behind number
behind-line zero behind within = absurd (within refl)
behind-line (suc number) behind within = refl

-- where faults may still be looked for, they are the first one and those behind it
faults-first : (most : ℕ) (text : List ℕ) (found : Option PlantFault) → 0 < most → found ≡ fault_in text
    → faults_in most text ≡ with_those_behind found (λ number. faults_in (most - 1) (without_line number text))
unfolding faults_in
faults-first zero text found within is = absurd (omega arith)
faults-first (suc most) text found within is =
    let less : most ≡ suc most - 1 = omega arith in
    ap (λ fault. with_those_behind fault (λ number. faults_in most (without_line number text))) (sym is) ∙
    ap (λ n. with_those_behind found (λ number. faults_in n (without_line number text))) less

-- the faults that were found, where none is behind them
pub no_fault_left : (most index : ℕ) (text : List ℕ) (found faults : List PlantFault) → index < most → None ≡ fault_in text
    → found ++ faults_in (most - index) text ≡ faults → found ≡ faults
no_fault_left most index text found faults within is kept =
    sym (append-nil found) ∙ ap (λ xs. found ++ xs) (sym (faults-first (most - index) text None (omega arith) is)) ∙ kept

-- the faults that were found, where the next is of no line
pub last_fault : (most index : ℕ) (text : List ℕ) (fault : PlantFault) (found faults : List PlantFault) → index < most → Some fault ≡ fault_in text
    → fault.line ≡ 0 → found ++ faults_in (most - index) text ≡ faults → found ++ fault ∷ [] ≡ faults
last_fault most index text fault found faults within is of_none kept =
    ap (λ line. found ++ fault ∷ behind_line line (λ number. faults_in (most - index - 1) (without_line number text))) (sym of_none) ∙
    ap (λ xs. found ++ xs) (sym (faults-first (most - index) text (Some fault) (omega arith) is)) ∙ kept

-- the faults that were found, where the next is of a line
pub one_fault_more : (most index : ℕ) (text : List ℕ) (fault : PlantFault) (found faults : List PlantFault) → index < most → Some fault ≡ fault_in text
    → fault.line ≢ 0 → found ++ faults_in (most - index) text ≡ faults
    → (found ++ fault ∷ []) ++ faults_in (most - (index + 1)) (without_line fault.line text) ≡ faults
one_fault_more most index text fault found faults within is of_line kept =
    let left : most - (index + 1) ≡ most - index - 1 = omega arith in
    append_assoc found (fault ∷ []) (faults_in (most - (index + 1)) (without_line fault.line text)) ∙
    ap (λ n. found ++ fault ∷ faults_in n (without_line fault.line text)) left ∙
    ap (λ xs. found ++ fault ∷ xs) (sym (behind-line fault.line (λ number. faults_in (most - index - 1) (without_line number text)) of_line)) ∙
    ap (λ xs. found ++ xs) (sym (faults-first (most - index) text (Some fault) (omega arith) is)) ∙ kept

-- the faults that were found, where no more are looked for
pub no_more_faults : (most index : ℕ) (text : List ℕ) (found faults : List PlantFault) → most ≤ index
    → found ++ faults_in (most - index) text ≡ faults → found ≡ faults
unfolding faults_in
no_more_faults most index text found faults all kept =
    let none : 0 ≡ most - index = omega arith in
    sym (append-nil found) ∙ ap (λ n. found ++ faults_in n text) none ∙ kept

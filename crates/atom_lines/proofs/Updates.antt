-- Updates, as they are read one after another.
use Rattle.std.proofs.Common.{◌≡◌, ℕ, zero, suc, ◌-◌, ◌<◌, List, [], ◌∷◌, ◌++◌, Bool, true, false, drop, Ok, Err, codes, refl, arith}
use Rattle.petri_atom.specs.Definition.{AtomDefinition, UpdateDefinition}
use Rattle.plant_words.specs.declared.line_fault.LineFault.{LineFault}
use Rattle.plant_words.specs.declared.line_fault.LineFault.TheVariants.{Limit}
use Rattle.atom_lines.specs.Reading.{goes_on}
use Rattle.atom_lines.specs.Transitions.{update_in, updates_from}

-- where the line ends, the updates are those before
pub no_more_updates : (a : AtomDefinition) (left : ℕ) (before : List UpdateDefinition) (words : List (List ℕ)) → updates_from a left before false words ≡ Ok before
unfolding updates_from
no_more_updates a zero before words = refl
no_more_updates a (suc left) before words = refl

-- if no more may come, the line may not go on
pub one_update_too_many : (a : AtomDefinition) (left : ℕ) (before : List UpdateDefinition) (words : List (List ℕ)) → left ≡ 0 → updates_from a left before true words ≡ Err Limit
unfolding updates_from
one_update_too_many a left before words none = rw none refl

-- the fault of the first update
pub fault_in_update : (a : AtomDefinition) (left : ℕ) (before : List UpdateDefinition) (words : List (List ℕ)) (fault : LineFault) → 0 < left → update_in a words ≡ Err fault → updates_from a left before true words ≡ Err fault
unfolding updates_from
fault_in_update a zero before words fault some read = absurd (omega arith)
fault_in_update a (suc left) before words fault some read = rw read refl

-- the fault of the word after the first update
pub fault_after_update : (a : AtomDefinition) (left : ℕ) (before : List UpdateDefinition) (words : List (List ℕ)) (update : UpdateDefinition) (rest : List (List ℕ)) (fault : LineFault) → 0 < left → update_in a words ≡ Ok (update, rest) → goes_on (codes ";") rest ≡ Err fault → updates_from a left before true words ≡ Err fault
unfolding updates_from
fault_after_update a zero before words update rest fault some read behind = absurd (omega arith)
fault_after_update a (suc left) before words update rest fault some read behind = rw read (rw behind refl)

-- the updates after the first one
pub updates_after_update : (a : AtomDefinition) (left : ℕ) (before : List UpdateDefinition) (words : List (List ℕ)) (update : UpdateDefinition) (rest : List (List ℕ)) (more : Bool) → 0 < left → update_in a words ≡ Ok (update, rest) → goes_on (codes ";") rest ≡ Ok more → updates_from a left before true words ≡ updates_from a (left - 1) (before ++ update ∷ []) more (drop 1 rest)
unfolding updates_from
updates_after_update a zero before words update rest more some read behind = absurd (omega arith)
updates_after_update a (suc left) before words update rest more some read behind =
    let one_less : suc left - 1 ≡ left = omega arith in
    rw one_less (rw read (rw behind refl))

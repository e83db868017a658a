-- The line that is shown is the one that has the fault.
use Rattle.std.proofs.Common.{◌≡◌, subst, ℕ, List, Option, Some, None}
use Rattle.plant_text.specs.declared.fault.PlantFault.{PlantFault}
use Rattle.shown_fault.specs.Explanation.{explanation_of, Explains}

-- the line that was found is the one that has the fault
pub line_explained : (path : List ℕ) (lines : List (List ℕ)) (found : PlantFault) (line : List ℕ) (at : Option (List ℕ)) (start len : ℕ) (shown : List ℕ) →
    Some line ≡ at → shown ≡ explanation_of path lines found line start len → Explains path lines found at shown
line_explained path lines found line at start len shown here is = subst (λ at. Explains path lines found at shown) here (start, len, is)

-- no line was found, and none has the fault
pub no_line_explained : (path : List ℕ) (lines : List (List ℕ)) (found : PlantFault) (at : Option (List ℕ)) (shown : List ℕ) → None ≡ at → Explains path lines found at shown
no_line_explained path lines found at shown none = subst (λ at. Explains path lines found at shown) none tt

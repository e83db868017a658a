-- The faults of a plant text, that of each line which has one.
use Rattle.std.specs.Prelude.{ℕ, zero, suc, List, [], ◌∷◌, Option, Some, None}
use Rattle.std.specs.Result.{result_err}
use Rattle.plant_text.specs.Meaning.{meaning}
use Rattle.plant_text.specs.declared.fault.PlantFault.{PlantFault}
use Rattle.line_faults.specs.Blank.{without_line}

-- the first fault of a text; none if the text means a plant
unfoldable pub fault_in : List ℕ → Option PlantFault
fault_in text = result_err (meaning text)

-- what is found once the line with this number is blank; nothing where the fault is of no line, number 0
abbrev pub behind_line : ℕ → (ℕ → List PlantFault) → List PlantFault
behind_line zero behind = []
behind_line (suc number) behind = behind (suc number)

-- a fault, and those behind it
abbrev pub with_those_behind : Option PlantFault → (ℕ → List PlantFault) → List PlantFault
with_those_behind None behind = []
with_those_behind (Some fault) behind = fault ∷ behind_line fault.line behind

-- The faults of a text, so many at most: the first one, and then those of the text with the line of that fault blank. So a line with a
-- fault counts as empty: what it would declare is not known to the lines after it.
unfoldable pub faults_in : ℕ → List ℕ → List PlantFault
faults_in zero text = []
faults_in (suc most) text = with_those_behind (fault_in text) (λ number. faults_in most (without_line number text))

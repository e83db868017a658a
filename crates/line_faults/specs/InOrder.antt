-- Faults in the order of their lines.
use Rattle.std.specs.Prelude.{◌≡◌, ℕ, ◌<◌, ◌⊎◌, List, [], ◌∷◌}
use Rattle.plant_text.specs.declared.fault.PlantFault.{PlantFault}

-- Each of the faults is of a line after this one, and after the line of the fault before it. The last may be of no line.
abbrev pub StandAfter : ℕ → List PlantFault → Type 0
StandAfter line [] = Unit {0}
StandAfter line (fault ∷ faults) = ((fault.line ≡ 0) × (faults ≡ [])) ⊎ ((line < fault.line) × StandAfter fault.line faults)

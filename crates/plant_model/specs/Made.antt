use Rattle.std.specs.Prelude.{List, map}
use Rattle.petri_atom.specs.Atom.{definition_of}
use Rattle.petri_atom.specs.declared.atom.Atom.{Atom}
use Rattle.priority_filter.specs.declared.rule.Rule.{Rule}
use Rattle.plant_model.specs.Plant.{PlantDefinition}
use Rattle.plant_model.specs.Wire.{wire_of}
use Rattle.plant_model.specs.declared.wire.Wire.{Wire}

-- the plant that is made of these atoms, wires and rules
abbrev pub plant_by : List Atom → List Wire → List Rule → PlantDefinition
plant_by atoms wires rules = record { atoms = map definition_of atoms; wires = map wire_of wires; rules = rules }

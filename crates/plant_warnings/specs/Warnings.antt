-- All warnings of a plant, and their text.
use Rattle.std.specs.Prelude.{ℕ, List, ◌++◌, flat_map}
use Rattle.plant_model.specs.Plant.{PlantDefinition}
use Rattle.text_io.specs.Numbered.{numbered}
use Rattle.part_lines.specs.declared.table.PartLine.{PartLine}
use Rattle.plant_warnings.specs.Atoms.{atom_warnings}
use Rattle.plant_warnings.specs.Connectors.{connector_warnings}
use Rattle.plant_warnings.specs.Lines.{warning_line}
use Rattle.plant_warnings.specs.Rules.{rule_warnings}
use Rattle.plant_warnings.specs.declared.warning.Warning.{Warning}

-- the warnings of a plant: those of its atoms, its connectors and its rules, each in written order
abbrev pub warnings_of : PlantDefinition → List Warning
warnings_of plant =
    numbered (atom_warnings plant) 0 plant.atoms ++
    numbered connector_warnings 0 plant.wires ++
    numbered (rule_warnings plant) 0 plant.rules

-- the text of the warnings of a plant, each on a line, of the text with this path whose parts stand on these lines
abbrev pub warnings_text : PlantDefinition → List PartLine → List ℕ → List ℕ
warnings_text plant lines path = flat_map (warning_line plant lines path) (warnings_of plant)

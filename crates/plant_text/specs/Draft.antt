-- The plant so far.
use Rattle.plant_text.specs.Text.{PlantText}
use Rattle.plant_text.specs.Parts.{plant_drafted}
use Rattle.plant_text.specs.declared.draft.PlantDraft.{PlantDraft}

-- the plant as its lines have written it so far
abbrev pub drafted : PlantDraft → PlantText
drafted d = plant_drafted d.atoms.items d.wires.items d.rules.items

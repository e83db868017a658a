-- What is made so far of the parts of a plant.
use Rattle.std.specs.Prelude.{List, map}
use Rattle.priority_filter.specs.declared.rule.Rule.{Rule}
use Rattle.atom_lines.specs.declared.draft.AtomDraft.{AtomDraft}
use Rattle.atom_lines.specs.Draft as atom
use Rattle.plant_model.specs.Plant.{WireDefinition}
use Rattle.connector_lines.specs.Draft as wire
use Rattle.plant_text.specs.Text.{WireText, PlantText}
use Rattle.plant_text.specs.Wires.{wire_drafted}
use Rattle.plant_text.specs.declared.listed.ListedWire.{ListedWire}

-- the connector of a draft beside which its interactions are listed
abbrev pub wire_defined : ListedWire → WireDefinition
wire_defined w = wire.drafted w.draft

-- the same as it was written
abbrev pub wire_listed : ListedWire → WireText
wire_listed w = wire_drafted w.draft

-- the plant of these atoms, connectors and rules, as it was written
abbrev pub plant_drafted : List AtomDraft → List ListedWire → List Rule → PlantText
plant_drafted atoms wires rules = record { atoms = map atom.drafted atoms; wires = map wire_listed wires; rules = rules }

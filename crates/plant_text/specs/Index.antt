-- The names by which atoms and connectors are found.
use Rattle.std.specs.Prelude.{ℕ, List, map}
use Rattle.atom_lines.specs.declared.draft.AtomDraft.{AtomDraft}
use Rattle.atom_lines.specs.Draft as atom
use Rattle.plant_text.specs.Parts.{wire_listed}
use Rattle.plant_text.specs.declared.listed.ListedWire.{ListedWire}

-- the names of atoms, in order
abbrev pub names_of_atoms : List AtomDraft → List (List ℕ)
names_of_atoms drafts = map (λ d. (atom.drafted d).name) drafts

-- the names of connectors, in order
abbrev pub names_of_wires : List ListedWire → List (List ℕ)
names_of_wires wires = map (λ w. (wire_listed w).name) wires

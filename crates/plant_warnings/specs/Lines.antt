-- The lines on which warnings are printed.
use Rattle.std.specs.Prelude.{ℕ, Bool, if◌then◌else◌, List, [], ◌∷◌, ◌++◌, codes, decimal, Option, unwrap_or}
use Rattle.plant_model.specs.Plant.{PlantDefinition}
use Rattle.plant_words.specs.declared.line_kind.AtomPart.TheVariants.{Place, Variable, Port}
use Rattle.plant_words.specs.declared.line_kind.WirePart.TheVariants.{Guard}
use Rattle.part_lines.specs.Lookup.{atom_line, atom_part_line, connector_part_line, rule_line}
use Rattle.part_lines.specs.declared.table.PartLine.{PartLine}
use Rattle.plant_warnings.specs.Messages.{message_of}
use Rattle.plant_warnings.specs.declared.warning.Warning.{Warning}
use Rattle.plant_warnings.specs.declared.warning.Warning.TheVariants.{NoMarkedPlace, PortInNoConnector, PortWithoutTransition, PlaceNeverMarked, VariableNeverRead, ZeroGuard, NothingWithin, DeadSide}

-- the warning, if it applies
abbrev pub warned_if : Bool → Warning → List Warning
warned_if applies warning = if applies then warning ∷ [] else []

-- the line of the part that a warning is about, if the table has it
abbrev pub found_line : List PartLine → Warning → Option ℕ
found_line lines (NoMarkedPlace atom) = atom_line lines atom
found_line lines (PortInNoConnector atom port) = atom_part_line lines atom Port port
found_line lines (PortWithoutTransition atom port) = atom_part_line lines atom Port port
found_line lines (PlaceNeverMarked atom place) = atom_part_line lines atom Place place
found_line lines (VariableNeverRead atom variable) = atom_part_line lines atom Variable variable
found_line lines (ZeroGuard connector guard) = connector_part_line lines connector Guard guard
found_line lines (NothingWithin rule connector) = rule_line lines rule
found_line lines (DeadSide rule connector) = rule_line lines rule

-- the same, and 0 if the table does not have it
abbrev pub line_of : List PartLine → Warning → ℕ
line_of lines warning = unwrap_or (found_line lines warning) 0

-- where the part stands that a warning is about: the path of the text, and the line
abbrev pub position_text : List PartLine → List ℕ → Warning → List ℕ
position_text lines path warning = path ++ codes ":" ++ decimal (line_of lines warning)

-- the line of a warning: where its part stands, and what it says
abbrev pub warning_line : PlantDefinition → List PartLine → List ℕ → Warning → List ℕ
warning_line plant lines path warning =
    position_text lines path warning ++ codes ": warning: " ++ message_of plant warning ++ codes "\n"

-- The line of a part, as it is looked up in a table.
use Rattle.std.specs.Prelude.{ℕ, zero, suc, not, if◌then◌else◌, List, [], ◌∷◌, map, filter, slice_get, Option}
use Rattle.std.specs.List.{take_while}
use Rattle.plant_words.specs.declared.line_kind.AtomPart.{AtomPart}
use Rattle.plant_words.specs.declared.line_kind.WirePart.{WirePart}
use Rattle.plant_words.specs.declared.line_kind.RuleKind.TheVariants.{Priority}
use Rattle.plant_words.specs.declared.line_kind.LineKind.{LineKind}
use Rattle.plant_words.specs.declared.line_kind.LineKind.TheVariants.{Atom, Connector, OfAtom, OfConnector, Rule}
use Rattle.part_lines.specs.Kind.{is_same_kind}
use Rattle.part_lines.specs.Table.{part_lines}
use Rattle.part_lines.specs.declared.table.PartLine.{PartLine}

-- the lines of the parts of a kind, in order
abbrev pub lines_of_kind : LineKind → List PartLine → List ℕ
lines_of_kind kind entries = map (λ entry. entry.line) (filter (λ entry. is_same_kind entry.kind kind) entries)

-- the line of the part with a number among those of the kind
abbrev pub line_at : LineKind → ℕ → List PartLine → Option ℕ
line_at kind number entries = slice_get (lines_of_kind kind entries) number

-- the entries after the one with a number among those of the kind; none if it is not there
abbrev pub behind : LineKind → ℕ → List PartLine → List PartLine
behind kind number [] = []
behind kind zero (entry ∷ entries) = if is_same_kind entry.kind kind then entries else behind kind zero entries
behind kind (suc number) (entry ∷ entries) =
    if is_same_kind entry.kind kind then behind kind number entries else behind kind (suc number) entries

-- those of them before the next one of the kind
abbrev pub own_parts : LineKind → ℕ → List PartLine → List PartLine
own_parts kind number entries = take_while (λ entry. not (is_same_kind entry.kind kind)) (behind kind number entries)

-- the line of an atom: the one with its number among those that add an atom
abbrev pub atom_line : List PartLine → ℕ → Option ℕ
atom_line table atom = line_at Atom atom table

-- the line of a part of it: the one with its number among those of the part's kind that stand after the line of the atom and before
-- that of the next one
abbrev pub atom_part_line : List PartLine → ℕ → AtomPart → ℕ → Option ℕ
atom_part_line table atom part number = line_at (OfAtom part) number (own_parts Atom atom table)

-- the line of a connector: the one with its number among those that add a connector
abbrev pub connector_line : List PartLine → ℕ → Option ℕ
connector_line table connector = line_at Connector connector table

-- the line of a part of it: the one with its number among those of the part's kind that stand after the line of the connector and
-- before that of the next one
abbrev pub connector_part_line : List PartLine → ℕ → WirePart → ℕ → Option ℕ
connector_part_line table connector part number = line_at (OfConnector part) number (own_parts Connector connector table)

-- the line of a rule: the one with its number among those that add a rule of either kind
abbrev pub rule_line : List PartLine → ℕ → Option ℕ
rule_line table rule = line_at (Rule Priority) rule table

-- the lines of the rules of a text, in order
abbrev pub rule_lines : List ℕ → List ℕ
rule_lines text = lines_of_kind (Rule Priority) (part_lines text)

-- Worked examples of the definitions, as computed facts.
use Rattle.std.proofs.Common.{◌≡◌, refl, ℕ, List, [], ◌∷◌, ◌++◌, map, codes, Some, None}
use Rattle.plant_words.specs.declared.line_kind.AtomPart.TheVariants.{Place, Variable, Port, Transition}
use Rattle.plant_words.specs.declared.line_kind.WirePart.TheVariants.{Guard, Transfer}
use Rattle.plant_words.specs.declared.line_kind.RuleKind.TheVariants.{Priority, Maximal}
use Rattle.plant_words.specs.declared.line_kind.LineKind.{LineKind}
use Rattle.plant_words.specs.declared.line_kind.LineKind.TheVariants.{Atom, Connector, OfAtom, OfConnector, Rule}
use Rattle.part_lines.specs.Table.{next_number, part_lines}
use Rattle.part_lines.specs.Lookup.{atom_line, atom_part_line, connector_line, connector_part_line, rule_line, rule_lines}
use Rattle.part_lines.specs.declared.table.PartLine.{PartLine}

-- ---- the table

abbrev at : LineKind → ℕ → PartLine
at kind line = record { kind = kind; line = line }

-- lines without words, comments and lines of no kind count
passed_over : part_lines (codes "# atom A\n\n atom A\nplaces\n") ≡ at Atom 3 ∷ []
passed_over = refl

the_greatest_number_stays : next_number 4294967295 ≡ 4294967295
the_greatest_number_stays = refl

-- a text, in which parts of the latest atom and of the latest connector stand after others
abbrev text : List ℕ
text =
    codes "atom A\nplace s\nport p\ntrans p from s to s\n" ++ codes "connector c A.p\nvar n 0\nplace t\n" ++
    codes "atom B\nplace u\nguard 0\nmove A.n := 1\n" ++ codes "connector d B.q\nguard 1\nmaximal c\nplace v\nprio c < d"

-- its entries
abbrev entries : List PartLine
entries =
    at Atom 1 ∷ at (OfAtom Place) 2 ∷ at (OfAtom Port) 3 ∷ at (OfAtom Transition) 4 ∷ at Connector 5 ∷ at (OfAtom Variable) 6 ∷
    at (OfAtom Place) 7 ∷ at Atom 8 ∷ at (OfAtom Place) 9 ∷ at (OfConnector Guard) 10 ∷ at (OfConnector Transfer) 11 ∷
    at Connector 12 ∷ at (OfConnector Guard) 13 ∷ at (Rule Maximal) 14 ∷ at (OfAtom Place) 15 ∷ at (Rule Priority) 16 ∷ []

entries_of_a_text : part_lines text ≡ entries
entries_of_a_text = refl

-- ---- lookups, each of the first few numbers

atoms : map (atom_line entries) (0 ∷ 1 ∷ 2 ∷ []) ≡ Some 1 ∷ Some 8 ∷ None ∷ []
atoms = refl

-- also after a line of a connector, and not those of the next atom
places_of_an_atom : map (atom_part_line entries 0 Place) (0 ∷ 1 ∷ 2 ∷ []) ≡ Some 2 ∷ Some 7 ∷ None ∷ []
places_of_an_atom = refl

-- also after a line of a rule
places_of_the_last_atom : map (atom_part_line entries 1 Place) (0 ∷ 1 ∷ 2 ∷ []) ≡ Some 9 ∷ Some 15 ∷ None ∷ []
places_of_the_last_atom = refl

places_of_no_atom : map (atom_part_line entries 2 Place) (0 ∷ []) ≡ None ∷ []
places_of_no_atom = refl

other_parts_of_an_atom : map (λ part. atom_part_line entries 0 part 0) (Variable ∷ Port ∷ Transition ∷ []) ≡ Some 6 ∷ Some 3 ∷ Some 4 ∷ []
other_parts_of_an_atom = refl

connectors : map (connector_line entries) (0 ∷ 1 ∷ 2 ∷ []) ≡ Some 5 ∷ Some 12 ∷ None ∷ []
connectors = refl

-- also after a line of an atom, and not those of the next connector
guards_of_a_connector : map (connector_part_line entries 0 Guard) (0 ∷ 1 ∷ []) ≡ Some 10 ∷ None ∷ []
guards_of_a_connector = refl

transfers_of_a_connector : map (connector_part_line entries 0 Transfer) (0 ∷ 1 ∷ []) ≡ Some 11 ∷ None ∷ []
transfers_of_a_connector = refl

rules : map (rule_line entries) (0 ∷ 1 ∷ 2 ∷ []) ≡ Some 14 ∷ Some 16 ∷ None ∷ []
rules = refl

both_rules : rule_lines text ≡ 14 ∷ 16 ∷ []
both_rules = refl

-- What it is that parts of a plant are read back: they are written in words, and these words are read as the same parts.
use Rattle.std.specs.Prelude.{◌≡◌, ℕ, List, [], Some, Ok, flat_map}
use Rattle.petri_atom.specs.Definition.{AtomDefinition, variable_name}
use Rattle.petri_atom.specs.Expression.{Tree}
use Rattle.connector_tree.specs.Tokens.{tokens_of}
use Rattle.connector_tree.specs.Tree as connectors
use Rattle.connector_tree.specs.declared.tree.Port.{Port}
use Rattle.plant_model.specs.declared.wire.Export.{Export}
use Rattle.plant_words.specs.Expressions.{expression_in}
use Rattle.plant_words.specs.Words.{words_of}
use Rattle.atom_lines.specs.Lookup.{variable_number}
use Rattle.connector_lines.specs.Exports.{variable_in}
use Rattle.connector_lines.specs.Trees.{tree_in}
use Rattle.plant_text.specs.Names.{atom_number, export_named, port_named}
use Rattle.part_text.specs.Export.{export_name}
use Rattle.part_text.specs.Expression.{expression_text}
use Rattle.part_text.specs.Words.{spaced_word}

-- a variable of the atom is found by its name
abbrev pub IsFoundInAtom : AtomDefinition → ℕ → Type 0
IsFoundInAtom a variable = variable_number a (variable_name a variable) ≡ Some variable

-- an expression over its variables is read back
abbrev pub IsReadInAtom : AtomDefinition → Tree ℕ → Type 0
IsReadInAtom a e = expression_in (variable_number a) (words_of (expression_text (variable_name a) e)) ≡ Ok (e, [])

-- a variable that one of the ports exports is found by the name that has its atom's before it
abbrev pub IsFoundAtPorts : List AtomDefinition → List Port → Export → Type 0
IsFoundAtPorts atoms ports export = variable_in (atom_number atoms) (export_named atoms) ports (export_name atoms ports export) ≡ Some export

-- an expression over such variables is read back
abbrev pub IsReadAtPorts : List AtomDefinition → List Port → Tree Export → Type 0
IsReadAtPorts atoms ports e = expression_in (variable_in (atom_number atoms) (export_named atoms) ports) (words_of (expression_text (export_name atoms ports) e)) ≡ Ok (e, [])

-- the words of a connector's tree
abbrev pub tree_words : List AtomDefinition → connectors.Tree → List (List ℕ)
tree_words atoms tree = words_of (flat_map (spaced_word atoms) (tokens_of tree))

-- they are read as its tokens
abbrev pub IsReadTree : List AtomDefinition → connectors.Tree → Type 0
IsReadTree atoms tree = tree_in (port_named atoms) (tree_words atoms tree) ≡ Ok (tokens_of tree)

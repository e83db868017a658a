-- The fault of words that are no tree of a connector.
use Rattle.std.specs.Prelude.{ℕ, List}
use Rattle.connector_tree.specs.Faults as connector
use Rattle.plant_words.specs.LineFaults as of_line
use Rattle.plant_words.specs.declared.line_fault.LineFault.TheVariants as line
use Rattle.connector_lines.specs.declared.tree_words_fault.TreeWordsFault.{TreeWordsFault}
use Rattle.connector_lines.specs.declared.tree_words_fault.TreeWordsFault.TheVariants.{NotAscii, UnknownName, Shape, Tree, Memory}

-- what a fault says to a person
abbrev pub message_of : TreeWordsFault → List ℕ
message_of NotAscii = of_line.message_of line.NotAscii
message_of UnknownName = of_line.message_of line.UnknownName
message_of Shape = of_line.message_of line.Shape
message_of (Tree fault) = connector.message_of fault
message_of Memory = of_line.message_of line.Memory

-- The faults of a text that is no plant.
use Rattle.std.specs.Prelude.{◌≡◌, ◌≢◌, ℕ, ◌==◌, if◌then◌else◌, List, ◌++◌, codes, Option, Some, None, Result, Err}
use Rattle.std.specs.Fmt.{decimal}
use Rattle.connector_tree.specs.Faults as connector
use Rattle.connector_tree.specs.declared.faults.TreeFault.{TreeFault}
use Rattle.connector_tree.specs.declared.faults.TreeFault.TheVariants as tree
use Rattle.priority_filter.specs.Fault as priority
use Rattle.priority_filter.specs.declared.fault.OrderFault.{OrderFault}
use Rattle.priority_filter.specs.declared.fault.OrderFault.TheVariants as order
use Rattle.plant_model.specs.declared.fault.SystemFault.{SystemFault}
use Rattle.plant_model.specs.declared.fault.SystemFault.TheVariants as system
use Rattle.plant_words.specs.LineFaults as of_words
use Rattle.plant_words.specs.declared.line_fault.LineFault.{LineFault}
use Rattle.plant_words.specs.declared.line_fault.LineFault.TheVariants as line
use Rattle.connector_lines.specs.declared.tree_words_fault.TreeWordsFault.{TreeWordsFault}
use Rattle.connector_lines.specs.declared.tree_words_fault.TreeWordsFault.TheVariants as words
use Rattle.text_io.specs.Reading as of_reading
use Rattle.text_io.specs.declared.reading.TextFault.{TextFault}
use Rattle.text_io.specs.declared.reading.TextFault.TheVariants as reading
use Rattle.plant_text.specs.declared.fault.Fault.{Fault}
use Rattle.plant_text.specs.declared.fault.Fault.TheVariants.{NotAscii, TooLong, UnknownWord, Misplaced, BadName, Twice, UnknownName, BadExpression, BadNumber, Shape, Tree, Order, Limit, NoAtom, Memory, Read}
use Rattle.plant_text.specs.declared.fault.PlantFault.{PlantFault}

-- the number of a fault
abbrev pub number_of : Fault → ℕ
number_of NotAscii = 1
number_of TooLong = 2
number_of UnknownWord = 3
number_of Misplaced = 4
number_of BadName = 5
number_of Twice = 6
number_of UnknownName = 7
number_of BadExpression = 8
number_of BadNumber = 9
number_of Shape = 10
number_of (Tree fault) = 11
number_of (Order fault) = 12
number_of Limit = 13
number_of NoAtom = 14
number_of Memory = 15
number_of Read = 16

-- the name of a tree's fault, as programs print it
abbrev pub tree_name_of : TreeFault → List ℕ
tree_name_of tree.TooManyLeaves = codes "TooManyLeaves"
tree_name_of tree.TooDeep = codes "TooDeep"
tree_name_of tree.SameAtom = codes "SameAtom"
tree_name_of tree.Empty = codes "Empty"
tree_name_of tree.Memory = codes "Memory"

-- the name of a fault of the order, as programs print it before its number
abbrev pub order_name_of : OrderFault → List ℕ
order_name_of (order.Cycle interaction) = codes "Cycle"
order_name_of (order.UnknownName rule) = codes "UnknownName"
order_name_of order.Memory = codes "Memory"

-- the number that a fault of the order speaks of: an interaction or a rule
abbrev pub order_subject_of : OrderFault → Option ℕ
order_subject_of (order.Cycle interaction) = Some interaction
order_subject_of (order.UnknownName rule) = Some rule
order_subject_of order.Memory = None

-- the number that a fault speaks of, which programs print after its name
abbrev pub subject_of : Fault → Option ℕ
subject_of (Order fault) = order_subject_of fault
subject_of fault = None

-- the name of a fault, as programs print it; a fault of a tree or of the order has its own
abbrev pub name_of : Fault → List ℕ
name_of NotAscii = codes "NotAscii"
name_of TooLong = codes "TooLong"
name_of UnknownWord = codes "UnknownWord"
name_of Misplaced = codes "Misplaced"
name_of BadName = codes "BadName"
name_of Twice = codes "Twice"
name_of UnknownName = codes "UnknownName"
name_of BadExpression = codes "BadExpr"
name_of BadNumber = codes "BadNumber"
name_of Shape = codes "Shape"
name_of (Tree fault) = tree_name_of fault
name_of (Order fault) = order_name_of fault
name_of Limit = codes "Limit"
name_of NoAtom = codes "NoAtom"
name_of Memory = codes "Memory"
name_of Read = codes "Read"

-- what a fault says to a person
abbrev pub message_of : Fault → List ℕ
message_of NotAscii = of_words.message_of line.NotAscii
message_of TooLong = of_reading.message_of reading.TooLong
message_of UnknownWord = codes "no line begins with this word"
message_of Misplaced = codes "the line speaks of the latest atom or connector, and there is none yet"
message_of BadName = of_words.message_of line.BadName
message_of Twice = of_words.message_of line.Twice
message_of UnknownName = of_words.message_of line.UnknownName
message_of BadExpression = of_words.message_of line.BadExpression
message_of BadNumber = of_words.message_of line.BadNumber
message_of Shape = of_words.message_of line.Shape
message_of (Tree fault) = connector.message_of fault
message_of (Order fault) = priority.message_of fault
message_of Limit = of_words.message_of line.Limit
message_of NoAtom = codes "there is no atom"
message_of Memory = of_words.message_of line.Memory
message_of Read = of_reading.message_of reading.Read

-- what a fault says to a person, with its line, where it is one of a line
abbrev pub placed_message_of : PlantFault → List ℕ
placed_message_of told =
    if told.line == 0 then message_of told.fault else codes "line " ++ decimal told.line ++ codes ": " ++ message_of told.fault

-- the fault of a line that an atom or a connector could not take
abbrev pub of_line : LineFault → Fault
of_line line.NotAscii = NotAscii
of_line line.BadName = BadName
of_line line.Twice = Twice
of_line line.UnknownName = UnknownName
of_line line.BadExpression = BadExpression
of_line line.BadNumber = BadNumber
of_line line.Shape = Shape
of_line line.Limit = Limit
of_line line.Memory = Memory

-- the fault of a line whose words are no tree
abbrev pub of_tree : TreeWordsFault → Fault
of_tree words.NotAscii = NotAscii
of_tree words.UnknownName = UnknownName
of_tree words.Shape = Shape
of_tree (words.Tree fault) = Tree fault
of_tree words.Memory = Memory

-- the fault of a text that could not be read
abbrev pub of_text : TextFault → Fault
of_text reading.TooLong = TooLong
of_text reading.Memory = Memory
of_text reading.Read = Read

-- the fault of a text whose parts, as they were written, make no plant; lines keep all other rules of plants
abbrev pub of_system : SystemFault → Fault
of_system system.Limit = Limit
of_system (system.BadAtom atom) = Limit
of_system (system.BadConnector connector fault) = Limit
of_system (system.BadWire connector fault) = Limit
of_system (system.Order fault) = Order fault
of_system system.Memory = Memory

-- a fault that is of no line
abbrev pub of_no_line : Fault → PlantFault
of_no_line fault = record { line = 0; fault = fault }

-- a fault with the line that has it; want of memory is of no line
abbrev pub placed : ℕ → Fault → PlantFault
placed number Memory = of_no_line Memory
placed number fault = record { line = number; fault = fault }

-- a fault that is answered is the one of what was read, or that memory ran out
abbrev pub IsFaultOf : {A : Type 0} → Result A Fault → Fault → Type 0
IsFaultOf read fault = fault ≢ Memory → read ≡ Err fault

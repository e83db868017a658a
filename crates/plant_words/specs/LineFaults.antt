-- Why a line is refused, and what that says to a person.
use Rattle.std.specs.Prelude.{◌≡◌, ◌≢◌, ℕ, List, codes, Result, Err, IsOk}
use Rattle.plant_words.specs.declared.expression_fault.ExpressionFault.{ExpressionFault}
use Rattle.plant_words.specs.declared.expression_fault.ExpressionFault.TheVariants as expression
use Rattle.plant_words.specs.declared.line_fault.LineFault.{LineFault}
use Rattle.plant_words.specs.declared.line_fault.LineFault.TheVariants.{NotAscii, BadName, Twice, UnknownName, BadExpression, BadNumber, Shape, Limit, Memory}

-- a fault that is answered is the one of what was read, or that memory ran out
abbrev pub IsFaultOf : {A : Type 0} → Result A LineFault → LineFault → Type 0
IsFaultOf read fault = fault ≢ Memory → read ≡ Err fault

-- memory is wanting only where what was read has no fault
abbrev pub IsLast : {A : Type 0} → Result A LineFault → LineFault → Type 0
IsLast read fault = fault ≡ Memory → IsOk read

-- the fault of a line where an expression in it has this one
abbrev pub line_fault : ExpressionFault → LineFault
line_fault expression.NotAscii = NotAscii
line_fault expression.UnknownName = UnknownName
line_fault expression.BadExpression = BadExpression
line_fault expression.BadNumber = BadNumber
line_fault expression.Limit = Limit

-- what a fault says to a person
abbrev pub message_of : LineFault → List ℕ
message_of NotAscii = codes "a byte is no printed ASCII character, space or tab"
message_of BadName = codes "a name is malformed or reserved"
message_of Twice = codes "a name is declared already, or stands twice where it may stand once"
message_of UnknownName = codes "a name is not known here"
message_of BadExpression = codes "an expression is malformed"
message_of BadNumber = codes "a number is malformed, or has more than 64 bits"
message_of Shape = codes "a word is missing, misplaced or left over"
message_of Limit = codes "a limit of plants is passed"
message_of Memory = codes "not enough memory for the plant"

-- What is said of words that are nothing that a run can be watched for.
use Rattle.std.specs.Prelude.{ℕ, List, codes}
use Rattle.plant_words.specs.declared.expression_fault.ExpressionFault.TheVariants.{NotAscii, UnknownName, BadExpression, BadNumber, Limit}
use Rattle.run_watches.specs.declared.fault.WatchFault.{WatchFault}
use Rattle.run_watches.specs.declared.fault.WatchFault.TheVariants.{Expression, MoreWords, Memory}

abbrev pub fault_message : WatchFault → List ℕ
fault_message (Expression NotAscii) = codes "a byte is no printed ASCII character"
fault_message (Expression UnknownName) = codes "a name is of no variable, which is written ATOM.VAR, and a place is written at ATOM PLACE"
fault_message (Expression BadExpression) = codes "an operand is missing, a place is unknown, or a word is no operator, number or name"
fault_message (Expression BadNumber) = codes "a number is not within 64 bits"
fault_message (Expression Limit) = codes "it has more than 64 words"
fault_message MoreWords = codes "a word stands behind its end"
fault_message Memory = codes "there was no memory"

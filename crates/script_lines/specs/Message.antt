-- What the faults of a script say.
use Rattle.std.specs.Prelude.{ℕ, ◌==◌, if◌then◌else◌, List, ◌++◌, codes, decimal}
use Rattle.text_io.specs.declared.reading.TheConstants.{MAX_TEXT}
use Rattle.script_lines.specs.declared.fault.ScriptFault.{ScriptFault}
use Rattle.script_lines.specs.declared.fault.ScriptFault.TheVariants.{Line, Memory}

-- what is said of the line with a number, where 0 stands for the whole script
abbrev pub line_message : ℕ → List ℕ
line_message number =
    if number == 0 then codes "the script has more than " ++ decimal MAX_TEXT ++ codes " bytes"
    else codes "line " ++ decimal number ++ codes " of the script asks for no event"

-- what a fault says to a person
abbrev pub message_of : ScriptFault → List ℕ
message_of (Line number) = line_message number
message_of Memory = codes "not enough memory for the events of the script"

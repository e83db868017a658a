-- Where the script of a run ends the program.
use Rattle.std.specs.Prelude.{◌≡◌, ℕ, List, Err}
use Rattle.plant_model.specs.Plant.{PlantDefinition}
use Rattle.script_lines.specs.Script.{script_meaning}
use Rattle.script_lines.specs.declared.fault.ScriptFault.{ScriptFault}
use Rattle.script_lines.specs.declared.fault.ScriptFault.TheVariants as script
use Rattle.plant_tasks.specs.declared.ending.PlantEnding.TheVariants.{Memory}
use Rattle.bip_image.specs.declared.ending.Ending.{Ending}
use Rattle.bip_image.specs.declared.ending.Ending.TheVariants.{OfPlant, Script, ScriptUnread}

-- the ending where a script is refused
abbrev pub of_script : ScriptFault → Ending
of_script (script.Line number) = Script number
of_script script.Memory = OfPlant Memory

-- An ending after these bytes of a script for a plant: the line is the one for which they are refused; the reader may fail, and memory may be
-- wanting; and nothing else has a part in it.
abbrev pub TellsOfScript : PlantDefinition → Ending → List ℕ → Type 0
TellsOfScript plant (Script line) bytes = script_meaning plant bytes ≡ Err line
TellsOfScript plant ScriptUnread bytes = Unit {0}
TellsOfScript plant (OfPlant Memory) bytes = Unit {0}
TellsOfScript plant ending bytes = ⊥

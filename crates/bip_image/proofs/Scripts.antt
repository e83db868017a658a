-- Why a script ends the program.
use Rattle.std.proofs.Common.{◌≡◌, ◌<◌, ℕ, List, length, Err, arith, Option, None, Some}
use Rattle.std.specs.Prelude.{IfSome}
use Rattle.plant_model.specs.Plant.{PlantDefinition}
use Rattle.text_io.specs.declared.reading.TheConstants.{MAX_TEXT}
use Rattle.script_lines.specs.Script.{IsFaultOf, script_meaning}
use Rattle.script_lines.specs.declared.fault.ScriptFault.{ScriptFault}
use Rattle.script_lines.specs.declared.fault.ScriptFault.TheVariants.{Line, Memory}
use Rattle.bip_image.specs.Script.{TellsOfScript, of_script}
use Rattle.bip_image.specs.declared.ending.Ending.TheVariants.{Script}

-- a script that is too long is refused with number 0
long_text_is_refused : (plant : PlantDefinition) (bytes : List ℕ) → MAX_TEXT < length bytes → script_meaning plant bytes ≡ Err 0
long_text_is_refused plant bytes long = grind (arith, long)

-- as far as it is known
pub long_text_refused : (plant : PlantDefinition) (known : Option (List ℕ)) → IfSome known (λ bytes. MAX_TEXT < length bytes) → IfSome known (λ bytes. TellsOfScript plant (Script 0) bytes)
long_text_refused plant None long = tt
long_text_refused plant (Some bytes) long = long_text_is_refused plant bytes long

-- the fault of a script, as an ending
pub script_tells : (plant : PlantDefinition) (text : List ℕ) (fault : ScriptFault) → IsFaultOf plant text fault → TellsOfScript plant (of_script fault) text
script_tells plant text (Line number) is = is
script_tells plant text Memory is = tt

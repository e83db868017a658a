-- What the commands on images print.
use Rattle.std.specs.Prelude.{ℕ, List, ◌++◌, length, codes, decimal}
use Rattle.plant_model.specs.Plant.{PlantDefinition}
use Rattle.disk_model.specs.Cells.{Cell}
use Rattle.record_codec.specs.Ring.{device_cells}
use Rattle.plant_image.specs.Contents.{Contents, contents_of, last_number, states_of}
use Rattle.run_text.specs.Line.{states_text}
use Rattle.script_lines.specs.Answers.{front_line}

-- how many cells the image of a plant has that has room for so many records
abbrev pub image_cells : PlantDefinition → ℕ → ℕ
image_cells plant ring = device_cells (length plant.atoms) ring

-- how many cells a formatted image has
abbrev pub formatted_line : ℕ → List ℕ
formatted_line cells = codes "formatted " ++ decimal cells ++ codes "\n"

-- What these contents of an image lead to: a line for the state of each atom; then the number of the last record, as the last that was fired and
-- as the last that is acknowledged, and the number of the first that is kept.
abbrev pub led_text : PlantDefinition → Contents → List ℕ
led_text plant c =
    states_text plant (states_of plant c) ++
    front_line (record { fired = last_number c; acked = last_number c; base = c.base }) ++ codes "\n"

-- where a plant stands whose image has these cells
abbrev pub recovered_text : PlantDefinition → List Cell → List ℕ
recovered_text plant cells = led_text plant (contents_of (length plant.atoms) cells)

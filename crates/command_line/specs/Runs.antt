-- How a run is printed, as words of the command line say.
use Rattle.std.specs.Prelude.{ℕ, Bool, List, codes, if◌then◌else◌}
use Rattle.petri_atom.specs.Name.{is_same_text}
use Rattle.text_io.specs.declared.format.Format.{Format}
use Rattle.text_io.specs.declared.format.Format.TheVariants.{Lines, Csv, Jsonl}
use Rattle.command_line.specs.declared.request.Shape.{Shape}
use Rattle.command_line.specs.declared.request.Shape.TheVariants.{Steps, States, Waves}

-- the format that a word names: the fixed lines where it is neither `csv` nor `jsonl`
abbrev pub format_in : List ℕ → Format
format_in word =
    if is_same_text word (codes "csv") then Csv
    else if is_same_text word (codes "jsonl") then Jsonl
    else Lines

-- what is printed of a run, by the word for its format, with its states or without: `vcd` is a dump of waves in any case
abbrev pub shape_in : List ℕ → Bool → Shape
shape_in word states =
    if is_same_text word (codes "vcd") then Waves
    else if states then States (format_in word)
    else Steps (format_in word)

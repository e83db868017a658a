-- Where what is read beside the plant is.
use Rattle.std.specs.Prelude.{ℕ, List, Option}
use Rattle.std.specs.Option.{option_or}
use Rattle.command_line.specs.Files.{read_beside, recording_in}
use Rattle.command_line.specs.declared.request.Work.{Work}

-- the text of the picks, also of those behind which a plant is run by hand; or else the standard input of a run by hand
abbrev pub input_in : Work → Option (List ℕ)
input_in work = option_or (recording_in work) (read_beside work)

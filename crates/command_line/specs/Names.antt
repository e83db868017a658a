-- Which command a word names.
use Rattle.std.specs.Prelude.{ℕ, List, codes, find, Option}
use Rattle.petri_atom.specs.Name.{is_same_text}
use Rattle.command_line.specs.declared.names.TheConstants.{COMMANDS}
use Rattle.command_line.specs.declared.names.CommandName.{CommandName}
use Rattle.command_line.specs.declared.names.CommandName.TheVariants.{Check, Choices, Why, Trace, Step, Draw, Format, Run, Serve, Recover, Inspect, Backup, Restate, Migrate, Explore}

-- the word that names a command
abbrev pub word_for : CommandName → List ℕ
word_for Check = codes "check"
word_for Choices = codes "choices"
word_for Why = codes "why"
word_for Trace = codes "trace"
word_for Step = codes "step"
word_for Draw = codes "draw"
word_for Format = codes "format"
word_for Run = codes "run"
word_for Serve = codes "serve"
word_for Recover = codes "recover"
word_for Inspect = codes "inspect"
word_for Backup = codes "backup"
word_for Restate = codes "restate"
word_for Migrate = codes "migrate"
word_for Explore = codes "explore"

-- the command that a word names
abbrev pub command_in : List ℕ → Option CommandName
command_in word = find (λ name. is_same_text word (word_for name)) COMMANDS

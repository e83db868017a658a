-- How words say that a run is counted in place of being printed.
use Rattle.std.specs.Prelude.{◌≡◌, true, false, None, Some}
use Rattle.command_line.specs.Said.{word_of}
use Rattle.command_line.specs.declared.said.Said.{Said}
use Rattle.command_line.specs.declared.summary.SummaryFault.{SummaryFault}
use Rattle.command_line.specs.declared.summary.SummaryFault.TheVariants.{WithStates, WithFormat}

-- the words ask for nothing that is printed of a run: not for its states, and no format is named
abbrev pub PrintsNothing : Said → Type 0
PrintsNothing said = (said.states ≡ false) × (word_of said.named_format ≡ None)

-- what they ask for of this: the states, or else a format
abbrev pub IsWrong : SummaryFault → Said → Type 0
IsWrong WithStates said = said.states ≡ true
IsWrong (WithFormat word) said = (said.states ≡ false) × (word_of said.named_format ≡ Some word.now)

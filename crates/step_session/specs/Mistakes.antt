-- What is said of a line that asks for nothing.
use Rattle.std.specs.Prelude.{ℕ, List, ◌++◌, codes, decimal}
use Rattle.shown_fault.specs.Shown.{shown}
use Rattle.step_session.specs.Command.{MistakeDefinition, too_long, no_command, left_over, no_number, no_count, no_file, no_fired, no_awaited}
use Rattle.step_session.specs.declared.lines.TheConstants.{MAX_LINE}

-- a word in quotes, as a terminal may show it, and what is said of it
abbrev pub quoted_text : List ℕ → List ℕ → List ℕ
quoted_text word said = codes "'" ++ shown word ++ codes "'" ++ said

-- the plant has no connector with a name
abbrev pub no_connector_text : List ℕ → List ℕ
no_connector_text name = quoted_text name (codes " is no connector of the plant\n")

-- a line is too long
abbrev pub too_long_text : List ℕ
too_long_text = codes "the line has more than " ++ decimal MAX_LINE ++ codes " bytes\n"

-- what is wrong, and what can be written
abbrev pub mistake_text : MistakeDefinition → List ℕ
mistake_text too_long = too_long_text
mistake_text (no_command word) = quoted_text word (codes " is no command: help lists them\n")
mistake_text (left_over word) = quoted_text word (codes " is left over: help lists the commands\n")
mistake_text (no_number word) = quoted_text word (codes " is no number from 0 to 18446744073709551615\n")
mistake_text no_count = codes "N is missing: random N\n"
mistake_text no_file = codes "FILE is missing: save FILE\n"
mistake_text no_fired = codes "NAME is missing: fire NAME\n"
mistake_text no_awaited = codes "NAME is missing: until NAME\n"

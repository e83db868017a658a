-- How many atoms lines begin, and how many places and variables they add to the latest one.
use Rattle.std.specs.Prelude.{ℕ, ◌+◌, ◌-◌, ◌≤◌, ◌^◌, List, Option, Some, None}
use Rattle.plant_words.specs.Words.{words_of}
use Rattle.plant_words.specs.declared.line_kind.AtomPart.{AtomPart}
use Rattle.plant_words.specs.declared.line_kind.AtomPart.TheVariants.{Place, Variable, Port, Transition}
use Rattle.plant_words.specs.declared.line_kind.LineKind.{LineKind}
use Rattle.plant_words.specs.declared.line_kind.LineKind.TheVariants.{Atom, Connector, OfAtom, OfConnector, Rule}
use Rattle.part_lines.specs.Table.{kind_of_words}
use Rattle.restated_text.specs.declared.counts.Counts.{Counts}

-- what a line adds to a plant, by its first word
abbrev pub kind_of : List ℕ → Option LineKind
kind_of line = kind_of_words (words_of line)

-- before all lines
abbrev pub no_parts : Counts
no_parts = record { atoms = 0; places = 0; variables = 0 }

-- after a line that adds a part to the latest atom
abbrev pub after_part : AtomPart → Counts → Counts
after_part Place counts = record counts { places = counts.places + 1 }
after_part Variable counts = record counts { variables = counts.variables + 1 }
after_part Port counts = counts
after_part Transition counts = counts

-- after a line of the kind
abbrev pub after_kind : LineKind → Counts → Counts
after_kind Atom counts = record { atoms = counts.atoms + 1; places = 0; variables = 0 }
after_kind Connector counts = counts
after_kind (OfAtom part) counts = after_part part counts
after_kind (OfConnector part) counts = counts
after_kind (Rule kind) counts = counts

-- after a line of a kind, or of none
abbrev pub after : Option LineKind → Counts → Counts
after None counts = counts
after (Some kind) counts = after_kind kind counts

-- each count is at most a bound
pub record AreWithin (counts : Counts) (bound : ℕ) : Type 0 where
  pub atoms : counts.atoms ≤ bound
  pub places : counts.places ≤ bound
  pub variables : counts.variables ≤ bound

-- each count can grow by one
abbrev pub HaveRoom : Counts → Type 0
HaveRoom counts = AreWithin counts (2 ^ 64 - 2)

-- The lines of a summary.
use Rattle.std.specs.Prelude.{ℕ, ◌==◌, Bool, true, if◌then◌else◌, List, [], ◌++◌, codes, decimal, slice_get, slice_index, Option, Some, None}
use Rattle.std.specs.Fmt.{signed_decimal}
use Rattle.std.specs.Option.{option_map_or}
use Rattle.petri_atom.specs.Definition.{AtomDefinition, TransitionDefinition}
use Rattle.petri_atom.specs.declared.parts.Variable.{Variable}
use Rattle.plant_model.specs.Plant.{PlantDefinition, WireDefinition}
use Rattle.text_io.specs.Numbered.{numbered}
use Rattle.run_text.specs.Line.{transition_name}
use Rattle.run_summary.specs.Totals.{AtomTotals, Totals}
use Rattle.run_summary.specs.declared.bounds.Bounds.{Bounds}
use Rattle.run_summary.specs.declared.listing.Listing.{Listing}
use Rattle.run_summary.specs.declared.listing.Listing.TheVariants.{All, Never}

-- a part that came so often is listed
abbrev pub is_listed : Listing → ℕ → Bool
is_listed All count = true
is_listed Never count = count == 0

-- what stands before a listed part on its line
abbrev pub before_text : Listing → List ℕ
before_text All = []
before_text Never = codes "never "

-- what stands after it
abbrev pub after_text : Listing → ℕ → List ℕ
after_text All count = codes " " ++ decimal count ++ codes "\n"
after_text Never count = codes "\n"

-- the line of a part that is named so and came so often; none if it is not listed
abbrev pub part_line : Listing → List ℕ → ℕ → List ℕ
part_line listing name count = if is_listed listing count then before_text listing ++ name ++ after_text listing count else []

-- the line of the connector with number k
abbrev pub connector_line : Listing → List ℕ → ℕ → WireDefinition → List ℕ
connector_line listing counts k w = part_line listing (codes "connector " ++ w.name) (slice_index counts k)

-- which transition of an atom it is
abbrev pub transition_words : AtomDefinition → ℕ → List ℕ
transition_words a k = codes "transition " ++ transition_name a k

-- the line of the transition of an atom with number k
abbrev pub transition_line : Listing → AtomDefinition → List ℕ → ℕ → TransitionDefinition → List ℕ
transition_line listing a counts k t = part_line listing (transition_words a k) (slice_index counts k)

-- the lines of the transitions of the atom with number n
abbrev pub transition_lines : Listing → List AtomTotals → ℕ → AtomDefinition → List ℕ
transition_lines listing totals n a =
    option_map_or (λ (t : AtomTotals). numbered (transition_line listing a t.transitions) 0 a.transitions) (slice_get totals n) []

-- which variable of an atom it is
abbrev pub variable_words : AtomDefinition → Variable → List ℕ
variable_words a v = codes "variable " ++ a.name ++ codes "." ++ v.name

-- the least and the greatest value of a variable
abbrev pub bounds_text : Bounds → List ℕ
bounds_text b = codes " " ++ signed_decimal b.least ++ codes ".." ++ signed_decimal b.greatest ++ codes "\n"

-- the line of the variable of an atom with number k
abbrev pub variable_line : AtomDefinition → List Bounds → ℕ → Variable → List ℕ
variable_line a bounds k v = option_map_or (λ b. variable_words a v ++ bounds_text b) (slice_get bounds k) []

-- the lines of the variables of the atom with number n
abbrev pub variable_lines : List AtomTotals → ℕ → AtomDefinition → List ℕ
variable_lines totals n a = option_map_or (λ (t : AtomTotals). numbered (variable_line a t.bounds) 0 a.variables) (slice_get totals n) []

-- of how many that were asked for, if that is known; else nothing
abbrev pub asked_text : Option ℕ → List ℕ
asked_text None = []
asked_text (Some asked) = codes " of " ++ decimal asked

-- how many interactions were fired
abbrev pub fired_line : ℕ → Option ℕ → List ℕ
fired_line fired asked = codes "fired " ++ decimal fired ++ asked_text asked ++ codes "\n"

-- the connectors of a plant that are listed
abbrev pub connectors_text : Listing → PlantDefinition → Totals → List ℕ
connectors_text listing plant totals = numbered (connector_line listing totals.connectors) 0 plant.wires

-- and its transitions
abbrev pub transitions_text : Listing → PlantDefinition → Totals → List ℕ
transitions_text listing plant totals = numbered (transition_lines listing totals.atoms) 0 plant.atoms

-- the variables of a plant, each with its bounds
abbrev pub variables_text : PlantDefinition → Totals → List ℕ
variables_text plant totals = numbered (variable_lines totals.atoms) 0 plant.atoms

-- A summary: how many interactions were fired; each connector and each transition with how often it came; the bounds of each variable; and
-- at the end the connectors and the transitions that never came.
abbrev pub summary_text : PlantDefinition → Option ℕ → Totals → List ℕ
summary_text plant asked totals =
    fired_line totals.fired asked ++ connectors_text All plant totals ++ transitions_text All plant totals ++ variables_text plant totals ++
    connectors_text Never plant totals ++ transitions_text Never plant totals

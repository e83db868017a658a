-- What is printed behind a run where something came for which it is watched.
use Rattle.std.specs.Prelude.{ℕ, ◌+◌, ◌-◌, nat_lt, Bool, if◌then◌else◌, List, [], ◌++◌, length, codes, decimal, Option, None, Some}
use Rattle.petri_atom.specs.Local.{Local}
use Rattle.plant_model.specs.Plant.{PlantDefinition}
use Rattle.text_io.specs.declared.format.Format.TheVariants.{Lines, Csv, Jsonl}
use Rattle.run_text.specs.Steps.{Parts}
use Rattle.run_text.specs.Watched.{Held}
use Rattle.run_states.specs.States.{present_part}
use Rattle.command_line.specs.declared.request.Shape.{Shape}
use Rattle.command_line.specs.declared.request.Shape.TheVariants.{Steps, States, Waves}

-- the place of a watch, from 1, behind a text, if it is named
abbrev pub named_text : List ℕ → Option ℕ → List ℕ
named_text before None = []
named_text before (Some watch) = before ++ decimal (watch + 1)

-- the words that say that something holds in the state with this number
abbrev pub reached_words : ℕ → Option ℕ → List ℕ
reached_words number named = codes "reached " ++ decimal number ++ named_text (codes " by ") named

-- the columns of a row that say it, without those of a state
abbrev pub reached_row : ℕ → Option ℕ → List ℕ
reached_row number named = codes "reached," ++ decimal number ++ codes "," ++ named_text [] named ++ codes ",,"

-- the object that says it
abbrev pub reached_object : ℕ → Option ℕ → List ℕ
reached_object number named = codes "{\"kind\":\"reached\",\"number\":" ++ decimal number ++ named_text (codes ",\"watch\":") named ++ codes "}\n"

-- the same in a shape; where rows have a state, it is this
abbrev pub reached_text : Shape → PlantDefinition → List Local → ℕ → Option ℕ → List ℕ
reached_text (Steps Lines) plant states number named = reached_words number named ++ codes "\n"
reached_text (States Lines) plant states number named = reached_words number named ++ codes "\n"
reached_text (Steps Csv) plant states number named = reached_row number named ++ codes "\n"
reached_text (States Csv) plant states number named = reached_row number named ++ present_part Csv plant states
reached_text (Steps Jsonl) plant states number named = reached_object number named
reached_text (States Jsonl) plant states number named = reached_object number named
reached_text Waves plant states number named = codes "$comment " ++ reached_words number named ++ codes " $end\n"

-- a run is watched for several things
abbrev pub are_several : {X : Type 0} → List X → Bool
are_several watches = nat_lt 1 (length watches)

-- the place of a watch, if it is to be named
abbrev pub named_if : Bool → ℕ → Option ℕ
named_if several watch = if several then Some watch else None

-- where something holds in a state, this is said; the place is named where there are several
abbrev pub reached_part : Shape → Bool → PlantDefinition → List Local → ℕ → Option ℕ → List ℕ
reached_part shape several plant states number None = []
reached_part shape several plant states number (Some watch) = reached_text shape plant states number (named_if several watch)

-- The parts of a run, and behind its end where something came for which it is watched. The number that comes next at the end is one more than
-- that of the state there.
abbrev pub with_reached : Shape → Bool → Held → Parts → Parts
with_reached shape several held parts = record {
  start = parts.start;
  fired = parts.fired;
  stuck = parts.stuck;
  end = λ plant states number. parts.end plant states number ++ reached_part shape several plant states (number - 1) (held plant states);
}

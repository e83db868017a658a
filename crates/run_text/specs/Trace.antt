-- What the run of a plant prints.
use Rattle.std.specs.Prelude.{ℕ, List, ◌++◌, codes}
use Rattle.plant_model.specs.Plant.{PlantDefinition}
use Rattle.text_io.specs.declared.format.Format.{Format}
use Rattle.text_io.specs.declared.format.Format.TheVariants.{Lines}
use Rattle.run_text.specs.Format.{head_text, step_text, stuck_text, end_text}
use Rattle.run_text.specs.Picks.{PickDefinition, counted_picks}
use Rattle.run_text.specs.Steps.{Parts, run_printed}
use Rattle.run_text.specs.Stuck.{is_by_weights}

-- what stands before the lines, each fired interaction on a line, a line if nothing is fired any more, and at the end the states
abbrev pub trace_parts : Format → Parts
trace_parts format = record {
  start = λ plant states. head_text format;
  fired = λ plant states number c. step_text format plant states number c ++ codes "\n";
  stuck = λ plant states. stuck_text format (is_by_weights plant states);
  end = λ plant states number. end_text format plant states;
}

-- the run of a plant from its first states on
abbrev pub trace_in : Format → PlantDefinition → List PickDefinition → List ℕ
trace_in format = run_printed (trace_parts format)

-- the same in the fixed lines, by numbers that are taken modulo how many choices there are
abbrev pub trace_text : PlantDefinition → List ℕ → List ℕ
trace_text plant numbers = trace_in Lines plant (counted_picks numbers)

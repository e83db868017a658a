-- What the program prints of a plant, and what it saves of its run.
use Rattle.std.specs.Prelude.{ℕ, Bool, false, List, [], ◌++◌, length, codes, decimal, option_map, Option, None, Some}
use Rattle.plant_model.specs.Choice.{plant_interactions}
use Rattle.plant_model.specs.Plant.{PlantDefinition}
use Rattle.plant_model.specs.Step.{initial_states}
use Rattle.plant_model.specs.System.{plant_of}
use Rattle.run_text.specs.Choices.{choices_after}
use Rattle.run_text.specs.Picks.{PickDefinition}
use Rattle.run_text.specs.Runs.{refusal_of, state_after}
use Rattle.run_text.specs.Steps.{saved_in}
use Rattle.run_text.specs.declared.fault.Refusal.{Refusal}
use Rattle.blocked_text.specs.Blocked.{blocked_text}
use Rattle.part_lines.specs.Lookup.{rule_lines}
use Rattle.part_lines.specs.Table.{part_lines}
use Rattle.plant_warnings.specs.Warnings.{warnings_text}
use Rattle.plant_tasks.specs.Drawn.{drawn_of, view_refusal}
use Rattle.plant_tasks.specs.Picked.{after_picks, picks_said, refusal_said}
use Rattle.plant_tasks.specs.Tallied.{tally_held, tally_printed, tally_refusal, tally_saved}
use Rattle.plant_tasks.specs.Traced.{ends_held, picks_traced, trace_printed}
use Rattle.plant_tasks.specs.Words.{first_misread}
use Rattle.plant_tasks.specs.declared.ending.PlantEnding.{PlantEnding}
use Rattle.plant_tasks.specs.declared.task.ReadPlant.{ReadPlant}
use Rattle.command_line.specs.declared.request.Task.{Task}
use Rattle.command_line.specs.declared.request.Task.TheVariants.{Check, Warn, Trace, Summary, Choices, Why, Draw}

-- a count after the word for what is counted
abbrev pub counted : List ℕ → ℕ → List ℕ
counted word count = word ++ decimal count

-- how many atoms, connectors, interactions and priority rules a plant has, as one line
abbrev pub counts_line : PlantDefinition → List ℕ
counts_line plant =
    counted (codes "atoms ") (length plant.atoms) ++ counted (codes " connectors ") (length plant.wires) ++
    counted (codes " interactions ") (length (plant_interactions plant)) ++ counted (codes " rules ") (length plant.rules) ++ codes "\n"

-- why connectors can't be fired after some picks
abbrev pub why_after : PlantDefinition → List ℕ → List PickDefinition → List ℕ
why_after plant lines picks = blocked_text plant (state_after plant (initial_states plant) picks) lines

-- the plant that was read
abbrev pub plant_read : ReadPlant → PlantDefinition
plant_read plant = plant_of plant.system.now

-- the counts of a plant that was read, and what is probably a mistake in it
abbrev pub warned_text : ReadPlant → List ℕ
warned_text plant = counts_line (plant_read plant) ++ warnings_text (plant_read plant) (part_lines plant.text.now) plant.path.now

-- why its connectors can't be fired after some picks
abbrev pub why_text : ReadPlant → List PickDefinition → List ℕ
why_text plant = why_after (plant_read plant) (rule_lines plant.text.now)

-- what a task prints of a plant that was read, where the bytes of what is read beside it are known as far as it needs them; up to the first pick that is refused
abbrev pub printed_of : Task → ReadPlant → Option (List ℕ) → Option (List ℕ)
printed_of Check plant input = Some (counts_line (plant_read plant))
printed_of Warn plant input = Some (warned_text plant)
printed_of (Trace trace) plant input =
    option_map (trace_printed trace (plant_read plant)) (picks_traced trace (plant_read plant) input)
printed_of (Summary tally) plant input = tally_printed tally.runs tally (plant_read plant) input
printed_of (Choices picking) plant input =
    option_map (after_picks (plant_read plant) (choices_after (plant_read plant))) (picks_said picking (plant_read plant) input)
printed_of (Why picking) plant input =
    option_map (after_picks (plant_read plant) (why_text plant)) (picks_said picking (plant_read plant) input)
printed_of (Draw drawing) plant input = drawn_of drawing (plant_read plant) input

-- what it saves of what it fires
abbrev pub saved_of : Task → ReadPlant → Option (List ℕ) → Option (List ℕ)
saved_of (Trace trace) plant input = option_map (saved_in (plant_read plant)) (picks_traced trace (plant_read plant) input)
saved_of (Summary tally) plant input = tally_saved tally.runs tally (plant_read plant) input
saved_of task plant input = Some []

-- the first pick that is refused, if one is
abbrev pub refusal_by : Task → ReadPlant → Option (List ℕ) → Option (Option Refusal)
refusal_by Check plant input = Some None
refusal_by Warn plant input = Some None
refusal_by (Trace trace) plant input = option_map (refusal_of (plant_read plant)) (picks_traced trace (plant_read plant) input)
refusal_by (Summary tally) plant input = tally_refusal tally.runs tally (plant_read plant) input
refusal_by (Choices picking) plant input = refusal_said picking (plant_read plant) input
refusal_by (Why picking) plant input = refusal_said picking (plant_read plant) input
refusal_by (Draw drawing) plant input = view_refusal drawing.view (plant_read plant) input

-- whether it comes to what must not hold
abbrev pub held_by : Task → ReadPlant → Option (List ℕ) → Option Bool
held_by (Trace trace) plant input = option_map (ends_held trace.watches.items (plant_read plant)) (picks_traced trace (plant_read plant) input)
held_by (Summary tally) plant input = tally_held tally.runs tally (plant_read plant) input
held_by task plant input = Some false

-- how it ends where the words by which it is watched and weighted can't be read, if some can't
abbrev pub bad_by : Task → ReadPlant → Option PlantEnding
bad_by (Trace trace) plant = first_misread (plant_read plant) trace.watches.items trace.weights.items
bad_by (Summary tally) plant = first_misread (plant_read plant) tally.watches.items tally.weights.items
bad_by task plant = None

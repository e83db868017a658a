-- A plant that is served: its lines, what they asked of it, and what was answered.
use Rattle.std.specs.Prelude.{◌≡◌, ℕ, Bool, true, false, List, [], ◌∷◌, ◌++◌, codes, flat_map, length, Option}
use Rattle.std.specs.List.{list_any}
use Rattle.std.specs.Io.KnownBytes.{Appends}
use Rattle.disk_model.specs.DiskState.{DiskState}
use Rattle.plant_core.specs.Driven.{IsDriven}
use Rattle.plant_core.specs.Events.{IsEventRun, has_failed}
use Rattle.plant_core.specs.Hands.{HandFields, empty_hands}
use Rattle.plant_core.specs.View.{View}
use Rattle.plant_core.specs.declared.events.Event.{Event}
use Rattle.plant_core.specs.declared.events.Happened.{Happened}
use Rattle.plant_words.specs.Lines.{lines_of}
use Rattle.plant_model.specs.Plant.{PlantDefinition}
use Rattle.script_lines.specs.Answers.{front_line, front_of, standing_text}
use Rattle.script_lines.specs.Runs.{happened_text}
use Rattle.plant_service.specs.Command.{command_in, quits}
use Rattle.plant_service.specs.Queries.{query_text}
use Rattle.plant_service.specs.Saving.{saving_events}
use Rattle.plant_service.specs.declared.command.Command.{Command}
use Rattle.plant_service.specs.declared.command.Command.TheVariants.{Asks, Save}

-- The plant was driven by some events, and by nothing else.
pub record HasBeenDriven (plant : PlantDefinition) (digest : List ℕ) (v : View) (s : DiskState) (hands : HandFields) (u : View) (m : DiskState) (held : HandFields) : Type 0 where
  pub events : List Event
  pub happened : List Happened
  pub driven : IsDriven plant digest v s hands events happened u m held

-- The plant was asked for these events, a line for each answer was printed, and this tells whether the device failed in some call.
pub record HasBeenAsked (plant : PlantDefinition) (digest : List ℕ) (v : View) (s : DiskState) (hands : HandFields) (events : List Event) (failed : Bool) (u : View) (m : DiskState) (held : HandFields) (old new : Option (List ℕ)) : Type 0 where
  pub happened : List Happened
  pub driven : IsDriven plant digest v s hands events happened u m held
  pub printed : Appends old new (happened_text plant happened)
  pub told : failed ≡ list_any has_failed happened

-- the events that a command asks of a plant with this view
abbrev pub events_of : PlantDefinition → View → Command → List Event
events_of plant v (Asks event) = event ∷ []
events_of plant v Save = saving_events
events_of plant v other = []

-- what is printed of a command: the answers of its events, or that to a question
abbrev pub answer_text : PlantDefinition → List ℕ → View → List ℕ → Command → List Happened → List ℕ
answer_text plant rules v line command happened = happened_text plant happened ++ query_text plant rules v line command

-- A line was answered that asks for this command: the plant was asked for the events of the command, the answer was printed, and this tells whether the
-- device failed.
pub record IsAnsweredAs (plant : PlantDefinition) (digest rules : List ℕ) (v : View) (s : DiskState) (hands : HandFields) (line : List ℕ) (command : Command) (failed : Bool) (u : View) (m : DiskState) (held : HandFields) (old new : Option (List ℕ)) : Type 0 where
  pub happened : List Happened
  pub driven : IsDriven plant digest v s hands (events_of plant v command) happened u m held
  pub printed : Appends old new (answer_text plant rules v line command happened)
  pub told : failed ≡ list_any has_failed happened

-- a line that was answered: what was asked of the plant, what happened, and what was printed of it
pub record Exchange : Type 0 where
  pub events : List Event
  pub happened : List Happened
  pub text : List ℕ

-- Lines were answered one after another: each asked for its events at its moment, these happened, and this was printed of it.
abbrev pub AreExchanges : PlantDefinition → List ℕ → View → List (List ℕ) → List Exchange → View → Type 0
AreExchanges plant rules v [] [] u = u ≡ v
AreExchanges plant rules v (line ∷ lines) (x ∷ xs) u =
    (x.events ≡ events_of plant v (command_in plant line)) × (x.text ≡ answer_text plant rules v line (command_in plant line) x.happened)
    × ((w : View) × IsEventRun plant v x.happened w × AreExchanges plant rules w lines xs u)
AreExchanges plant rules v lines xs u = ⊥

-- what is printed of them: each answer, and a line `end`
abbrev pub exchanged_text : List Exchange → List ℕ
exchanged_text xs = flat_map (λ x. x.text ++ codes "end\n") xs

-- These lines were answered: the plant was driven by their events alone, the answers were printed, and this tells whether the device failed.
pub record AreServed (plant : PlantDefinition) (digest rules : List ℕ) (v : View) (s : DiskState) (hands : HandFields) (lines : List (List ℕ)) (failed : Bool) (u : View) (m : DiskState) (held : HandFields) (old new : Option (List ℕ)) : Type 0 where
  pub exchanges : List Exchange
  pub each : AreExchanges plant rules v lines exchanges u
  pub driven : IsDriven plant digest v s hands (flat_map (λ x. x.events) exchanges) (flat_map (λ x. x.happened) exchanges) u m held
  pub printed : Appends old new (exchanged_text exchanges)
  pub told : failed ≡ list_any has_failed (flat_map (λ x. x.happened) exchanges)

-- no line is left, or the next asks to end
abbrev pub IsAtEnd : PlantDefinition → List (List ℕ) → Type 0
IsAtEnd plant [] = Unit {0}
IsAtEnd plant (line ∷ lines) = quits plant line ≡ true

-- The first lines of these bytes were answered, none of which asks to end: all up to the end, or to one that asks for it, or up to the first in which the
-- device failed.
pub record AreLinesServed (plant : PlantDefinition) (digest rules : List ℕ) (v : View) (s : DiskState) (hands : HandFields) (bytes : List ℕ) (failed : Bool) (u : View) (m : DiskState) (held : HandFields) (old new : Option (List ℕ)) : Type 0 where
  pub lines : List (List ℕ)
  pub left : List (List ℕ)
  pub in_order : lines_of bytes ≡ lines ++ left
  pub on : list_any (quits plant) lines ≡ false
  pub ended : failed ≡ false → IsAtEnd plant left
  pub served : AreServed plant digest rules v s hands lines failed u m held old new

-- the last lines where the device did not fail: how far the plant is
abbrev pub closing_text : Bool → View → List ℕ
closing_text true u = []
closing_text false u = front_line (front_of u) ++ codes "\nend\n"

-- The plant was driven by some events, with nothing in the hands of its atoms at first.
pub record HasBeenServed (plant : PlantDefinition) (digest : List ℕ) (v : View) (s : DiskState) (u : View) (m : DiskState) : Type 0 where
  pub held : HandFields
  pub by : HasBeenDriven plant digest v s (empty_hands (length plant.atoms)) u m held

-- A session: where the plant stands was printed, the lines of these bytes were served, and then it was printed how far the plant is. Nothing was in the hands
-- of its atoms at first.
pub record IsSession (plant : PlantDefinition) (digest rules : List ℕ) (v : View) (s : DiskState) (bytes : List ℕ) (failed : Bool) (u : View) (m : DiskState) (old new : Option (List ℕ)) : Type 0 where
  pub held : HandFields
  pub opened : Option (List ℕ)
  pub closed : Option (List ℕ)
  pub stood : Appends old opened (standing_text plant v ++ codes "end\n")
  pub lines : AreLinesServed plant digest rules v s (empty_hands (length plant.atoms)) bytes failed u m held opened closed
  pub closes : Appends closed new (closing_text failed u)

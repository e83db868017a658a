-- The run of a list of events on a durable plant, and what is printed of it.
use Rattle.std.specs.Prelude.{◌≡◌, ℕ, Bool, List, [], ◌∷◌, ◌++◌, Option, flat_map, codes}
use Rattle.std.specs.List.{list_any}
use Rattle.std.specs.Io.KnownBytes.{Appends}
use Rattle.plant_model.specs.Plant.{PlantDefinition}
use Rattle.disk_model.specs.DiskState.{DiskState}
use Rattle.plant_core.specs.Driven.{IsDriven}
use Rattle.plant_core.specs.Events.{has_failed}
use Rattle.plant_core.specs.Hands.{HandFields}
use Rattle.plant_core.specs.View.{View}
use Rattle.plant_core.specs.declared.events.Event.{Event}
use Rattle.plant_core.specs.declared.events.Happened.{Happened}
use Rattle.script_lines.specs.Answers.{happened_line, standing_text}

-- a line for each thing that happened, in order
abbrev pub happened_text : PlantDefinition → List Happened → List ℕ
happened_text plant happened = flat_map (λ h. happened_line plant h ++ codes "\n") happened

-- An event that was asked of the plant: a call answered it with this by what was in the hands before, and the line of the answer was printed.
pub record IsAnswered (plant : PlantDefinition) (digest : List ℕ) (before : View) (s : DiskState) (hands : HandFields) (event : Event) (happened : Happened) (after : View) (m : DiskState) (hands_after : HandFields) (old new : Option (List ℕ)) : Type 0 where
  pub driven : IsDriven plant digest before s hands (event ∷ []) (happened ∷ []) after m hands_after
  pub printed : Appends old new (happened_line plant happened ++ codes "\n")

-- Events that were asked of a plant, one after another: each was answered by a call of the plant, and what was handed in is what was in the
-- hands then; a line for each answer was printed, and then where the plant stands; and this tells whether the device failed in a call.
pub record IsRunOf (plant : PlantDefinition) (digest : List ℕ) (before : View) (s : DiskState) (hands : HandFields) (events : List Event) (failed : Bool) (after : View) (m : DiskState) (hands_after : HandFields) (old new : Option (List ℕ)) : Type 0 where
  pub happened : List Happened
  pub driven : IsDriven plant digest before s hands events happened after m hands_after
  pub printed : Appends old new (happened_text plant happened ++ standing_text plant after)
  pub told : failed ≡ list_any has_failed happened

-- A run that ended early: the events after some place were not asked of the plant.
pub record IsCutRun (plant : PlantDefinition) (digest : List ℕ) (before : View) (s : DiskState) (hands : HandFields) (events : List Event) (after : View) (m : DiskState) (hands_after : HandFields) : Type 0 where
  pub happened : List Happened
  pub asked : List Event
  pub left : List Event
  pub in_order : asked ++ left ≡ events
  pub driven : IsDriven plant digest before s hands asked happened after m hands_after

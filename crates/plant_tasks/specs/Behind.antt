-- The picks behind which a plant is run by hand.
use Rattle.std.specs.Prelude.{ℕ, List, [], option_map, Option, None, Some}
use Rattle.plant_model.specs.Plant.{PlantDefinition}
use Rattle.run_text.specs.Picks.{PickDefinition}
use Rattle.recorded_picks.specs.Files.{picks_in}
use Rattle.plant_tasks.specs.Picked.{numbers_of}
use Rattle.plant_tasks.specs.declared.by_hand.RecordedText.{RecordedText}

-- the picks of a text, as far as its bytes are known, which `bytes_of` says; none where there is no text
abbrev pub picks_behind : {R : Type 0} → (R → Option (List ℕ)) → PlantDefinition → Option (RecordedText R) → Option (List PickDefinition)
picks_behind bytes_of plant None = Some []
picks_behind bytes_of plant (Some recorded) = option_map (picks_in (numbers_of recorded.numbers) plant) (bytes_of recorded.text)

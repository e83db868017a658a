-- What firing random choices does to a session.
use Rattle.std.specs.Prelude.{◌≡◌, ℕ, ◌%◌, ◌<◌, Bool, true, false, List, [], ◌∷◌, Option}
use Rattle.std.specs.Io.KnownBytes.{Appends}
use Rattle.plant_model.specs.Plant.{PlantDefinition}
use Rattle.run_text.specs.Picks.{pick_at, shifted}
use Rattle.step_session.specs.Answers.{choice_count, random_session, fired_more, firing_lines}
use Rattle.step_session.specs.Random.{random_places}
use Rattle.step_session.specs.Session.{SessionDefinition}

-- the place that the next random pick takes
abbrev pub next_place : PlantDefinition → SessionDefinition → ℕ
next_place plant session = pick_at (shifted session.random) % choice_count plant session

-- One random choice was fired, and its line printed; or there is no choice, and nothing was done.
abbrev pub IsFiredAtRandom : Bool → PlantDefinition → SessionDefinition → SessionDefinition → Option (List ℕ) → Option (List ℕ) → Type 0
IsFiredAtRandom false plant before after old new = (choice_count plant before ≡ 0) × (after ≡ before) × Appends old new []
IsFiredAtRandom true plant before after old new =
    (0 < choice_count plant before) × (after ≡ fired_more before (next_place plant before ∷ []) (shifted before.random)) ×
    Appends old new (firing_lines plant before (next_place plant before ∷ []))

-- So many were fired, until nothing is possible, and their lines printed.
abbrev pub FiresAtRandom : ℕ → PlantDefinition → SessionDefinition → SessionDefinition → Option (List ℕ) → Option (List ℕ) → Type 0
FiresAtRandom count plant before after old new =
    (after ≡ random_session plant before count) × Appends old new (firing_lines plant before (random_places plant before count))

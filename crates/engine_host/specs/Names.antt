-- Which host it is, and over which plant.
use Rattle.std.specs.Prelude.{◌≡◌, ℕ, Bool, List}
use Rattle.atomic_table.specs.Seated.{TableId}
use Rattle.disk_model.specs.declared.disk.Disk.{Ghosts}
use Rattle.plant_core.specs.declared.front.Front.{Front}
use Rattle.plant_core.specs.declared.plant.Plant.{Plant}
use Rattle.plant_core.specs.Plants.{definition_of, device_of, text_digest, view_of}
use Rattle.plant_core.specs.View.{View}
use Rattle.plant_model.specs.Plant.{PlantDefinition}
use Rattle.engine_host.specs.Views.{front_in}

-- the table of the word, the front where its history opens, the ledger with its parts, and how many seats there are
pub record Names : Type 0 where
  pub table : TableId
  pub opening : Front
  pub ledger : ℕ
  pub parts : ℕ
  pub seats : ℕ

-- over which plant: what it is, its view, the digest of its text, and whether its device keeps the disk model
pub record Hosted : Type 0 where
  pub plant : PlantDefinition
  pub view : View
  pub digest : List ℕ
  pub keeps : Bool

-- the plant as it stands now
abbrev pub hosted : {D : Type 0} {disk : Ghosts D} → Plant D disk → Hosted
hosted p = record { plant = definition_of p; view = view_of p; digest = text_digest p; keeps = (device_of p).keeps }

-- The host was named so, its history opens where this plant was, and the plant stands there now.
pub record IsNamedFor (named names : Names) (over now : Hosted) : Type 0 where
  pub names_are : named ≡ names
  pub opens : names.opening ≡ front_in over.view
  pub stands : now ≡ over

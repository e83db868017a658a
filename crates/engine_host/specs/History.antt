-- Histories of a plant.
use Rattle.std.specs.Prelude.{◌≡◌, List, [], ◌∷◌, map}
use Rattle.plant_core.specs.declared.front.Front.{Front}
use Rattle.plant_model.specs.Plant.{PlantDefinition}
use Rattle.plant_core.specs.Events.{IsEvent}
use Rattle.plant_core.specs.View.{View}
use Rattle.plant_core.specs.declared.events.Happened.{Happened}
use Rattle.engine_host.specs.Views.{front_in}
use Rattle.engine_host.specs.declared.entry.Entry.{Entry}

abbrev pub entry : Happened → Front → Entry
entry h f = record { happened = h; front = f }

-- Events one after another, from one view to another: each changes the view that those before it left, and its front is that of the view that it leaves.
abbrev pub IsHistory : PlantDefinition → View → List Entry → View → Type 0
IsHistory plant v [] w = w ≡ v
IsHistory plant v (e ∷ es) w = (u : View) × IsEvent plant v e.happened u × (e.front ≡ front_in u) × IsHistory plant u es w

-- a history that can be, from this view on
abbrev pub IsLegal : PlantDefinition → View → List Entry → Type 0
IsLegal plant v es = (w : View) × IsHistory plant v es w

abbrev pub fronts : List Entry → List Front
fronts es = map (λ e. e.front) es

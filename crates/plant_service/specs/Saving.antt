-- Which events save all that is behind.
use Rattle.std.specs.Prelude.{List, [], ◌∷◌}
use Rattle.plant_core.specs.declared.events.Event.{Event}
use Rattle.plant_core.specs.declared.events.Event.TheVariants.{Save, Trim}

-- all that is behind is saved, and then the records are dropped that no restart needs
abbrev pub saving_events : List Event
saving_events = Save ∷ Trim ∷ []

-- Events that a worker asks one after another.
use Rattle.std.proofs.Common.{◌≡◌, sym, subst, ℕ, ◌+◌, ◌<◌, List, ◌∷◌, drop, get_or, length}
use Rattle.std.specs.Prelude.{◌%◌, ◌==◌}
use Rattle.std.proofs.lemmas.List.{drop_more}
use Rattle.plant_model.specs.Plant.{PlantDefinition}
use Rattle.plant_core.specs.View.{View}
use Rattle.plant_core.specs.declared.events.Event.{Event}
use Rattle.engine_host.specs.declared.entry.Entry.{Entry}
use Rattle.worker_runs.specs.Asked.{AreAsked, IsTurn}

module _ (plant : PlantDefinition) (opening : View) (workers worker : ℕ) (events : List Event) where
  -- the events from this place on lead from what is known now to what all of them lead to from the start
  abbrev pub LeadsOn : ℕ → List Entry → List Entry → Type 0
  LeadsOn place start now = (after : List Entry) → AreAsked plant opening workers worker place (drop place events) now after → AreAsked plant opening workers worker 0 events start after

  -- one more event was asked
  pub leads-past : (place : ℕ) (event : Event) (start now next : List Entry) → place < length events → event ≡ get_or events place event →
      IsTurn plant opening (place % workers == worker) event now next → LeadsOn place start now → LeadsOn (place + 1) start next
  leads-past place event start now next within here turn leads after asked =
      leads after
      (subst (λ left. AreAsked plant opening workers worker place left now after) (sym (drop_more events place event within))
      (next, subst (λ e. IsTurn plant opening (place % workers == worker) e now next) here turn, asked))

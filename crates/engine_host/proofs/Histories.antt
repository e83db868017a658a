-- Histories that go on.
use Rattle.std.proofs.Common.{◌≡◌, List, [], ◌∷◌, ◌++◌, refl, ap, sym, ◌∙◌, subst}
use Rattle.plant_core.specs.declared.front.Front.{Front}
use Rattle.front_word.specs.Fronts.{last_of}
use Rattle.plant_model.specs.Plant.{PlantDefinition}
use Rattle.plant_core.specs.Events.{IsEvent}
use Rattle.plant_core.specs.View.{View}
use Rattle.plant_core.specs.declared.events.Happened.{Happened}
use Rattle.engine_host.specs.History.{IsHistory, entry, fronts}
use Rattle.engine_host.specs.Views.{front_in}
use Rattle.engine_host.specs.declared.entry.Entry.{Entry}

pub history-snoc : (plant : PlantDefinition) (v u w : View) (h : Happened) (es : List Entry) → IsHistory plant v es u → IsEvent plant u h w
    → IsHistory plant v (es ++ entry h (front_in w) ∷ []) w
history-snoc plant v u w h [] l e = (w, subst (λ (x : View). IsEvent plant x h w) l e, refl, refl)
history-snoc plant v u w h (x ∷ es) l e = (l.0, l.1, l.2, history-snoc plant l.0 u w h es l.3 e)

-- the last front of a history is that of the view that it leads to
pub history-last : (plant : PlantDefinition) (v w : View) (es : List Entry) → IsHistory plant v es w → last_of (front_in v) (fronts es) ≡ front_in w
history-last plant v w [] l = ap front_in (sym l)
history-last plant v w (x ∷ es) l = ap (λ (f : Front). last_of f (fronts es)) l.2 ∙ history-last plant l.0 w es l.3

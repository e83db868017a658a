-- What lies under the lock goes on.
use Rattle.std.proofs.Common.{◌≡◌, ℕ, ◌+◌, ◌≤◌, [], ◌∷◌, ◌++◌, Bool, List, length, false, ap, sym, ◌∙◌, subst, arith}
use Rattle.std.proofs.lemmas.Bool.Decides.{nat_tests}
use Rattle.plant_core.specs.declared.front.Front.{Front}
use Rattle.front_word.specs.declared.front.TheConstants.{MOST_FIRED}
use Rattle.front_word.specs.Fronts.{IsNotBelow, last_of}
use Rattle.plant_model.specs.Plant.{PlantDefinition}
use Rattle.plant_core.specs.Events.{IsEvent, fired_by}
use Rattle.plant_core.specs.View.{View, fired_number}
use Rattle.plant_core.specs.declared.events.Happened.{Happened}
use Rattle.engine_host.specs.Held.{Held, IsKept}
use Rattle.engine_host.specs.History.{IsHistory, entry, fronts}
use Rattle.engine_host.specs.Views.{front_in, is_used_up}
use Rattle.engine_host.proofs.Events.{event_counts, event_rises}
use Rattle.engine_host.proofs.Histories.{history-last, history-snoc}

-- the last front of the history is the plant's
pub kept_last : (plant : PlantDefinition) (opening : View) (digest : List ℕ) (keeps : Bool) (front : Front) (own : PlantDefinition) (h : Held) → IsKept plant opening digest keeps front own h
    → last_of front (fronts h.history) ≡ front_in h.view
kept_last plant opening digest keeps front own h k = ap (λ (f : Front). last_of f (fronts h.history)) k.opens ∙ history-last plant opening h.view h.history k.history

-- an event lowers no part of it
pub kept_rises : (plant : PlantDefinition) (opening : View) (digest : List ℕ) (keeps : Bool) (front : Front) (own : PlantDefinition) (h : Held) (happened : Happened) (w : View)
    → IsKept plant opening digest keeps front own h → IsEvent own h.view happened w → IsNotBelow (last_of front (fronts h.history)) (front_in w)
kept_rises plant opening digest keeps front own h happened w k e =
    subst (λ (f : Front). IsNotBelow f (front_in w)) (sym (kept_last plant opening digest keeps front own h k)) (event_rises own h.view happened w e)

-- and its entry goes to the end of the history
pub kept_goes_on : (plant : PlantDefinition) (opening : View) (digest : List ℕ) (keeps : Bool) (front : Front) (own next : PlantDefinition) (h new : Held) (happened : Happened)
    → IsKept plant opening digest keeps front own h → IsEvent own h.view happened new.view → next ≡ own → new.digest ≡ h.digest → new.device.keeps ≡ h.device.keeps → new.total ≡ h.total + length (fired_by happened) → h.total + length (fired_by happened) ≤ MOST_FIRED
    → new.history ≡ h.history ++ entry happened (front_in new.view) ∷ [] → IsKept plant opening digest keeps front next new
kept_goes_on plant opening digest keeps front own next h new happened k e same text kind count few es_is =
    let counted = event_counts own h.view happened new.view e in record {
      plant_is = same ∙ k.plant_is;
      digest_is = text ∙ k.digest_is;
      keeps_is = kind ∙ k.keeps_is;
      opens = k.opens;
      history = subst (λ xs. IsHistory plant opening xs new.view) (sym es_is) (history-snoc plant opening h.view new.view happened h.history k.history (subst (λ (p : PlantDefinition). IsEvent p h.view happened new.view) k.plant_is e));
      booked = omega (arith, k.booked);
      few = omega (arith, few);
    }

-- no more is fired than the word can count
pub kept_to : (plant : PlantDefinition) (opening : View) (digest : List ℕ) (keeps : Bool) (front : Front) (own : PlantDefinition) (h : Held) (happened : Happened) (w : View)
    → IsKept plant opening digest keeps front own h → IsEvent own h.view happened w → h.total + length (fired_by happened) ≤ MOST_FIRED → fired_number w ≤ front.fired + MOST_FIRED
kept_to plant opening digest keeps front own h happened w k e few =
    let counted = event_counts own h.view happened w e in
    omega (arith, k.booked, ap (λ (f : Front). f.fired) k.opens)

-- where not so many were fired, one more can be counted
pub kept_room : (plant : PlantDefinition) (opening : View) (digest : List ℕ) (keeps : Bool) (front : Front) (own : PlantDefinition) (h : Held) (more : ℕ)
    → IsKept plant opening digest keeps front own h → is_used_up opening h.view ≡ false → more ≤ 1 → h.total + more ≤ MOST_FIRED
kept_room plant opening digest keeps front own h more k free few = grind (arith, nat_tests, k.booked, k.few)

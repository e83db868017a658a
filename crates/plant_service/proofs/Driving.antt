-- Events that are asked of a plant in some calls, one after another.
use Rattle.std.proofs.Common.{◌≡◌, ◌∙◌, ap, sym, refl, subst, ℕ, ◌+◌, ◌||◌, Bool, true, false, List, [], ◌∷◌, ◌++◌, append-nil, codes, Option, Result, Ok, Err, OnErr}
use Rattle.std.specs.List.{list_any}
use Rattle.std.specs.Io.KnownBytes.{Appends}
use Rattle.std.proofs.KnownBytes.{Appends-trans}
use Rattle.std.proofs.Math.Bool.{or-false}
use Rattle.std.proofs.lemmas.Grind.{flat_map-append}
use Rattle.std.proofs.lemmas.List.Folds.{list_any-append}
use Rattle.disk_model.specs.Cells.{Cell, MayBe}
use Rattle.disk_model.specs.DiskState.{DiskState, size_of}
use Rattle.disk_model.specs.declared.cells.TheConstants.{BODY}
use Rattle.plant_model.specs.Plant.{PlantDefinition}
use Rattle.plant_model.specs.Runs.{IsRun, fold}
use Rattle.plant_model.proofs.OnRuns.{run-folds}
use Rattle.plant_core.specs.Driven.{IsDriven}
use Rattle.plant_core.specs.Events.{has_failed}
use Rattle.plant_core.specs.Hands.{HandFields}
use Rattle.plant_core.specs.Stops.{StandsForFront}
use Rattle.plant_core.specs.View.{View}
use Rattle.plant_core.specs.declared.events.Event.{Event}
use Rattle.plant_core.specs.declared.events.Happened.{Happened}
use Rattle.plant_core.proofs.EventByEvent.{driven-join, driven-none}
use Rattle.script_lines.specs.Answers.{happened_line}
use Rattle.script_lines.specs.Runs.{IsAnswered, IsCutRun, happened_text}
use Rattle.plant_service.specs.Queries.{query_text}
use Rattle.plant_service.specs.Saving.{saving_events}
use Rattle.plant_service.specs.Serving.{HasBeenAsked, HasBeenDriven, IsAnsweredAs, events_of}
use Rattle.plant_service.specs.declared.command.Command.{Command}
use Rattle.plant_service.specs.declared.command.Command.TheVariants.{Nothing, Asks, Choices, State, Why, WhyOf, Front, Room, Save, Quit, Mistaken, TooLong}

-- whatever a stop leaves stands for the state after some front
abbrev pub StandsNow : PlantDefinition → List ℕ → View → DiskState → Type 0
StandsNow plant digest v s = s.keeps ≡ true → (cells : List Cell) → MayBe (BODY + 1) s cells → StandsForFront plant digest (size_of s) v cells

-- what holds whatever a result is holds where it is an error
pub on-err : {T E P : Type 0} (result : Result T E) → P → OnErr result P
on-err (Ok x) holds = tt
on-err (Err e) holds = holds

-- how a plant shows its present state: it leads there from what is acknowledged
pub leads-of : (plant : PlantDefinition) (v : View) → IsRun plant v.acked v.tail v.present → v.present ≡ fold plant v.acked v.tail
leads-of plant v run = sym (run-folds plant v.tail v.acked v.present run)

-- the same plant and text by other names
pub answered-by : (x plant : PlantDefinition) (d digest : List ℕ) → x ≡ plant → d ≡ digest → (v w : View) (s m : DiskState) (a b : HandFields) (event : Event) (h : Happened) (old new : Option (List ℕ))
    → IsAnswered x d v s a event h w m b old new → IsAnswered plant digest v s a event h w m b old new
answered-by x plant d digest same_plant same_digest v w s m a b event h old new answered =
    subst (λ (t : List ℕ). IsAnswered plant t v s a event h w m b old new) same_digest
    (subst (λ (y : PlantDefinition). IsAnswered y d v s a event h w m b old new) same_plant answered)

pub cut-by : (x plant : PlantDefinition) (d digest : List ℕ) → x ≡ plant → d ≡ digest → (v w : View) (s m : DiskState) (a b : HandFields) (events : List Event)
    → IsCutRun x d v s a events w m b → IsCutRun plant digest v s a events w m b
cut-by x plant d digest same_plant same_digest v w s m a b events cut =
    subst (λ (t : List ℕ). IsCutRun plant t v s a events w m b) same_digest
    (subst (λ (y : PlantDefinition). IsCutRun y d v s a events w m b) same_plant cut)

pub driven-by : (x plant : PlantDefinition) (d digest : List ℕ) → x ≡ plant → d ≡ digest → (v w : View) (s m : DiskState) (a b : HandFields)
    → HasBeenDriven x d v s a w m b → HasBeenDriven plant digest v s a w m b
driven-by x plant d digest same_plant same_digest v w s m a b driven =
    subst (λ (t : List ℕ). HasBeenDriven plant t v s a w m b) same_digest
    (subst (λ (y : PlantDefinition). HasBeenDriven y d v s a w m b) same_plant driven)

module _ (plant : PlantDefinition) (digest : List ℕ) where
  -- nothing was asked
  pub none-driven : (v : View) (s : DiskState) (hands : HandFields) → StandsNow plant digest v s → HasBeenDriven plant digest v s hands v s hands
  none-driven v s hands stands = record { events = []; happened = []; driven = driven-none plant digest v s hands stands }

  -- one event was
  pub one-asked : (v w : View) (s m : DiskState) (a b : HandFields) (event : Event) (h : Happened) (failed : Bool) (old new : Option (List ℕ))
      → IsAnswered plant digest v s a event h w m b old new → failed ≡ has_failed h → HasBeenAsked plant digest v s a (event ∷ []) failed w m b old new
  one-asked v w s m a b event h failed old new answered is = record {
    happened = h ∷ [];
    driven = answered.driven;
    printed = subst (Appends old new) (sym (append-nil (happened_line plant h ++ codes "\n"))) answered.printed;
    told = is ∙ sym (or-false (has_failed h));
  }

  -- a plant that was asked was driven, also where only some of the events were asked
  pub asked-drives : (v w : View) (s m : DiskState) (a b : HandFields) (events : List Event) (failed : Bool) (old new : Option (List ℕ))
      → HasBeenAsked plant digest v s a events failed w m b old new → HasBeenDriven plant digest v s a w m b
  asked-drives v w s m a b events failed old new asked = record { events = events; happened = asked.happened; driven = asked.driven }

  pub cut-drives : (v w : View) (s m : DiskState) (a b : HandFields) (events : List Event) → IsCutRun plant digest v s a events w m b → HasBeenDriven plant digest v s a w m b
  cut-drives v w s m a b events cut = record { events = cut.asked; happened = cut.happened; driven = cut.driven }

  module _ (v u w : View) (s m t : DiskState) (a b c : HandFields) (leads : v.present ≡ fold plant v.acked v.tail) where
    -- events and then others
    pub asked-more : (before behind : List Event) (failed more : Bool) (old mid new : Option (List ℕ))
        → HasBeenAsked plant digest v s a before failed u m b old mid → HasBeenAsked plant digest u m b behind more w t c mid new
        → HasBeenAsked plant digest v s a (before ++ behind) (failed || more) w t c old new
    asked-more before behind failed more old mid new first second = record {
      happened = first.happened ++ second.happened;
      driven = driven-join plant digest v u w s m t a b c before behind first.happened second.happened leads first.driven second.driven;
      printed = subst (Appends old new) (sym (flat_map-append (λ h. happened_line plant h ++ codes "\n") first.happened second.happened))
          (Appends-trans old mid new _ _ first.printed second.printed);
      told = ap (λ x. x || more) first.told ∙ ap (λ x. list_any has_failed first.happened || x) second.told ∙ sym (list_any-append has_failed first.happened second.happened);
    }

    pub driven-more : HasBeenDriven plant digest v s a u m b → HasBeenDriven plant digest u m b w t c → HasBeenDriven plant digest v s a w t c
    driven-more first second = record {
      events = first.events ++ second.events;
      happened = first.happened ++ second.happened;
      driven = driven-join plant digest v u w s m t a b c first.events second.events first.happened second.happened leads first.driven second.driven;
    }

-- ---- the answer to a line

-- a command that asks for no events
pub no-events : (plant : PlantDefinition) (v : View) (command : Command) → ((event : Event) → command ≡ Asks event → ⊥) → (command ≡ Save → ⊥) → events_of plant v command ≡ []
no-events plant v (Asks event) no_event no_save = absurd (no_event event refl)
no-events plant v Save no_event no_save = absurd (no_save refl)
no-events plant v Nothing no_event no_save = refl
no-events plant v Choices no_event no_save = refl
no-events plant v State no_event no_save = refl
no-events plant v Why no_event no_save = refl
no-events plant v (WhyOf connector) no_event no_save = refl
no-events plant v Front no_event no_save = refl
no-events plant v Room no_event no_save = refl
no-events plant v Quit no_event no_save = refl
no-events plant v (Mistaken mistake) no_event no_save = refl
no-events plant v TooLong no_event no_save = refl

module _ (plant : PlantDefinition) (digest rules : List ℕ) (v w : View) (s m : DiskState) (a b : HandFields) (line : List ℕ) (command : Command) (failed : Bool) (old new : Option (List ℕ)) where
  -- it asks for events
  pub answered-event : (event : Event) → command ≡ Asks event → HasBeenAsked plant digest v s a (event ∷ []) failed w m b old new → IsAnsweredAs plant digest rules v s a line command failed w m b old new
  answered-event event same asked =
      subst (λ (k : Command). IsAnsweredAs plant digest rules v s a line k failed w m b old new) (sym same)
      (record { happened = asked.happened; driven = asked.driven; printed = subst (Appends old new) (sym (append-nil (happened_text plant asked.happened))) asked.printed; told = asked.told })

  pub answered-save : command ≡ Save → HasBeenAsked plant digest v s a saving_events failed w m b old new → IsAnsweredAs plant digest rules v s a line command failed w m b old new
  answered-save same asked =
      subst (λ (k : Command). IsAnsweredAs plant digest rules v s a line k failed w m b old new) (sym same)
      (record { happened = asked.happened; driven = asked.driven; printed = subst (Appends old new) (sym (append-nil (happened_text plant asked.happened))) asked.printed; told = asked.told })

  -- so the plant was driven by them
  pub answer-drives : IsAnsweredAs plant digest rules v s a line command failed w m b old new → HasBeenDriven plant digest v s a w m b
  answer-drives answered = record { events = events_of plant v command; happened = answered.happened; driven = answered.driven }

-- the same plant and text by other names
pub answered-as-by : (x plant : PlantDefinition) (d digest : List ℕ) → x ≡ plant → d ≡ digest → (rules : List ℕ) (v w : View) (s m : DiskState) (a b : HandFields) (line : List ℕ) (command : Command) (failed : Bool) (old new : Option (List ℕ))
    → IsAnsweredAs x d rules v s a line command failed w m b old new → IsAnsweredAs plant digest rules v s a line command failed w m b old new
answered-as-by x plant d digest same_plant same_digest rules v w s m a b line command failed old new answered =
    subst (λ (t : List ℕ). IsAnsweredAs plant t rules v s a line command failed w m b old new) same_digest
    (subst (λ (y : PlantDefinition). IsAnsweredAs y d rules v s a line command failed w m b old new) same_plant answered)

-- or it asks a question
pub answered-query : (plant : PlantDefinition) (digest rules : List ℕ) (v : View) (s : DiskState) (a : HandFields) (line : List ℕ) (command : Command) (old new : Option (List ℕ))
    → StandsNow plant digest v s → events_of plant v command ≡ [] → Appends old new (query_text plant rules v line command) → IsAnsweredAs plant digest rules v s a line command false v s a old new
answered-query plant digest rules v s a line command old new stands none printed = record {
  happened = [];
  driven = subst (λ (es : List Event). IsDriven plant digest v s a es [] v s a) (sym none) (driven-none plant digest v s a stands);
  printed = printed;
  told = refl;
}

-- ---- a plant that has been driven is driven on, by other names

-- by some events
pub driven-on : {x plant : PlantDefinition} {d digest : List ℕ} {v u w : View} {s m t : DiskState} {a b c : HandFields} → x ≡ plant → d ≡ digest → IsRun plant v.acked v.tail v.present
    → HasBeenDriven plant digest v s a u m b → HasBeenDriven x d u m b w t c → HasBeenDriven plant digest v s a w t c
driven-on {plant = plant} {v = v} same_plant same_digest run first second =
    driven-more _ _ _ _ _ _ _ _ _ _ _ (leads-of plant v run) first (driven-by _ _ _ _ same_plant same_digest _ _ _ _ _ _ second)

-- by the answer to a line
pub answered-on : {x plant : PlantDefinition} {d digest rules line : List ℕ} {v u w : View} {s m t : DiskState} {a b c : HandFields} {command : Command} {failed : Bool} {old new : Option (List ℕ)} → x ≡ plant → d ≡ digest
    → IsRun plant v.acked v.tail v.present → HasBeenDriven plant digest v s a u m b → IsAnsweredAs x d rules u m b line command failed w t c old new → HasBeenDriven plant digest v s a w t c
answered-on same_plant same_digest run first answered = driven-on same_plant same_digest run first (answer-drives _ _ _ _ _ _ _ _ _ _ _ _ _ _ answered)

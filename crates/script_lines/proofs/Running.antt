-- Events that are asked of a plant one after another.
use Rattle.std.proofs.Common.{◌≡◌, ◌∙◌, ap, sym, refl, subst, ℕ, ◌+◌, ◌<◌, ◌≤◌, ◌||◌, Bool, List, [], ◌∷◌, ◌++◌, append_assoc, append-nil, take, drop, get_or, length, codes, Option, Result, Ok, Err, OnErr}
use Rattle.std.specs.List.{list_any}
use Rattle.std.specs.Io.KnownBytes.{Appends, Keeps}
use Rattle.std.proofs.KnownBytes.{Appends-kept, Appends-trans}
use Rattle.std.proofs.Math.Bool.{or-false}
use Rattle.std.proofs.lemmas.Grind.{flat_map-append}
use Rattle.std.proofs.lemmas.List.{drop_more, take-append-drop, take_all}
use Rattle.std.proofs.lemmas.List.Folds.{list_any-append}
use Rattle.plant_model.specs.Plant.{PlantDefinition}
use Rattle.disk_model.specs.DiskState.{DiskState}
use Rattle.plant_model.specs.Runs.{fold}
use Rattle.plant_core.specs.Driven.{IsDriven}
use Rattle.plant_core.specs.Events.{has_failed}
use Rattle.plant_core.specs.Hands.{HandFields}
use Rattle.plant_core.specs.View.{View}
use Rattle.plant_core.specs.declared.events.Event.{Event}
use Rattle.plant_core.specs.declared.events.Happened.{Happened}
use Rattle.plant_core.proofs.EventByEvent.{driven-join}
use Rattle.script_lines.specs.Answers.{happened_line, standing_text}
use Rattle.script_lines.specs.Runs.{IsAnswered, IsCutRun, IsRunOf, happened_text}

-- what holds whatever a result is holds where it is an error
pub on-err : {T E P : Type 0} (result : Result T E) → P → OnErr result P
on-err (Ok x) holds = tt
on-err (Err e) holds = holds

-- events were asked and answered, and the lines of their answers are printed
pub record IsSoFar (plant : PlantDefinition) (digest : List ℕ) (before : View) (s : DiskState) (hands : HandFields) (events : List Event) (failed : Bool) (now : View) (m : DiskState) (held : HandFields) (old new : Option (List ℕ)) : Type 0 where
  pub happened : List Happened
  pub driven : IsDriven plant digest before s hands events happened now m held
  pub printed : Appends old new (happened_text plant happened)
  pub told : failed ≡ list_any has_failed happened

module _ (plant : PlantDefinition) (digest : List ℕ) where
  -- some events were asked, and no more
  pub cut-of-driven : (v w : View) (s m : DiskState) (a b : HandFields) (events left : List Event) (hs : List Happened) → IsDriven plant digest v s a events hs w m b → IsCutRun plant digest v s a (events ++ left) w m b
  cut-of-driven v w s m a b events left hs driven = record { happened = hs; asked = events; left = left; in_order = refl; driven = driven }

  -- the same of one that was answered
  pub cut-of-answered : (v w : View) (s m : DiskState) (a b : HandFields) (event : Event) (happened : Happened) (old new : Option (List ℕ)) → IsAnswered plant digest v s a event happened w m b old new
      → IsCutRun plant digest v s a (event ∷ []) w m b
  cut-of-answered v w s m a b event happened old new answered = cut-of-driven v w s m a b (event ∷ []) [] (happened ∷ []) answered.driven

  module _ (v : View) (s : DiskState) (a : HandFields) (leads : v.present ≡ fold plant v.acked v.tail) where
    -- one more event is answered
    pub so-far-more : (u w : View) (m t : DiskState) (b c : HandFields) (events : List Event) (event : Event) (failed more : Bool) (now : Happened) (start old new : Option (List ℕ))
        → IsSoFar plant digest v s a events failed u m b start old → IsAnswered plant digest u m b event now w t c old new → more ≡ has_failed now → IsSoFar plant digest v s a (events ++ event ∷ []) (failed || more) w t c start new
    so-far-more u w m t b c events event failed more now start old new so_far answered is =
        let one : List Happened = now ∷ [] in
        record {
          happened = so_far.happened ++ one;
          driven = driven-join plant digest v u w s m t a b c events (event ∷ []) so_far.happened one leads so_far.driven answered.driven;
          printed = subst (Appends start new) (sym (flat_map-append (λ h. happened_line plant h ++ codes "\n") so_far.happened one))
              (Appends-trans start old new (happened_text plant so_far.happened) (happened_text plant one) so_far.printed
              (subst (Appends old new) (sym (append-nil (happened_line plant now ++ codes "\n"))) answered.printed));
          told = ap (λ x. x || more) so_far.told ∙ ap (λ x. list_any has_failed so_far.happened || x) (is ∙ sym (or-false (has_failed now))) ∙ sym (list_any-append has_failed so_far.happened one);
        }

    -- the run ends in the event at this place
    pub cut-of-some : (u w : View) (m t : DiskState) (b c : HandFields) (events : List Event) (i : ℕ) (none : Event) (failed : Bool) (old new : Option (List ℕ))
        → i < length events → IsSoFar plant digest v s a (take i events) failed u m b old new → IsCutRun plant digest u m b (get_or events i none ∷ []) w t c → IsCutRun plant digest v s a events w t c
    cut-of-some u w m t b c events i none failed old new within so_far cut =
        let rest = drop (i + 1) events in
        let all : (take i events ++ cut.asked) ++ (cut.left ++ rest) ≡ events =
        append_assoc (take i events) cut.asked (cut.left ++ rest) ∙
        ap (λ es. take i events ++ es) (sym (append_assoc cut.asked cut.left rest)) ∙
        ap (λ es. take i events ++ (es ++ rest)) cut.in_order ∙
        ap (λ es. take i events ++ es) (sym (drop_more events i none within)) ∙
        take-append-drop i events in
        record {
          happened = so_far.happened ++ cut.happened;
          asked = take i events ++ cut.asked;
          left = cut.left ++ rest;
          in_order = all;
          driven = driven-join plant digest v u w s m t a b c (take i events) cut.asked so_far.happened cut.happened leads so_far.driven cut.driven;
        }

  module _ (v w : View) (s m : DiskState) (a b : HandFields) (events : List Event) (i : ℕ) (all : length events ≤ i) (failed : Bool) (start old : Option (List ℕ)) (so_far : IsSoFar plant digest v s a (take i events) failed w m b start old) where
    -- all events were answered
    all-driven : IsDriven plant digest v s a events so_far.happened w m b
    all-driven = subst (λ es. IsDriven plant digest v s a es so_far.happened w m b) (take_all i events all) so_far.driven

    -- and where the plant stands is printed
    pub run-of-all : (new end : Option (List ℕ)) → Appends old new (standing_text plant w) → Keeps new end → IsRunOf plant digest v s a events failed w m b start end
    run-of-all new end standing kept = record {
      happened = so_far.happened;
      driven = all-driven;
      printed = Appends-kept start new end _ (Appends-trans start old new _ _ so_far.printed standing) kept;
      told = so_far.told;
    }

    -- or it is not
    pub cut-of-all : IsCutRun plant digest v s a events w m b
    cut-of-all = subst (λ es. IsCutRun plant digest v s a es w m b) (append-nil events) (cut-of-driven v w s m a b events [] so_far.happened all-driven)

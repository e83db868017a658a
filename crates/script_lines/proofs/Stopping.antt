-- Events that are asked one after another, up to the first that is refused.
use Rattle.std.proofs.Common.{◌≡◌, ◌∙◌, ◌+◌, ◌<◌, ◌&&◌, ap, sym, refl, subst, ℕ, Bool, true, false, if◌then◌else◌, List, [], ◌∷◌, ◌++◌, append_assoc, append-nil, length, take, drop, get_or, codes, Option, None, Some}
use Rattle.std.specs.Prelude.{is_none, option_map}
use Rattle.std.specs.List.{list_all}
use Rattle.std.specs.Io.KnownBytes.{Appends}
use Rattle.std.proofs.KnownBytes.{Appends-trans}
use Rattle.std.proofs.lemmas.Grind.{flat_map-append}
use Rattle.std.proofs.lemmas.List.{take-append-drop, take_more}
use Rattle.std.proofs.lemmas.List.Folds.{list_all-append}
use Rattle.std.proofs.lemmas.Option.{same_Some, slice_get_read}
use Rattle.disk_model.specs.DiskState.{DiskState}
use Rattle.plant_model.specs.Plant.{PlantDefinition}
use Rattle.plant_model.specs.Runs.{fold}
use Rattle.plant_core.specs.Hands.{HandFields}
use Rattle.plant_core.specs.View.{View}
use Rattle.plant_core.specs.declared.events.Event.{Event}
use Rattle.plant_core.specs.declared.events.Happened.{Happened}
use Rattle.plant_core.proofs.EventByEvent.{driven-join}
use Rattle.script_lines.specs.Answers.{happened_line, not_now_line}
use Rattle.script_lines.specs.Runs.{IsAnswered, IsCutRun, happened_text}
use Rattle.script_lines.specs.Strict.{AreAskedStrictly, IsStopped, NoneRefused, refusal_in, stop_at, strict_text}
use Rattle.script_lines.specs.declared.strict.Refusal.{Refusal}
use Rattle.script_lines.specs.declared.strict.Stop.{Stop}

-- none of two rows of events was refused
none-of-both : (hs gs : List Happened) → NoneRefused hs → NoneRefused gs → NoneRefused (hs ++ gs)
none-of-both hs gs first second =
    list_all-append (λ h. is_none (refusal_in h)) hs gs ∙ ap (λ b. b && list_all (λ h. is_none (refusal_in h)) gs) first ∙ second

-- one event was answered
stopped-at-one : (plant : PlantDefinition) (event : Event) (h : Happened) (w : View) (r : Option Refusal) → refusal_in h ≡ r
    → IsStopped plant (event ∷ []) (event ∷ []) (h ∷ []) w false (option_map (stop_at 0) r)
stopped-at-one plant event h w None is = (refl, ap (λ o. is_none o && true) is)
stopped-at-one plant event h w (Some r) is = (refl, ([], h, refl, refl, is))

pub asked-one : (plant : PlantDefinition) (digest : List ℕ) (v w : View) (s m : DiskState) (a b : HandFields) (event : Event) (h : Happened) (r : Option Refusal) (old new : Option (List ℕ))
    → IsAnswered plant digest v s a event h w m b old new → refusal_in h ≡ r → AreAskedStrictly plant digest v s a (event ∷ []) (option_map (stop_at 0) r) w m b old new
asked-one plant digest v w s m a b event h r old new answered is = record {
  asked = event ∷ [];
  happened = h ∷ [];
  passed = false;
  driven = answered.driven;
  stopped = stopped-at-one plant event h w r is;
  printed = subst (Appends old new) (sym (append-nil (happened_text plant (h ∷ [])) ∙ append-nil (happened_line plant h ++ codes "\n"))) answered.printed;
}

-- none was refused, and none was passed over
not-passed : (plant : PlantDefinition) (events asked : List Event) (hs : List Happened) (w : View) (p : Bool) → IsStopped plant events asked hs w p None → (p ≡ false) × (asked ≡ events) × NoneRefused hs
not-passed plant events asked hs w false stopped = (refl, stopped.0, stopped.1)
not-passed plant events asked hs w true stopped = absurd stopped

-- what is printed of two rows, where none was passed over in the first
printed-both : (plant : PlantDefinition) (hs gs : List Happened) (p q : Bool) (old mid new : Option (List ℕ)) → p ≡ false
    → Appends old mid (strict_text plant hs p) → Appends mid new (strict_text plant gs q) → Appends old new (strict_text plant (hs ++ gs) q)
printed-both plant hs gs p q old mid new is first second =
    let begun : Appends old mid (happened_text plant hs) = subst (Appends old mid) (ap (strict_text plant hs) is ∙ append-nil (happened_text plant hs)) first in
    let last : List ℕ = if q then not_now_line ++ codes "\n" else [] in
    subst (Appends old new)
    (sym (append_assoc (happened_text plant hs) (happened_text plant gs) last) ∙ ap (λ text. text ++ last) (sym (flat_map-append (λ h. happened_line plant h ++ codes "\n") hs gs)))
    (Appends-trans old mid new (happened_text plant hs) (strict_text plant gs q) begun second)

module _ (plant : PlantDefinition) (digest : List ℕ) (v u w : View) (s m t : DiskState) (a b c : HandFields) (leads : v.present ≡ fold plant v.acked v.tail) (old mid new : Option (List ℕ)) where
  -- one more event, which was not refused either
  pub asked-more : (before : List Event) (event : Event) → AreAskedStrictly plant digest v s a before None u m b old mid
      → AreAskedStrictly plant digest u m b (event ∷ []) None w t c mid new → AreAskedStrictly plant digest v s a (before ++ event ∷ []) None w t c old new
  asked-more before event first second =
      let one = not-passed plant before first.asked first.happened u first.passed first.stopped in
      let two = not-passed plant (event ∷ []) second.asked second.happened w second.passed second.stopped in
      record {
        asked = first.asked ++ second.asked;
        happened = first.happened ++ second.happened;
        passed = false;
        driven = driven-join plant digest v u w s m t a b c first.asked second.asked first.happened second.happened leads first.driven second.driven;
        stopped = (ap (λ es. es ++ second.asked) one.1 ∙ ap (λ es. before ++ es) two.1, none-of-both first.happened second.happened one.2 two.2);
        printed = subst (λ q. Appends old new (strict_text plant (first.happened ++ second.happened) q)) two.0
            (printed-both plant first.happened second.happened first.passed second.passed old mid new one.0 first.printed second.printed);
      }

  module _ (events : List Event) (i : ℕ) (event : Event) (within : i < length events) (here : event ≡ get_or events i event) where
    -- the events before a place, and the one there
    through : take i events ++ event ∷ [] ≡ take (i + 1) events
    through = ap (λ e. take i events ++ e ∷ []) here ∙ sym (take_more events i event within)

    -- the last of them is refused, or passed over
    stops : (r : Refusal) (asked more : List Event) (hs gs : List Happened) (q : Bool) → asked ≡ take i events → NoneRefused hs
        → IsStopped plant (event ∷ []) more gs w q (Some (stop_at 0 r)) → IsStopped plant events (asked ++ more) (hs ++ gs) w q (Some (stop_at i r))
    stops r asked more hs gs false were none stopped =
        let front : List Happened = stopped.1.0 in
        let last : Happened = stopped.1.1 in (
          ap (λ es. es ++ more) were ∙ ap (λ es. take i events ++ es) stopped.0 ∙ through,
          (
            hs ++ front,
            last,
            ap (λ ks. hs ++ ks) stopped.1.2 ∙ sym (append_assoc hs front (last ∷ [])),
            none-of-both hs front none stopped.1.3,
            stopped.1.4,
          ),
        )
    stops r asked more hs gs true were none stopped =
        let e : Event = stopped.3.0 in
        let same : event ≡ e = same_Some event e stopped.3.1 in (
          ap (λ es. es ++ more) were ∙ ap (λ es. take i events ++ es) stopped.0 ∙ append-nil (take i events),
          none-of-both hs gs none stopped.1,
          stopped.2,
          (e, slice_get_read events (length events) i event refl within here ∙ ap Some same, stopped.3.2),
        )

    -- the run ends in the event at this place
    pub cut-behind : AreAskedStrictly plant digest v s a (take i events) None u m b old mid → IsCutRun plant digest u m b (event ∷ []) w t c → IsCutRun plant digest v s a events w t c
    cut-behind first cut =
        let one = not-passed plant (take i events) first.asked first.happened u first.passed first.stopped in
        let rest : List Event = drop (i + 1) events in
        record {
          happened = first.happened ++ cut.happened;
          asked = first.asked ++ cut.asked;
          left = cut.left ++ rest;
          in_order = append_assoc first.asked cut.asked (cut.left ++ rest) ∙ ap (λ es. es ++ (cut.asked ++ (cut.left ++ rest))) one.1 ∙
              ap (λ es. take i events ++ es) (sym (append_assoc cut.asked cut.left rest) ∙ ap (λ es. es ++ rest) cut.in_order) ∙
              sym (append_assoc (take i events) (event ∷ []) rest) ∙ ap (λ es. es ++ rest) through ∙ take-append-drop (i + 1) events;
          driven = driven-join plant digest v u w s m t a b c first.asked cut.asked first.happened cut.happened leads first.driven cut.driven;
        }

    pub asked-last : (r : Refusal) → AreAskedStrictly plant digest v s a (take i events) None u m b old mid
        → AreAskedStrictly plant digest u m b (event ∷ []) (Some (stop_at 0 r)) w t c mid new → AreAskedStrictly plant digest v s a events (Some (stop_at i r)) w t c old new
    asked-last r first second =
        let one = not-passed plant (take i events) first.asked first.happened u first.passed first.stopped in
        record {
          asked = first.asked ++ second.asked;
          happened = first.happened ++ second.happened;
          passed = second.passed;
          driven = driven-join plant digest v u w s m t a b c first.asked second.asked first.happened second.happened leads first.driven second.driven;
          stopped = stops r first.asked second.asked first.happened second.happened second.passed one.1 one.2 second.stopped;
          printed = printed-both plant first.happened second.happened first.passed second.passed old mid new one.0 first.printed second.printed;
        }

-- which of the events were asked, and which were not
asked-of : (plant : PlantDefinition) (events asked : List Event) (hs : List Happened) (w : View) (p : Bool) (stop : Option Stop) → IsStopped plant events asked hs w p stop → (left : List Event) × (asked ++ left ≡ events)
asked-of plant events asked hs w false None stopped = ([], append-nil asked ∙ stopped.0)
asked-of plant events asked hs w false (Some stop) stopped =
    (drop (stop.place + 1) events, ap (λ es. es ++ drop (stop.place + 1) events) stopped.0 ∙ take-append-drop (stop.place + 1) events)
asked-of plant events asked hs w true None stopped = absurd stopped
asked-of plant events asked hs w true (Some stop) stopped =
    (drop stop.place events, ap (λ es. es ++ drop stop.place events) stopped.0 ∙ take-append-drop stop.place events)

-- a run that ends before it is printed where the plant stands
pub cut-of-asked : (plant : PlantDefinition) (digest : List ℕ) (v w : View) (s m : DiskState) (a b : HandFields) (events : List Event) (stop : Option Stop) (old new : Option (List ℕ))
    → AreAskedStrictly plant digest v s a events stop w m b old new → IsCutRun plant digest v s a events w m b
cut-of-asked plant digest v w s m a b events stop old new asked =
    let left = asked-of plant events asked.asked asked.happened w asked.passed stop asked.stopped in
    record { happened = asked.happened; asked = asked.asked; left = left.0; in_order = left.1; driven = asked.driven }

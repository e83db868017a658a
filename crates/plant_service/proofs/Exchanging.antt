-- Lines that are answered one after another.
use Rattle.std.proofs.Common.{◌≡◌, ◌∙◌, ap, sym, refl, subst, ℕ, ◌||◌, Bool, false, List, [], ◌∷◌, ◌++◌, append-nil, codes, Option}
use Rattle.std.specs.Prelude.{flat_map}
use Rattle.std.specs.List.{list_any}
use Rattle.std.specs.Io.KnownBytes.{Appends}
use Rattle.std.proofs.KnownBytes.{Appends-nil, Appends-trans}
use Rattle.std.proofs.lemmas.Grind.{flat_map-append}
use Rattle.std.proofs.lemmas.List.Folds.{list_any-append}
use Rattle.disk_model.specs.DiskState.{DiskState}
use Rattle.plant_model.specs.Plant.{PlantDefinition}
use Rattle.plant_model.specs.Runs.{fold}
use Rattle.plant_core.specs.Driven.{IsDriven}
use Rattle.plant_core.specs.Events.{IsEventRun, has_failed}
use Rattle.plant_core.specs.Hands.{HandFields}
use Rattle.plant_core.specs.View.{View}
use Rattle.plant_core.specs.declared.events.Event.{Event}
use Rattle.plant_core.specs.declared.events.Happened.{Happened}
use Rattle.plant_core.proofs.EventByEvent.{driven-join, driven-none}
use Rattle.script_lines.specs.Runs.{happened_text}
use Rattle.plant_service.specs.Command.{command_in}
use Rattle.plant_service.specs.Queries.{query_text}
use Rattle.plant_service.specs.Serving.{AreExchanges, AreServed, Exchange, IsAnsweredAs, answer_text, events_of, exchanged_text}
use Rattle.plant_service.specs.declared.command.Command.{Command}
use Rattle.plant_service.proofs.Driving.{StandsNow}

-- one more line was answered
exchanges-more : (plant : PlantDefinition) (rules : List ℕ) (v u w : View) (lines : List (List ℕ)) (xs : List Exchange) (line : List ℕ) (x : Exchange)
    → AreExchanges plant rules v lines xs u → x.events ≡ events_of plant u (command_in plant line) → x.text ≡ answer_text plant rules u line (command_in plant line) x.happened
    → IsEventRun plant u x.happened w → AreExchanges plant rules v (lines ++ line ∷ []) (xs ++ x ∷ []) w
exchanges-more plant rules v u w [] [] line x each events text run =
    subst (λ at. (x.events ≡ events_of plant at (command_in plant line)) × (x.text ≡ answer_text plant rules at line (command_in plant line) x.happened)
    × ((end : View) × IsEventRun plant at x.happened end × (w ≡ end))) each (events, text, (w, run, refl))
exchanges-more plant rules v u w [] (y ∷ ys) line x each events text run = absurd each
exchanges-more plant rules v u w (l ∷ ls) [] line x each events text run = absurd each
exchanges-more plant rules v u w (l ∷ ls) (y ∷ ys) line x each events text run =
    (each.0, each.1, (each.2.0, each.2.1, exchanges-more plant rules each.2.0 u w ls ys line x each.2.2 events text run))

-- what is said of a row and of one more
said-more : {X Y : Type 0} (say : X → List Y) (xs : List X) (x : X) → flat_map say (xs ++ x ∷ []) ≡ flat_map say xs ++ say x
said-more say xs x = flat_map-append say xs (x ∷ []) ∙ ap (λ ys. flat_map say xs ++ ys) (append-nil (say x))

module _ (plant : PlantDefinition) (digest rules : List ℕ) where
  -- no line was answered
  pub none-served : (v : View) (s : DiskState) (hands : HandFields) (out : Option (List ℕ)) → StandsNow plant digest v s → AreServed plant digest rules v s hands [] false v s hands out out
  none-served v s hands out stands = record {
    exchanges = [];
    each = refl;
    driven = driven-none plant digest v s hands stands;
    printed = Appends-nil out;
    told = refl;
  }

  module _ (v u w : View) (s m t : DiskState) (a b c : HandFields) (leads : v.present ≡ fold plant v.acked v.tail) (start old mid new : Option (List ℕ)) where
    -- one more, of which a front may have been kept that says the same
    pub one-more-served : (lines : List (List ℕ)) (typed whole : List ℕ) (command : Command) (failed more : Bool)
        → command ≡ command_in plant whole → query_text plant rules u typed command ≡ query_text plant rules u whole (command_in plant whole)
        → AreServed plant digest rules v s a lines failed u m b start old → IsAnsweredAs plant digest rules u m b typed command more w t c old mid → Appends mid new (codes "end\n")
        → AreServed plant digest rules v s a (lines ++ whole ∷ []) (failed || more) w t c start new
    one-more-served lines typed whole command failed more asks says served answered ended =
        let events : List Event = events_of plant u command in
        let happened : List Happened = answered.happened in
        let text : List ℕ = answer_text plant rules u typed command happened in
        let x : Exchange = record { events = events; happened = happened; text = text } in
        let xs : List Exchange = served.exchanges in
        let asked : List Event = flat_map (λ (y : Exchange). y.events) xs in
        let did : List Happened = flat_map (λ (y : Exchange). y.happened) xs in
        let same_events : flat_map (λ (y : Exchange). y.events) (xs ++ x ∷ []) ≡ asked ++ events = said-more (λ (y : Exchange). y.events) xs x in
        let same_happened : flat_map (λ (y : Exchange). y.happened) (xs ++ x ∷ []) ≡ did ++ happened = said-more (λ (y : Exchange). y.happened) xs x in
        let joined : IsDriven plant digest v s a (asked ++ events) (did ++ happened) w t c =
        driven-join plant digest v u w s m t a b c asked events did happened leads served.driven answered.driven in
        record {
          exchanges = xs ++ x ∷ [];
          each = exchanges-more plant rules v u w lines xs whole x served.each (ap (events_of plant u) asks) (ap (λ q. happened_text plant happened ++ q) says) answered.driven.run;
          driven = subst (λ es. IsDriven plant digest v s a es (flat_map (λ (y : Exchange). y.happened) (xs ++ x ∷ [])) w t c) (sym same_events)
              (subst (λ hs. IsDriven plant digest v s a (asked ++ events) hs w t c) (sym same_happened) joined);
          printed = subst (Appends start new) (sym (said-more (λ (y : Exchange). y.text ++ codes "end\n") xs x))
              (Appends-trans start old new (exchanged_text xs) (text ++ codes "end\n") served.printed (Appends-trans old mid new text (codes "end\n") answered.printed ended));
          told = ap (λ z. z || more) served.told ∙ ap (λ z. list_any has_failed did || z) answered.told ∙ sym (list_any-append has_failed did happened) ∙ ap (list_any has_failed) (sym same_happened);
        }

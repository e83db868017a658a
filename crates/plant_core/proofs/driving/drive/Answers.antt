use Rattle.std.proofs.Common.{◌+◌, ℕ, List, [], ◌∷◌, ◌++◌, length, take, refl, sym, ◌∙◌, ap, subst}
use Rattle.std.proofs.lemmas.List.{take_all, take_more}
use Rattle.disk_model.specs.Cells.{Leaves}
use Rattle.disk_model.specs.DiskState.{size_of}
use Rattle.disk_model.specs.declared.cells.TheConstants.{BODY}
use Rattle.plant_core.specs.Events.{AreHandsAfter, IsEvent, IsHandedIn}
use Rattle.plant_core.specs.Driven.{IsDriven}
use Rattle.plant_core.specs.Handed.{hands_of}
use Rattle.plant_core.specs.Hands.{AreHandsFor}
use Rattle.plant_model.specs.Plant.{PlantDefinition}
use Rattle.plant_core.specs.Plants.{definition_of, device_of, text_digest, view_of}
use Rattle.plant_core.specs.Stops.{StandsForFront}
use Rattle.plant_core.specs.declared.events.Event.{Event}
use Rattle.plant_core.specs.declared.events.Happened.{Happened}
use Rattle.plant_core.proofs.AtRest.{of-front}
use Rattle.plant_core.proofs.EventByEvent.{driven-join, driven-none, driven-one}
use Rattle.plant_core.proofs.driving.drive.Goals as goal

pub loop-event-init : goal.loop-event-init
loop-event-init g c =
    let p = c.args.plant.now in
    let hands = hands_of c.args.hands.now in
    record {
      room = c.in_ok-answers.ensures.exact;
      many = c.in_ok-answers.ensures.len;
      plant = refl;
      digest = refl;
      hands = c.requires;
      so_far = subst (λ (hs : List Happened). IsDriven (definition_of p) (text_digest p) (view_of p) (device_of p) hands [] hs (view_of p) (device_of p) hands) (sym c.in_ok-answers.ensures.items)
          (driven-none (definition_of p) (text_digest p) (view_of p) (device_of p) hands
          (λ keeps cells may. of-front (definition_of p) (text_digest p) (size_of (device_of p)) (view_of p) cells (p.at_a_stop keeps cells may)));
    }

pub loop-event-preserved : goal.loop-event-preserved
loop-event-preserved g c =
    let p = c.args.plant.now in
    let q = c.loop-event.plant in
    let r = c.meet.new.plant in
    let hands = hands_of c.args.hands.now in
    let held = hands_of c.loop-event.hands in
    let after = hands_of c.meet.new.hands in
    let i : ℕ = c.loop-event.event-index in
    let events : List Event = c.args.events.now in
    let event-now : Event = c.event-item.result in
    let before : List Happened = c.loop-event.answers.items in
    let same = c.loop-event.invariant.plant in
    let told = c.loop-event.invariant.digest in
    let event : IsEvent (definition_of p) (view_of q) c.meet.result (view_of r) = subst (λ d. IsEvent d (view_of q) c.meet.result (view_of r)) same c.meet.ensures.event in
    let one : IsDriven (definition_of p) (text_digest p) (view_of q) (device_of q) held (event-now ∷ []) (c.meet.result ∷ []) (view_of r) (device_of r) after =
    driven-one (definition_of p) (text_digest p) (view_of q) (device_of q) held c.meet.result (view_of r) (device_of r) after event event-now c.meet.ensures.asked
    (λ keeps. subst (λ (digest : List ℕ). Leaves (BODY + 1) (StandsForFront (definition_of p) digest (size_of (device_of q)) (view_of q)) (device_of q) (device_of r)) told
    (subst (λ d. Leaves (BODY + 1) (StandsForFront d (text_digest q) (size_of (device_of q)) (view_of q)) (device_of q) (device_of r)) same (c.meet.ensures.stops keeps)))
    c.meet.ensures.cause c.meet.ensures.idle c.meet.ensures.untouched c.meet.ensures.size c.meet.ensures.keeps (subst (λ d. IsHandedIn d held c.meet.result) same c.meet.ensures.handed_in) (subst (λ d. AreHandsAfter d (view_of q) held c.meet.result after) same c.meet.ensures.hands) in
    let more = driven-join (definition_of p) (text_digest p) (view_of p) (view_of q) (view_of r) (device_of p) (device_of q) (device_of r) hands held after (take i events) (event-now ∷ []) before (c.meet.result ∷ []) p.fits_together.leads
    c.loop-event.invariant.so_far one in
    record {
      room = c.push_reserved.ensures.capacity ∙ c.loop-event.invariant.room;
      many = c.push_reserved.ensures.len ∙ ap (λ (n : ℕ). n + 1) c.loop-event.invariant.many;
      plant = c.meet.ensures.plant ∙ same;
      digest = c.meet.ensures.digest ∙ told;
      hands = subst (λ (d : PlantDefinition). AreHandsFor (length d.atoms) after) same c.meet.ensures.as_many;
      so_far = subst (λ (hs : List Happened). IsDriven (definition_of p) (text_digest p) (view_of p) (device_of p) hands (take (i + 1) events) hs (view_of r) (device_of r) after) (sym c.push_reserved.ensures.items)
          (subst (λ (es : List Event). IsDriven (definition_of p) (text_digest p) (view_of p) (device_of p) hands es (before ++ c.meet.result ∷ []) (view_of r) (device_of r) after) (ap (λ e. take i events ++ e ∷ []) c.event-item.is ∙ sym (take_more events i event-now c.loop-event-test.true)) more);
    }

pub returns-clause-driven : goal.returns-clause-driven
returns-clause-driven g c =
    let p = c.args.plant.now in
    let q = c.loop-event.plant in
    let events : List Event = c.args.events.now in
    subst (λ (es : List Event). IsDriven (definition_of p) (text_digest p) (view_of p) (device_of p) (hands_of c.args.hands.now) es c.loop-event.answers.items (view_of q) (device_of q) (hands_of c.loop-event.hands))
    (take_all c.loop-event.event-index events c.loop-event-test.false) c.loop-event.invariant.so_far

use Rattle.std.proofs.Common.{◌≡◌, ◌∙◌, ◌<◌, ◌∷◌, [], ◌++◌, false, ap, sym, refl, subst, arith, List, ℕ, length, take, Option, None, Some}
use Rattle.std.specs.Prelude.{option_map}
use Rattle.std.proofs.KnownBytes.{Appends-nil}
use Rattle.std.proofs.lemmas.List.{take_more}
use Rattle.plant_model.specs.Plant.{PlantDefinition}
use Rattle.plant_model.specs.Runs.{fold}
use Rattle.plant_model.proofs.OnRuns.{run-folds}
use Rattle.plant_core.specs.Handed.{hands_of}
use Rattle.plant_core.specs.Hands.{AreHandsFor}
use Rattle.plant_core.specs.Plants.{definition_of, device_of, text_digest, view_of}
use Rattle.plant_core.specs.declared.events.Event.{Event}
use Rattle.plant_core.proofs.EventByEvent.{driven-none}
use Rattle.script_lines.specs.Runs.{IsCutRun}
use Rattle.script_lines.specs.Strict.{AreAskedStrictly, stop_at}
use Rattle.script_lines.specs.declared.strict.Refusal.{Refusal}
use Rattle.script_lines.proofs.Running.{on-err}
use Rattle.script_lines.proofs.Stopping.{asked-last, asked-more, cut-behind}
use Rattle.script_lines.proofs.strict.ask_in_turn.Goals as goal

pub loop-place-init : goal.loop-place-init
loop-place-init g c =
    let p = c.args.plant.now in
    record {
      plant = refl;
      digest = refl;
      as_many = c.requires;
      so_far = record {
        asked = [];
        happened = [];
        passed = false;
        driven = driven-none (definition_of p) (text_digest p) (view_of p) (device_of p) (hands_of c.args.hands.now) c.stands_for_a_front.ensures;
        stopped = (refl, refl);
        printed = Appends-nil (g.W.Write.contents c.args.output.now);
      };
    }

pub returns-in_err-refusal-clause-cut : goal.returns-in_err-refusal-clause-cut
returns-in_err-refusal-clause-cut g c =
    let l = c.loop-place in
    let p = c.args.plant.now in
    let q = c.ask_strictly.new.plant in
    let plant = definition_of p in
    let digest = text_digest p in
    let left = hands_of c.ask_strictly.new.hands in
    let event = c.index-events-place.result in
    let within : l.place < length c.args.events.now = omega arith in
    let leads : (view_of p).present ≡ fold plant (view_of p).acked (view_of p).tail = sym (run-folds plant (view_of p).tail (view_of p).acked (view_of p).present c.tail_is_a_run.ensures) in
    let cut : IsCutRun plant digest (view_of l.plant) (device_of l.plant) (hands_of l.hands) (event ∷ []) (view_of q) (device_of q) left =
    subst (λ (d : List ℕ). IsCutRun plant d (view_of l.plant) (device_of l.plant) (hands_of l.hands) (event ∷ []) (view_of q) (device_of q) left) l.invariant.digest
    (subst (λ x. IsCutRun x (text_digest l.plant) (view_of l.plant) (device_of l.plant) (hands_of l.hands) (event ∷ []) (view_of q) (device_of q) left) l.invariant.plant c.in_err-refusal.ensures.cut) in
    on-err c.from_residual.result
    (cut-behind plant digest (view_of p) (view_of l.plant) (view_of q) (device_of p) (device_of l.plant) (device_of q) (hands_of c.args.hands.now) (hands_of l.hands) left leads
    (g.W.Write.contents c.args.output.now) (g.W.Write.contents l.output) (g.W.Write.contents l.output) c.args.events.now l.place event within c.index-events-place.is l.invariant.so_far cut)

pub returns-in-Some-clause-asked : goal.returns-in-Some-clause-asked
returns-in-Some-clause-asked g c =
    let l = c.loop-place in
    let p = c.args.plant.now in
    let q = c.ask_strictly.new.plant in
    let plant = definition_of p in
    let digest = text_digest p in
    let left = hands_of c.ask_strictly.new.hands in
    let event = c.index-events-place.result in
    let mid = g.W.Write.contents l.output in
    let new = g.W.Write.contents c.ask_strictly.new.output in
    let within : l.place < length c.args.events.now = omega arith in
    let leads : (view_of p).present ≡ fold plant (view_of p).acked (view_of p).tail = sym (run-folds plant (view_of p).tail (view_of p).acked (view_of p).present c.tail_is_a_run.ensures) in
    let one : AreAskedStrictly plant digest (view_of l.plant) (device_of l.plant) (hands_of l.hands) (event ∷ []) (Some (stop_at 0 c.in-Some.refusal)) (view_of q) (device_of q) left mid new =
    subst (λ (r : Option Refusal). AreAskedStrictly plant digest (view_of l.plant) (device_of l.plant) (hands_of l.hands) (event ∷ []) (option_map (stop_at 0) r) (view_of q) (device_of q) left mid new) c.in-Some.is
    (subst (λ (d : List ℕ). AreAskedStrictly plant d (view_of l.plant) (device_of l.plant) (hands_of l.hands) (event ∷ []) (option_map (stop_at 0) c.in_ok-refusal.field-0) (view_of q) (device_of q) left mid new) l.invariant.digest
    (subst (λ x. AreAskedStrictly x (text_digest l.plant) (view_of l.plant) (device_of l.plant) (hands_of l.hands) (event ∷ []) (option_map (stop_at 0) c.in_ok-refusal.field-0) (view_of q) (device_of q) left mid new) l.invariant.plant c.in_ok-refusal.ensures.asked)) in
    asked-last plant digest (view_of p) (view_of l.plant) (view_of q) (device_of p) (device_of l.plant) (device_of q) (hands_of c.args.hands.now) (hands_of l.hands) left leads
    (g.W.Write.contents c.args.output.now) mid new c.args.events.now l.place event within c.index-events-place.is c.in-Some.refusal l.invariant.so_far one

pub loop-place-preserved : goal.loop-place-preserved
loop-place-preserved g c =
    let l = c.loop-place in
    let p = c.args.plant.now in
    let q = c.ask_strictly.new.plant in
    let plant = definition_of p in
    let digest = text_digest p in
    let hands = hands_of c.args.hands.now in
    let left = hands_of c.ask_strictly.new.hands in
    let events = c.args.events.now in
    let event = c.index-events-place.result in
    let start = g.W.Write.contents c.args.output.now in
    let mid = g.W.Write.contents l.output in
    let new = g.W.Write.contents c.ask_strictly.new.output in
    let within : l.place < length events = omega arith in
    let leads : (view_of p).present ≡ fold plant (view_of p).acked (view_of p).tail = sym (run-folds plant (view_of p).tail (view_of p).acked (view_of p).present c.tail_is_a_run.ensures) in
    let one : AreAskedStrictly plant digest (view_of l.plant) (device_of l.plant) (hands_of l.hands) (event ∷ []) None (view_of q) (device_of q) left mid new =
    subst (λ (r : Option Refusal). AreAskedStrictly plant digest (view_of l.plant) (device_of l.plant) (hands_of l.hands) (event ∷ []) (option_map (stop_at 0) r) (view_of q) (device_of q) left mid new) c.in_default.is
    (subst (λ (d : List ℕ). AreAskedStrictly plant d (view_of l.plant) (device_of l.plant) (hands_of l.hands) (event ∷ []) (option_map (stop_at 0) c.in_ok-refusal.field-0) (view_of q) (device_of q) left mid new) l.invariant.digest
    (subst (λ x. AreAskedStrictly x (text_digest l.plant) (view_of l.plant) (device_of l.plant) (hands_of l.hands) (event ∷ []) (option_map (stop_at 0) c.in_ok-refusal.field-0) (view_of q) (device_of q) left mid new) l.invariant.plant c.in_ok-refusal.ensures.asked)) in
    record {
      plant = c.in_ok-refusal.ensures.plant ∙ l.invariant.plant;
      digest = c.in_ok-refusal.ensures.digest ∙ l.invariant.digest;
      as_many = subst (λ (x : PlantDefinition). AreHandsFor (length x.atoms) left) l.invariant.plant c.in_ok-refusal.ensures.as_many;
      so_far = subst (λ (es : List Event). AreAskedStrictly plant digest (view_of p) (device_of p) hands es None (view_of q) (device_of q) left start new)
          (ap (λ (e : Event). take l.place events ++ e ∷ []) c.index-events-place.is ∙ sym (take_more events l.place event within))
          (asked-more plant digest (view_of p) (view_of l.plant) (view_of q) (device_of p) (device_of l.plant) (device_of q) hands (hands_of l.hands) left leads start mid new (take l.place events) event l.invariant.so_far one);
    }

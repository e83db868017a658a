use Rattle.std.proofs.Common.{◌≡◌, ◌∙◌, ◌<◌, ◌||◌, ◌∷◌, [], ◌++◌, ap, sym, refl, subst, arith, List, ℕ, length, take}
use Rattle.std.specs.Io.KnownBytes.{Appends}
use Rattle.std.proofs.KnownBytes.{Appends-nil}
use Rattle.std.proofs.lemmas.List.{take_more}
use Rattle.plant_model.specs.Plant.{PlantDefinition}
use Rattle.plant_model.specs.Runs.{fold}
use Rattle.plant_model.proofs.OnRuns.{run-folds}
use Rattle.plant_core.specs.Handed.{hands_of}
use Rattle.plant_core.specs.Hands.{AreHandsFor}
use Rattle.plant_core.specs.Plants.{definition_of, device_of, text_digest, view_of}
use Rattle.plant_core.specs.declared.events.Event.{Event}
use Rattle.plant_core.proofs.EventByEvent.{driven-none}
use Rattle.script_lines.specs.Answers.{standing_text}
use Rattle.script_lines.specs.Runs.{IsAnswered, IsCutRun}
use Rattle.script_lines.proofs.Running.{IsSoFar, cut-of-all, cut-of-some, on-err, run-of-all, so-far-more}
use Rattle.script_lines.proofs.run.run_script.Goals as goal

pub loop-event-init : goal.loop-event-init
loop-event-init g c =
    let p = c.args.plant.now in
    record {
      plant = refl;
      digest = refl;
      as_many = c.requires;
      so_far = record {
        happened = [];
        driven = driven-none (definition_of p) (text_digest p) (view_of p) (device_of p) (hands_of c.args.hands.now) c.stands_for_a_front.ensures;
        printed = Appends-nil (g.W.Write.contents c.args.output.now);
        told = refl;
      };
    }

pub returns-in_err-happened-clause-cut : goal.returns-in_err-happened-clause-cut
returns-in_err-happened-clause-cut g c =
    let l = c.loop-event in
    let p = c.args.plant.now in
    let q = c.answer.new.plant in
    let plant = definition_of p in
    let digest = text_digest p in
    let within : l.event-index < length c.args.events.now = omega arith in
    let left = hands_of c.answer.new.hands in
    let event = c.event-item.result in
    let leads : (view_of p).present ≡ fold plant (view_of p).acked (view_of p).tail = sym (run-folds plant (view_of p).tail (view_of p).acked (view_of p).present c.tail_is_a_run.ensures) in
    let cut : IsCutRun plant digest (view_of l.plant) (device_of l.plant) (hands_of l.hands) (event ∷ []) (view_of q) (device_of q) left =
    subst (λ (d : List ℕ). IsCutRun plant d (view_of l.plant) (device_of l.plant) (hands_of l.hands) (event ∷ []) (view_of q) (device_of q) left) l.invariant.digest
    (subst (λ x. IsCutRun x (text_digest l.plant) (view_of l.plant) (device_of l.plant) (hands_of l.hands) (event ∷ []) (view_of q) (device_of q) left) l.invariant.plant c.in_err-happened.ensures.cut) in
    on-err c.from_residual.result
    (cut-of-some plant digest (view_of p) (device_of p) (hands_of c.args.hands.now) leads (view_of l.plant) (view_of q) (device_of l.plant) (device_of q) (hands_of l.hands) left c.args.events.now l.event-index event l.failed
    (g.W.Write.contents c.args.output.now) (g.W.Write.contents l.output) within l.invariant.so_far
    (subst (λ (e : Event). IsCutRun plant digest (view_of l.plant) (device_of l.plant) (hands_of l.hands) (e ∷ []) (view_of q) (device_of q) left) c.event-item.is cut))

pub loop-event-preserved : goal.loop-event-preserved
loop-event-preserved g c =
    let l = c.loop-event in
    let p = c.args.plant.now in
    let q = c.answer.new.plant in
    let plant = definition_of p in
    let digest = text_digest p in
    let hands = hands_of c.args.hands.now in
    let left = hands_of c.answer.new.hands in
    let events = c.args.events.now in
    let i = l.event-index in
    let event = c.event-item.result in
    let happened = c.in_ok-happened.happened in
    let failed = l.failed || c.has_failed-failed.result in
    let start = g.W.Write.contents c.args.output.now in
    let old = g.W.Write.contents l.output in
    let new = g.W.Write.contents c.answer.new.output in
    let within : i < length events = omega arith in
    let leads : (view_of p).present ≡ fold plant (view_of p).acked (view_of p).tail = sym (run-folds plant (view_of p).tail (view_of p).acked (view_of p).present c.tail_is_a_run.ensures) in
    let answered : IsAnswered plant digest (view_of l.plant) (device_of l.plant) (hands_of l.hands) event happened (view_of q) (device_of q) left old new =
    subst (λ (d : List ℕ). IsAnswered plant d (view_of l.plant) (device_of l.plant) (hands_of l.hands) event happened (view_of q) (device_of q) left old new) l.invariant.digest
    (subst (λ x. IsAnswered x (text_digest l.plant) (view_of l.plant) (device_of l.plant) (hands_of l.hands) event happened (view_of q) (device_of q) left old new) l.invariant.plant c.in_ok-happened.ensures.answered) in
    record {
      plant = c.in_ok-happened.ensures.plant ∙ l.invariant.plant;
      digest = c.in_ok-happened.ensures.digest ∙ l.invariant.digest;
      as_many = subst (λ (x : PlantDefinition). AreHandsFor (length x.atoms) left) l.invariant.plant c.in_ok-happened.ensures.as_many;
      so_far = subst (λ (es : List Event). IsSoFar plant digest (view_of p) (device_of p) hands es failed (view_of q) (device_of q) left start new) (ap (λ (e : Event). take i events ++ e ∷ []) c.event-item.is ∙ sym (take_more events i event within))
          (so-far-more plant digest (view_of p) (device_of p) hands leads (view_of l.plant) (view_of q) (device_of l.plant) (device_of q) (hands_of l.hands) left (take i events) event l.failed c.has_failed-failed.result happened start old new l.invariant.so_far answered c.has_failed-failed.ensures);
    }

pub returns-in_err-print_standing-clause-cut : goal.returns-in_err-print_standing-clause-cut
returns-in_err-print_standing-clause-cut g c =
    let l = c.loop-event in
    let p = c.args.plant.now in
    on-err c.from_residual-in_err-print_standing.result
    (cut-of-all (definition_of p) (text_digest p) (view_of p) (view_of l.plant) (device_of p) (device_of l.plant) (hands_of c.args.hands.now) (hands_of l.hands) c.args.events.now l.event-index (omega arith) l.failed
    (g.W.Write.contents c.args.output.now) (g.W.Write.contents l.output) l.invariant.so_far)

pub returns-in_err-hand_on-clause-cut : goal.returns-in_err-hand_on-clause-cut
returns-in_err-hand_on-clause-cut g c =
    let l = c.loop-event in
    let p = c.args.plant.now in
    on-err c.from_residual-in_err-hand_on.result
    (cut-of-all (definition_of p) (text_digest p) (view_of p) (view_of l.plant) (device_of p) (device_of l.plant) (hands_of c.args.hands.now) (hands_of l.hands) c.args.events.now l.event-index (omega arith) l.failed
    (g.W.Write.contents c.args.output.now) (g.W.Write.contents l.output) l.invariant.so_far)

pub returns-clause-run : goal.returns-clause-run
returns-clause-run g c =
    let l = c.loop-event in
    let p = c.args.plant.now in
    let told = g.W.Write.contents c.print_standing.new.output in
    run-of-all (definition_of p) (text_digest p) (view_of p) (view_of l.plant) (device_of p) (device_of l.plant) (hands_of c.args.hands.now) (hands_of l.hands) c.args.events.now l.event-index (omega arith) l.failed
    (g.W.Write.contents c.args.output.now) (g.W.Write.contents l.output) l.invariant.so_far told (g.W.Write.contents c.hand_on.new.writer)
    (subst (λ x. Appends (g.W.Write.contents l.output) told (standing_text x (view_of l.plant))) l.invariant.plant c.in_ok-print_standing.ensures) c.in_ok-hand_on.ensures

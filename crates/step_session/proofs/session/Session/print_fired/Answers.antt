use Rattle.std.proofs.Common.{◌≡◌, ◌∙◌, ◌+◌, ◌<◌, ◌∷◌, ◌++◌, [], ap, sym, subst, arith, append-nil, length, take, get_or}
use Rattle.std.specs.Prelude.{Some, flat_map, slice_get}
use Rattle.std.specs.Io.KnownBytes.{Appends}
use Rattle.std.proofs.KnownBytes.{Appends-trans}
use Rattle.std.proofs.lemmas.Grind.{flat_map-append}
use Rattle.plant_model.specs.Choice.{choices}
use Rattle.plant_model.specs.Chosen.{choice_of}
use Rattle.plant_model.specs.Step.{initial_states}
use Rattle.step_core.specs.Running.{plant_in, states_in}
use Rattle.step_session.specs.Fired.{choices_fired}
use Rattle.step_session.specs.SessionOf.{plant_stepped}
use Rattle.run_text.specs.Steps.{saved_line}
use Rattle.step_session.proofs.Firing.{fired-next, place-within, stands-next}
use Rattle.step_session.proofs.session.Session.print_fired.Goals as goal

pub nth-choice-requires : goal.nth-choice-requires
nth-choice-requires g c =
    let session = c.args.self.now in
    let i = c.loop-place.place-index in
    let l = c.loop-place in
    let given = c.deref-place-items.ensures.value in
    let within : i < length session.fired.items = subst (λ places. i < length places) given (omega arith) in
    subst (λ places. get_or places i 0 < length (choices (plant_in l.run) (states_in l.run))) (sym given)
    (place-within (plant_stepped session) session.fired.items session.there i within (plant_in l.run) (states_in l.run) l.invariant.plant l.invariant.states)

pub loop-place-preserved : goal.loop-place-preserved
loop-place-preserved g c =
    let session = c.args.self.now in
    let plant = plant_stepped session in
    let fired = session.fired.items in
    let i = c.loop-place.place-index in
    let l = c.loop-place in
    let choice = choice_of c.nth-choice.result in
    let line = saved_line plant in
    let start = g.W.Write.contents c.args.output.now in
    let old = g.W.Write.contents l.output in
    let new = g.W.Write.contents c.print_saved_line.new.output in
    let given = c.deref-place-items.ensures.value in
    let within : i < length fired = subst (λ places. i < length places) given (omega arith) in
    let entry : slice_get (choices (plant_in l.run) (states_in l.run)) (get_or fired i 0) ≡ Some choice =
    ap (λ places. slice_get (choices (plant_in l.run) (states_in l.run)) (get_or places i 0)) (sym given) ∙ c.nth-choice.ensures.entry in
    let before = choices_fired plant (initial_states plant) (take i fired) in
    let printed : Appends old new (line choice) =
    subst (λ p. Appends old new (saved_line p choice)) (c.system-in-loop-place.ensures.plant ∙ l.invariant.plant) c.in_ok-print_saved_line.ensures in
    let said : flat_map line (choices_fired plant (initial_states plant) (take (i + 1) fired)) ≡ flat_map line before ++ line choice =
    ap (flat_map line) (fired-next plant fired session.there i within (plant_in l.run) (states_in l.run) l.invariant.plant l.invariant.states choice entry) ∙
    flat_map-append line before (choice ∷ []) ∙ ap (λ text. flat_map line before ++ text) (append-nil (line choice)) in
    record {
      plant = c.fire.ensures.plant ∙ l.invariant.plant;
      states = c.fire.ensures.next ∙ stands-next plant fired session.there i within (plant_in l.run) (states_in l.run) l.invariant.plant l.invariant.states choice entry;
      printed = subst (Appends start new) (sym said) (Appends-trans start old new (flat_map line before) (line choice) l.invariant.printed printed);
    }

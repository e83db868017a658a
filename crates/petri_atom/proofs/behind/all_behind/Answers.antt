use Rattle.std.proofs.Common.{◌≡◌, ◌+◌, ◌++◌, ◌∷◌, [], sym, refl, ◌∙◌, ap, subst, length, map, Some}
use Rattle.std.specs.Prelude.{option_map, slice_get}
use Rattle.std.proofs.lemmas.List.{length_push}
use Rattle.std.proofs.lemmas.Option.{slice_get-map, slice_get_read}
use Rattle.petri_atom.specs.Parts.{port_of}
use Rattle.petri_atom.specs.Transition.{transition_of}
use Rattle.petri_atom.proofs.Telling.{AreRight, right-more}
use Rattle.petri_atom.proofs.behind.all_behind.Goals as goal

pub loop-fired-preserved : goal.loop-fired-preserved
loop-fired-preserved c =
    let transitions = c.args.transitions.now in
    let i = c.loop-fired.fired-index in
    let before = c.loop-fired.all.items in
    let ts = map transition_of transitions in
    let ports = map port_of c.args.ports.now in
    let fired = c.fired-item.result in
    let made = c.behind_one.result in
    let so_far = c.loop-fired.invariant in
    let there : slice_get ts i ≡ Some (transition_of fired) =
    slice_get-map transition_of transitions i ∙ ap (option_map transition_of) (slice_get_read transitions (length transitions) i fired refl c.loop-fired-test.true c.fired-item.is) in
    let pushed : c.push.new.self.items ≡ before ++ made ∷ [] = c.in_ok-push.ensures.items in
    record {
      number = ap length pushed ∙ length_push before made ∙ ap (λ n. n + 1) so_far.number;
      right = subst (AreRight ports ts (length transitions)) (sym pushed) (right-more ports ts (length transitions) before i (transition_of fired) made so_far.number there c.behind_one.ensures so_far.right);
    }

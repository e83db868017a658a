use Rattle.std.proofs.Common.{◌≡◌, ◌+◌, ◌<◌, ◌∙◌, ap, sym, arith, length, take, set}
use Rattle.std.proofs.lemmas.List.{get_or-set_same, length-map, length-set, take-set, take_more_same}
use Rattle.std.proofs.lemmas.Option.{get_or_from_slice_get}
use Rattle.petri_atom.specs.Atom.{definition_of}
use Rattle.run_states.proofs.changes.copy_states.Goals as goal

pub loop-number-preserved : goal.loop-number-preserved
loop-number-preserved c =
    let i = c.loop-number.number in
    let kept = c.loop-number.kept in
    let states = c.args.states.now in
    let state = c.state.result.now in
    let long = c.loop-number.invariant.as_many in
    let within : i < length states = omega (arith, length-map c.atoms-number-end.result.now definition_of, ap length c.atoms-number-end.ensures) in
    let stored : c.set.new.self ≡ set kept i state = c.set.ensures ∙ ap (set kept i) c.copy.ensures in
    let same : take (i + 1) (set kept i state) ≡ take (i + 1) states =
    take_more_same (set kept i state) states i state (omega (arith, length-set kept i state)) within
    (take-set kept i state ∙ c.loop-number.invariant.same)
    (get_or-set_same kept i state state (omega arith) ∙ sym (get_or_from_slice_get states i state state c.state.ensures)) in
    record {
      as_many = ap length stored ∙ length-set kept i state ∙ long;
      same = ap (take (i + 1)) stored ∙ same;
    }

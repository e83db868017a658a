use Rattle.std.proofs.Common.{◌≡◌, true, not, refl, sym, ◌∙◌, ap, subst, arith, length, map, Some}
use Rattle.std.specs.Prelude.{option_map, slice_get}
use Rattle.std.proofs.lemmas.Option.{slice_get-map, slice_get_read}
use Rattle.petri_atom.specs.Behind.{AreWritten, HasSameGuard, IsBehind, may_write}
use Rattle.petri_atom.specs.Expression.{all_variables}
use Rattle.petri_atom.specs.Transition.{transition_of}
use Rattle.petri_atom.specs.Update.{update_of}
use Rattle.petri_atom.proofs.Reading.{same_guard}
use Rattle.petri_atom.proofs.Telling.{told-more}
use Rattle.petri_atom.proofs.behind.behind_of.Goals as goal

pub loop-number-init : goal.loop-number-init
loop-number-init c = record {
  told = λ n other within there. absurd (omega arith);
  within = λ n past. c.nothing-told.ensures.none n;
  quiet = λ all n within. absurd (omega arith);
}

pub loop-number-preserved : goal.loop-number-preserved
loop-number-preserved c =
    let transitions = c.args.transitions.now in
    let n = c.loop-number.number in
    let fired = c.args.fired.now in
    let other = c.index-transitions-number.result in
    let told = c.tell.ensures in
    let there : slice_get (map transition_of transitions) n ≡ Some (transition_of other) =
    slice_get-map transition_of transitions n ∙ ap (option_map transition_of) (slice_get_read transitions (length transitions) n other refl c.loop-number-test.true c.index-transitions-number.is) in
    let written : AreWritten c.by-written.result.word (map update_of fired.updates.items) c.args.exports.now =
    subst (λ us. AreWritten c.by-written.result.word (map update_of us) c.args.exports.now) c.deref.ensures.value c.by-written.ensures in
    let unread : c.all_variables-is_unread.result ≡ true → HasSameGuard (transition_of fired) c.args.exports.now (transition_of other) =
    λ holds. same_guard (transition_of fired) (transition_of other) c.args.exports.now c.by-written.result.word written (ap (all_variables (λ v. not (may_write c.by-written.result.word v))) (sym c.guard.ensures) ∙ sym c.all_variables-is_unread.ensures ∙ holds) in
    told-more (map transition_of transitions) n (transition_of fired) c.args.exports.now c.loop-number.told c.tell.new.self (transition_of other) c.effect_on.result c.all_variables-is_unread.result there c.effect_on.ensures unread told.keep told.make told.ask told.again told.quiet c.loop-number.invariant

pub returns : goal.returns
returns c =
    let transitions = c.args.transitions.now in
    let all : c.loop-number.number ≡ length transitions = omega (arith, c.loop-number-test.false, c.loop-number.auto.number-end) in
    subst (λ n. IsBehind (map transition_of transitions) n (transition_of c.args.fired.now) c.args.exports.now c.loop-number.told) all c.loop-number.invariant

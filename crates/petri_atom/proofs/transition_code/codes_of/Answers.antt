use Rattle.std.proofs.Common.{◌+◌, ◌∙◌, refl, sym, map, subst}
use Rattle.std.proofs.lemmas.Option.{same_Some}
use Rattle.petri_atom.specs.StraightCode.{IsTransitionCode, is_codable_transition}
use Rattle.petri_atom.specs.Transition.{transition_of}
use Rattle.petri_atom.proofs.Coded.{AreFirst, first-more}
use Rattle.petri_atom.proofs.Fitting.{all_get}
use Rattle.petri_atom.proofs.Lists.{mapped-at}
use Rattle.petri_atom.proofs.transition_code.codes_of.Goals as goal

pub of-requires-clause-codable : goal.of-requires-clause-codable
of-requires-clause-codable c =
    let transitions = c.args.transitions.now in
    let n = c.loop-transition.transition-index in
    let transition = c.transition-item.result in
    all_get is_codable_transition (map transition_of transitions) n (transition_of transition) c.requires.codable
    (mapped-at transition_of transitions transitions n n transition refl refl c.loop-transition-test.true c.transition-item.is)

pub loop-transition-preserved : goal.loop-transition-preserved
loop-transition-preserved c =
    let transitions = c.args.transitions.now in
    let n = c.loop-transition.transition-index in
    let transition = c.transition-item.result in
    let ts = map transition_of transitions in
    let code = c.in_ok-of.field-0 in
    let here = mapped-at transition_of transitions transitions n n transition refl refl c.loop-transition-test.true c.transition-item.is in
    subst (λ items. AreFirst (IsTransitionCode ts) (n + 1) items ts) (sym c.in_ok-push.ensures.items)
    (first-more (IsTransitionCode ts) n c.loop-transition.codes.items ts code c.loop-transition.invariant
    (λ t at. subst (IsTransitionCode ts code) (same_Some (transition_of transition) t (sym here ∙ at)) c.in_ok-of.ensures))

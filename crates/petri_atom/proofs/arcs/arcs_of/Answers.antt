use Rattle.std.proofs.Common.{◌≡◌, ◌+◌, ◌∙◌, refl, sym, List, length, ltb, map, subst, Some}
use Rattle.std.specs.Prelude.{slice_get}
use Rattle.std.proofs.lemmas.Bool.{ltb-true}
use Rattle.std.proofs.lemmas.Option.{same_Some}
use Rattle.petri_atom.specs.Arcs.{IsArcsOf, IsExported}
use Rattle.petri_atom.specs.Definition.{TransitionDefinition}
use Rattle.petri_atom.specs.Parts.{port_of}
use Rattle.petri_atom.specs.Transition.{transition_of}
use Rattle.petri_atom.proofs.Coded.{AreFirst, first-more}
use Rattle.petri_atom.proofs.Fitting.{all_get}
use Rattle.petri_atom.proofs.Lists.{mapped-at}
use Rattle.petri_atom.proofs.arcs.arcs_of.Goals as goal

pub of-requires-clause-known : goal.of-requires-clause-known
of-requires-clause-known c =
    let transitions = c.args.transitions.now in
    let n = c.loop-transition.transition-index in
    let transition = c.transition-item.result in
    ltb-true (transition_of transition).port (length c.args.ports.now)
    (all_get (λ t. ltb t.port (length c.args.ports.now)) (map transition_of transitions) n (transition_of transition) c.requires.known
    (mapped-at transition_of transitions transitions n n transition refl refl c.loop-transition-test.true c.transition-item.is))

pub loop-transition-preserved : goal.loop-transition-preserved
loop-transition-preserved c =
    let transitions = c.args.transitions.now in
    let ports = map port_of c.args.ports.now in
    let n = c.loop-transition.transition-index in
    let transition = c.transition-item.result in
    let made = c.of.result in
    let ts : List TransitionDefinition = map transition_of transitions in
    let here : slice_get ts n ≡ Some (transition_of transition) = mapped-at transition_of transitions transitions n n transition refl refl c.loop-transition-test.true c.transition-item.is in (
      subst (λ items. AreFirst IsArcsOf (n + 1) items ts) (sym c.in_ok-push.ensures.items)
          (first-more IsArcsOf n c.loop-transition.arcs.items ts made c.loop-transition.invariant.0
          (λ t at. subst (IsArcsOf made) (same_Some (transition_of transition) t (sym here ∙ at)) c.of.ensures.drawn)),
      subst (λ items. AreFirst (IsExported ports) (n + 1) items ts) (sym c.in_ok-push.ensures.items)
          (first-more (IsExported ports) n c.loop-transition.arcs.items ts made c.loop-transition.invariant.1
          (λ t at. subst (IsExported ports made) (same_Some (transition_of transition) t (sym here ∙ at)) c.of.ensures.exported)),
    )

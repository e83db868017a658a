use Rattle.std.proofs.Common.{ℕ, List, ap}
use Rattle.std.proofs.lemmas.Bool.Decides.{Decides-and, Decides-like, Decides-at}
use Rattle.petri_atom.specs.Definition.{AtomDefinition, PortDefinition, TransitionDefinition}
use Rattle.petri_atom.specs.Same.{is_same_place, is_same_variable, is_same_port}
use Rattle.petri_atom.specs.SameTransition.{is_same_transition}
use Rattle.petri_atom.specs.declared.parts.Place.{Place}
use Rattle.petri_atom.specs.declared.parts.Variable.{Variable}
use Rattle.petri_atom.proofs.Sameness.{same_places, same_variables, same_ports, same_transitions, same_of_five, at_lists}
use Rattle.petri_atom.proofs.atom.Atom.same.Goals as goal

abbrev make : List ℕ → List Place → List Variable → List PortDefinition → List TransitionDefinition → AtomDefinition
make name places variables ports transitions = record { name = name; places = places; variables = variables; ports = ports; transitions = transitions }

pub returns : goal.returns
returns c =
    let mine = c.args.self.now in
    let theirs = c.args.other.now in
    let places = Decides-at c.all_same.result _ (at_lists is_same_place c.all_same.result _ _ _ _ c.all_same.ensures c.deref.ensures.value c.deref-2.ensures.value) (same_places mine.places.items theirs.places.items) in
    let variables = Decides-at c.all_same-2.result _ (at_lists is_same_variable c.all_same-2.result _ _ _ _ c.all_same-2.ensures c.deref-3.ensures.value c.deref-4.ensures.value) (same_variables mine.variables.items theirs.variables.items) in
    let ports = Decides-at c.all_same-3.result _ (at_lists is_same_port c.all_same-3.result _ _ _ _ c.all_same-3.ensures c.deref-5.ensures.value c.deref-6.ensures.value) (same_ports mine.ports.items theirs.ports.items) in
    let transitions = Decides-at c.all_same-4.result _ (at_lists is_same_transition c.all_same-4.result _ _ _ _ c.all_same-4.ensures c.deref-7.ensures.value c.deref-8.ensures.value) (same_transitions mine.transitions.items theirs.transitions.items) in
    Decides-like _ (λ same. same_of_five make same.0.0.0.0 same.0.0.0.1 same.0.0.1 same.0.1 same.1)
    (λ e. ((((ap (λ x. x.name) e, ap (λ x. x.places) e), ap (λ x. x.variables) e), ap (λ x. x.ports) e), ap (λ x. x.transitions) e))
    (Decides-and _ _
    (Decides-and _ _ (Decides-and _ _ (Decides-and _ _ c.same.ensures.same places) variables) ports) transitions)

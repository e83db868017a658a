use Rattle.std.proofs.Common.{◌∙◌, sym, ap, ltb}
use Rattle.std.specs.List.{list_all}
use Rattle.petri_atom.specs.Update.{update_of}
use Rattle.petri_atom.specs.Definition.{has_known_variables, are_below}
use Rattle.petri_atom.proofs.Lists.{list_all-map, both}
use Rattle.petri_atom.proofs.transition.Transition.has_known_numbers.Goals as goal

pub returns : goal.returns
returns c =
    let updates = c.args.self.now.updates.items in
    let known = has_known_variables c.args.variables in
    let port = ap (λ n. ltb n c.args.ports) c.from.ensures in
    let sources = c.are_below.ensures ∙ ap (are_below c.args.places) c.deref.ensures.value in
    let targets = c.are_below-2.ensures ∙ ap (are_below c.args.places) c.deref-2.ensures.value in
    let values = c.have_variables_below.ensures ∙ ap (list_all (λ u. known (update_of u))) c.deref-3.ensures.value in
    both (both (both (both port sources) targets) c.has_variables_below.ensures) (values ∙ sym (list_all-map known update_of updates))

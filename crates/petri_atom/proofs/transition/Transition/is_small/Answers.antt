use Rattle.std.proofs.Common.{◌∙◌, sym, ap, leb}
use Rattle.std.specs.List.{list_all}
use Rattle.std.proofs.lemmas.List.{length-map}
use Rattle.petri_atom.specs.Update.{update_of}
use Rattle.petri_atom.specs.Definition.{is_small_value}
use Rattle.petri_atom.proofs.Lists.{list_all-map, both}
use Rattle.petri_atom.proofs.transition.Transition.is_small.Goals as goal

pub returns : goal.returns
returns c =
    let updates = c.args.self.now.updates in
    let count = ap (λ n. leb n 16) (c.len.ensures ∙ updates.ok.0 ∙ sym (length-map updates.items update_of)) in
    let values = c.are_small.ensures ∙ ap (list_all (λ u. is_small_value (update_of u))) c.deref.ensures.value in
    both (both count c.is_small.ensures) (values ∙ sym (list_all-map is_small_value update_of updates.items))

use Rattle.std.proofs.Common.{refl, eqb}
use Rattle.petri_atom.specs.Same.{is_same_update}
use Rattle.petri_atom.proofs.Lists.{both}
use Rattle.petri_atom.proofs.Sameness.{at_lists}
use Rattle.petri_atom.proofs.same.TransitionSame.same.Goals as goal

pub returns : goal.returns
returns c =
    let sources = at_lists eqb c.eq.result _ _ _ _ c.eq.ensures c.as_slice.ensures.value c.as_slice-2.ensures.value in
    let targets = at_lists eqb c.eq-2.result _ _ _ _ c.eq-2.ensures c.as_slice-3.ensures.value c.as_slice-4.ensures.value in
    let updates = at_lists is_same_update c.all_same.result _ _ _ _ c.all_same.ensures c.deref.ensures.value c.deref-2.ensures.value in
    both (both (both (both refl sources) targets) c.same.ensures) updates

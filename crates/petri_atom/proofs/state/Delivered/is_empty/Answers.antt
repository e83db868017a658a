use Rattle.std.proofs.Common.{◌∙◌, ap, sym}
use Rattle.std.proofs.lemmas.Bool.{eq-eqb, eqb-true}
use Rattle.petri_atom.specs.Local.{mask_of, row_in, set_below}
use Rattle.petri_atom.proofs.state.Delivered.is_empty.Goals as goal

pub returns : goal.returns
unfolding set_below
returns c =
    let inside = c.self.inside in (
      λ empty. sym c.self.view_is ∙ ap (λ mask. row_in mask inside.values) (eqb-true inside.mask 0 empty),
      λ nothing. eq-eqb inside.mask 0 (c.self.invariant.0 ∙ ap mask_of (c.self.view_is ∙ nothing)),
    )

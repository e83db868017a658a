use Rattle.std.proofs.Common.{◌∙◌, ap}
use Rattle.std.specs.Prelude.{bit_and, slice_get}
use Rattle.petri_atom.specs.Atom.{definition_of}
use Rattle.petri_atom.specs.Definition.{offers_number, offered_set}
use Rattle.petri_atom.specs.Local.{numbers_below}
use Rattle.petri_atom.proofs.Fitting.{few_transitions}
use Rattle.petri_atom.proofs.Members.{numbers_below-of_port}
use Rattle.petri_atom.proofs.atom.Atom.nth_among.Goals as goal

pub returns : goal.returns
returns c state given =
    let atom = definition_of c.args.self.now in
    c.nth_in.ensures ∙
    ap (λ w. slice_get (numbers_below 128 (bit_and w c.mask_of.result)) c.args.place) (c.offered.view_is ∙ given) ∙
    ap (λ m. slice_get (numbers_below 128 (bit_and (offered_set atom state) m)) c.args.place) c.mask_of.ensures ∙
    ap (λ xs. slice_get xs c.args.place) (numbers_below-of_port (offers_number atom state) c.args.port atom.transitions (few_transitions atom c.args.self.now.well_formed))

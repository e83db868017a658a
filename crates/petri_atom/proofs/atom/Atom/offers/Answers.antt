use Rattle.std.proofs.Common.{◌∙◌, ap, eqb, not}
use Rattle.std.specs.Prelude.{bit_and}
use Rattle.petri_atom.specs.Atom.{definition_of}
use Rattle.petri_atom.specs.Definition.{offers_number, offered_set}
use Rattle.petri_atom.proofs.PortSets.{any-of_port}
use Rattle.petri_atom.proofs.atom.Atom.offers.Goals as goal

pub returns : goal.returns
returns c =
    let atom = definition_of c.args.self.now in
    let state = c.args.state.now in
    ap (λ w. not (eqb (bit_and w c.mask_of.result) 0)) (c.result.view_is ∙ c.offered.ensures) ∙
    ap (λ m. not (eqb (bit_and (offered_set atom state) m) 0)) c.mask_of.ensures ∙
    any-of_port (offers_number atom state) c.args.port atom.transitions

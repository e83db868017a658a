use Rattle.std.proofs.Common.{◌∙◌, ap}
use Rattle.std.specs.Prelude.{bit_and}
use Rattle.petri_atom.specs.Atom.{definition_of}
use Rattle.petri_atom.specs.Definition.{first_from, offers_number, offered_set}
use Rattle.petri_atom.specs.Local.{numbers_below}
use Rattle.petri_atom.proofs.Fitting.{few_transitions}
use Rattle.petri_atom.proofs.Members.{numbers_below-of_port}
use Rattle.petri_atom.proofs.atom.Atom.first_enabled.Goals as goal

pub returns : goal.returns
returns c =
    let atom = definition_of c.args.self.now in
    let state = c.args.state.now in
    c.first_in-2.ensures ∙
    ap (λ w. first_from c.args.from (numbers_below 128 (bit_and w c.mask_of.result))) (c.first_in.view_is ∙ c.offered.ensures) ∙
    ap (λ m. first_from c.args.from (numbers_below 128 (bit_and (offered_set atom state) m))) c.mask_of.ensures ∙
    ap (first_from c.args.from) (numbers_below-of_port (offers_number atom state) c.args.port atom.transitions (few_transitions atom c.args.self.now.well_formed))

use Rattle.std.proofs.Common.{◌∙◌, sym, ap, arith, map, length, ⊎_elim}
use Rattle.std.specs.Prelude.{bit_and, slice_get}
use Rattle.std.proofs.lemmas.Bool.{cases_lt}
use Rattle.std.proofs.lemmas.List.{length-map}
use Rattle.std.proofs.lemmas.Nat.{and_le_r}
use Rattle.petri_atom.specs.Atom.{definition_of}
use Rattle.petri_atom.specs.Definition.{offers_number, offered_set}
use Rattle.petri_atom.specs.Local.{numbers_below}
use Rattle.petri_atom.specs.Parts.{port_of, set_of_port}
use Rattle.petri_atom.specs.Transition.{transition_of}
use Rattle.petri_atom.proofs.Fitting.{few_transitions, known_ports_of}
use Rattle.petri_atom.proofs.Members.{numbers_below-of_port}
use Rattle.petri_atom.proofs.PortSets.{set_of_port-none}
use Rattle.petri_atom.proofs.atom.Atom.first_among.Goals as goal

pub mask_at-requires : goal.mask_at-requires
mask_at-requires c =
    let atom = c.args.self.now in
    let port = c.args.port in
    let ts = map transition_of atom.transitions.items in
    ⊎_elim
    (λ there. omega (arith, there, length-map atom.ports.items port_of))
    (λ past. absurd (omega (arith, c.requires.some, and_le_r c.args.offered (set_of_port port ts), set_of_port-none (length atom.ports.items) port ts (known_ports_of atom) past)))
    (cases_lt port (length atom.ports.items))

pub returns : goal.returns
returns c state given =
    let atom = definition_of c.args.self.now in
    sym (ap (λ w. slice_get (numbers_below 128 (bit_and w c.mask_at.result)) 0) (c.offered.view_is ∙ given) ∙ ap (λ m. slice_get (numbers_below 128 (bit_and (offered_set atom state) m)) 0) c.mask_at.ensures ∙ ap (λ xs. slice_get xs 0) (numbers_below-of_port (offers_number atom state) c.args.port atom.transitions (few_transitions atom c.args.self.now.well_formed))) ∙
    c.lowest_in.ensures

use Rattle.std.proofs.Common.{◌<◌, ◌^◌, ◌∙◌, ap, sym, arith}
use Rattle.std.specs.Prelude.{bit_and}
use Rattle.std.specs.Int.Count.{ones}
use Rattle.std.proofs.lemmas.Nat.{and_le_r, ones-le}
use Rattle.petri_atom.specs.Atom.{definition_of}
use Rattle.petri_atom.specs.Definition.{offers_number, offered_set}
use Rattle.petri_atom.proofs.PortSets.{ones-none, ones-of_port}
use Rattle.petri_atom.proofs.atom.Atom.count_among.Goals as goal

pub returns-clause-few : goal.returns-clause-few
returns-clause-few c =
    let word = c.offered.inside.word in
    let mask = c.mask_of.result in
    let small : bit_and word mask < 2 ^ 128 = omega (arith, and_le_r word mask, c.mask_of.type_inv) in
    ones-le 128 (bit_and word mask) small

pub returns-clause-count : goal.returns-clause-count
returns-clause-count c state given =
    let atom = definition_of c.args.self.now in
    ap (λ w. ones (bit_and w c.mask_of.result)) (c.offered.view_is ∙ given) ∙
    ap (λ m. ones (bit_and (offered_set atom state) m)) c.mask_of.ensures ∙
    ones-of_port (offers_number atom state) c.args.port atom.transitions

pub returns-then-word-eq0-clause-count : goal.returns-then-word-eq0-clause-count
returns-then-word-eq0-clause-count c state given =
    let atom = definition_of c.args.self.now in
    sym (ap ones c.if-word-eq0.true ∙ ones-none) ∙
    ap (λ w. ones (bit_and w c.mask_of.result)) (c.offered.view_is ∙ given) ∙
    ap (λ m. ones (bit_and (offered_set atom state) m)) c.mask_of.ensures ∙
    ones-of_port (offers_number atom state) c.args.port atom.transitions

use Rattle.std.proofs.Common.{◌≡◌, ◌≢◌, ◌∙◌, ◌<◌, ◌≤◌, ap, sym, arith, length, Err}
use Rattle.std.proofs.lemmas.Bool.{eqb-true, eqb-false}
use Rattle.std.proofs.lemmas.List.{length-map}
use Rattle.text_io.specs.declared.reading.TheConstants.{MAX_TEXT}
use Rattle.atom_lines.specs.Draft.{drafted as atom_drafted}
use Rattle.plant_text.specs.Draft.{drafted}
use Rattle.plant_text.specs.declared.fault.PlantFault.{PlantFault}
use Rattle.plant_text.proofs.Written.{written_with_an_atom, written_without_an_atom}
use Rattle.plant_text.proofs.read.read_draft.Goals as goal

pub returns-then-is_empty-clause-fault : goal.returns-then-is_empty-clause-fault
returns-then-is_empty-clause-fault c =
    let draft = c.in_ok-draft.draft in
    let short : length c.args.text.now ≤ MAX_TEXT = omega (arith, c.if-text-gt-MAX_TEXT.false) in
    let empty : draft.atoms.len ≡ 0 = eqb-true _ _ (sym c.if-is_empty.ensures) in
    let none : length (drafted draft).atoms ≤ 0 = omega (arith, length-map draft.atoms.items atom_drafted, draft.atoms.ok.0, empty) in
    λ other.
    written_without_an_atom c.args.text.now (drafted draft) short c.in_ok-draft.ensures.draft none ∙
    ap (λ (told : PlantFault). Err told) (sym c.of_no_line-then-is_empty.ensures)

pub returns-clause-draft : goal.returns-clause-draft
returns-clause-draft c =
    let draft = c.in_ok-draft.draft in
    let short : length c.args.text.now ≤ MAX_TEXT = omega (arith, c.if-text-gt-MAX_TEXT.false) in
    let filled : draft.atoms.len ≢ 0 = eqb-false _ _ (sym c.if-is_empty.ensures) in
    let some : 0 < length (drafted draft).atoms = omega (arith, length-map draft.atoms.items atom_drafted, draft.atoms.ok.0, filled) in
    written_with_an_atom c.args.text.now (drafted draft) short c.in_ok-draft.ensures.draft some

use Rattle.std.proofs.Common.{◌+◌, List, [], ◌∷◌, ◌++◌, ◌<◌, ℕ, length, map, drop, Option, sym, ◌∙◌, ap, arith}
use Rattle.std.proofs.lemmas.Result.{err_from_is_err_and}
use Rattle.std.specs.List.{range_with_len}
use Rattle.std.proofs.lemmas.List.FromFn.{map-range_with_len_more}
use Rattle.record_codec.specs.Saved.{SavedFields}
use Rattle.petri_atom.specs.Atom.{definition_of}
use Rattle.plant_model.specs.Rules.{first_of, first_fault_in}
use Rattle.plant_image.specs.Contents.{newest_held}
use Rattle.plant_image.specs.Faults.{atom_fault}
use Rattle.plant_image.specs.declared.fault.ImageFault.{ImageFault}
use Rattle.plant_image.proofs.FirstFault.{told_from, told_first}
use Rattle.plant_image.proofs.slots.read_slots.Goals as goal

pub returns-in_err-newest_saved : goal.returns-in_err-newest_saved
returns-in_err-newest_saved c =
    let p = err_from_is_err_and c.from_residual-in_err-newest_saved.result c.from_residual-in_err-newest_saved.ensures.1 in
    let within : c.loop-number.number < length c.atoms-atoms.result.now = omega arith in
    rw (p.1, p.2) (told_first (atom_fault c.args.cells.now c.loop-number.number (definition_of c.index-atoms-number.result)) _ _ _
    (ap (first_fault_in (atom_fault c.args.cells.now) 0) (sym c.atoms-atoms.ensures) ∙ c.loop-number.invariant.rest ∙ told_from definition_of (atom_fault c.args.cells.now) c.atoms-atoms.result.now c.loop-number.number c.index-atoms-number.result c.index-atoms-number.is within)
    c.in_err-newest_saved.ensures)

pub loop-number-preserved : goal.loop-number-preserved
loop-number-preserved c =
    let within : c.loop-number.number < length c.atoms-atoms.result.now = omega arith in
    let i : ℕ = c.loop-number.number in
    let next : Option ImageFault = first_fault_in (atom_fault c.args.cells.now) (i + 1) (drop (i + 1) (map definition_of c.atoms-atoms.result.now)) in
    record {
      room = omega arith;
      long = omega arith;
      read = c.push_reserved.ensures.items
          ∙ ap (λ (l : List SavedFields). l ++ c.in_ok-newest_saved.field-0 ∷ []) c.loop-number.invariant.read
          ∙ ap (λ (s : SavedFields). map (newest_held c.args.cells.now) (range_with_len 0 i) ++ s ∷ []) c.in_ok-newest_saved.ensures.1
          ∙ sym (map-range_with_len_more (newest_held c.args.cells.now) 0 i i (omega arith));
      rest = c.loop-number.invariant.rest ∙ told_from definition_of (atom_fault c.args.cells.now) c.atoms-atoms.result.now i c.index-atoms-number.result c.index-atoms-number.is within
          ∙ ap (λ (o : Option ImageFault). first_of o next) c.in_ok-newest_saved.ensures.0;
    }

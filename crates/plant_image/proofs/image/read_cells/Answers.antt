use Rattle.std.proofs.Common.{◌≡◌, ◌+◌, ◌≤◌, true, List, length, get_or, None, sym, ◌∙◌, ap, subst, arith}
use Rattle.std.proofs.lemmas.List.FromFn.{length-map-range_with_len}
use Rattle.std.proofs.lemmas.Option.{slice_get_within}
use Rattle.record_codec.specs.Saved.{SavedFields}
use Rattle.plant_image.proofs.AtomSlots.{held_passes, slot_held}
use Rattle.plant_image.proofs.ByAtoms.{told_none_at}
use Rattle.std.proofs.lemmas.Result.{err_from_is_err_and}
use Rattle.std.specs.List.{range_with_len}
use Rattle.disk_model.specs.Cells.{Cell}
use Rattle.gated_journal.specs.Bases.{base_cell_of}
use Rattle.petri_atom.specs.Definition.{AtomDefinition}
use Rattle.record_codec.specs.Fired.{FiredFields}
use Rattle.record_codec.specs.Ring.{base_cell}
use Rattle.record_codec.specs.declared.layout.TheConstants.{LAST_NUMBER}
use Rattle.plant_model.specs.Plant.{PlantDefinition}
use Rattle.plant_model.specs.Rules.{first_fault_in}
use Rattle.plant_model.specs.System.{plant_of, digest_of}
use Rattle.plant_image.specs.Contents.{contents_of, newest_held, ring_held, base_held, unsaved}
use Rattle.plant_image.specs.Faults.{identity_fault, base_fault, atom_fault, is_of_atom, numbers_fault, records_fault}
use Rattle.plant_image.proofs.WholeImage.{fourth_is, told_of_same, ring_is, records_judged, records_read, contents_read, in_range}
use Rattle.plant_image.proofs.image.read_cells.Goals as goal

pub returns-in_err-records-clause-held : goal.returns-in_err-records-clause-held
returns-in_err-records-clause-held c =
    let p = err_from_is_err_and c.from_residual-in_err-records.result c.from_residual-in_err-records.ensures.1 in
    let plant : PlantDefinition = plant_of c.args.system.now in
    let cells : List Cell = c.args.cells.now in
    let ring : c.ring-ring.result ≡ ring_held cells = c.ring-ring.ensures.value ∙ sym (ring_is cells c.in_ok-identity.identity c.in_ok-identity.ensures.1.0) in
    let base : c.in_ok-base.base.base ≡ base_held cells = c.in_ok-base.ensures.base.1.1 in
    rw (p.1, p.2) (told_of_same (numbers_fault plant cells c.ring-ring.result (range_with_len c.in_ok-base.base.base c.ring-ring.result)) _ _
    (fourth_is (identity_fault (length plant.atoms) (digest_of c.args.system.now) c.args.bytes cells) (base_fault cells) (first_fault_in (atom_fault cells) 0 plant.atoms) (records_fault plant cells) c.in_ok-identity.ensures.0 c.in_ok-base.ensures.base.0 c.in_ok-slots.ensures.0
    ∙ sym (records_judged cells c.ring-ring.result c.in_ok-base.base.base ring base plant))
    c.in_err-records.ensures.records)

pub returns-clause-held : goal.returns-clause-held
returns-clause-held c =
    let plant : PlantDefinition = plant_of c.args.system.now in
    let cells : List Cell = c.args.cells.now in
    let ring : c.ring-ring.result ≡ ring_held cells = c.ring-ring.ensures.value ∙ sym (ring_is cells c.in_ok-identity.identity c.in_ok-identity.ensures.1.0) in
    let base : c.in_ok-base.base.base ≡ base_held cells = c.in_ok-base.ensures.base.1.1 in
    let at : c.in_ok-base.base.cell ≡ base_cell_of cells = c.in_ok-base.ensures.base.1.0 in
    let read : c.in_ok-records.records.items ≡ (contents_of (length plant.atoms) cells).records = c.in_ok-records.ensures.records.1 ∙ records_read cells c.ring-ring.result c.in_ok-base.base.base ring base (length plant.atoms) in
    let from : base_cell 0 ≤ base_cell_of cells = omega (arith, c.in_ok-base.ensures.cell.0, at) in
    let to : base_cell_of cells ≤ base_cell 1 = omega (arith, c.in_ok-base.ensures.cell.1, at) in
    let some : 1 ≤ base_held cells = omega (arith, c.in_ok-base.ensures.in_range.0, base) in
    let last : base_held cells + length (contents_of (length plant.atoms) cells).records ≤ LAST_NUMBER + 1 = omega (arith, c.in_ok-records.ensures.in_range, base, ap (λ (l : List FiredFields). length l) read) in (
      fourth_is (identity_fault (length plant.atoms) (digest_of c.args.system.now) c.args.bytes cells) (base_fault cells) (first_fault_in (atom_fault cells) 0 plant.atoms) (records_fault plant cells) c.in_ok-identity.ensures.0 c.in_ok-base.ensures.base.0 c.in_ok-slots.ensures.0
          ∙ sym (records_judged cells c.ring-ring.result c.in_ok-base.base.base ring base plant) ∙ c.in_ok-records.ensures.records.0,
      record {
        contents = contents_read cells c.ring-ring.result c.in_ok-base.base.base ring base (length plant.atoms) c.in_ok-base.base.cell c.in_ok-slots.slots.items c.in_ok-records.records.items at c.in_ok-slots.ensures.1 read;
        in_range = in_range (length plant.atoms) cells c.in_ok-identity.identity c.ring-ring.ensures.in_range c.in_ok-identity.ensures.1.0 c.in_ok-identity.ensures.1.1 from to some last c.in_ok-base.ensures.base.0;
      },
    )

pub returns-clause-sound : goal.returns-clause-sound
returns-clause-sound c =
    let cells : List Cell = c.args.cells.now in
    let atoms : List AtomDefinition = (plant_of c.args.system.now).atoms in
    record {
      as_many = ap (λ (l : List SavedFields). length l) c.in_ok-slots.ensures.1 ∙ length-map-range_with_len (newest_held cells) 0 (length atoms);
      of_atoms = λ n a at.
          let none : atom_fault cells n a ≡ None = told_none_at (atom_fault cells) atoms 0 n n a c.in_ok-slots.ensures.0 at (omega arith) in
          let is : get_or c.in_ok-slots.slots.items n (unsaved n) ≡ newest_held cells n =
          ap (λ (l : List SavedFields). get_or l n (unsaved n)) c.in_ok-slots.ensures.1 ∙ slot_held cells (length atoms) n (slice_get_within atoms n a at) in
          subst (λ (s : SavedFields). is_of_atom n a s ≡ true) (sym is) (held_passes cells n a none);
      base = c.in_ok-base.ensures.in_range.0;
      last = c.in_ok-records.ensures.in_range;
    }

-- A device that holds a state of a plant stands for it, as a freshly formatted one for the first.
use Rattle.std.proofs.Common.{◌≡◌, ℕ, ◌+◌, ◌-◌, ◌*◌, ◌<◌, ◌==◌, ◌&&◌, nat_lt, nat_eq, Bool, true, false, not, if◌then◌else◌, is_none, unwrap_or, List, [], ◌∷◌, ◌++◌, length, map, drop, get_or, slice_get, Option, Some, None, option_map, Ok, refl, sym, ◌∙◌, ap, subst, arith, append_assoc, lit≤}
use Rattle.std.specs.List.{range_with_len, starts_with}
use Rattle.std.specs.Option.{option_and_then, option_map_or}
use Rattle.std.specs.Str.{bytes_eq}
use Rattle.std.proofs.lemmas.Bool.{eq-eqb, le-ltb}
use Rattle.std.proofs.lemmas.List.{length-map, length-replicate, get_or-replicate}
use Rattle.std.proofs.lemmas.Option.{slice_get-map, slice_get_within, same_Some}
use Rattle.std.proofs.lemmas.Slice.Eq.{bytes_eq-Decides}
use Rattle.disk_model.specs.Cells.{Cell, cell}
use Rattle.disk_model.specs.declared.cells.TheConstants.{BODY}
use Rattle.gated_journal.specs.Bases.{base_of, base_cell_of, counts_before}
use Rattle.gated_journal.specs.Bases as bases
use Rattle.gated_journal.specs.Live.{record_in}
use Rattle.gated_journal.proofs.Fronts.{front}
use Rattle.petri_atom.specs.Definition.{AtomDefinition, Fits, initial, is_marked_first}
use Rattle.petri_atom.specs.Local.{Local}
use Rattle.petri_atom.proofs.Sets.{has-above, set_below-lt}
use Rattle.record_codec.specs.Base.{base_in}
use Rattle.record_codec.specs.Bytes.{padded, zeros, two_bytes, four_bytes, two_byte_number}
use Rattle.record_codec.specs.Fired.{FiredFields}
use Rattle.record_codec.specs.Identity.{IdentityFields, IsIdentity, identity_bytes, identity_in, version_in}
use Rattle.record_codec.specs.Ring.{base_cell, slot_cell, device_cells}
use Rattle.record_codec.specs.Saved.{SavedFields, saved_in}
use Rattle.record_codec.specs.declared.layout.TheConstants.{MAGIC, VERSION}
use Rattle.record_codec.proofs.Bases.{base_reads_back}
use Rattle.record_codec.proofs.Identities.{identity_reads_back}
use Rattle.record_codec.proofs.Numbers.{two_byte_number-two_bytes}
use Rattle.record_codec.proofs.Written.{padded_is}
use Rattle.record_replay.specs.Records.{count_of}
use Rattle.record_replay.specs.Replay.{Position, replay_from}
use Rattle.snapshot_writer.specs.Slots.{newest, newest_of, saved_at, saved_of}
use Rattle.snapshot_writer.specs.Storing.{HoldsSaved}
use Rattle.snapshot_writer.specs.Parcels.{local_in, saved_by}
use Rattle.plant_model.specs.Plant.{PlantDefinition}
use Rattle.plant_model.specs.Rules.{first_of}
use Rattle.plant_model.specs.Step.{initial_states}
use Rattle.plant_image.specs.Contents.{contents_of, copied_at, identity_held, ring_held, base_held, most_by, most_firings, newest_held, saved_position, unsaved}
use Rattle.plant_image.specs.Faults.{atom_fault, base_fault, cell_bytes, cells_fault, fault_where, first_cell_fault, first_fault, identity_fault, is_any, is_for, is_full_but_not, is_of_atom, record_fault, records_fault}
use Rattle.plant_image.specs.Standing.{HasRoom, HoldsState, Leads, StandsFor, first_counts, identity_for}
use Rattle.plant_image.specs.declared.fault.ImageFault.{ImageFault}
use Rattle.plant_image.specs.declared.fault.ImageFault.TheVariants.{Damaged, NotFormatted, OtherSystem, OtherVersion, WrongSize}
use Rattle.plant_image.proofs.AtomSlots.{slot_held}
use Rattle.plant_image.proofs.ByAtoms.{element_at, told_none}
use Rattle.plant_image.proofs.KeptCells.{none_of, record_empty, records_none}
use Rattle.plant_image.proofs.MovedImages.{base_sound, held_right}
use Rattle.plant_image.proofs.NumberFaults.{record_at, live_ends}
use Rattle.plant_image.proofs.SavedFits.{fitting_passes}
use Rattle.plant_image.proofs.Standings.{leads_stands}
use Rattle.plant_image.proofs.StoredImages.{atom_none, holding_right}
use Rattle.plant_image.proofs.WholeImage.{records_read, ring_is}

-- ---- the first cell

-- a spelled identity begins with the magic bytes and this version
version_there : (identity : IdentityFields) (rest : List ℕ) → version_in (identity_bytes identity ++ rest) ≡ Some VERSION
unfolding version_in
version_there identity rest =
    let behind : List ℕ = two_bytes identity.atoms ++ (four_bytes identity.ring ++ (identity.digest ++ rest)) in
    let grouped : identity_bytes identity ++ rest ≡ MAGIC ++ (two_bytes VERSION ++ behind) = simp append_assoc in
    let read : two_byte_number (two_bytes VERSION ++ behind) ≡ VERSION = two_byte_number-two_bytes VERSION behind (omega arith) in
    ap (λ (body : List ℕ). if starts_with nat_eq body MAGIC then Some (two_byte_number (drop (length MAGIC) body)) else None) grouped
    ∙ ap (λ (n : ℕ). Some n) read

pub version_spelled : (identity : IdentityFields) → version_in (padded BODY (identity_bytes identity)) ≡ Some VERSION
version_spelled identity = ap version_in (padded_is BODY (identity_bytes identity)) ∙ version_there identity (zeros (BODY - length (identity_bytes identity)))

pub first_cell_none : (identity : IdentityFields) (c : Cell) → IsIdentity identity → c ≡ Some (padded BODY (identity_bytes identity)) → first_cell_fault c ≡ None
first_cell_none identity c is full =
    ap first_cell_fault full
    ∙ ap (λ (o : Option ℕ). first_fault (
    fault_where (is_none o) NotFormatted ∷
    fault_where (option_map_or (λ version. not (version == VERSION)) o false) OtherVersion ∷
    fault_where (is_full_but_not identity_in is_any (Some (padded BODY (identity_bytes identity)))) (Damaged 0) ∷
    [])) (version_spelled identity)
    ∙ ap (λ (o : Option IdentityFields). first_of (fault_where (not (option_map_or is_any o false)) (Damaged 0)) None) (identity_reads_back identity BODY (lit≤ tt) is)

held_is : (identity : IdentityFields) (cells : List Cell) → IsIdentity identity → cell cells 0 ≡ Some (padded BODY (identity_bytes identity)) → identity_held cells ≡ Some identity
held_is identity cells is full = ap (option_and_then identity_in) full ∙ identity_reads_back identity BODY (lit≤ tt) is

-- ---- a device that holds a state

module _ (plant : PlantDefinition) (digest : List ℕ) (ring bytes : ℕ) (states : List Local) (counts : List ℕ) (number : ℕ) (cells : List Cell) (is : IsIdentity (identity_for plant digest ring))
    (room : HasRoom plant states counts number) (holds : HoldsState plant digest ring bytes states counts number cells) where
  held : identity_held cells ≡ Some (identity_for plant digest ring)
  held = held_is (identity_for plant digest ring) cells is holds.identity

  ring_held_is : ring_held cells ≡ ring
  ring_held_is = ring_is cells (identity_for plant digest ring) held

  identity_none : identity_fault (length plant.atoms) digest bytes cells ≡ None
  identity_none =
      let size = holds.size in
      let big : nat_lt bytes cell_bytes ≡ false = le-ltb bytes cell_bytes (omega arith) in
      let own : is_for (length plant.atoms) digest (identity_for plant digest ring) ≡ true = ap (λ (t : Bool). t && bytes_eq digest digest) (eq-eqb (length plant.atoms) (length plant.atoms) refl) ∙ (bytes_eq-Decides digest digest).1 refl in
      let sized : (bytes == cell_bytes * device_cells (length plant.atoms) ring) ≡ true = eq-eqb bytes (cell_bytes * device_cells (length plant.atoms) ring) size in
      ap (λ (t : Bool). first_of (fault_where t WrongSize) (first_fault (first_cell_fault (cell cells 0) ∷ fault_where (not (option_map_or (is_for (length plant.atoms) digest) (identity_held cells) false)) OtherSystem ∷ fault_where (not (bytes == cell_bytes * device_cells (length plant.atoms) (ring_held cells))) WrongSize ∷ []))) big
      ∙ ap (λ (o : Option ImageFault). first_of o (first_fault (fault_where (not (option_map_or (is_for (length plant.atoms) digest) (identity_held cells) false)) OtherSystem ∷ fault_where (not (bytes == cell_bytes * device_cells (length plant.atoms) (ring_held cells))) WrongSize ∷ []))) (first_cell_none (identity_for plant digest ring) (cell cells 0) is holds.identity)
      ∙ ap (λ (t : Bool). first_of (fault_where (not t) OtherSystem) (first_fault (fault_where (not (bytes == cell_bytes * device_cells (length plant.atoms) (ring_held cells))) WrongSize ∷ []))) (ap (λ (o : Option IdentityFields). option_map_or (is_for (length plant.atoms) digest) o false) held ∙ own)
      ∙ ap (λ (t : Bool). first_of (fault_where (not t) WrongSize) None) (ap (λ (r : ℕ). bytes == cell_bytes * device_cells (length plant.atoms) r) ring_held_is ∙ sized)

  first_base : bases.base_held (cell cells 1) ≡ Some (number + 1)
  first_base = ap bases.base_held holds.base ∙ base_reads_back (number + 1) BODY (lit≤ tt) (record { positive = omega arith; within = omega (arith, room.number_within) })

  at_first : base_cell_of cells ≡ 1
  at_first = ap (λ (o : Option ℕ). if counts_before o (bases.base_held (cell cells 1)) then base_cell 1 else base_cell 0) (ap bases.base_held holds.no_base)

  base_is : base_of cells ≡ Some (number + 1)
  base_is = ap (λ (k : ℕ). bases.base_held (cell cells k)) at_first ∙ first_base

  base_held_is : base_held cells ≡ number + 1
  base_held_is = ap (λ (o : Option ℕ). unwrap_or o 1) base_is

  base_none : base_fault cells ≡ None
  base_none = base_sound cells (number + 1) base_is (held_right (cell cells 1) (number + 1) first_base) (ap (is_full_but_not base_in (is_any {V = ℕ})) holds.no_base)

  -- the state of an atom
  state_of : (atom : ℕ) (a : AtomDefinition) → slice_get plant.atoms atom ≡ Some a → (state : Local) × (slice_get states atom ≡ Some state)
  state_of atom a at = element_at states atom (omega (arith, slice_get_within plant.atoms atom a at, room.of_plant))

  atom_none_at : (atom : ℕ) (a : AtomDefinition) → slice_get plant.atoms atom ≡ Some a → atom_fault cells atom a ≡ None
  atom_none_at atom a at =
      let below : atom < length plant.atoms = slice_get_within plant.atoms atom a at in
      let its = state_of atom a at in
      let kept : SavedFields = saved_by atom (count_of counts atom) number its.0 in
      let there : HoldsSaved kept (cell cells (slot_cell atom 0)) = holds.slots atom its.0 its.1 in
      atom_none cells atom a
      (holding_right a kept (fitting_passes atom (count_of counts atom) number a its.0 (room.fits atom a its.0 at its.1)) (cell cells (slot_cell atom 0)) there)
      (ap (is_full_but_not saved_in (is_of_atom atom a)) (holds.no_slots atom below))
      (ap (λ (c : Cell). is_none c && is_none (cell cells (slot_cell atom 1))) there.body)

  newest_is : (atom : ℕ) (state : Local) → atom < length plant.atoms → slice_get states atom ≡ Some state → newest_held cells atom ≡ saved_by atom (count_of counts atom) number state
  newest_is atom state below its =
      let kept : SavedFields = saved_by atom (count_of counts atom) number state in
      let there : HoldsSaved kept (cell cells (slot_cell atom 0)) = holds.slots atom state its in
      let none : saved_at atom 1 cells ≡ None = ap (saved_of atom) (holds.no_slots atom below) in
      let both : newest atom cells ≡ Some kept = ap (λ (o : Option SavedFields). newest_of (saved_at atom 0 cells) o) none ∙ there.held in
      ap (λ (o : Option SavedFields). unwrap_or o (unsaved atom)) both

  live_none : front (record_at plant cells ring) (number + 1) ring ≡ []
  live_none = live_ends plant cells ring (number + 1) ring (ap (record_in (number + 1)) (holds.no_records (number + 1)))

  records_none_there : records_fault plant cells ≡ None
  records_none_there =
      let behind : number + 1 ≡ number + 1 + 0 = omega arith in
      let empty : record_fault plant cells ring (number + 1) ≡ None = record_empty plant cells ring (number + 1) (holds.no_records (number + 1)) in
      records_none plant cells ring (number + 1) [] (sym ring_held_is) (sym base_held_is) live_none
      (record { fit = refl; behind = λ some. subst (λ (n : ℕ). record_fault plant cells ring n ≡ None) behind empty })

  none_there : cells_fault plant digest bytes cells ≡ None
  none_there = none_of plant digest bytes cells (record {
    identity = identity_none;
    base = base_none;
    slots = told_none (atom_fault cells) plant.atoms 0 (λ j a at. ap (λ (k : ℕ). atom_fault cells k a) (omega arith) ∙ atom_none_at j a at);
    records = records_none_there;
  })

  no_records : (contents_of (length plant.atoms) cells).records ≡ []
  no_records = sym (records_read cells ring (number + 1) (sym ring_held_is) (sym base_held_is) (length plant.atoms)) ∙ live_none

  position_is : (atom : ℕ) (state : Local) → atom < length plant.atoms → slice_get states atom ≡ Some state
      → saved_position (contents_of (length plant.atoms) cells) atom ≡ record { state = state; count = count_of counts atom }
  position_is atom state below its =
      let kept : SavedFields = saved_by atom (count_of counts atom) number state in
      let slot : get_or (map (newest_held cells) (range_with_len 0 (length plant.atoms))) atom (unsaved atom) ≡ kept = slot_held cells (length plant.atoms) atom below ∙ newest_is atom state below its in
      ap (λ (s : SavedFields). record { state = local_in s; count = s.count }) slot

  copied_is : (atom : ℕ) (state : Local) → atom < length plant.atoms → slice_get states atom ≡ Some state → copied_at (contents_of (length plant.atoms) cells) atom ≡ number
  copied_is atom state below its = ap (λ (s : SavedFields). s.at) (slot_held cells (length plant.atoms) atom below ∙ newest_is atom state below its)

  pub held_leads : Leads plant (contents_of (length plant.atoms) cells) states counts number
  held_leads = record {
    last = omega (arith, base_held_is, ap (λ (l : List FiredFields). length l) no_records);
    as_many = room.of_plant;
    counted = room.counted;
    each = λ atom a state at its.
        ap (replay_from a atom (saved_position (contents_of (length plant.atoms) cells) atom)) no_records
        ∙ ap (λ (p : Position). Ok p) (position_is atom state (slice_get_within plant.atoms atom a at) its);
    within = room.within;
    accounted = λ atom below.
        let none : most_firings (contents_of (length plant.atoms) cells) atom ≡ base_held cells - 1 = ap (most_by atom (base_held cells - 1) (base_held cells)) no_records in
        omega (arith, none, base_held_is, room.within atom below);
    copied = λ atom below.
        let there = element_at states atom (omega (arith, below, room.of_plant)) in
        omega (arith, copied_is atom there.0 below there.1);
  }

  pub held_stands : StandsFor plant digest bytes cells states number
  held_stands = leads_stands plant digest bytes cells states number counts none_there held_leads

-- ---- the first state

-- it fits each atom
first_fits : (a : AtomDefinition) → Fits a (initial a)
first_fits a = record {
  variables = length-map a.variables (λ v. v.first);
  places = λ k past. has-above (initial a).marking (length a.places) k (set_below-lt (length a.places) (is_marked_first a.places)) past;
}

pub first_has_room : (plant : PlantDefinition) → HasRoom plant (initial_states plant) (first_counts plant) 0
first_has_room plant = record {
  of_plant = length-map plant.atoms initial;
  fits = λ atom a state at its.
      subst (Fits a) (same_Some (initial a) state (sym (slice_get-map initial plant.atoms atom ∙ ap (option_map initial) at) ∙ its)) (first_fits a);
  counted = omega (arith, length-replicate {A = ℕ} (length plant.atoms) 0);
  within = λ atom below. omega (arith, get_or-replicate {A = ℕ} (length plant.atoms) atom 0 0 below);
  number_within = lit≤ tt;
}

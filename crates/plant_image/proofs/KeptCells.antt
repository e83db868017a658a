-- What is read of cells that are as they were.
use Rattle.std.proofs.Common.{◌≡◌, ◌≢◌, ℕ, zero, suc, ◌+◌, ◌*◌, ◌<◌, ◌≤◌, ◌==◌, ◌&&◌, nat_lt, Bool, true, false, not, if◌then◌else◌, is_none, unwrap_or, List, [], ◌∷◌, length, map, Option, None, refl, sym, ◌∙◌, ap, subst, arith}
use Rattle.std.specs.List.{range_with_len}
use Rattle.std.specs.Option.{option_and_then, option_map_or}
use Rattle.std.proofs.lemmas.Option.{slice_get_within}
use Rattle.disk_model.specs.Cells.{Cell, cell}
use Rattle.gated_journal.specs.Bases.{counts_before, base_cell_of, base_of}
use Rattle.gated_journal.specs.Bases as bases
use Rattle.gated_journal.specs.declared.ring.Ring.{Ring}
use Rattle.gated_journal.specs.Live.{place}
use Rattle.gated_journal.proofs.Fronts.{front}
use Rattle.petri_atom.specs.Definition.{AtomDefinition}
use Rattle.record_codec.specs.Base.{base_in}
use Rattle.record_codec.specs.Fired.{FiredFields, fired_in}
use Rattle.record_codec.specs.Identity.{IdentityFields, identity_in}
use Rattle.record_codec.specs.Ring.{base_cell, slot_cell, record_cell, device_cells}
use Rattle.record_codec.specs.Saved.{SavedFields, saved_in}
use Rattle.snapshot_writer.specs.Slots.{saved_of, saved_at, newest_of, newest}
use Rattle.plant_model.specs.Plant.{PlantDefinition}
use Rattle.plant_model.specs.Rules.{first_fault_in}
use Rattle.plant_image.specs.Contents.{contents_of, ring_held, base_held, newest_held, unsaved}
use Rattle.plant_image.specs.Faults.{atom_fault, base_fault, cell_bytes, cells_fault, ends_or_fits, fault_where, first_cell_fault, first_fault, identity_fault, is_any, is_for, is_full_but_not, is_of_atom, record_fault, records_fault}
use Rattle.plant_image.specs.declared.fault.ImageFault.{ImageFault}
use Rattle.plant_image.specs.declared.fault.ImageFault.TheVariants.{WrongSize, OtherSystem, Damaged}
use Rattle.plant_image.proofs.AtomSlots.{no_first, no_later}
use Rattle.plant_image.proofs.ByAtoms.{told_same}
use Rattle.plant_image.proofs.LiveFits.{RowFits, row_fits, row_none, cell_none, empty_right}
use Rattle.plant_image.proofs.NumberFaults.{record_at}
use Rattle.plant_image.proofs.WholeImage.{fourth_is, records_judged}

-- The parts of an image with nothing wrong in them.
pub record IsSound (plant : PlantDefinition) (digest : List ℕ) (bytes : ℕ) (cells : List Cell) : Type 0 where
  pub identity : identity_fault (length plant.atoms) digest bytes cells ≡ None
  pub base : base_fault cells ≡ None
  pub slots : first_fault_in (atom_fault cells) 0 plant.atoms ≡ None
  pub records : records_fault plant cells ≡ None

pub sound_of : (plant : PlantDefinition) (digest : List ℕ) (bytes : ℕ) (cells : List Cell) → cells_fault plant digest bytes cells ≡ None → IsSound plant digest bytes cells
sound_of plant digest bytes cells none =
    let second = no_later (identity_fault (length plant.atoms) digest bytes cells) _ none in
    let third = no_later (base_fault cells) _ second in
    let fourth = no_later (first_fault_in (atom_fault cells) 0 plant.atoms) _ third in
    record {
      identity = no_first (identity_fault (length plant.atoms) digest bytes cells) _ none;
      base = no_first (base_fault cells) _ second;
      slots = no_first (first_fault_in (atom_fault cells) 0 plant.atoms) _ third;
      records = no_first (records_fault plant cells) None fourth;
    }

pub none_of : (plant : PlantDefinition) (digest : List ℕ) (bytes : ℕ) (cells : List Cell) → IsSound plant digest bytes cells → cells_fault plant digest bytes cells ≡ None
none_of plant digest bytes cells sound = fourth_is (identity_fault (length plant.atoms) digest bytes cells) (base_fault cells) (first_fault_in (atom_fault cells) 0 plant.atoms) (records_fault plant cells) sound.identity sound.base sound.slots ∙ sound.records

-- a list made of numbers in a row
pub map_same : {X : Type 0} (f g : ℕ → X) (n a : ℕ) → ((k : ℕ) → a ≤ k → k < a + n → f k ≡ g k) → map f (range_with_len a n) ≡ map g (range_with_len a n)
map_same f g zero a same = refl
map_same {X} f g (suc n) a same =
    ap (λ (x : X). x ∷ map f (range_with_len (a + 1) n)) (same a (omega arith) (omega arith))
    ∙ ap (λ (l : List X). g a ∷ l) (map_same f g n (a + 1) (λ k from to. same k (omega (arith, from)) (omega (arith, to))))

-- a record cell lies after the slots
pub behind_slots : (j : Ring) (n k : ℕ) → k < 3 + 2 * j.atoms → place j n ≢ k
behind_slots j n k low = λ same. omega (arith, same)

-- what is wrong with two base cells, and with two slots
abbrev pub base_by : Cell → Cell → Option ImageFault
base_by c d = first_fault (
    fault_where (is_full_but_not base_in is_any c) (Damaged (base_cell 0)) ∷
    fault_where (is_full_but_not base_in is_any d) (Damaged (base_cell 1)) ∷
    fault_where (is_none c && is_none d) (Damaged (base_cell 0)) ∷
    [])

abbrev pub atom_by : ℕ → AtomDefinition → Cell → Cell → Option ImageFault
atom_by atom a c d = first_fault (
    fault_where (is_full_but_not saved_in (is_of_atom atom a) c) (Damaged (slot_cell atom 0)) ∷
    fault_where (is_full_but_not saved_in (is_of_atom atom a) d) (Damaged (slot_cell atom 1)) ∷
    fault_where (is_none c && is_none d) (Damaged (slot_cell atom 0)) ∷
    [])

module _ (before cells : List Cell) where
  -- ---- the first cell

  module _ (same : cell cells 0 ≡ cell before 0) where
    pub identity_same : (atoms : ℕ) (digest : List ℕ) (bytes : ℕ) → identity_fault atoms digest bytes cells ≡ identity_fault atoms digest bytes before
    identity_same atoms digest bytes = ap (λ (c : Cell). first_fault (
        fault_where (nat_lt bytes cell_bytes) WrongSize ∷
        first_cell_fault c ∷
        fault_where (not (option_map_or (is_for atoms digest) (option_and_then identity_in c) false)) OtherSystem ∷
        fault_where (not (bytes == cell_bytes * device_cells atoms (option_map_or (λ (i : IdentityFields). i.ring) (option_and_then identity_in c) 0))) WrongSize ∷
        [])) same

    pub ring_same : ring_held cells ≡ ring_held before
    ring_same = ap (λ (c : Cell). option_map_or (λ (i : IdentityFields). i.ring) (option_and_then identity_in c) 0) same

  -- ---- the base cells

  module _ (first : cell cells 1 ≡ cell before 1) (second : cell cells 2 ≡ cell before 2) where
    pub base_fault_same : base_fault cells ≡ base_fault before
    base_fault_same = ap (λ (c : Cell). base_by c (cell cells 2)) first ∙ ap (base_by (cell before 1)) second

    pub base_cell_same : base_cell_of cells ≡ base_cell_of before
    base_cell_same =
        ap (λ (c : Cell). if counts_before (bases.base_held (cell cells 2)) (bases.base_held c) then base_cell 1 else base_cell 0) first
        ∙ ap (λ (c : Cell). if counts_before (bases.base_held c) (bases.base_held (cell before 1)) then base_cell 1 else base_cell 0) second

    pub base_same : base_held cells ≡ base_held before
    base_same =
        ap (λ (k : ℕ). unwrap_or (bases.base_held (cell cells k)) 1) base_cell_same
        ∙ ap (λ (c : Cell). unwrap_or (bases.base_held c) 1) (one_of (counts_before (bases.base_held (cell before 2)) (bases.base_held (cell before 1))))
      where
        one_of : (t : Bool) → cell cells (if t then base_cell 1 else base_cell 0) ≡ cell before (if t then base_cell 1 else base_cell 0)
        one_of true = second
        one_of false = first

  -- ---- the slots

  module _ (atom : ℕ) (first : cell cells (slot_cell atom 0) ≡ cell before (slot_cell atom 0)) (second : cell cells (slot_cell atom 1) ≡ cell before (slot_cell atom 1)) where
    pub atom_same : (a : AtomDefinition) → atom_fault cells atom a ≡ atom_fault before atom a
    atom_same a = ap (λ (c : Cell). atom_by atom a c (cell cells (slot_cell atom 1))) first ∙ ap (atom_by atom a (cell before (slot_cell atom 0))) second

    pub newest_same : newest atom cells ≡ newest atom before
    newest_same =
        ap (λ (c : Cell). newest_of (saved_of atom c) (saved_at atom 1 cells)) first
        ∙ ap (λ (c : Cell). newest_of (saved_at atom 0 before) (saved_of atom c)) second

    pub held_same : newest_held cells atom ≡ newest_held before atom
    held_same = ap (λ (o : Option SavedFields). unwrap_or o (unsaved atom)) newest_same

  module _ (atoms : List AtomDefinition) (same : (k : ℕ) → 3 ≤ k → k < 3 + 2 * length atoms → cell cells k ≡ cell before k) where
    slot_same : (atom slot : ℕ) → atom < length atoms → slot < 2 → cell cells (slot_cell atom slot) ≡ cell before (slot_cell atom slot)
    slot_same atom slot below either = same (slot_cell atom slot) (omega arith) (omega (arith, below, either))

    pub slots_fault_same : first_fault_in (atom_fault cells) 0 atoms ≡ first_fault_in (atom_fault before) 0 atoms
    slots_fault_same = told_same (atom_fault cells) (atom_fault before) atoms 0 (λ j a at.
        let below : 0 + j < length atoms = omega (arith, slice_get_within atoms j a at) in
        atom_same (0 + j) (slot_same (0 + j) 0 below (omega arith)) (slot_same (0 + j) 1 below (omega arith)) a)

    pub slots_same : map (newest_held cells) (range_with_len 0 (length atoms)) ≡ map (newest_held before) (range_with_len 0 (length atoms))
    slots_same = map_same (newest_held cells) (newest_held before) (length atoms) 0 (λ k from to.
        let below : k < length atoms = omega (arith, to) in
        held_same k (slot_same k 0 below (omega arith)) (slot_same k 1 below (omega arith)))

  -- ---- the records

  pub record_same : (plant : PlantDefinition) (ring n : ℕ) → cell cells (record_cell (length plant.atoms) ring n) ≡ cell before (record_cell (length plant.atoms) ring n) → record_fault plant cells ring n ≡ record_fault plant before ring n
  record_same plant ring n same = ap (λ (c : Cell). fault_where (is_full_but_not fired_in (ends_or_fits plant n) c) (Damaged (record_cell (length plant.atoms) ring n))) same

-- an empty cell of a record
pub record_empty : (plant : PlantDefinition) (cells : List Cell) (ring n : ℕ) → cell cells (record_cell (length plant.atoms) ring n) ≡ None → record_fault plant cells ring n ≡ None
record_empty plant cells ring n empty = cell_none plant cells ring n (empty_right plant n (cell cells (record_cell (length plant.atoms) ring n)) empty)

-- the live records of an image with nothing wrong in them
pub live_fit : (plant : PlantDefinition) (cells : List Cell) → records_fault plant cells ≡ None → RowFits plant cells (ring_held cells) (base_held cells) (ring_held cells) (contents_of (length plant.atoms) cells).records
live_fit plant cells none = row_fits plant cells (ring_held cells) (ring_held cells) (base_held cells) none

-- and the other way round, by records that are live
pub records_none : (plant : PlantDefinition) (cells : List Cell) (ring base : ℕ) (records : List FiredFields) → ring ≡ ring_held cells → base ≡ base_held cells → front (record_at plant cells ring) base ring ≡ records
    → RowFits plant cells ring base ring records → records_fault plant cells ≡ None
records_none plant cells ring base records ring_is base_is are fits =
    sym (records_judged cells ring base ring_is base_is plant)
    ∙ row_none plant cells ring ring base (subst (λ (l : List FiredFields). RowFits plant cells ring base ring l) (sym are) fits)

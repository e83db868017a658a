-- The parts of a reading together.
use Rattle.std.proofs.Common.{◌≡◌, ℕ, ◌+◌, ◌≤◌, List, [], ◌∷◌, length, Option, Some, None, sym, ◌∙◌, ap, subst, refl, arith}
use Rattle.std.specs.List.{range_with_len}
use Rattle.std.specs.Option.{option_map_or}
use Rattle.disk_model.specs.Cells.{Cell, cell}
use Rattle.gated_journal.specs.Bases.{base_cell_of}
use Rattle.gated_journal.specs.Live.{live_among, record_in}
use Rattle.gated_journal.proofs.Fronts.{front_length}
use Rattle.record_codec.specs.Fired.{FiredFields}
use Rattle.record_codec.specs.Identity.{IdentityFields, IsIdentity}
use Rattle.record_codec.specs.Ring.{base_cell, record_cell}
use Rattle.record_codec.specs.Saved.{SavedFields}
use Rattle.record_codec.specs.declared.layout.TheConstants.{LAST_NUMBER}
use Rattle.plant_model.specs.Plant.{PlantDefinition}
use Rattle.plant_model.specs.Rules.{first_of}
use Rattle.plant_image.specs.Contents.{Contents, contents_of, identity_held, ring_held, base_held}
use Rattle.plant_image.specs.Faults.{base_fault, first_fault, numbers_fault, records_fault}
use Rattle.plant_image.specs.Reading.{IsFault, IsInRange}
use Rattle.plant_image.specs.declared.fault.ImageFault.{ImageFault}
use Rattle.plant_image.proofs.BaseReads.{reads_for}

-- a lone fault is the first
pub alone : (found : Option ImageFault) → first_of found None ≡ found
alone None = refl
alone (Some fault) = refl

-- the second of two, if the first is none
pub second_is : (a b : Option ImageFault) → a ≡ None → first_fault (a ∷ b ∷ []) ≡ b
second_is a b none = ap (λ (o : Option ImageFault). first_of o (first_of b None)) none ∙ alone b

-- the fourth of four, if the first three are none
pub fourth_is : (a b c d : Option ImageFault) → a ≡ None → b ≡ None → c ≡ None → first_fault (a ∷ b ∷ c ∷ d ∷ []) ≡ d
fourth_is a b c d a_none b_none c_none =
    ap (λ (o : Option ImageFault). first_of o (first_of b (first_of c (first_of d None)))) a_none
    ∙ ap (λ (o : Option ImageFault). first_of o (first_of c (first_of d None))) b_none
    ∙ second_is c d c_none

-- a fault of what is the same is told of it
pub told_of_same : (found whole : Option ImageFault) (fault : ImageFault) → whole ≡ found → IsFault found fault → IsFault whole fault
told_of_same found whole fault is told = subst (λ (o : Option ImageFault). IsFault o fault) (sym is) told

-- contents are one if their parts are
pub same_contents : (c d : Contents) → c.ring ≡ d.ring → c.base_cell ≡ d.base_cell → c.base ≡ d.base → c.slots ≡ d.slots → c.records ≡ d.records → c ≡ d
same_contents c d ring at base slots records =
    let first : c ≡ record c { ring = d.ring } = ap (λ (r : ℕ). record c { ring = r }) ring in
    let second : record c { ring = d.ring } ≡ record c { ring = d.ring; base_cell = d.base_cell } = ap (λ (k : ℕ). record c { ring = d.ring; base_cell = k }) at in
    let third : record c { ring = d.ring; base_cell = d.base_cell } ≡ record d { slots = c.slots; records = c.records } = ap (λ (b : ℕ). record d { base = b; slots = c.slots; records = c.records }) base in
    let fourth : record d { slots = c.slots; records = c.records } ≡ record d { records = c.records } = ap (λ (s : List SavedFields). record d { slots = s; records = c.records }) slots in
    first ∙ second ∙ third ∙ fourth ∙ ap (λ (l : List FiredFields). record d { records = l }) records

-- the ring that the identity tells
pub ring_is : (cells : List Cell) (identity : IdentityFields) → identity_held cells ≡ Some identity → ring_held cells ≡ identity.ring
ring_is cells identity held = ap (λ (o : Option IdentityFields). option_map_or (λ (i : IdentityFields). i.ring) o 0) held

module _ (cells : List Cell) (ring base : ℕ) (ring_same : ring ≡ ring_held cells) (base_same : base ≡ base_held cells) where
  -- what was judged are the live records
  pub records_judged : (plant : PlantDefinition) → numbers_fault plant cells ring (range_with_len base ring) ≡ records_fault plant cells
  records_judged plant = ap (λ (r : ℕ). numbers_fault plant cells r (range_with_len base r)) ring_same ∙ ap (λ (b : ℕ). numbers_fault plant cells (ring_held cells) (range_with_len b (ring_held cells))) base_same

  -- and what was read
  pub records_read : (atoms : ℕ) → live_among cells (record_cell atoms ring) (range_with_len base ring) ≡ (contents_of atoms cells).records
  records_read atoms = ap (λ (r : ℕ). live_among cells (record_cell atoms r) (range_with_len base r)) ring_same ∙ ap (λ (b : ℕ). live_among cells (record_cell atoms (ring_held cells)) (range_with_len b (ring_held cells))) base_same

  pub contents_read : (atoms at : ℕ) (slots : List SavedFields) (records : List FiredFields) → at ≡ base_cell_of cells → slots ≡ (contents_of atoms cells).slots → records ≡ (contents_of atoms cells).records
      → record { ring = ring; base_cell = at; base = base; slots = slots; records = records } ≡ contents_of atoms cells
  contents_read atoms at slots records at_same slots_same records_same =
      same_contents (record { ring = ring; base_cell = at; base = base; slots = slots; records = records }) (contents_of atoms cells) ring_same at_same base_same slots_same records_same

-- no more records are live than the ring has cells for
pub live_within : (atoms : ℕ) (cells : List Cell) → length (contents_of atoms cells).records ≤ ring_held cells
live_within atoms cells = front_length (λ n. record_in n (cell cells (record_cell atoms (ring_held cells) n))) (base_held cells) (ring_held cells)

-- the numbers that were read are in their ranges
pub in_range : (atoms : ℕ) (cells : List Cell) (identity : IdentityFields) → IsIdentity identity → identity_held cells ≡ Some identity → identity.atoms ≡ atoms
    → base_cell 0 ≤ base_cell_of cells → base_cell_of cells ≤ base_cell 1 → 1 ≤ base_held cells → base_held cells + length (contents_of atoms cells).records ≤ LAST_NUMBER + 1 → base_fault cells ≡ None → IsInRange atoms cells
in_range atoms cells identity is held as_many from to some last none =
    let least = is.ring_from in
    let most = is.ring_within in
    let few = is.atoms_within in
    let ring : ring_held cells ≡ identity.ring = ring_is cells identity held in
    let live : length (contents_of atoms cells).records ≤ ring_held cells = live_within atoms cells in
    record {
      ring_from = omega arith;
      ring = record {
        atoms = omega arith;
        some = omega arith;
        few = omega arith;
        cell_from = from;
        cell_to = to;
        base_from = some;
        base_to = omega arith;
        last_to = omega arith;
        room = omega arith;
      };
      read = reads_for cells none atoms some;
    }

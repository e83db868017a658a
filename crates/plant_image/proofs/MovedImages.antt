-- Moving the base leaves what the cells hold, or cuts the records before the new base.
use Rattle.std.proofs.Common.{◌≡◌, ◌≢◌, ◌⊎◌, inl, inr, ⊎_elim, ℕ, ◌+◌, ◌-◌, ◌*◌, ◌<◌, ◌≤◌, ◌&&◌, Bool, true, false, not, if◌then◌else◌, is_none, unwrap_or, List, length, drop, Option, Some, None, refl, sym, ◌∙◌, ap, subst, arith}
use Rattle.std.specs.Option.{option_map_or}
use Rattle.std.proofs.lemmas.Bool.{cases_lt, cases_eq}
use Rattle.std.proofs.lemmas.List.{length-drop}
use Rattle.std.proofs.lemmas.Option.{none-some}
use Rattle.disk_model.specs.Cells.{Cell, cell}
use Rattle.gated_journal.specs.declared.ring.Ring.{Ring}
use Rattle.gated_journal.specs.Bases as bases
use Rattle.gated_journal.specs.Bases.{base_cell_of, base_of, counts_before, other_cell}
use Rattle.gated_journal.specs.Live.{held_in}
use Rattle.gated_journal.specs.Stops.{IsUnmoved, IsMoved}
use Rattle.record_codec.specs.Base.{base_in}
use Rattle.record_codec.specs.Fired.{FiredFields}
use Rattle.record_codec.specs.Ring.{base_cell, record_cell}
use Rattle.record_replay.specs.OfPlant.{is_record_of}
use Rattle.plant_model.specs.Plant.{PlantDefinition}
use Rattle.plant_model.specs.Rules.{first_of}
use Rattle.plant_image.specs.Contents.{contents_of, ring_held, base_held, ring_in}
use Rattle.plant_image.specs.Faults.{base_cell_fault, base_fault, cells_fault, fault_where, is_any, is_full_but_not, record_fault}
use Rattle.plant_image.specs.Standing.{cut_to}
use Rattle.plant_image.specs.declared.fault.ImageFault.TheVariants.{Damaged}
use Rattle.plant_image.proofs.AppendedImages.{all_front}
use Rattle.plant_image.proofs.AtomSlots.{no_first, no_later, not_wrong}
use Rattle.plant_image.proofs.KeptCells.{IsSound, none_of, behind_slots, identity_same, ring_same, slots_fault_same, slots_same, record_same, record_empty, live_fit, records_none}
use Rattle.plant_image.proofs.LiveFits.{RowFits, cell_none, other_right}
use Rattle.plant_image.proofs.Standings.{base_some}
use Rattle.plant_image.proofs.StoredImages.{any_and_false}
use Rattle.plant_image.proofs.WholeImage.{live_within, records_read, same_contents}

-- ---- the base cells

-- a cell that holds a base is full, and nothing is wrong with it
held_full : (c : Cell) (base : ℕ) → bases.base_held c ≡ Some base → is_none c ≡ false
held_full None base held = absurd (none-some base held)
held_full (Some body) base held = refl

pub held_right : (c : Cell) (base : ℕ) → bases.base_held c ≡ Some base → is_full_but_not base_in (is_any {V = ℕ}) c ≡ false
held_right None base held = absurd (none-some base held)
held_right (Some body) base held = by_value (base_in body) held
  where
    by_value : (o : Option ℕ) → o ≡ Some base → not (option_map_or (is_any {V = ℕ}) o false) ≡ false
    by_value None is = absurd (none-some base is)
    by_value (Some n) is = refl

-- which of the two cells counts
counts_low : (cells : List Cell) → (base_cell_of cells ≡ 1) ⊎ (base_cell_of cells ≡ 2)
counts_low cells = by_test (counts_before (bases.base_held (cell cells 2)) (bases.base_held (cell cells 1)))
  where
    by_test : (t : Bool) → ((if t then base_cell 1 else base_cell 0) ≡ 1) ⊎ ((if t then base_cell 1 else base_cell 0) ≡ 2)
    by_test true = inr refl
    by_test false = inl refl

-- nothing is wrong with base cells that are right, of which one holds the base
pub base_sound : (cells : List Cell) (base : ℕ) → base_of cells ≡ Some base → is_full_but_not base_in (is_any {V = ℕ}) (cell cells 1) ≡ false → is_full_but_not base_in (is_any {V = ℕ}) (cell cells 2) ≡ false → base_fault cells ≡ None
base_sound cells base is first second =
    ap (λ (t : Bool). first_of (fault_where t (Damaged 1)) (first_of (base_cell_fault cells 1) (first_of (fault_where (is_none (cell cells 1) && is_none (cell cells 2)) (Damaged 1)) None))) first
    ∙ ap (λ (t : Bool). first_of (fault_where t (Damaged 2)) (first_of (fault_where (is_none (cell cells 1) && is_none (cell cells 2)) (Damaged 1)) None)) second
    ∙ ap (λ (t : Bool). first_of (fault_where t (Damaged 1)) None) (some (counts_low cells))
  where
    held_at : (k : ℕ) → base_cell_of cells ≡ k → is_none (cell cells k) ≡ false
    held_at k at = held_full (cell cells k) base (ap (λ (i : ℕ). bases.base_held (cell cells i)) (sym at) ∙ is)

    some : (base_cell_of cells ≡ 1) ⊎ (base_cell_of cells ≡ 2) → (is_none (cell cells 1) && is_none (cell cells 2)) ≡ false
    some (inl at) = ap (λ (t : Bool). t && is_none (cell cells 2)) (held_at 1 at)
    some (inr at) = ap (λ (t : Bool). is_none (cell cells 1) && t) (held_at 2 at) ∙ any_and_false (is_none (cell cells 1))

-- nothing is wrong with either base cell of an image with nothing wrong in it
rights : (cells : List Cell) → base_fault cells ≡ None → (is_full_but_not base_in (is_any {V = ℕ}) (cell cells 1) ≡ false) × (is_full_but_not base_in (is_any {V = ℕ}) (cell cells 2) ≡ false)
rights cells none = (
  not_wrong (is_full_but_not base_in (is_any {V = ℕ}) (cell cells 1)) (Damaged 1) (no_first (base_cell_fault cells 0) _ none),
  not_wrong (is_full_but_not base_in (is_any {V = ℕ}) (cell cells 2)) (Damaged 2) (no_first (base_cell_fault cells 1) _ (no_later (base_cell_fault cells 0) _ none)),
)

-- a cell that is as it was or empty is right where it was
still_right : (c was : Cell) → is_full_but_not base_in (is_any {V = ℕ}) was ≡ false → (c ≡ was) ⊎ (c ≡ None) → is_full_but_not base_in (is_any {V = ℕ}) c ≡ false
still_right c was right (inl same) = ap (is_full_but_not base_in (is_any {V = ℕ})) same ∙ right
still_right c was right (inr empty) = ap (is_full_but_not base_in (is_any {V = ℕ})) empty

module _ (plant : PlantDefinition) (digest : List ℕ) (bytes : ℕ) (before cells : List Cell) (sound : IsSound plant digest bytes before) where
  other_from : 1 ≤ other_cell (ring_in (length plant.atoms) (contents_of (length plant.atoms) before))
  other_from = ⊎_elim (λ at. omega (arith, at)) (λ at. omega (arith, at)) (counts_low before)

  other_to : other_cell (ring_in (length plant.atoms) (contents_of (length plant.atoms) before)) ≤ 2
  other_to = ⊎_elim (λ at. omega (arith, at)) (λ at. omega (arith, at)) (counts_low before)

  -- ---- the base is the old one

  module _ (left : IsUnmoved (ring_in (length plant.atoms) (contents_of (length plant.atoms) before)) before cells) where
    far_same : (k : ℕ) → 3 ≤ k → cell cells k ≡ cell before k
    far_same k far = left.others k (λ same. omega (arith, same, far, other_to))

    unmoved_ring : ring_held before ≡ ring_held cells
    unmoved_ring = sym (ring_same before cells (left.others 0 (λ same. omega (arith, same, other_from))))

    unmoved_base : base_held before ≡ base_held cells
    unmoved_base = sym (ap (λ (o : Option ℕ). unwrap_or o 1) left.based.number)

    as_before : (k : ℕ) → (cell cells k ≡ cell before k) ⊎ (cell cells k ≡ None)
    as_before k = elim (cases_eq k (other_cell (ring_in (length plant.atoms) (contents_of (length plant.atoms) before)))) [
      | inl same ↦ subst (λ (i : ℕ). (cell cells i ≡ cell before i) ⊎ (cell cells i ≡ None)) (sym same) left.other
      | inr ne ↦ inl (left.others k ne)
    ]

    unmoved_fits : RowFits plant cells (ring_held before) (base_held before) (ring_held before) (contents_of (length plant.atoms) before).records
    unmoved_fits =
        let there = live_fit plant before sound.records in
        let n : ℕ = base_held before + length (contents_of (length plant.atoms) before).records in
        record { fit = there.fit; behind = λ some. record_same before cells plant (ring_held before) n (far_same (record_cell (length plant.atoms) (ring_held before) n) (omega arith)) ∙ there.behind some }

    pub unmoved_none : cells_fault plant digest bytes cells ≡ None
    unmoved_none = none_of plant digest bytes cells (record {
      identity = identity_same before cells (left.others 0 (λ same. omega (arith, same, other_from))) (length plant.atoms) digest bytes ∙ sound.identity;
      base = base_sound cells (base_held before) left.based.number (still_right (cell cells 1) (cell before 1) (rights before sound.base).0 (as_before 1)) (still_right (cell cells 2) (cell before 2) (rights before sound.base).1 (as_before 2));
      slots = slots_fault_same before cells plant.atoms (λ k from to. far_same k from) ∙ sound.slots;
      records = records_none plant cells (ring_held before) (base_held before) (contents_of (length plant.atoms) before).records unmoved_ring unmoved_base left.reads unmoved_fits;
    })

    pub unmoved_reads : contents_of (length plant.atoms) cells ≡ contents_of (length plant.atoms) before
    unmoved_reads = same_contents (contents_of (length plant.atoms) cells) (contents_of (length plant.atoms) before)
        (sym unmoved_ring)
        left.based.in_cell
        (sym unmoved_base)
        (slots_same before cells plant.atoms (λ k from to. far_same k from))
        (sym (records_read cells (ring_held before) (base_held before) unmoved_ring unmoved_base (length plant.atoms)) ∙ left.reads)

  -- ---- the base is the new one

  module _ (base : ℕ) (above : base_held before < base) (short : base ≤ base_held before + length (contents_of (length plant.atoms) before).records) (left : IsMoved base (ring_in (length plant.atoms) (contents_of (length plant.atoms) before)) before cells) where
    slot_same : (k : ℕ) → 3 ≤ k → k < 3 + 2 * length plant.atoms → cell cells k ≡ cell before k
    slot_same k from to = left.others k (λ same. omega (arith, same, from, other_to)) (λ n n_from n_to. behind_slots (ring_in (length plant.atoms) (contents_of (length plant.atoms) before)) n k to)

    first_same : cell cells 0 ≡ cell before 0
    first_same = left.others 0 (λ same. omega (arith, same, other_from)) (λ n n_from n_to. behind_slots (ring_in (length plant.atoms) (contents_of (length plant.atoms) before)) n 0 (omega arith))

    moved_ring : ring_held before ≡ ring_held cells
    moved_ring = sym (ring_same before cells first_same)

    moved_base : base ≡ base_held cells
    moved_base = sym (ap (λ (o : Option ℕ). unwrap_or o 1) left.based.number)

    base_right : (k : ℕ) → is_full_but_not base_in (is_any {V = ℕ}) (cell before k) ≡ false → is_full_but_not base_in (is_any {V = ℕ}) (cell cells k) ≡ false
    base_right k right = elim (cases_eq k (other_cell (ring_in (length plant.atoms) (contents_of (length plant.atoms) before)))) [
      | inl same ↦ held_right (cell cells k) base (ap (λ (i : ℕ). bases.base_held (cell cells i)) (same ∙ sym left.based.in_cell) ∙ left.based.number)
      | inr ne ↦ still_right (cell cells k) (cell before k) right (left.each k ne)
    ]

    -- the cell after the last record
    end_none : record_fault plant cells (ring_held before) (base_held before + length (contents_of (length plant.atoms) before).records) ≡ None
    end_none =
        let olds : List FiredFields = (contents_of (length plant.atoms) before).records in
        let n : ℕ = base_held before + length olds in
        let j : Ring = ring_in (length plant.atoms) (contents_of (length plant.atoms) before) in
        let some : 1 ≤ base_held before = base_some before in
        let last : base_held before + length olds - 1 + 1 ≡ n = omega (arith, some) in
        let apart : record_cell (length plant.atoms) (ring_held before) n ≢ other_cell (ring_in (length plant.atoms) (contents_of (length plant.atoms) before)) = λ same. omega (arith, same, other_to) in
        elim (cases_lt (length olds) (ring_held before)) [
          | inl free ↦ ⊎_elim
              (λ same. record_same before cells plant (ring_held before) n same ∙ (live_fit plant before sound.records).behind free)
              (λ empty. record_empty plant cells (ring_held before) n empty)
              (left.each (record_cell (length plant.atoms) (ring_held before) n) apart)
          | inr full ↦ ⊎_elim
              (λ empty. record_empty plant cells (ring_held before) n (ap (λ (m : ℕ). cell cells (record_cell (length plant.atoms) (ring_held before) m)) (sym last) ∙ empty))
              (λ dropped. cell_none plant cells (ring_held before) n (other_right plant n (cell cells (record_cell (length plant.atoms) (ring_held before) n)) dropped.0 (ap (λ (m : ℕ). held_in (cell cells (record_cell (length plant.atoms) (ring_held before) m))) (sym last) ∙ dropped.1) (λ same. omega (arith, same, dropped.2, short))))
              (left.behind (omega (arith, last, full, live_within (length plant.atoms) before)))
        ]

    moved_fits : RowFits plant cells (ring_held before) base (ring_held before) (drop (base - base_held before) (contents_of (length plant.atoms) before).records)
    moved_fits =
        let olds : List FiredFields = (contents_of (length plant.atoms) before).records in
        record {
          fit = (all_front (is_record_of plant) (base - base_held before) olds (live_fit plant before sound.records).fit).1;
          behind = λ some. ap (record_fault plant cells (ring_held before)) (omega (arith, length-drop (base - base_held before) olds, above, short)) ∙ end_none;
        }

    pub moved_none : cells_fault plant digest bytes cells ≡ None
    moved_none = none_of plant digest bytes cells (record {
      identity = identity_same before cells first_same (length plant.atoms) digest bytes ∙ sound.identity;
      base = base_sound cells base left.based.number (base_right 1 (rights before sound.base).0) (base_right 2 (rights before sound.base).1);
      slots = slots_fault_same before cells plant.atoms slot_same ∙ sound.slots;
      records = records_none plant cells (ring_held before) base (drop (base - base_held before) (contents_of (length plant.atoms) before).records) moved_ring moved_base left.reads moved_fits;
    })

    pub moved_reads : contents_of (length plant.atoms) cells ≡ cut_to (other_cell (ring_in (length plant.atoms) (contents_of (length plant.atoms) before))) base (contents_of (length plant.atoms) before)
    moved_reads = same_contents (contents_of (length plant.atoms) cells) (cut_to (other_cell (ring_in (length plant.atoms) (contents_of (length plant.atoms) before))) base (contents_of (length plant.atoms) before))
        (sym moved_ring)
        left.based.in_cell
        (sym moved_base)
        (slots_same before cells plant.atoms slot_same)
        (sym (records_read cells (ring_held before) base moved_ring moved_base (length plant.atoms)) ∙ left.reads)

-- Storing leaves what the cells hold, or puts the stored state in the place of its atom's newest.
use Rattle.std.proofs.Common.{◌≡◌, ◌≢◌, ◌⊎◌, inl, inr, ⊎_elim, ℕ, zero, suc, ◌+◌, ◌*◌, ◌<◌, ◌≤◌, ◌==◌, ◌&&◌, Bool, true, false, not, if◌then◌else◌, is_none, unwrap_or, List, length, map, set, slice_get, Option, Some, None, refl, sym, ◌∙◌, ap, subst, arith, length-set}
use Rattle.std.specs.List.{range_with_len}
use Rattle.std.specs.Option.{option_and_then, option_map_or, some_prefix}
use Rattle.std.proofs.lemmas.Bool.{cases_eq}
use Rattle.std.proofs.lemmas.Option.{none-some, slice_get_within, slice_get-get_or}
use Rattle.std.proofs.lemmas.List.FromFn.{length-map-range_with_len, get_or-map-range_with_len}
use Rattle.disk_model.specs.Cells.{Cell, cell}
use Rattle.gated_journal.specs.Live.{record_in}
use Rattle.gated_journal.proofs.Fronts.{front}
use Rattle.petri_atom.specs.Definition.{AtomDefinition}
use Rattle.record_codec.specs.Fired.{FiredFields}
use Rattle.record_codec.specs.Ring.{slot_cell, record_cell}
use Rattle.record_codec.specs.Saved.{SavedFields, saved_in}
use Rattle.snapshot_writer.specs.Parcels.{slot_body}
use Rattle.snapshot_writer.specs.Slots.{IsFree, if_of_atom, saved_at, saved_of}
use Rattle.snapshot_writer.specs.Storing.{HasStored, HoldsSaved}
use Rattle.snapshot_writer.proofs.NewestStates.{first_is_newest, second_is_newest}
use Rattle.snapshot_writer.proofs.StoredCells.{kept_or_stored, others_stay}
use Rattle.plant_model.specs.Plant.{PlantDefinition}
use Rattle.plant_model.specs.Rules.{first_of, first_fault_in}
use Rattle.plant_image.specs.Contents.{contents_of, newest_held, ring_held, base_held, unsaved}
use Rattle.plant_image.specs.Faults.{atom_fault, cells_fault, fault_where, is_full_but_not, is_of_atom, slot_fault}
use Rattle.plant_image.specs.Standing.{with_saved}
use Rattle.plant_image.specs.declared.fault.ImageFault.TheVariants.{Damaged}
use Rattle.plant_image.proofs.AtomSlots.{NewestHolds, newest_holds, no_first, no_later, not_wrong}
use Rattle.plant_image.proofs.ByAtoms.{same_lists, get_set_same, get_set_other, told_none_at, told_none}
use Rattle.plant_image.proofs.KeptCells.{IsSound, none_of, map_same, identity_same, ring_same, base_fault_same, base_cell_same, base_same, atom_same, record_same, live_fit, records_none}
use Rattle.plant_image.proofs.LiveFits.{RowFits}
use Rattle.plant_image.proofs.NumberFaults.{record_at}
use Rattle.plant_image.proofs.WholeImage.{records_read, same_contents}

-- ---- the slot that is written

module _ (a : AtomDefinition) (saved : SavedFields) (passes : is_of_atom saved.atom a saved ≡ true) where
  -- a cell that holds the state
  pub holding_right : (c : Cell) → HoldsSaved saved c → is_full_but_not saved_in (is_of_atom saved.atom a) c ≡ false
  holding_right c h = ap (is_full_but_not saved_in (is_of_atom saved.atom a)) h.body ∙ by_value (saved_in (slot_body saved)) (sym (ap (saved_of saved.atom) h.body) ∙ h.held)
    where
      by_number : (v : SavedFields) (t : Bool) → (if t then Some v else None) ≡ Some saved → not (is_of_atom saved.atom a v) ≡ false
      by_number v true found = let same : saved ≡ v = let found = found in cc in ap (λ (t : Bool). not t) (subst (λ (s : SavedFields). is_of_atom saved.atom a s ≡ true) same passes)
      by_number v false found = absurd (let found = found in cc)

      by_value : (o : Option SavedFields) → option_and_then (if_of_atom saved.atom) o ≡ Some saved → not (option_map_or (is_of_atom saved.atom a) o false) ≡ false
      by_value None found = absurd (none-some saved found)
      by_value (Some v) found = by_number v (v.atom == saved.atom) found

  -- one that is as it was, empty, or holds it
  slot_right : (c was : Cell) → is_full_but_not saved_in (is_of_atom saved.atom a) was ≡ false → (c ≡ was) ⊎ (c ≡ None) ⊎ HoldsSaved saved c → is_full_but_not saved_in (is_of_atom saved.atom a) c ≡ false
  slot_right c was right (inl same) = ap (is_full_but_not saved_in (is_of_atom saved.atom a)) same ∙ right
  slot_right c was right (inr (inl empty)) = ap (is_full_but_not saved_in (is_of_atom saved.atom a)) empty
  slot_right c was right (inr (inr there)) = holding_right c there

-- a cell that holds a state is full
full_at : (atom : ℕ) (c : Cell) (saved : SavedFields) → saved_of atom c ≡ Some saved → is_none c ≡ false
full_at atom None saved there = absurd (none-some saved there)
full_at atom (Some body) saved there = refl

-- nothing is wrong with an atom whose slots are right, of which one is full
pub atom_none : (cells : List Cell) (atom : ℕ) (a : AtomDefinition) → is_full_but_not saved_in (is_of_atom atom a) (cell cells (slot_cell atom 0)) ≡ false → is_full_but_not saved_in (is_of_atom atom a) (cell cells (slot_cell atom 1)) ≡ false
    → (is_none (cell cells (slot_cell atom 0)) && is_none (cell cells (slot_cell atom 1))) ≡ false → atom_fault cells atom a ≡ None
atom_none cells atom a first second some =
    ap (λ (t : Bool). first_of (fault_where t (Damaged (slot_cell atom 0))) (first_of (slot_fault cells atom a 1) (first_of (fault_where (is_none (cell cells (slot_cell atom 0)) && is_none (cell cells (slot_cell atom 1))) (Damaged (slot_cell atom 0))) None))) first
    ∙ ap (λ (t : Bool). first_of (fault_where t (Damaged (slot_cell atom 1))) (first_of (fault_where (is_none (cell cells (slot_cell atom 0)) && is_none (cell cells (slot_cell atom 1))) (Damaged (slot_cell atom 0))) None)) second
    ∙ ap (λ (t : Bool). first_of (fault_where t (Damaged (slot_cell atom 0))) None) some

pub any_and_false : (t : Bool) → (t && false) ≡ false
any_and_false true = refl
any_and_false false = refl

module _ (a : AtomDefinition) (saved : SavedFields) (passes : is_of_atom saved.atom a saved ≡ true) (before cells : List Cell) (was : atom_fault before saved.atom a ≡ None) where
  first_was : is_full_but_not saved_in (is_of_atom saved.atom a) (cell before (slot_cell saved.atom 0)) ≡ false
  first_was = not_wrong (is_full_but_not saved_in (is_of_atom saved.atom a) (cell before (slot_cell saved.atom 0))) (Damaged (slot_cell saved.atom 0)) (no_first (slot_fault before saved.atom a 0) _ was)

  second_was : is_full_but_not saved_in (is_of_atom saved.atom a) (cell before (slot_cell saved.atom 1)) ≡ false
  second_was = not_wrong (is_full_but_not saved_in (is_of_atom saved.atom a) (cell before (slot_cell saved.atom 1))) (Damaged (slot_cell saved.atom 1)) (no_first (slot_fault before saved.atom a 1) _ (no_later (slot_fault before saved.atom a 0) _ was))

  best : NewestHolds saved.atom a before
  best = newest_holds before saved.atom a was

  stored_none : (slot : ℕ) → slot < 2 → IsFree saved.atom slot before → HasStored slot saved before cells → atom_fault cells saved.atom a ≡ None
  stored_none zero within free left =
      let same : cell cells (slot_cell saved.atom 1) ≡ cell before (slot_cell saved.atom 1) = left.others (slot_cell saved.atom 1) (λ same. omega (arith, same)) in
      let full : is_none (cell before (slot_cell saved.atom 1)) ≡ false = full_at saved.atom (cell before (slot_cell saved.atom 1)) best.saved (sym (second_is_newest (saved_at saved.atom 0 before) (saved_at saved.atom 1 before) free) ∙ best.is) in
      atom_none cells saved.atom a (slot_right a saved passes (cell cells (slot_cell saved.atom 0)) (cell before (slot_cell saved.atom 0)) first_was left.here)
      (ap (is_full_but_not saved_in (is_of_atom saved.atom a)) same ∙ second_was)
      (ap (λ (c : Cell). is_none (cell cells (slot_cell saved.atom 0)) && is_none c) same ∙ ap (λ (t : Bool). is_none (cell cells (slot_cell saved.atom 0)) && t) full ∙ any_and_false (is_none (cell cells (slot_cell saved.atom 0))))
  stored_none (suc zero) within free left =
      let same : cell cells (slot_cell saved.atom 0) ≡ cell before (slot_cell saved.atom 0) = left.others (slot_cell saved.atom 0) (λ same. omega (arith, same)) in
      let full : is_none (cell before (slot_cell saved.atom 0)) ≡ false = full_at saved.atom (cell before (slot_cell saved.atom 0)) best.saved (sym (first_is_newest (saved_at saved.atom 0 before) (saved_at saved.atom 1 before) free) ∙ best.is) in
      atom_none cells saved.atom a (ap (is_full_but_not saved_in (is_of_atom saved.atom a)) same ∙ first_was)
      (slot_right a saved passes (cell cells (slot_cell saved.atom 1)) (cell before (slot_cell saved.atom 1)) second_was left.here)
      (ap (λ (c : Cell). is_none c && is_none (cell cells (slot_cell saved.atom 1))) same ∙ ap (λ (t : Bool). t && is_none (cell cells (slot_cell saved.atom 1))) full)
  stored_none (suc (suc slot)) within free left = absurd (omega arith)

-- ---- the whole image

-- an element of a list that is made of numbers in a row
pub made_at : {X : Type 0} (f : ℕ → X) (n i : ℕ) → i < n → slice_get (map f (range_with_len 0 n)) i ≡ Some (f i)
made_at {X} f n i within = slice_get-get_or (map f (range_with_len 0 n)) i (f i) (omega (arith, within, length-map-range_with_len f 0 n)) ∙ ap (λ (x : X). Some x) (get_or-map-range_with_len f 0 n i i (f i) within (omega arith))

module _ (plant : PlantDefinition) (digest : List ℕ) (bytes slot : ℕ) (a : AtomDefinition) (saved : SavedFields) (before cells : List Cell) (sound : IsSound plant digest bytes before) (within : slot < 2) (at : slice_get plant.atoms saved.atom ≡ Some a) (passes : is_of_atom saved.atom a saved ≡ true) (free : IsFree saved.atom slot before) (left : HasStored slot saved before cells) where
  below : saved.atom < length plant.atoms
  below = slice_get_within plant.atoms saved.atom a at

  low : (k : ℕ) → k < 3 → cell cells k ≡ cell before k
  low k small = left.others k (λ same. omega (arith, same, small))

  behind : (k : ℕ) → 3 + 2 * length plant.atoms ≤ k → cell cells k ≡ cell before k
  behind k far = left.others k (λ same. omega (arith, same, far, below, within))

  apart : (atom s : ℕ) → atom ≢ saved.atom → s < 2 → cell cells (slot_cell atom s) ≡ cell before (slot_cell atom s)
  apart atom s other small = left.others (slot_cell atom s) (λ same. other (omega (arith, same, small, within)))

  ring_is : ring_held before ≡ ring_held cells
  ring_is = sym (ring_same before cells (low 0 (omega arith)))

  base_is : base_held before ≡ base_held cells
  base_is = sym (base_same before cells (low 1 (omega arith)) (low 2 (omega arith)))

  reads : front (record_at plant cells (ring_held before)) (base_held before) (ring_held before) ≡ (contents_of (length plant.atoms) before).records
  reads = ap (λ (l : List (Option FiredFields)). some_prefix l) (map_same (record_at plant cells (ring_held before)) (record_at plant before (ring_held before)) (ring_held before) (base_held before)
      (λ n from to. ap (record_in n) (behind (record_cell (length plant.atoms) (ring_held before) n) (omega arith))))

  fits : RowFits plant cells (ring_held before) (base_held before) (ring_held before) (contents_of (length plant.atoms) before).records
  fits =
      let there = live_fit plant before sound.records in
      let n : ℕ = base_held before + length (contents_of (length plant.atoms) before).records in
      record { fit = there.fit; behind = λ some. record_same before cells plant (ring_held before) n (behind (record_cell (length plant.atoms) (ring_held before) n) (omega arith)) ∙ there.behind some }

  slots_none : first_fault_in (atom_fault cells) 0 plant.atoms ≡ None
  slots_none = told_none (atom_fault cells) plant.atoms 0 (λ j b b_at.
      let none : atom_fault before j b ≡ None = told_none_at (atom_fault before) plant.atoms 0 j j b sound.slots b_at (omega arith) in
      ap (λ (k : ℕ). atom_fault cells k b) (omega arith) ∙ (elim (cases_eq j saved.atom) [
        | inl same ↦
            let both : Some a ≡ Some b = sym at ∙ ap (slice_get plant.atoms) (sym same) ∙ b_at in
            let is : a ≡ b = cc in
            let was : atom_fault before saved.atom a ≡ None = ap (λ (k : ℕ). atom_fault before k a) (sym same) ∙ ap (atom_fault before j) is ∙ none in
            ap (λ (k : ℕ). atom_fault cells k b) same ∙ ap (atom_fault cells saved.atom) (sym is) ∙ stored_none a saved passes before cells was slot within free left
        | inr other ↦ atom_same before cells j (apart j 0 other (omega arith)) (apart j 1 other (omega arith)) b ∙ none
      ]))

  pub stored_image_none : cells_fault plant digest bytes cells ≡ None
  stored_image_none = none_of plant digest bytes cells (record {
    identity = identity_same before cells (low 0 (omega arith)) (length plant.atoms) digest bytes ∙ sound.identity;
    base = base_fault_same before cells (low 1 (omega arith)) (low 2 (omega arith)) ∙ sound.base;
    slots = slots_none;
    records = records_none plant cells (ring_held before) (base_held before) (contents_of (length plant.atoms) before).records ring_is base_is reads fits;
  })

  -- the held state of another atom
  other_held : (k : ℕ) → k ≢ saved.atom → newest_held cells k ≡ newest_held before k
  other_held k other = ap (λ (o : Option SavedFields). unwrap_or o (unsaved k)) (others_stay slot k saved before cells within other left).newest_same

  by_slots : (slots : List SavedFields) → map (newest_held cells) (range_with_len 0 (length plant.atoms)) ≡ slots → contents_of (length plant.atoms) cells ≡ record (contents_of (length plant.atoms) before) { slots = slots }
  by_slots slots are = same_contents (contents_of (length plant.atoms) cells) (record (contents_of (length plant.atoms) before) { slots = slots })
      (sym ring_is)
      (base_cell_same before cells (low 1 (omega arith)) (low 2 (omega arith)))
      (sym base_is)
      are
      (sym (records_read cells (ring_held before) (base_held before) ring_is base_is (length plant.atoms)) ∙ reads)

  pub stored_reads : (contents_of (length plant.atoms) cells ≡ contents_of (length plant.atoms) before) ⊎ (contents_of (length plant.atoms) cells ≡ with_saved saved (contents_of (length plant.atoms) before))
  stored_reads =
      let n : ℕ = length plant.atoms in
      let olds : List SavedFields = map (newest_held before) (range_with_len 0 n) in
      let long : length olds ≡ n = length-map-range_with_len (newest_held before) 0 n in
      ⊎_elim
      (λ kept. inl (by_slots olds (map_same (newest_held cells) (newest_held before) n 0 (λ k from to. elim (cases_eq k saved.atom) [
        | inl same ↦ ap (newest_held cells) same ∙ ap (λ (o : Option SavedFields). unwrap_or o (unsaved saved.atom)) kept ∙ ap (newest_held before) (sym same)
        | inr other ↦ other_held k other
      ]))))
      (λ new. inr (by_slots (set olds saved.atom saved) (same_lists (map (newest_held cells) (range_with_len 0 n)) (set olds saved.atom saved) (omega (arith, length-map-range_with_len (newest_held cells) 0 n, length-set olds saved.atom saved, long)) (λ i small.
      let small_n : i < n = omega (arith, small, length-map-range_with_len (newest_held cells) 0 n) in
      made_at (newest_held cells) n i small_n ∙ (elim (cases_eq i saved.atom) [
        | inl same ↦
            ap (λ (k : ℕ). Some (newest_held cells k)) same
            ∙ ap (λ (o : Option SavedFields). Some (unwrap_or o (unsaved saved.atom))) new.newest_is
            ∙ sym (ap (slice_get (set olds saved.atom saved)) same ∙ get_set_same olds saved.atom saved (omega (arith, below, long)))
        | inr other ↦ ap (λ (s : SavedFields). Some s) (other_held i other) ∙ sym (get_set_other olds saved.atom i saved other ∙ made_at (newest_held before) n i small_n)
      ])))))
      (kept_or_stored slot saved before cells within free left)

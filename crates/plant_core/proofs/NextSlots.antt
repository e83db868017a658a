-- In which slots the next states of the atoms go: if no slot is written, in the same; and after one was written, in the other one of its atom.
use Rattle.std.proofs.Common.{◌≡◌, ◌≢◌, ⊎_elim, ℕ, ◌+◌, ◌*◌, ◌-◌, ◌<◌, ◌≤◌, sym, ◌∙◌, ap, List, length, replicate, arith, Option, None, Some, IfSome, true, is_some, subst, zero, suc, refl}
use Rattle.std.specs.Option.{option_map_or}
use Rattle.std.proofs.lemmas.Bool.{cases_eq}
use Rattle.std.proofs.lemmas.Option.{none-some}
use Rattle.disk_model.specs.Cells.{Cell, cell, seen_cells}
use Rattle.disk_model.specs.DiskState.{DiskState}
use Rattle.disk_model.specs.declared.cells.TheConstants.{BODY}
use Rattle.gated_journal.specs.Stops.{HasAppendedAll, IsMoved}
use Rattle.gated_journal.specs.declared.ring.Ring.{Ring}
use Rattle.record_codec.specs.Fired.{FiredFields}
use Rattle.record_codec.specs.Ring.{slot_cell}
use Rattle.record_codec.specs.Saved.{SavedFields}
use Rattle.snapshot_writer.specs.Slots.{newest, newest_of, newest_slot, other_slot, saved_at, saved_of, slot_of, IsFree, IsSameNewest}
use Rattle.snapshot_writer.specs.Storing.{HasStored, IsNewestNow}
use Rattle.snapshot_writer.proofs.NewestStates.{first_is_newest, other_is_slot, second_is_newest}
use Rattle.snapshot_writer.proofs.StoredCells.{others_stay}
use Rattle.plant_model.specs.Plant.{PlantDefinition}
use Rattle.plant_image.proofs.KeptCells.{behind_slots}
use Rattle.plant_core.specs.Invariant.{AreNextSlots, IsNextSlot}
use Rattle.plant_core.specs.Snapshots.{next_slot, with_written}
use Rattle.plant_core.proofs.Copies.{held-other, put-there}
use Rattle.plant_core.proofs.Flushing.{none-held}

-- the other slot, by the newest state and its slot
abbrev other_by : Option SavedFields → ℕ → ℕ
other_by best slot = option_map_or (λ (saved : SavedFields). 1 - slot) best 0

-- and by the cells of both slots
abbrev other_of : ℕ → Cell → Cell → ℕ
other_of atom c d = other_by (newest_of (saved_of atom c) (saved_of atom d)) (slot_of (saved_of atom c) (saved_of atom d))

-- it is 0 or 1
pub other-small : (atom : ℕ) (cells : List Cell) → other_slot atom cells < 2
other-small atom cells = other_is_slot (saved_at atom 0 cells) (saved_at atom 1 cells)

-- and it is the same where the newest state and its slot are
pub other-same : (atom : ℕ) (before cells : List Cell) → IsSameNewest atom before cells → other_slot atom cells ≡ other_slot atom before
other-same atom before cells same = ap (λ (o : Option SavedFields). other_by o (newest_slot atom cells)) same.newest_same ∙ ap (other_by (newest atom before)) same.slot_same

-- a slot that is known is the one in which the next state goes
pub slot-known : (plant : PlantDefinition) (slots : List (Option ℕ)) (cells : List Cell) → AreNextSlots plant slots cells → (atom : ℕ) → atom < length plant.atoms → (known : Option ℕ) → known ≡ next_slot slots atom
    → IfSome known (λ (slot : ℕ). IsNextSlot atom slot cells)
slot-known plant slots cells are atom within None is = tt
slot-known plant slots cells are atom within (Some slot) is = are atom slot within (sym is)

-- if none is known there is nothing to say
pub none-known : (plant : PlantDefinition) (slots : List (Option ℕ)) (many : ℕ) (cells : List Cell) → slots ≡ replicate many None → AreNextSlots plant slots cells
none-known plant slots many cells none atom slot within known = absurd (none-some slot (sym (ap (λ (places : List (Option ℕ)). next_slot places atom) none ∙ none-held many atom) ∙ known))

-- ---- no slot is written

module _ (plant : PlantDefinition) (slots : List (Option ℕ)) (before cells : List Cell) (were : AreNextSlots plant slots before) where
  slots-stay : ((k : ℕ) → 3 ≤ k → k < 3 + 2 * length plant.atoms → cell cells k ≡ cell before k) → AreNextSlots plant slots cells
  slots-stay same atom slot within known =
      let was : IsNextSlot atom slot before = were atom slot within known in
      let small : slot < 2 = subst (λ (n : ℕ). n < 2) (sym was.other) (other-small atom before) in
      record {
        other =
            was.other ∙
            sym (ap (λ (c : Cell). other_of atom c (cell cells (slot_cell atom 1))) (same (slot_cell atom 0) (omega arith) (omega (arith, within))) ∙
            ap (other_of atom (cell before (slot_cell atom 0))) (same (slot_cell atom 1) (omega arith) (omega (arith, within))));
        full = ap (λ (c : Cell). is_some c) (same (slot_cell atom slot) (omega arith) (omega (arith, within, small))) ∙ was.full;
      }

  -- the base of the journal is moved
  pub slots-moved : (base : ℕ) (j : Ring) → 1 ≤ j.base_cell → j.atoms ≡ length plant.atoms → IsMoved base j before cells → AreNextSlots plant slots cells
  slots-moved base j from atoms moved = slots-stay (λ k low high. moved.others k (λ same. omega (arith, same, from, low)) (λ n first last. behind_slots j n k (omega (arith, high, atoms))))

-- records are appended
pub slots-appended : (plant : PlantDefinition) (slots : List (Option ℕ)) (j : Ring) (news : List FiredFields) (old new : DiskState) → j.atoms ≡ length plant.atoms → HasAppendedAll j news old new
    → AreNextSlots plant slots (seen_cells (BODY + 1) old) → AreNextSlots plant slots (seen_cells (BODY + 1) new)
slots-appended plant slots j news old new atoms all were = slots-stay plant slots (seen_cells (BODY + 1) old) (seen_cells (BODY + 1) new) were (λ k low high. all.others k (λ n first last. behind_slots j n k (omega (arith, high, atoms))))

-- ---- a slot is written

-- a cell that holds a state is full
full-cell : (atom : ℕ) (c : Cell) (saved : SavedFields) → saved_of atom c ≡ Some saved → is_some c ≡ true
full-cell atom None saved there = absurd (none-some saved there)
full-cell atom (Some body) saved there = refl

-- the slot beside one that is free is full, if the atom has a newest state
full-beside : (atom slot : ℕ) (cells : List Cell) (best : SavedFields) → slot < 2 → IsFree atom slot cells → newest atom cells ≡ Some best → is_some (cell cells (slot_cell atom (1 - slot))) ≡ true
full-beside atom zero cells best small free is = full-cell atom (cell cells (slot_cell atom 1)) best (sym (second_is_newest (saved_at atom 0 cells) (saved_at atom 1 cells) free) ∙ is)
full-beside atom (suc zero) cells best small free is = full-cell atom (cell cells (slot_cell atom 0)) best (sym (first_is_newest (saved_at atom 0 cells) (saved_at atom 1 cells) free) ∙ is)
full-beside atom (suc (suc slot)) cells best small free is = absurd (omega (arith, small))

-- a state is stored in a free slot, and is the newest of its atom, which had one before
pub slots-stored : (plant : PlantDefinition) (slots : List (Option ℕ)) (slot : ℕ) (saved best : SavedFields) (before cells : List Cell) → slot < 2 → IsFree saved.atom slot before → newest saved.atom before ≡ Some best
    → HasStored slot saved before cells → IsNewestNow slot saved before cells → AreNextSlots plant slots before → AreNextSlots plant (with_written saved.atom slot slots) cells
slots-stored plant slots slot saved best before cells either free had left now were atom next within known = ⊎_elim own other (cases_eq atom saved.atom)
  where
    own : atom ≡ saved.atom → IsNextSlot atom next cells
    own same =
        let flipped : 1 - slot ≡ next = put-there slots saved.atom (1 - slot) next (ap (next_slot (with_written saved.atom slot slots)) (sym same) ∙ known) in
        let apart : slot_cell saved.atom (1 - slot) ≢ slot_cell saved.atom slot = λ eq. omega (arith, eq, either) in
        let full : is_some (cell cells (slot_cell saved.atom (1 - slot))) ≡ true = ap (λ (c : Cell). is_some c) (left.others (slot_cell saved.atom (1 - slot)) apart) ∙ full-beside saved.atom slot before best either free had in
        record {
          other =
              sym flipped ∙
              sym (ap (λ (n : ℕ). 1 - n) now.slot_is) ∙
              sym (ap (λ (o : Option SavedFields). other_by o (newest_slot saved.atom cells)) now.newest_is) ∙
              ap (λ (n : ℕ). other_slot n cells) (sym same);
          full = ap (λ (n : ℕ). is_some (cell cells (slot_cell n next))) same ∙ ap (λ (n : ℕ). is_some (cell cells (slot_cell saved.atom n))) (sym flipped) ∙ full;
        }

    other : atom ≢ saved.atom → IsNextSlot atom next cells
    other apart =
        let same : IsSameNewest atom before cells = others_stay slot atom saved before cells either apart left in
        let was : IsNextSlot atom next before = were atom next within (sym (held-other slots saved.atom atom (Some (1 - slot)) apart) ∙ known) in
        let small : next < 2 = subst (λ (n : ℕ). n < 2) (sym was.other) (other-small atom before) in
        record {
          other = was.other ∙ sym (other-same atom before cells same);
          full = ap (λ (c : Cell). is_some c) (left.others (slot_cell atom next) (λ eq. apart (omega (arith, eq, small, either)))) ∙ was.full;
        }

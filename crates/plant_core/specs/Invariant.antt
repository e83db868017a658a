-- What a durable plant keeps whenever no call runs.
use Rattle.std.specs.Prelude.{◌≡◌, ℕ, ◌+◌, ◌-◌, ◌≤◌, ◌<◌, ◌&&◌, ◌==◌, Bool, true, false, List, [], ◌∷◌, Option, None, Some, drop, is_some, length, map, slice_get, take}
use Rattle.std.specs.List.{list_any}
use Rattle.petri_atom.specs.Definition.{AtomDefinition}
use Rattle.petri_atom.specs.Local.{Local}
use Rattle.plant_model.specs.Choice.{ChoiceDefinition, choices}
use Rattle.plant_model.specs.Firing.{FiringDefinition, choice_in, has_its_inputs}
use Rattle.plant_model.specs.Fitting.{IsOf, AllFit}
use Rattle.plant_model.specs.Plant.{PlantDefinition}
use Rattle.plant_model.specs.Runs.{fold}
use Rattle.plant_model.specs.Step.{next}
use Rattle.plant_model.specs.declared.choice.Move.{Move}
use Rattle.plant_model.specs.declared.limits.TheConstants.{MAX_ATOMS}
use Rattle.disk_model.specs.DiskState.{DiskState, size_of}
use Rattle.disk_model.specs.Cells.{Cell, cell, cell_count, seen_cells}
use Rattle.disk_model.specs.declared.cells.TheConstants.{BODY}
use Rattle.record_codec.specs.Fired.{FiredFields, fired_in}
use Rattle.record_codec.specs.Ring.{slot_cell}
use Rattle.record_codec.specs.Saved.{SavedFields}
use Rattle.record_codec.specs.declared.layout.TheConstants.{LAST_NUMBER}
use Rattle.gated_journal.specs.Rings.{cells_of_ring}
use Rattle.gated_journal.specs.Stops.{IsReady}
use Rattle.gated_journal.specs.declared.ring.Ring.{Ring}
use Rattle.snapshot_writer.specs.Slots.{other_slot}
use Rattle.record_replay.specs.Records.{count_of, counts_after_all, records_of}
use Rattle.plant_image.specs.Contents.{contents_of, ring_in}
use Rattle.plant_image.specs.Faults.{cells_fault, is_of_atom}
use Rattle.plant_image.specs.Standing.{IsOnTheWay, Leads, StandsFor, with_records}
use Rattle.trimmer.specs.Covered.{saved_count}
use Rattle.trimmer.specs.declared.saved.SavedAt.{SavedAt}
use Rattle.plant_core.specs.Snapshots.{AreOwn, held_at, known_of, next_slot}
use Rattle.plant_core.specs.Marks.{marks_of}
use Rattle.plant_core.specs.Stops.{number_held}
use Rattle.plant_core.specs.View.{View, acked_marks, fired_number}
use Rattle.plant_core.specs.declared.limits.TheConstants.{MOST_TAIL}

-- two moves are the same, and so are lists of moves and choices
abbrev pub is_same_move : Move → Move → Bool
is_same_move m n = m.atom == n.atom && m.transition == n.transition

abbrev pub are_same_moves : List Move → List Move → Bool
are_same_moves [] [] = true
are_same_moves [] (n ∷ ns) = false
are_same_moves (m ∷ ms) [] = false
are_same_moves (m ∷ ms) (n ∷ ns) = is_same_move m n && are_same_moves ms ns

abbrev pub is_same_choice : ChoiceDefinition → ChoiceDefinition → Bool
is_same_choice c d = c.connector == d.connector && c.mask == d.mask && are_same_moves c.moves d.moves

-- whether a firing can happen in a state: its choice is one of those of the state, and its values may come in
abbrev pub can_fire : PlantDefinition → List Local → FiringDefinition → Bool
can_fire plant states f = list_any (is_same_choice (choice_in f)) (choices plant states) && has_its_inputs plant f

-- whether firings are a run from a state: each can happen in the state that those before it lead to
abbrev pub is_run_from : PlantDefinition → List Local → List FiringDefinition → Bool
is_run_from plant states [] = true
is_run_from plant states (f ∷ fs) = can_fire plant states f && is_run_from plant (next plant states f) fs

-- A copy that is kept is one of a state of its atom, which was copied when no more than this was fired, after a firing that no saved state includes.
pub record IsCopy (plant : PlantDefinition) (known : List SavedAt) (fired : ℕ) (saved : SavedFields) : Type 0 where
  pub of_atom : (a : AtomDefinition) → slice_get plant.atoms saved.atom ≡ Some a → is_of_atom saved.atom a saved ≡ true
  pub last : saved.at ≤ fired
  pub newer : saved_count known saved.atom < saved.count

-- What is known of saved states fits the plant that has acknowledged these counts and has fired so much: it is known of each atom, no saved state is
-- includes a firing that is not acknowledged, and there is a place for a copy of each atom, in which nothing but such a copy stands.
pub record SnapshotsFit (plant : PlantDefinition) (known : List SavedAt) (kept : List (Option SavedFields)) (counts : List ℕ) (fired : ℕ) : Type 0 where
  pub known_many : length known ≡ length plant.atoms
  pub known_within : (atom : ℕ) → saved_count known atom ≤ count_of counts atom
  pub places : length kept ≡ length plant.atoms
  pub own : AreOwn kept
  pub copies : (atom : ℕ) (saved : SavedFields) → held_at kept atom ≡ Some saved → IsCopy plant known fired saved

-- What is in memory fits together: the tail is a run from the acknowledged state to the present one, the counts and the bodies are those of
-- its records, all numbers are in their ranges, there is a mark for each record that is kept, those of the tail last, and what is known of saved
-- states fits.
pub record FitsTogether (plant : PlantDefinition) (v : View) (bodies : List (List ℕ)) : Type 0 where
  pub of_plant : IsOf plant v.acked
  pub fits : AllFit plant v.acked
  pub run : is_run_from plant v.acked v.tail ≡ true
  pub leads : v.present ≡ fold plant v.acked v.tail
  pub counted : v.counts ≡ counts_after_all v.tail v.acked_counts
  pub counts_length : length v.acked_counts ≡ MAX_ATOMS
  pub counts_within : (atom : ℕ) → count_of v.acked_counts atom ≤ v.number
  pub held : map fired_in bodies ≡ map (λ (r : FiredFields). Some r) (records_of plant v.acked v.acked_counts v.number v.tail)
  pub short : length v.tail ≤ MOST_TAIL
  pub base_from : 1 ≤ v.base
  pub base_to : v.base ≤ v.number + 1
  pub room : fired_number v < v.base + v.ring
  pub last_to : fired_number v ≤ LAST_NUMBER
  pub marks_many : v.base + length v.marks ≡ fired_number v + 1
  pub marks_of_tail : drop (v.number + 1 - v.base) v.marks ≡ marks_of (records_of plant v.acked v.acked_counts v.number v.tail)
  pub snapshots : SnapshotsFit plant v.saved v.kept v.acked_counts (fired_number v)

-- The journal is that of the plant: it has the slots of its atoms before its ring, its last record is the last that is acknowledged, and
-- the device has its cells.
pub record IsJournalOf (plant : PlantDefinition) (number : ℕ) (j : Ring) (s : DiskState) : Type 0 where
  pub atoms : j.atoms ≡ length plant.atoms
  pub last : j.last ≡ number
  pub inside : cells_of_ring j ≤ cell_count (BODY + 1) s

-- The device is at rest: nothing is pending, nothing is wrong with its cells, they lead to the acknowledged state and number, the slots hold
-- the newest states that are known of, and the cell of each record that is still to come is empty.
pub record IsAtRest (plant : PlantDefinition) (digest : List ℕ) (j : Ring) (acked : List Local) (counts : List ℕ) (number : ℕ) (saved : List SavedAt) (s : DiskState) : Type 0 where
  pub ready : IsReady j s
  pub sound : cells_fault plant digest (size_of s) (seen_cells (BODY + 1) s) ≡ None
  pub journal : j ≡ ring_in (length plant.atoms) (contents_of (length plant.atoms) (seen_cells (BODY + 1) s))
  pub leads : Leads plant (contents_of (length plant.atoms) (seen_cells (BODY + 1) s)) acked counts number
  pub slots : saved ≡ map known_of (contents_of (length plant.atoms) (seen_cells (BODY + 1) s)).slots

-- The next state of an atom goes in this slot: it is the one that does not hold the newest state on these cells, and it is full.
pub record IsNextSlot (atom slot : ℕ) (cells : List Cell) : Type 0 where
  pub other : slot ≡ other_slot atom cells
  pub full : is_some (cell cells (slot_cell atom slot)) ≡ true

-- Each slot that is known as the one in which the next state of an atom goes is that one.
abbrev pub AreNextSlots : PlantDefinition → List (Option ℕ) → List Cell → Type 0
AreNextSlots plant slots cells = (atom slot : ℕ) → atom < length plant.atoms → next_slot slots atom ≡ Some slot → IsNextSlot atom slot cells

-- The marks of the acknowledged records are those of the records that these cells hold.
abbrev pub AreMarked : PlantDefinition → View → List Cell → Type 0
AreMarked plant v cells = acked_marks v ≡ marks_of (contents_of (length plant.atoms) cells).records

-- Each copy that is kept is on the way of its atom's replay over the records that these cells hold and those of the tail.
abbrev pub AreOnTheWay : PlantDefinition → View → List Cell → Type 0
AreOnTheWay plant v cells = (atom : ℕ) (saved : SavedFields) (a : AtomDefinition) → held_at v.kept atom ≡ Some saved → slice_get plant.atoms saved.atom ≡ Some a
    → IsOnTheWay (with_records (records_of plant v.acked v.acked_counts v.number v.tail) (contents_of (length plant.atoms) cells)) a saved

-- These cells stand for the state after a front of the tail: one as long as the number that they hold is above the acknowledged one.
pub record IsFrontOf (plant : PlantDefinition) (digest : List ℕ) (bytes : ℕ) (v : View) (cells : List Cell) : Type 0 where
  pub from : v.number ≤ number_held plant cells
  pub to : number_held plant cells ≤ fired_number v
  pub stands : StandsFor plant digest bytes cells (fold plant v.acked (take (number_held plant cells - v.number) v.tail)) (number_held plant cells)

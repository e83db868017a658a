-- The states of a batch are stored: it is as if they were stored one after another.
use Rattle.std.proofs.Common.{◌≡◌, ◌≢◌, ◌+◌, ◌≤◌, ◌<◌, ℕ, suc, refl, sym, ◌∙◌, ap, subst, List, [], ◌∷◌, length, slice_get, arith, Bool, Option, Some}
use Rattle.petri_atom.specs.Local.{Local}
use Rattle.disk_model.specs.Cells.{Cell, cell}
use Rattle.gated_journal.specs.declared.ring.Ring.{Ring}
use Rattle.record_codec.specs.Saved.{SavedFields}
use Rattle.record_replay.specs.Records.{count_of}
use Rattle.snapshot_writer.specs.Batches.{HaveStored, SlottedFields, cell_of, with_first}
use Rattle.snapshot_writer.specs.Storing.{HasStored, HoldsSaved}
use Rattle.snapshot_writer.proofs.Batched.{first_is_last, first_stored, nothing_stored, rest_stored}
use Rattle.plant_model.specs.Plant.{PlantDefinition}
use Rattle.plant_model.specs.declared.fired.Firing.{Firing}
use Rattle.step_core.specs.Job.{JobDefinition}
use Rattle.trimmer.specs.Covered.{MarkFields, saved_count}
use Rattle.trimmer.specs.declared.saved.SavedAt.{SavedAt}
use Rattle.plant_core.specs.Invariant.{FitsTogether}
use Rattle.plant_core.specs.Saves.{states_in}
use Rattle.plant_core.specs.Snapshots.{SnapshotFields, known_of, with_slot, with_slots}
use Rattle.plant_core.specs.View.{View, view_by, with_all_stored, with_stored}
use Rattle.plant_core.proofs.Noted.{known-other, stored-fits}
use Rattle.plant_core.proofs.Stored.{IsDue, IsNewer, Matches, Stands, still-due, still-matches, still-stands}

-- something holds of each entry of a batch
abbrev pub OfEach : (SlottedFields → Type 0) → List SlottedFields → Type 0
OfEach P batch = (i : ℕ) (s : SlottedFields) → slice_get batch i ≡ Some s → P s

-- the atoms of the entries rise
abbrev pub Rise : List SlottedFields → Type 0
Rise batch = (i j : ℕ) (s t : SlottedFields) → i < j → slice_get batch i ≡ Some s → slice_get batch j ≡ Some t → s.saved.atom < t.saved.atom

rise-rest : (s : SlottedFields) (rest : List SlottedFields) → Rise (s ∷ rest) → Rise rest
rise-rest s rest rise i j t u less first second = rise (suc i) (suc j) t u (omega (arith, less)) first second

-- the others are of other atoms than the first
rise-apart : (s : SlottedFields) (rest : List SlottedFields) → Rise (s ∷ rest) → (i : ℕ) (t : SlottedFields) → slice_get rest i ≡ Some t → t.saved.atom ≢ s.saved.atom
rise-apart s rest rise i t at same = absurd (omega (arith, rise 0 (suc i) s t (omega arith) refl at, same))

-- ---- what stands at a stop

module _ (plant : PlantDefinition) (digest : List ℕ) (bytes : ℕ) (acked : List Local) (counts : List ℕ) (number : ℕ) where
  pub all-stand : (batch : List SlottedFields) (before cells : List Cell) → Rise batch → Stands plant digest bytes acked counts number before → OfEach (λ s. IsDue plant s.slot s.saved before) batch → HaveStored batch before cells
      → Stands plant digest bytes acked counts number cells
  all-stand [] before cells rise stands due left = subst (Stands plant digest bytes acked counts number) (sym (nothing_stored before cells left)) stands
  all-stand (s ∷ rest) before cells rise stands due left =
      let mid : List Cell = with_first s before cells in
      let one : HasStored s.slot s.saved before mid = first_stored s rest before cells left in
      let here : IsDue plant s.slot s.saved before = due 0 s refl in
      all-stand rest mid cells (rise-rest s rest rise)
      (still-stands plant digest bytes acked counts number before stands s.slot s.saved here mid one)
      (λ i t at. still-due plant digest bytes acked counts number before stands s.slot s.saved here mid one t.slot t.saved (rise-apart s rest rise i t at) (due (suc i) t at))
      (rest_stored s rest before cells left)

-- ---- what the plant knows in the end

-- the view of the plant, by what it knows of saved states
module _ (acked : List Local) (acked_counts : List ℕ) (number : ℕ) (tail : List Firing) (present : List Local) (counts : List ℕ) (j : Ring) (marks : List MarkFields) (away : List (Option JobDefinition)) (broken : Bool) where
  abbrev pub knowing : SnapshotFields → View
  knowing s = view_by acked acked_counts number tail present counts j marks s away broken

  -- with the states of a batch stored
  pub view-stored : (batch : List SlottedFields) (s : SnapshotFields) → knowing (with_slots batch s) ≡ with_all_stored (states_in batch) (knowing s)
  view-stored [] s = refl
  view-stored (t ∷ rest) s = view-stored rest (with_slot t.saved t.slot s)

  -- a state of another atom is newer as before
  newer-beside : (s : SnapshotFields) (t other : SlottedFields) → other.saved.atom ≢ t.saved.atom → IsNewer (knowing s) other.saved → IsNewer (knowing (with_slot t.saved t.slot s)) other.saved
  newer-beside s t other apart new = record { acked = new.acked; newer = omega (arith, known-other s.saved t.saved.atom other.saved.atom (known_of t.saved) apart, new.newer) }

  module _ (plant : PlantDefinition) (bodies : List (List ℕ)) where
    -- what is in memory fits together
    pub all-fit : (batch : List SlottedFields) (s : SnapshotFields) → OfEach (λ t. t.saved.atom < length plant.atoms) batch → OfEach (λ t. t.saved.count ≤ count_of acked_counts t.saved.atom) batch → FitsTogether plant (knowing s) bodies
        → FitsTogether plant (knowing (with_slots batch s)) bodies
    all-fit [] s within behind fits = fits
    all-fit (t ∷ rest) s within behind fits =
        all-fit rest (with_slot t.saved t.slot s) (λ i u at. within (suc i) u at) (λ i u at. behind (suc i) u at)
        (stored-fits plant (knowing s) bodies fits t.saved (within 0 t refl) (behind 0 t refl))

    -- and all that it knows is so on the cells
    pub all-match : (digest : List ℕ) (bytes : ℕ) (batch : List SlottedFields) (s : SnapshotFields) (before cells : List Cell) → Rise batch → OfEach (λ t. IsDue plant t.slot t.saved before) batch → OfEach (λ t. IsNewer (knowing s) t.saved) batch
        → Matches plant digest bytes j bodies (knowing s) s.next_slots before → HaveStored batch before cells → OfEach (λ t. HoldsSaved t.saved (cell cells (cell_of t))) batch
        → Matches plant digest bytes j bodies (knowing (with_slots batch s)) (with_slots batch s).next_slots cells
    all-match digest bytes [] s before cells rise due new were left here = subst (Matches plant digest bytes j bodies (knowing s) s.next_slots) (sym (nothing_stored before cells left)) were
    all-match digest bytes (t ∷ rest) s before cells rise due new were left here =
        let mid : List Cell = with_first t before cells in
        let one : HasStored t.slot t.saved before mid = first_stored t rest before cells left in
        let last : cell mid (cell_of t) ≡ cell cells (cell_of t) = first_is_last t rest before cells left in
        let its : IsDue plant t.slot t.saved before = due 0 t refl in
        all-match digest bytes rest (with_slot t.saved t.slot s) mid cells (rise-rest t rest rise)
        (λ i u at. still-due plant digest bytes acked acked_counts number before were.stands t.slot t.saved its mid one u.slot u.saved (rise-apart t rest rise i u at) (due (suc i) u at))
        (λ i u at. newer-beside s t u (rise-apart t rest rise i u at) (new (suc i) u at))
        (still-matches plant digest bytes j bodies (knowing s) s.next_slots before were t.slot t.saved its (new 0 t refl) mid one (subst (HoldsSaved t.saved) (sym last) (here 0 t refl)))
        (rest_stored t rest before cells left)
        (λ i u at. here (suc i) u at)

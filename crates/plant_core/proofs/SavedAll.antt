-- A plant saves all that is behind: what a stop leaves then, and what it keeps after it.
use Rattle.std.proofs.Common.{◌≡◌, ◌⊎◌, inl, inr, ◌+◌, ◌*◌, ◌≤◌, ◌<◌, ℕ, zero, suc, ◌∷◌, ◌++◌, refl, sym, ◌∙◌, ap, subst, List, [], length, slice_get, arith, Bool, Option, None, Some, true, false}
use Rattle.std.specs.Option.{option_map}
use Rattle.std.proofs.lemmas.Option.{none-some, same_Some, slice_get-map}
use Rattle.petri_atom.specs.Local.{Local}
use Rattle.disk_model.specs.Cells.{Cell, Leaves, MayBe, cell, seen_cells}
use Rattle.disk_model.specs.DiskState.{DiskState, IsSettled, size_of}
use Rattle.disk_model.specs.Moments.{leaves_weaker, settled_cells}
use Rattle.disk_model.specs.declared.cells.TheConstants.{BODY}
use Rattle.gated_journal.specs.declared.ring.Ring.{Ring}
use Rattle.record_codec.specs.Ring.{slot_cell}
use Rattle.record_codec.specs.Saved.{SavedFields}
use Rattle.record_replay.specs.Records.{count_of}
use Rattle.snapshot_writer.specs.Batches.{AreStored, HaveStored, SlottedFields}
use Rattle.plant_model.specs.Plant.{PlantDefinition}
use Rattle.plant_model.specs.declared.fired.Firing.{Firing}
use Rattle.plant_image.specs.Standing.{StandsFor}
use Rattle.step_core.specs.Job.{JobDefinition}
use Rattle.trimmer.specs.Covered.{MarkFields}
use Rattle.plant_core.specs.Invariant.{AreMarked, AreNextSlots, AreOnTheWay, FitsTogether, IsAtRest}
use Rattle.plant_core.specs.Saves.{batch_of, states_in, to_other_slot}
use Rattle.plant_core.specs.Snapshots.{SnapshotFields, with_slots}
use Rattle.plant_core.specs.View.{View, behind_states}
use Rattle.plant_core.proofs.AllStored.{OfEach, Rise, all-fit, all-match, all-stand, knowing}
use Rattle.plant_core.proofs.Behind.{behind-due, behind-newer, behind-rise, behind-within}
use Rattle.plant_core.proofs.NextSlots.{other-small}
use Rattle.plant_core.proofs.Stored.{IsDue, IsNewer, Matches, Stands, rest-matches, stands-for}

-- an entry that is made of a state
pub made-of : (cells : List Cell) (states : List SavedFields) (i : ℕ) (s : SlottedFields) → slice_get (batch_of cells states) i ≡ Some s → (x : SavedFields) × (slice_get states i ≡ Some x) × (to_other_slot cells x ≡ s)
made-of cells states i s at = by (slice_get states i) refl (sym (slice_get-map (to_other_slot cells) states i) ∙ at)
  where
    by : (o : Option SavedFields) → slice_get states i ≡ o → option_map (to_other_slot cells) o ≡ Some s → (x : SavedFields) × (slice_get states i ≡ Some x) × (to_other_slot cells x ≡ s)
    by None is found = absurd (none-some s found)
    by (Some x) is found = (x, is, same_Some (to_other_slot cells x) s found)

-- an entry of a batch with one more is one of it, or the one more
pub last-or-before : (batch : List SlottedFields) (last s : SlottedFields) (i : ℕ) → slice_get (batch ++ last ∷ []) i ≡ Some s → (slice_get batch i ≡ Some s) ⊎ (last ≡ s)
last-or-before [] last s zero at = inr (same_Some last s at)
last-or-before [] last s (suc i) at = absurd (none-some s at)
last-or-before (t ∷ rest) last s zero at = inl at
last-or-before (t ∷ rest) last s (suc i) at = last-or-before rest last s i at

-- the state of an entry
pub state-of : (batch : List SlottedFields) (states : List SavedFields) → states_in batch ≡ states → (i : ℕ) (s : SlottedFields) → slice_get batch i ≡ Some s → slice_get states i ≡ Some s.saved
state-of batch states are i s at =
    ap (λ (l : List SavedFields). slice_get l i) (sym are) ∙
    slice_get-map (λ (t : SlottedFields). t.saved) batch i ∙
    ap (option_map (λ (t : SlottedFields). t.saved)) at

-- before anything is stored
pub none-stored-yet : (batch : List SlottedFields) (s : DiskState) → IsSettled s.now → (cells : List Cell) → MayBe (BODY + 1) s cells → HaveStored batch (seen_cells (BODY + 1) s) cells
none-stored-yet batch s settled cells may = subst (HaveStored batch (seen_cells (BODY + 1) s)) (sym (settled_cells (BODY + 1) s cells settled may)) (record { count = refl; each = λ i t at. inl refl; others = λ k none. refl })

module _ (plant : PlantDefinition) (v : View) (bodies : List (List ℕ)) (kept : FitsTogether plant v bodies) where
  -- whatever slots the states go in, they are of atoms of the plant, and include acknowledged firings alone
  pub each-within : (batch : List SlottedFields) → states_in batch ≡ behind_states v → OfEach (λ s. s.saved.atom < length plant.atoms) batch
  each-within batch are i s at = behind-within plant v bodies kept i s.saved (state-of batch (behind_states v) are i s at)

  pub each-acked : (batch : List SlottedFields) → states_in batch ≡ behind_states v → OfEach (λ s. s.saved.count ≤ count_of v.acked_counts s.saved.atom) batch
  each-acked batch are i s at = (behind-newer plant v bodies kept i s.saved (state-of batch (behind_states v) are i s at)).acked

  module _ (digest : List ℕ) (j : Ring) (old : DiskState) (rest : IsAtRest plant digest j v.acked v.acked_counts v.number v.saved old) where
    abbrev before : List Cell
    before = seen_cells (BODY + 1) old

    abbrev pub going : List SlottedFields
    going = batch_of before (behind_states v)

    rise : Rise going
    rise m n s t less first second =
        let x = made-of before (behind_states v) m s first in
        let y = made-of before (behind_states v) n t second in
        let lower : x.0.atom < y.0.atom = behind-rise v m n x.0 y.0 less x.1 y.1 in
        omega (arith, lower, ap (λ (u : SlottedFields). u.saved.atom) x.2, ap (λ (u : SlottedFields). u.saved.atom) y.2)

    due : OfEach (λ s. IsDue plant s.slot s.saved before) going
    due i s at =
        let x = made-of before (behind_states v) i s at in
        subst (λ (u : SlottedFields). IsDue plant u.slot u.saved before) x.2 (behind-due plant v bodies kept i x.0 x.1 before rest.leads)

    newer : OfEach (λ s. IsNewer v s.saved) going
    newer i s at =
        let x = made-of before (behind_states v) i s at in
        subst (λ (u : SlottedFields). IsNewer v u.saved) x.2 (behind-newer plant v bodies kept i x.0 x.1)

    -- what a stop leaves stands for what is acknowledged
    pub saved-stops : (new : DiskState) → Leaves (BODY + 1) (HaveStored going before) old new → Leaves (BODY + 1) (λ cells. StandsFor plant digest (size_of old) cells v.acked v.number) old new
    saved-stops new left = leaves_weaker (BODY + 1) (HaveStored going before) (λ cells. StandsFor plant digest (size_of old) cells v.acked v.number) old new
        (λ cells have. stands-for plant digest (size_of old) v.acked v.acked_counts v.number cells
        (all-stand plant digest (size_of old) v.acked v.acked_counts v.number going before cells rise (record { sound = rest.sound; leads = rest.leads }) due have)) left

    -- no cell but those of slots is changed
    pub others-stay : (new : DiskState) → AreStored going old new → (k : ℕ) → 3 + 2 * length plant.atoms ≤ k → cell (seen_cells (BODY + 1) new) k ≡ cell before k
    others-stay new done k far = done.stored.others k (λ i s at same.
        let its : IsDue plant s.slot s.saved before = due i s at in
        let small : s.slot < 2 = subst (λ (n : ℕ). n < 2) (sym its.other) (other-small s.saved.atom before) in
        absurd (omega (arith, same, far, its.within, small)))

-- the same of a plant whose view is made of what it holds: what it knows of saved states then is so
module _ (acked : List Local) (acked_counts : List ℕ) (number : ℕ) (tail : List Firing) (present : List Local) (counts : List ℕ) (j : Ring) (marks : List MarkFields) (away : List (Option JobDefinition)) (broken : Bool)
    (plant : PlantDefinition) (bodies : List (List ℕ)) (digest : List ℕ) (s : SnapshotFields) (old : DiskState) where
  abbrev v : View
  v = knowing acked acked_counts number tail present counts j marks away broken s

  pub saved-matches : (kept : FitsTogether plant v bodies) (rest : IsAtRest plant digest j acked acked_counts number s.saved old) → AreNextSlots plant s.next_slots (seen_cells (BODY + 1) old) → AreMarked plant v (seen_cells (BODY + 1) old)
      → AreOnTheWay plant v (seen_cells (BODY + 1) old) → (new : DiskState) (batch : List SlottedFields) → batch ≡ batch_of (seen_cells (BODY + 1) old) (behind_states v) → AreStored batch old new
      → Matches plant digest (size_of old) j bodies (knowing acked acked_counts number tail present counts j marks away broken (with_slots batch s)) (with_slots batch s).next_slots (seen_cells (BODY + 1) new)
  saved-matches kept rest next marked ways new batch is done =
      let all : List SlottedFields = batch_of (seen_cells (BODY + 1) old) (behind_states v) in
      let stored : AreStored all old new = subst (λ (b : List SlottedFields). AreStored b old new) is done in
      subst (λ (b : List SlottedFields). Matches plant digest (size_of old) j bodies (knowing acked acked_counts number tail present counts j marks away broken (with_slots b s)) (with_slots b s).next_slots (seen_cells (BODY + 1) new)) (sym is)
      (all-match acked acked_counts number tail present counts j marks away broken plant bodies digest (size_of old) all s (seen_cells (BODY + 1) old) (seen_cells (BODY + 1) new)
      (rise plant v bodies kept digest j old rest) (due plant v bodies kept digest j old rest) (newer plant v bodies kept digest j old rest)
      (rest-matches plant digest j bodies v s.next_slots old rest next marked ways kept) stored.stored stored.held)

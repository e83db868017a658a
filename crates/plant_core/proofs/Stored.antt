-- A state is stored in a slot of its atom: what the cells stand for, and what the plant knows of them then.
use Rattle.std.proofs.Common.{◌≡◌, ◌≢◌, inl, inr, ⊎_elim, ◌⊎◌, ◌+◌, ◌*◌, ◌≤◌, ◌<◌, ℕ, zero, suc, refl, sym, ◌∙◌, ap, subst, List, [], ◌∷◌, length, map, set, slice_get, arith, Bool, Option, None, Some, true, unwrap_or}
use Rattle.std.specs.Option.{some_prefix}
use Rattle.std.proofs.lemmas.Option.{get_or_from_slice_get}
use Rattle.std.proofs.lemmas.List.FromFn.{length-map-range_with_len}
use Rattle.petri_atom.specs.Definition.{AtomDefinition}
use Rattle.petri_atom.specs.Local.{Local}
use Rattle.disk_model.specs.Cells.{Cell, Leaves, MayBe, cell, seen_cells}
use Rattle.disk_model.specs.DiskState.{DiskState, IsSettled, Reads, size_of}
use Rattle.disk_model.specs.Moments.{leaves_then, leaves_weaker, settled_cells}
use Rattle.disk_model.specs.Reading.{reads_leave, reads_seen}
use Rattle.disk_model.specs.declared.cells.TheConstants.{BODY}
use Rattle.gated_journal.specs.Live.{live, place, record_in}
use Rattle.gated_journal.specs.Stops.{IsReady}
use Rattle.gated_journal.specs.declared.ring.Ring.{Ring}
use Rattle.record_codec.specs.Fired.{FiredFields}
use Rattle.record_codec.specs.Ring.{slot_cell}
use Rattle.record_codec.specs.Saved.{SavedFields}
use Rattle.record_replay.specs.Records.{count_of}
use Rattle.snapshot_writer.specs.Slots.{IsAbove, IsFree, IsSameNewest, newest, other_slot, saved_at}
use Rattle.snapshot_writer.specs.Storing.{HasStored, HoldsSaved, IsNewestNow}
use Rattle.snapshot_writer.proofs.NewestStates.{other_is_free}
use Rattle.snapshot_writer.proofs.StoredCells.{is_newest_now, others_stay}
use Rattle.plant_model.specs.Plant.{PlantDefinition}
use Rattle.trimmer.specs.Covered.{saved_count}
use Rattle.trimmer.specs.declared.saved.SavedAt.{SavedAt}
use Rattle.plant_image.specs.Contents.{Contents, contents_of, last_number, newest_held, ring_in, unsaved}
use Rattle.plant_image.specs.Faults.{atom_fault, cells_fault, is_of_atom}
use Rattle.plant_image.specs.Standing.{IsOnTheWay, Leads, StandsFor, with_saved}
use Rattle.plant_image.specs.declared.counts.TheConstants.{MOST_AHEAD}
use Rattle.plant_image.proofs.AtomSlots.{NewestHolds, newest_holds}
use Rattle.plant_image.proofs.ByAtoms.{element_at, told_none_at}
use Rattle.plant_image.proofs.KeptCells.{IsSound, map_same, sound_of}
use Rattle.plant_image.proofs.OnContents.{saved_leads}
use Rattle.plant_image.proofs.Standings.{leads_stands}
use Rattle.plant_image.proofs.StoredImages.{made_at, stored_image_none, stored_reads}
use Rattle.plant_core.specs.Invariant.{AreMarked, AreNextSlots, AreOnTheWay, FitsTogether, IsAtRest}
use Rattle.plant_core.specs.Marks.{marks_of}
use Rattle.plant_core.specs.Snapshots.{known_of, with_written}
use Rattle.plant_core.specs.View.{View, with_stored}
use Rattle.plant_core.proofs.Copies.{way-beside, ways-stored}
use Rattle.plant_core.proofs.Marking.{count-known}
use Rattle.plant_core.proofs.NextSlots.{other-same, other-small, slots-stored}
use Rattle.plant_core.proofs.Noted.{stored-fits}

-- Nothing is wrong with these cells of a device of so many bytes, and they lead to this state, these counts and this number.
pub record Stands (plant : PlantDefinition) (digest : List ℕ) (bytes : ℕ) (acked : List Local) (counts : List ℕ) (number : ℕ) (cells : List Cell) : Type 0 where
  pub sound : cells_fault plant digest bytes cells ≡ None
  pub leads : Leads plant (contents_of (length plant.atoms) cells) acked counts number

-- so they stand for the state and the number
pub stands-for : (plant : PlantDefinition) (digest : List ℕ) (bytes : ℕ) (acked : List Local) (counts : List ℕ) (number : ℕ) (cells : List Cell) → Stands plant digest bytes acked counts number cells → StandsFor plant digest bytes cells acked number
stands-for plant digest bytes acked counts number cells stands = leads_stands plant digest bytes cells acked number counts stands.sound stands.leads

-- This state may go in this slot of its atom: the slot does not hold the newest state on these cells, the state is one of the atom, it is on the way of
-- the atom's replay, and it was copied no later than a plant can be ahead.
pub record IsDue (plant : PlantDefinition) (slot : ℕ) (saved : SavedFields) (cells : List Cell) : Type 0 where
  pub within : saved.atom < length plant.atoms
  pub other : slot ≡ other_slot saved.atom cells
  pub passes : (a : AtomDefinition) → slice_get plant.atoms saved.atom ≡ Some a → is_of_atom saved.atom a saved ≡ true
  pub way : (a : AtomDefinition) → slice_get plant.atoms saved.atom ≡ Some a → IsOnTheWay (contents_of (length plant.atoms) cells) a saved
  pub early : saved.at ≤ last_number (contents_of (length plant.atoms) cells) + MOST_AHEAD

-- The state includes acknowledged firings alone, and one that the newest saved state does not.
pub record IsNewer (v : View) (saved : SavedFields) : Type 0 where
  pub acked : saved.count ≤ count_of v.acked_counts saved.atom
  pub newer : saved_count v.saved saved.atom < saved.count

-- What a plant with this view and these bodies knows of the next slots and of its journal is so on these cells of a device of so many bytes.
pub record Matches (plant : PlantDefinition) (digest : List ℕ) (bytes : ℕ) (j : Ring) (bodies : List (List ℕ)) (v : View) (slots : List (Option ℕ)) (cells : List Cell) : Type 0 where
  pub stands : Stands plant digest bytes v.acked v.acked_counts v.number cells
  pub journal : j ≡ ring_in (length plant.atoms) (contents_of (length plant.atoms) cells)
  pub known : v.saved ≡ map known_of (contents_of (length plant.atoms) cells).slots
  pub next : AreNextSlots plant slots cells
  pub marked : AreMarked plant v cells
  pub ways : AreOnTheWay plant v cells
  pub fits : FitsTogether plant v bodies

-- it is so where the device is at rest
pub rest-matches : (plant : PlantDefinition) (digest : List ℕ) (j : Ring) (bodies : List (List ℕ)) (v : View) (slots : List (Option ℕ)) (s : DiskState) → IsAtRest plant digest j v.acked v.acked_counts v.number v.saved s
    → AreNextSlots plant slots (seen_cells (BODY + 1) s) → AreMarked plant v (seen_cells (BODY + 1) s) → AreOnTheWay plant v (seen_cells (BODY + 1) s) → FitsTogether plant v bodies → Matches plant digest (size_of s) j bodies v slots (seen_cells (BODY + 1) s)
rest-matches plant digest j bodies v slots s rest next marked ways fits = record {
  stands = record { sound = rest.sound; leads = rest.leads };
  journal = rest.journal;
  known = rest.slots;
  next = next;
  marked = marked;
  ways = ways;
  fits = fits;
}

-- what is known of the slots, one of which is written
known-set : (slots : List SavedFields) (atom : ℕ) (saved : SavedFields) → map known_of (set slots atom saved) ≡ set (map known_of slots) atom (known_of saved)
known-set [] atom saved = refl
known-set (s ∷ slots) zero saved = refl
known-set (s ∷ slots) (suc atom) saved = ap (λ (known : List SavedAt). known_of s ∷ known) (known-set slots atom saved)

-- ---- what stands at a stop

module _ (plant : PlantDefinition) (digest : List ℕ) (bytes : ℕ) (acked : List Local) (counts : List ℕ) (number : ℕ) (before : List Cell) (stands : Stands plant digest bytes acked counts number before)
    (slot : ℕ) (saved : SavedFields) (due : IsDue plant slot saved before) (cells : List Cell) (left : HasStored slot saved before cells) where
  abbrev held : Contents
  held = contents_of (length plant.atoms) before

  abbrev then : Contents
  then = contents_of (length plant.atoms) cells

  small : slot < 2
  small = subst (λ (n : ℕ). n < 2) (sym due.other) (other-small saved.atom before)

  free : IsFree saved.atom slot before
  free = subst (λ (n : ℕ). IsFree saved.atom n before) (sym due.other) (other_is_free (saved_at saved.atom 0 before) (saved_at saved.atom 1 before))

  judged : IsSound plant digest bytes before
  judged = sound_of plant digest bytes before stands.sound

  own : (a : AtomDefinition) × (slice_get plant.atoms saved.atom ≡ Some a)
  own = element_at plant.atoms saved.atom due.within

  -- the cells hold what they held, or the new state
  same-or-new : (then ≡ held) ⊎ (then ≡ with_saved saved held)
  same-or-new = stored_reads plant digest bytes slot own.0 saved before cells judged small own.1 (due.passes own.0 own.1) free left

  -- so they lead where they led
  pub still-stands : Stands plant digest bytes acked counts number cells
  still-stands =
      let many : length held.slots ≡ length plant.atoms = length-map-range_with_len (newest_held before) 0 (length plant.atoms) in
      record {
        sound = stored_image_none plant digest bytes slot own.0 saved before cells judged small own.1 (due.passes own.0 own.1) free left;
        leads = ⊎_elim
            (λ same. subst (λ c. Leads plant c acked counts number) (sym same) stands.leads)
            (λ new. subst (λ c. Leads plant c acked counts number) (sym new) (saved_leads plant held acked counts number stands.leads own.0 saved own.1 many (due.way own.0 own.1) (omega (arith, due.early, stands.leads.last))))
            same-or-new;
      }

  -- a state of another atom may go in its slot as before
  pub still-due : (place : ℕ) (other : SavedFields) → other.atom ≢ saved.atom → IsDue plant place other before → IsDue plant place other cells
  still-due place other apart its = record {
    within = its.within;
    other = its.other ∙ sym (other-same other.atom before cells (others_stay slot other.atom saved before cells small apart left));
    passes = its.passes;
    way = λ a at. ⊎_elim
        (λ same. subst (λ c. IsOnTheWay c a other) (sym same) (its.way a at))
        (λ new. subst (λ c. IsOnTheWay c a other) (sym new) (way-beside held a saved other apart (its.way a at)))
        same-or-new;
    early = ⊎_elim
        (λ same. subst (λ c. other.at ≤ last_number c + MOST_AHEAD) (sym same) its.early)
        (λ new. subst (λ c. other.at ≤ last_number c + MOST_AHEAD) (sym new) its.early)
        same-or-new;
  }

  -- ---- what stands in the end

  module _ (here : HoldsSaved saved (cell cells (slot_cell saved.atom slot))) (fewer : (newest_held before saved.atom).count < saved.count) where
    above : IsAbove saved (newest saved.atom before)
    above = by_newest (newest saved.atom before) fewer
      where
        by_newest : (o : Option SavedFields) → (unwrap_or o (unsaved saved.atom)).count < saved.count → IsAbove saved o
        by_newest None less = tt
        by_newest (Some was) less = less

    newest_now : IsNewestNow slot saved before cells
    newest_now = is_newest_now slot saved before cells small free left here above

    -- the atom had a newest state before
    best : NewestHolds saved.atom own.0 before
    best = newest_holds before saved.atom own.0 (told_none_at (atom_fault before) plant.atoms 0 saved.atom saved.atom own.0 judged.slots own.1 (omega arith))

    -- so the next state of its atom goes in the other slot, and that of every other where it did
    pub new-slots : (slots : List (Option ℕ)) → AreNextSlots plant slots before → AreNextSlots plant (with_written saved.atom slot slots) cells
    new-slots slots were = slots-stored plant slots slot saved best.saved before cells small free best.is left newest_now were

    pub new-contents : then ≡ with_saved saved held
    new-contents = ⊎_elim
        (λ same.
        let now_newest : newest_held cells saved.atom ≡ saved = ap (λ (o : Option SavedFields). unwrap_or o (unsaved saved.atom)) newest_now.newest_is in
        let there : Some (newest_held cells saved.atom) ≡ Some (newest_held before saved.atom) =
        sym (made_at (newest_held cells) (length plant.atoms) saved.atom due.within) ∙
        ap (λ (c : Contents). slice_get c.slots saved.atom) same ∙
        made_at (newest_held before) (length plant.atoms) saved.atom due.within in
        let is : newest_held cells saved.atom ≡ newest_held before saved.atom = cc in
        let counted : saved.count ≡ (newest_held before saved.atom).count = ap (λ (s : SavedFields). s.count) (sym now_newest ∙ is) in
        absurd (omega (arith, counted, fewer)))
        (λ new. new)
        same-or-new

module _ (plant : PlantDefinition) (digest : List ℕ) (bytes : ℕ) (j : Ring) (bodies : List (List ℕ)) (v : View) (slots : List (Option ℕ)) (before : List Cell) (were : Matches plant digest bytes j bodies v slots before)
    (slot : ℕ) (saved : SavedFields) (due : IsDue plant slot saved before) (new : IsNewer v saved) (cells : List Cell) (left : HasStored slot saved before cells) (here : HoldsSaved saved (cell cells (slot_cell saved.atom slot))) where
  -- the state that was the newest had taken part less often
  fewer : (newest_held before saved.atom).count < saved.count
  fewer =
      let slots_were : List SavedFields = (contents_of (length plant.atoms) before).slots in
      let known : saved_count v.saved saved.atom ≡ (newest_held before saved.atom).count =
      ap (λ (ms : List SavedAt). saved_count ms saved.atom) were.known ∙
      count-known slots_were saved.atom (unsaved saved.atom) refl ∙
      ap (λ (t : SavedFields). t.count) (get_or_from_slice_get slots_were saved.atom (newest_held before saved.atom) (unsaved saved.atom) (made_at (newest_held before) (length plant.atoms) saved.atom due.within)) in
      omega (arith, known, new.newer)

  read : contents_of (length plant.atoms) cells ≡ with_saved saved (contents_of (length plant.atoms) before)
  read = new-contents plant digest bytes v.acked v.acked_counts v.number before were.stands slot saved due cells left here fewer

  -- what the plant knows once the state is stored is so on the cells then
  pub still-matches : Matches plant digest bytes j bodies (with_stored saved v) (with_written saved.atom slot slots) cells
  still-matches = record {
    stands = still-stands plant digest bytes v.acked v.acked_counts v.number before were.stands slot saved due cells left;
    journal = were.journal ∙ sym (ap (ring_in (length plant.atoms)) read);
    known = ap (λ (ms : List SavedAt). set ms saved.atom (known_of saved)) were.known ∙
        sym (known-set (contents_of (length plant.atoms) before).slots saved.atom saved) ∙
        sym (ap (λ (c : Contents). map known_of c.slots) read);
    next = new-slots plant digest bytes v.acked v.acked_counts v.number before were.stands slot saved due cells left here fewer slots were.next;
    marked = were.marked ∙ sym (ap (λ (c : Contents). marks_of c.records) read);
    ways = ways-stored plant v bodies were.fits before were.stands.leads were.ways saved cells were.fits.snapshots.own read;
    fits = stored-fits plant v bodies were.fits saved due.within new.acked;
  }

-- ---- on the device

-- the journal is ready where the record cells are as they were
ready-again : (j : Ring) (old new : DiskState) → IsReady j old → IsSettled new.now → ((n : ℕ) → cell (seen_cells (BODY + 1) new) (place j n) ≡ cell (seen_cells (BODY + 1) old) (place j n)) → IsReady j new
ready-again j old new was settled same =
    let before : List Cell = seen_cells (BODY + 1) old in
    let after : List Cell = seen_cells (BODY + 1) new in
    let live_same : live j after ≡ live j before = ap (λ (l : List (Option FiredFields)). some_prefix l) (map_same (λ n. record_in n (cell after (place j n))) (λ n. record_in n (cell before (place j n))) j.ring j.base (λ n from to. ap (record_in n) (same n))) in
    record {
      settled = settled;
      whole = subst (λ (rs : List FiredFields). j.base + length rs ≡ j.last + 1) (sym live_same) was.whole;
      ahead = λ n ahead. same n ∙ was.ahead n ahead;
    }

-- the device is at rest again where all that the plant knows is so, and no cell but those of slots was changed
pub rest-stored : (plant : PlantDefinition) (digest : List ℕ) (j : Ring) (bodies : List (List ℕ)) (v : View) (slots : List (Option ℕ)) (old new : DiskState) → IsReady j old → IsSettled new.now → size_of new ≡ size_of old
    → Matches plant digest (size_of old) j bodies v slots (seen_cells (BODY + 1) new) → ((k : ℕ) → 3 + 2 * length plant.atoms ≤ k → cell (seen_cells (BODY + 1) new) k ≡ cell (seen_cells (BODY + 1) old) k)
    → IsAtRest plant digest j v.acked v.acked_counts v.number v.saved new
rest-stored plant digest j bodies v slots old new ready settled same matches others = record {
  ready = ready-again j old new ready settled (λ n. others (place j n) (omega (arith, ap (λ (r : Ring). r.atoms) matches.journal)));
  sound = subst (λ (bytes : ℕ). cells_fault plant digest bytes (seen_cells (BODY + 1) new) ≡ None) (sym same) matches.stands.sound;
  journal = matches.journal;
  leads = matches.stands.leads;
  slots = matches.known;
}

-- what storing leaves stands for what is acknowledged
pub stored-stops : (plant : PlantDefinition) (digest : List ℕ) (acked : List Local) (counts : List ℕ) (number : ℕ) (old new : DiskState) → Stands plant digest (size_of old) acked counts number (seen_cells (BODY + 1) old)
    → (slot : ℕ) (saved : SavedFields) → IsDue plant slot saved (seen_cells (BODY + 1) old) → Leaves (BODY + 1) (HasStored slot saved (seen_cells (BODY + 1) old)) old new
    → Leaves (BODY + 1) (λ cells. StandsFor plant digest (size_of old) cells acked number) old new
stored-stops plant digest acked counts number old new stands slot saved due left =
    leaves_weaker (BODY + 1) (HasStored slot saved (seen_cells (BODY + 1) old)) (λ cells. StandsFor plant digest (size_of old) cells acked number) old new
    (λ cells has. stands-for plant digest (size_of old) acked counts number cells (still-stands plant digest (size_of old) acked counts number (seen_cells (BODY + 1) old) stands slot saved due cells has)) left

-- if nothing was stored yet
pub nothing-stored : (slot : ℕ) (saved : SavedFields) (s : DiskState) → IsSettled s.now → (cells : List Cell) → MayBe (BODY + 1) s cells → HasStored slot saved (seen_cells (BODY + 1) s) cells
nothing-stored slot saved s settled cells may = subst (HasStored slot saved (seen_cells (BODY + 1) s)) (sym (settled_cells (BODY + 1) s cells settled may)) (record { count = refl; here = inl refl; others = λ k other. refl })

-- what storing leaves if slots were read before it
pub stored-behind-reads : {failed : Bool} (slot free : ℕ) (saved : SavedFields) (old mid new : DiskState) → IsSettled old.now → Reads failed old mid → old.keeps ≡ true → slot ≡ free
    → Leaves (BODY + 1) (HasStored slot saved (seen_cells (BODY + 1) mid)) mid new → Leaves (BODY + 1) (HasStored free saved (seen_cells (BODY + 1) old)) old new
stored-behind-reads slot free saved old mid new settled reads keeps is left = leaves_then (BODY + 1) (HasStored free saved (seen_cells (BODY + 1) old)) old mid new
    (reads_leave (BODY + 1) (HasStored free saved (seen_cells (BODY + 1) old)) old mid reads keeps (nothing-stored free saved old settled))
    (subst (λ (k : ℕ). Leaves (BODY + 1) (HasStored k saved (seen_cells (BODY + 1) old)) mid new) is
    (subst (λ cells. Leaves (BODY + 1) (HasStored slot saved cells) mid new) (reads_seen (BODY + 1) old mid reads keeps) left))

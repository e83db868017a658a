-- What the cells of a device stand for that are loaded up to as many as any device for the plant has.
use Rattle.std.proofs.Common.{◌≡◌, ◌≢◌, ℕ, ◌+◌, ◌-◌, ◌*◌, ◌^◌, ◌<◌, ◌≤◌, ◌==◌, min, nat_lt, Bool, true, false, not, List, [], ◌∷◌, ◌++◌, length, take, Option, Some, None, Result, Ok, Err, IfErr, MatchResult, OnOk, refl, sym, ◌∙◌, ap, subst, arith}
use Rattle.std.specs.Option.{option_and_then, option_map_or}
use Rattle.std.proofs.lemmas.Bool.{eqb-true, ltb-true, ltb-false}
use Rattle.std.proofs.lemmas.List.{get_or-take, take_all, take_more}
use Rattle.disk_model.specs.Cells.{Cell, Leaves, MayBe, Settles, cell, cell_count, cells_in, seen_cells}
use Rattle.disk_model.specs.DiskState.{Counts, CountsUpTo, DiskState, Reads, counted, size_of}
use Rattle.disk_model.specs.Moments.{seen_length}
use Rattle.disk_model.specs.Reading.{leaves_reading, reads_seen, reads_settled}
use Rattle.disk_model.specs.declared.cells.TheConstants.{BODY}
use Rattle.record_codec.specs.Identity.{IdentityFields, identity_in}
use Rattle.record_codec.specs.Ring.{device_cells, identity_cell}
use Rattle.record_codec.specs.declared.layout.TheConstants.{MOST_RING, VERSION}
use Rattle.record_codec.proofs.Identities.{held_identity_is_spelled}
use Rattle.plant_model.specs.Plant.{PlantDefinition}
use Rattle.plant_model.specs.declared.limits.TheConstants.{MAX_ATOMS}
use Rattle.plant_model.specs.Rules.{first_of, first_fault_in}
use Rattle.plant_image.specs.Contents.{contents_of, identity_held, ring_held}
use Rattle.plant_image.specs.Faults.{atom_fault, base_fault, cell_bytes, cells_fault, fault_of, fault_where, first_cell_fault, first_fault, identity_fault, is_for, leading_fault, records_fault}
use Rattle.plant_image.specs.Reading.{IsStanding, IsFault, Tells}
use Rattle.plant_image.specs.declared.fault.ImageFault.{ImageFault}
use Rattle.plant_image.specs.declared.fault.ImageFault.TheVariants.{WrongSize, OtherSystem}
use Rattle.plant_image.specs.declared.standing.Standing.{Standing}
use Rattle.recovery.specs.Booting.{has_failed, is_disk}
use Rattle.recovery.specs.MadeOf.{WasRead}
use Rattle.recovery.specs.Judged.{IsJudged, WasReadOf}
use Rattle.recovery.specs.Loading.{IsSynced, IsSyncedInPart, WasLoaded, WasLoadedOf}
use Rattle.recovery.specs.declared.loading.Loaded.{Loaded}
use Rattle.recovery.specs.declared.fault.BootFault.{BootFault}
use Rattle.plant_image.proofs.AtomSlots.{no_first, no_later, not_wrong}
use Rattle.plant_image.proofs.KeptCells.{identity_same, sound_of}

-- a test that is not passed over
not_false : (t : Bool) → not t ≡ false → t ≡ true
not_false true is = refl
not_false false is = absurd (let is = is in cc)

-- as many as the most, or as there are, if the bytes tell how many there are
pub taken : {X : Type 0} (most count read : ℕ) (all : List X) → (count < most → length all ≡ count) → read ≡ min most count → take read all ≡ take most all
taken {X} most count read all long is = by_test (nat_lt count most) refl
  where
    by_test : (t : Bool) → nat_lt count most ≡ t → take read all ≡ take most all
    by_test true less =
        let below : count < most = ltb-true count most less in
        let told : length all ≡ count = long below in
        take_all read all (omega arith) ∙ sym (take_all most all (omega arith))
    by_test false more =
        let above : most ≤ count = ltb-false count most more in
        let same : read ≡ most = omega arith in
        ap (λ (k : ℕ). take k all) same

-- one more of them
pub taken_more : (all list next : List Cell) (found : Cell) (k : ℕ) → k < length all → list ≡ take k all → next ≡ list ++ found ∷ [] → found ≡ cell all k → next ≡ take (k + 1) all
taken_more all list next found k inside so_far pushed is =
    pushed
    ∙ ap (λ (l : List Cell). l ++ found ∷ []) so_far
    ∙ ap (λ (x : Cell). take k all ++ x ∷ []) is
    ∙ sym (take_more all k None inside)

-- an identity that a body holds has a ring of no more than the most
ring_within : (body : List ℕ) (identity : IdentityFields) → identity_in body ≡ Some identity → identity.ring ≤ MOST_RING
unfolding identity_in
ring_within body identity held = (held_identity_is_spelled VERSION body identity held).in_range.ring_within

-- and so has any device
pub ring_most : (cells : List Cell) → ring_held cells ≤ MOST_RING
ring_most cells = by_cell (cell cells identity_cell)
  where
    by_value : (body : List ℕ) (o : Option IdentityFields) → identity_in body ≡ o → option_map_or (λ (identity : IdentityFields). identity.ring) o 0 ≤ MOST_RING
    by_value body None is = omega arith
    by_value body (Some identity) is = ring_within body identity is

    by_cell : (c : Cell) → option_map_or (λ (identity : IdentityFields). identity.ring) (option_and_then identity_in c) 0 ≤ MOST_RING
    by_cell None = omega arith
    by_cell (Some body) = by_value body (identity_in body) refl

module _ (atoms : ℕ) (digest : List ℕ) (bytes : ℕ) (cells : List Cell) (none : identity_fault atoms digest bytes cells ≡ None) where
  -- with no fault of its first cell a device has the size that this tells
  pub size_told : bytes ≡ cell_bytes * device_cells atoms (ring_held cells)
  size_told =
      let second = no_later (fault_where (nat_lt bytes cell_bytes) WrongSize) _ none in
      let third = no_later (first_cell_fault (cell cells identity_cell)) _ second in
      let fourth = no_later (fault_where (not (option_map_or (is_for atoms digest) (identity_held cells) false)) OtherSystem) _ third in
      let right : not (bytes == cell_bytes * device_cells atoms (ring_held cells)) ≡ false =
      not_wrong (not (bytes == cell_bytes * device_cells atoms (ring_held cells))) WrongSize (no_first _ None fourth) in
      eqb-true bytes (cell_bytes * device_cells atoms (ring_held cells)) (not_false _ right)

  -- so many cells
  pub cells_told : cells_in cell_bytes bytes ≡ device_cells atoms (ring_held cells)
  cells_told = let told = size_told in omega arith

  -- which is no more than any device for so many atoms has
  pub cells_most : cells_in cell_bytes bytes ≤ device_cells atoms MOST_RING
  cells_most = let told = cells_told in let most = ring_most cells in omega arith

-- if a first part has a fault, what comes after it does not count
first_alone : {F : Type 0} (found a b later other : Option F) → found ≢ None → first_of (first_of found a) later ≡ first_of (first_of found b) other
first_alone None a b later other some = absurd (some refl)
first_alone (Some fault) a b later other some = refl

-- if something is wrong by the first cell, that is found
same_fault : (plant : PlantDefinition) (digest : List ℕ) (bytes : ℕ) (cells others : List Cell)
    → identity_fault (length plant.atoms) digest bytes others ≡ identity_fault (length plant.atoms) digest bytes cells → identity_fault (length plant.atoms) digest bytes cells ≢ None
    → fault_of plant digest bytes cells ≡ fault_of plant digest bytes others
same_fault plant digest bytes cells others same some =
    first_alone (identity_fault (length plant.atoms) digest bytes cells) (behind cells) (behind others) (leading_fault plant (contents_of (length plant.atoms) cells)) (leading_fault plant (contents_of (length plant.atoms) others)) some
    ∙ ap (λ (o : Option ImageFault). first_of (first_of o (behind others)) (leading_fault plant (contents_of (length plant.atoms) others))) (sym same)
  where
    -- what is wrong after the first cell
    behind : List Cell → Option ImageFault
    behind found = first_fault (base_fault found ∷ first_fault_in (atom_fault found) 0 plant.atoms ∷ records_fault plant found ∷ [])

-- how many cells a device for the plant has at most
abbrev pub most : PlantDefinition → ℕ
most plant = device_cells (length plant.atoms) MOST_RING

module _ (plant : PlantDefinition) (digest : List ℕ) (bytes : ℕ) (all : List Cell) (many : cells_in cell_bytes bytes ≤ most plant → length all ≤ most plant) where
  -- the first cell is among those that are loaded
  first_loaded : cell (take (most plant) all) identity_cell ≡ cell all identity_cell
  first_loaded = get_or-take (most plant) all identity_cell None (omega arith)

  -- nothing is wrong with those that are loaded only if they are all
  pub all_loaded : fault_of plant digest bytes (take (most plant) all) ≡ None → take (most plant) all ≡ all
  all_loaded none =
      let sound = sound_of plant digest bytes (take (most plant) all) (no_first (cells_fault plant digest bytes (take (most plant) all)) _ none) in
      let few : length all ≤ most plant = many (cells_most (length plant.atoms) digest bytes (take (most plant) all) sound.identity) in
      take_all (most plant) all (omega arith)

  too_many : most plant < length all → identity_fault (length plant.atoms) digest bytes (take (most plant) all) ≢ None
  too_many more none = let few : length all ≤ most plant = many (cells_most (length plant.atoms) digest bytes (take (most plant) all) none) in absurd (omega arith)

  -- what is wrong with them is what is wrong with all
  pub loaded_alike : fault_of plant digest bytes (take (most plant) all) ≡ fault_of plant digest bytes all
  loaded_alike = by_test (nat_lt (most plant) (length all)) refl
    where
      by_test : (t : Bool) → nat_lt (most plant) (length all) ≡ t → fault_of plant digest bytes (take (most plant) all) ≡ fault_of plant digest bytes all
      by_test false is = ap (fault_of plant digest bytes) (take_all (most plant) all (ltb-false (most plant) (length all) is))
      by_test true is = same_fault plant digest bytes (take (most plant) all) all
          (sym (identity_same all (take (most plant) all) first_loaded (length plant.atoms) digest bytes))
          (too_many (ltb-true (most plant) (length all) is))

-- what was loaded after some reading is what it would have been before
pub loaded_before : (size count : ℕ) (todays : List Cell → List Cell) (old mid : DiskState) (list : List Cell) → Reads false old mid → old.keeps ≡ true
    → list ≡ take count (todays (seen_cells size mid)) → list ≡ take count (todays (seen_cells size old))
loaded_before size count todays old mid list reads keeps is = is ∙ ap (λ (l : List Cell). take count (todays l)) (reads_seen size old mid reads keeps)

-- Of all cells the first were loaded that any device for the plant has, and their bytes tell how many there are, if a u64 does.
module _ (plant : PlantDefinition) (digest : List ℕ) (bytes told count : ℕ) (all list : List Cell) (few : length plant.atoms ≤ MAX_ATOMS) (size : bytes ≡ told) (long : length all ≡ count)
    (exact : cells_in cell_bytes told < 2 ^ 54 - 1 → cells_in cell_bytes told ≡ count) (loaded : list ≡ take (most plant) all) where
  many : cells_in cell_bytes told ≤ most plant → length all ≤ most plant
  many fit = let same : cells_in cell_bytes told ≡ count = exact (omega arith) in omega arith

  -- so what was loaded tells what is wrong with all
  pub told_alike : fault_of plant digest bytes list ≡ fault_of plant digest told all
  told_alike = ap (λ (n : ℕ). fault_of plant digest n list) size ∙ ap (fault_of plant digest told) loaded ∙ loaded_alike plant digest told all many

  -- and if nothing is, it is all
  pub read_whole : fault_of plant digest bytes list ≡ None → list ≡ all
  read_whole none =
      loaded ∙ all_loaded plant digest told all many
      (ap (fault_of plant digest told) (sym loaded) ∙ ap (λ (n : ℕ). fault_of plant digest n list) (sym size) ∙ none)

-- What was loaded of some cells was judged: so all of them were.
module _ (plant : PlantDefinition) (digest : List ℕ) (told count : ℕ) (keeps : Bool) (all : List Cell) (loaded : Loaded) (few : length plant.atoms ≤ MAX_ATOMS) (long : length all ≡ count)
    (exact : cells_in cell_bytes told < 2 ^ 54 - 1 → cells_in cell_bytes told ≡ count) (was : WasLoadedOf plant told keeps all loaded) where
  -- what is found wrong with it is wrong with all
  pub fault_judged : keeps ≡ true → (fault : ImageFault) → IsFault (fault_of plant digest loaded.bytes loaded.cells.items) fault → IsFault (fault_of plant digest told all) fault
  fault_judged kept fault judged =
      subst (λ (o : Option ImageFault). IsFault o fault) (told_alike plant digest loaded.bytes told count all loaded.cells.items few was.bytes long exact (was.cells kept)) judged

  -- and what stands was read of all
  pub standing_judged : (standing : Standing) → (fault_of plant digest loaded.bytes loaded.cells.items ≡ None) × IsStanding plant loaded.cells.items standing → WasReadOf plant digest told keeps all standing
  standing_judged standing judged = record {
    cells = loaded.cells.items;
    seen = λ kept. read_whole plant digest loaded.bytes told count all loaded.cells.items few was.bytes long exact (was.cells kept) judged.0;
    sound = subst (λ (n : ℕ). fault_of plant digest n loaded.cells.items ≡ None) was.bytes judged.0;
    is = judged.1;
  }

-- what reading judged of the list that was loaded was judged of what was loaded
pub judged_items : (plant : PlantDefinition) (digest : List ℕ) (loaded : Loaded) (list : List Cell) (judged : Result Standing ImageFault) → list ≡ loaded.cells.items
    → Tells (fault_of plant digest loaded.bytes list) (IsStanding plant list) judged → IsJudged plant digest loaded judged
judged_items plant digest loaded list judged same told = subst (λ (l : List Cell). Tells (fault_of plant digest loaded.bytes l) (IsStanding plant l) judged) same told

-- a sync and then reading alone
pub sync_then_read : (old mid new : DiskState) → Counts false true old mid → Reads false mid new → Counts false true old new
sync_then_read old mid new first second = record {
  size = second.counts.size ∙ first.size;
  keeps = second.counts.keeps ∙ first.keeps;
  failures = second.counts.failures ∙ first.failures;
  syncs = second.counts.syncs ∙ first.syncs;
}

-- which may fail
pub sync_up_to_read : (failed : Bool) (old mid new : DiskState) → Counts false true old mid → Reads failed mid new → CountsUpTo failed 1 old new
sync_up_to_read failed old mid new first second = record {
  size = second.counts.size ∙ first.size;
  keeps = second.counts.keeps ∙ first.keeps;
  failures = second.counts.failures ∙ ap (counted failed) first.failures;
  synced = 1;
  few = omega arith;
  syncs = second.counts.syncs ∙ first.syncs;
}

-- what judging comes to that begins with a sync and goes on by reading
pub judged_counts : (r : Result Standing BootFault) (old mid new : DiskState) → Counts false true old mid → Reads (has_failed r) mid new → MatchResult r (λ _. Counts false true old new) (λ fault. CountsUpTo (is_disk fault) 1 old new)
judged_counts (Ok standing) old mid new synced reads = sync_then_read old mid new synced reads
judged_counts (Err fault) old mid new synced reads = sync_up_to_read (is_disk fault) old mid new synced reads

-- what was read before some reading is read after it
pub read_then : {failed : Bool} (plant : PlantDefinition) (digest : List ℕ) (size : ℕ) (told : ℕ → ℕ) (todays : List Cell → List Cell) (standing : Standing) (old new : DiskState) → Reads failed old new
    → WasReadOf plant digest (told (size_of old)) old.keeps (todays (seen_cells size old)) standing → WasReadOf plant digest (told (size_of new)) new.keeps (todays (seen_cells size new)) standing
read_then plant digest size told todays standing old new reads was = record {
  cells = was.cells;
  seen = λ still.
      let keeps : old.keeps ≡ true = sym reads.counts.keeps ∙ still in
      was.seen keeps ∙ ap todays (sym (reads_seen size old new reads keeps));
  sound = subst (λ (n : ℕ). fault_of plant digest (told n) was.cells ≡ None) (sym reads.counts.size) was.sound;
  is = was.is;
}

-- A device was synced, and then it was read alone.
module _ (old mid new : DiskState) (synced : Counts false true old mid) (leaves : old.keeps ≡ true → Leaves (BODY + 1) (MayBe (BODY + 1) old) old mid) (settles : old.keeps ≡ true → Settles (BODY + 1) old mid) where
  same_then : {failed : Bool} → Reads failed mid new → old.keeps ≡ true → seen_cells (BODY + 1) new ≡ seen_cells (BODY + 1) old
  same_then reads keeps = reads_seen (BODY + 1) mid new reads (synced.keeps ∙ keeps) ∙ (settles keeps).same

  leaves_so : {failed : Bool} → Reads failed mid new → old.keeps ≡ true → Leaves (BODY + 1) (MayBe (BODY + 1) old) old new
  leaves_so reads keeps = leaves_reading (BODY + 1) (MayBe (BODY + 1) old) old mid new (leaves keeps) reads (synced.keeps ∙ keeps)

  pub synced_ok : (r : Result Loaded BootFault) → Reads (has_failed r) mid new → OnOk r (IsSynced old new)
  synced_ok (Ok loaded) reads = record {
    counts = sync_then_read old mid new synced reads;
    leaves = leaves_so reads;
    same = same_then reads;
    settled = λ keeps. reads_settled mid new reads (synced.keeps ∙ keeps) (settles keeps).settled;
  }
  synced_ok (Err fault) reads = tt

  pub synced_err : (r : Result Loaded BootFault) → Reads (has_failed r) mid new → IfErr r (λ fault. IsSyncedInPart (is_disk fault) old new)
  synced_err (Ok loaded) reads = tt
  synced_err (Err fault) reads = record {
    counts = sync_up_to_read (is_disk fault) old mid new synced reads;
    leaves = leaves_so reads;
    same = same_then reads;
  }

-- what was loaded before some reading is loaded after it
pub loaded_then : {failed : Bool} (plant : PlantDefinition) (loaded : Loaded) (old new : DiskState) → Reads failed old new → WasLoaded plant old loaded → WasLoaded plant new loaded
loaded_then plant loaded old new reads was = record {
  bytes = was.bytes ∙ sym reads.counts.size;
  cells = λ still.
      let keeps : old.keeps ≡ true = sym reads.counts.keeps ∙ still in
      was.cells keeps ∙ ap (take (most plant)) (sym (reads_seen (BODY + 1) old new reads keeps));
}

-- What was loaded of a device was judged: so the device was.
module _ (plant : PlantDefinition) (digest : List ℕ) (s : DiskState) (loaded : Loaded) (judged : Result Standing ImageFault) (few : length plant.atoms ≤ MAX_ATOMS) (was : WasLoaded plant s loaded) (is : IsJudged plant digest loaded judged) where
  pub device_read : (standing : Standing) → judged ≡ Ok standing → WasRead plant digest s standing
  device_read standing so =
      standing_judged plant digest (size_of s) (cell_count (BODY + 1) s) s.keeps (seen_cells (BODY + 1) s) loaded few (seen_length (BODY + 1) s) (λ told. refl) was standing (subst (IsJudged plant digest loaded) so is)

  -- if nothing is wrong, all that a read gives was loaded
  pub device_loaded : (standing : Standing) → judged ≡ Ok standing → s.keeps ≡ true → loaded.cells.items ≡ seen_cells (BODY + 1) s
  unfolding device_read standing_judged
  device_loaded standing so keeps = (device_read standing so).seen keeps

  pub device_refused : s.keeps ≡ true → (fault : ImageFault) → judged ≡ Err fault → IsFault (fault_of plant digest (size_of s) (seen_cells (BODY + 1) s)) fault
  device_refused keeps fault so =
      fault_judged plant digest (size_of s) (cell_count (BODY + 1) s) s.keeps (seen_cells (BODY + 1) s) loaded few (seen_length (BODY + 1) s) (λ told. refl) was keeps fault (subst (IsJudged plant digest loaded) so is)

-- what is found of a device after a sync was wrong with it before
pub told_before : (plant : PlantDefinition) (digest : List ℕ) (old mid : DiskState) → IsSynced old mid → old.keeps ≡ true → (fault : ImageFault)
    → IsFault (fault_of plant digest (size_of mid) (seen_cells (BODY + 1) mid)) fault → IsFault (fault_of plant digest (size_of old) (seen_cells (BODY + 1) old)) fault
told_before plant digest old mid synced keeps fault told =
    subst (λ (n : ℕ). IsFault (fault_of plant digest n (seen_cells (BODY + 1) old)) fault) synced.counts.size
    (subst (λ (cells : List Cell). IsFault (fault_of plant digest (size_of mid) cells) fault) (synced.same keeps) told)

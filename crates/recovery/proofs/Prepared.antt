-- The plant that what was read makes, and what a stop in the cleaning leaves.
use Rattle.std.proofs.Common.{◌≡◌, inl, inr, ℕ, ◌+◌, ◌≤◌, nat_lt, Bool, true, false, List, [], length, map, replicate, Option, None, Result, Ok, Err, IfErr, refl, sym, ◌∙◌, ap, subst, arith}
use Rattle.std.proofs.lemmas.Bool.{ltb-true, ltb-false}
use Rattle.std.proofs.lemmas.List.{get_or_past, length-map}
use Rattle.std.proofs.lemmas.List.FromFn.{length-map-range_with_len}
use Rattle.petri_atom.specs.Local.{Local}
use Rattle.disk_model.specs.Cells.{Cell, cells_in, cell_count, seen_cells, Leaves, MayBe}
use Rattle.disk_model.specs.DiskState.{Counts, CountsTwo, CountsUpTo, DiskState, counted, size_of}
use Rattle.disk_model.specs.Moments.{leaves_then, leaves_weaker}
use Rattle.disk_model.specs.declared.cells.TheConstants.{BODY}
use Rattle.gated_journal.specs.Rings.{IsWhole, cells_of_ring}
use Rattle.gated_journal.specs.Stops.{HasCleaned, IsReady}
use Rattle.gated_journal.specs.declared.ring.Ring.{Ring}
use Rattle.record_codec.specs.Fired.{FiredFields}
use Rattle.record_codec.specs.Saved.{SavedFields}
use Rattle.record_replay.specs.Records.{count_of}
use Rattle.record_replay.proofs.OverRecords.{replay-grows}
use Rattle.plant_model.specs.Plant.{PlantDefinition}
use Rattle.plant_model.specs.declared.limits.TheConstants.{MAX_ATOMS}
use Rattle.step_core.specs.Job.{JobDefinition}
use Rattle.plant_image.specs.Contents.{Contents, contents_of, counts_of, last_number, newest_held, ring_in, saved_position, unsaved}
use Rattle.plant_image.specs.Faults.{cells_fault, fault_of, leading_fault}
use Rattle.plant_image.specs.Reading.{IsStanding, contents_in}
use Rattle.plant_image.specs.Standing.{Leads, StandsFor}
use Rattle.plant_image.specs.declared.standing.Standing.{Standing}
use Rattle.plant_image.proofs.AtomSlots.{no_first}
use Rattle.plant_image.proofs.ByAtoms.{counts_past, element_at}
use Rattle.plant_image.proofs.CleanedImages.{cleaned_none, cleaned_same}
use Rattle.plant_image.proofs.KeptCells.{sound_of}
use Rattle.plant_image.proofs.Standings.{base_some, stands_leads, leads_stands}
use Rattle.plant_core.specs.Invariant.{IsAtRest}
use Rattle.plant_core.specs.Marks.{mark_of, marks_of}
use Rattle.plant_core.specs.Snapshots.{SnapshotFields, known_of, nothing_kept}
use Rattle.plant_core.specs.View.{view_by}
use Rattle.plant_core.proofs.Marking.{count-known}
use Rattle.trimmer.specs.Covered.{MarkFields, saved_count}
use Rattle.recovery.specs.Booting.{IsBooted, IsBooting, StandAlike}
use Rattle.recovery.specs.MadeOf.{WasRead}
use Rattle.recovery.proofs.PartlyLoaded.{cells_told}

-- the same counts lead to the same
leads_counted : (plant : PlantDefinition) (c : Contents) (states : List Local) (counts others : List ℕ) (number : ℕ) → ((atom : ℕ) → count_of others atom ≡ count_of counts atom) → length plant.atoms ≤ length others
    → Leads plant c states counts number → Leads plant c states others number
leads_counted plant c states counts others number same long leads = record {
  last = leads.last;
  as_many = leads.as_many;
  counted = long;
  each = λ atom a s at its. leads.each atom a s at its ∙ ap (λ (n : ℕ). Ok (record { state = s; count = n })) (sym (same atom));
  within = λ atom below. omega (arith, leads.within atom below, same atom);
  accounted = λ atom below. omega (arith, leads.accounted atom below, same atom);
  copied = leads.copied;
}

-- what holds whatever a result is holds of its error
pub where-err : {V E P : Type 0} (result : Result V E) → P → IfErr result (λ _. P)
where-err (Ok value) holds = tt
where-err (Err fault) holds = holds

module _ (plant : PlantDefinition) (digest : List ℕ) (bytes : ℕ) (cells : List Cell) (standing : Standing) (sound : fault_of plant digest bytes cells ≡ None) (is : IsStanding plant cells standing) where
  abbrev pub held : Contents
  held = contents_of (length plant.atoms) cells

  pub cells_none : cells_fault plant digest bytes cells ≡ None
  cells_none = no_first (cells_fault plant digest bytes cells) (leading_fault plant held) sound

  -- they stand for what was read
  pub stood : StandsFor plant digest bytes cells standing.states (last_number held)
  stood = record { sound = sound; states_are = sym is.led.states; number_is = refl }

  -- no atom has taken part more often than there were firings
  pub counts_within : (atom : ℕ) → count_of standing.counts atom ≤ last_number held
  counts_within atom = by_test (nat_lt atom (length plant.atoms)) refl
    where
      by_test : (t : Bool) → nat_lt atom (length plant.atoms) ≡ t → count_of standing.counts atom ≤ last_number held
      by_test true below = omega (arith, is.led.counts atom, (stands_leads plant digest bytes cells standing.states (last_number held) stood).within atom (ltb-true atom (length plant.atoms) below))
      by_test false past = omega (arith, is.led.counts atom, counts_past held plant atom (ltb-false atom (length plant.atoms) past))

  -- a slot is known of each atom
  pub slots_many : length held.slots ≡ length plant.atoms
  slots_many = length-map-range_with_len (newest_held cells) 0 (length plant.atoms)

  -- no atom had taken part more often when its newest state was saved: a replay never counts back
  pub known_within : (atom : ℕ) → saved_count (map known_of held.slots) atom ≤ count_of standing.counts atom
  known_within atom = by_test (nat_lt atom (length plant.atoms)) refl
    where
      known : saved_count (map known_of held.slots) atom ≡ (saved_position held atom).count
      known = count-known held.slots atom (unsaved atom) refl

      by_test : (t : Bool) → nat_lt atom (length plant.atoms) ≡ t → saved_count (map known_of held.slots) atom ≤ count_of standing.counts atom
      by_test true below =
          let led = stands_leads plant digest bytes cells standing.states (last_number held) stood in
          let a = element_at plant.atoms atom (ltb-true atom (length plant.atoms) below) in
          let s = element_at standing.states atom (omega (arith, ltb-true atom (length plant.atoms) below, led.as_many)) in
          let grows : (saved_position held atom).count ≤ count_of (counts_of plant held) atom =
          replay-grows a.0 atom (saved_position held atom).count held.records (saved_position held atom) _ (led.each atom a.0 s.0 a.1 s.1) in
          omega (arith, known, grows, is.led.counts atom)
      by_test false past =
          let never : (saved_position held atom).count ≡ 0 = ap (λ (s : SavedFields). s.count) (get_or_past held.slots atom (unsaved atom) (omega (arith, ltb-false atom (length plant.atoms) past, slots_many))) in
          omega (arith, known, never)

  -- the device has the cells of the journal
  pub cells_inside : (s : DiskState) → size_of s ≡ bytes → cells_of_ring (ring_in (length plant.atoms) held) ≤ cell_count (BODY + 1) s
  cells_inside s same =
      let sized = cells_told (length plant.atoms) digest bytes cells (sound_of plant digest bytes cells cells_none).identity in
      let there : cell_count (BODY + 1) s ≡ cells_in (BODY + 1) bytes = ap (cells_in (BODY + 1)) same in
      omega arith

  -- what is made in memory shows what stands
  pub shows : (acked : List Local) (counts : List ℕ) (j : Ring) (marks : List MarkFields) (known : SnapshotFields) (away : List (Option JobDefinition)) → acked ≡ standing.states → counts ≡ standing.counts → j ≡ ring_in (length plant.atoms) held → marks ≡ marks_of held.records → known ≡ nothing_kept held.slots → away ≡ replicate (length plant.atoms) None
      → IsBooted plant digest bytes cells (view_by acked counts j.last [] acked counts j marks known away false)
  shows acked counts j marks known away states same journal marked snapshots none_away = record {
    sound = sound;
    acked = states ∙ is.led.states;
    number = ap (λ (r : Ring). r.last) journal;
    acked_counts = λ atom. ap (λ (l : List ℕ). count_of l atom) same ∙ is.led.counts atom;
    tail = refl;
    present = refl;
    counts = refl;
    base = ap (λ (r : Ring). r.base) journal;
    ring = ap (λ (r : Ring). r.ring) journal;
    marks = marked;
    saved = ap (λ (k : SnapshotFields). k.saved) snapshots;
    kept = ap (λ (k : SnapshotFields). k.kept) snapshots ∙ ap (λ (n : ℕ). replicate n None) slots_many;
    away = none_away;
    broken = refl;
  }

  module _ (long : length plant.atoms ≤ length standing.counts) where
    leads : Leads plant held standing.states standing.counts (last_number held)
    leads = leads_counted plant held standing.states (counts_of plant held) standing.counts (last_number held) is.led.counts long
        (stands_leads plant digest bytes cells standing.states (last_number held) stood)

    module _ (after : List Cell) (cleaned : HasCleaned (ring_in (length plant.atoms) held) cells after) where
      pub after_none : cells_fault plant digest bytes after ≡ None
      after_none = cleaned_none plant digest bytes cells after (sound_of plant digest bytes cells cells_none) cleaned

      pub after_same : contents_of (length plant.atoms) after ≡ held
      after_same = cleaned_same plant digest bytes cells after (sound_of plant digest bytes cells cells_none) cleaned

      after_leads : Leads plant (contents_of (length plant.atoms) after) standing.states standing.counts (last_number held)
      after_leads = subst (λ c. Leads plant c standing.states standing.counts (last_number held)) (sym after_same) leads

      -- cells that are cleaned, in part or all, stand for the same
      pub stand_alike : StandAlike plant digest bytes cells after
      stand_alike = record {
        states = standing.states;
        number = last_number held;
        stood = stood;
        stand = leads_stands plant digest bytes after standing.states (last_number held) standing.counts after_none after_leads;
        held = after_same;
      }

    -- and a device that is cleaned is at rest
    pub rests_cleaned : (new : DiskState) → size_of new ≡ bytes → IsReady (ring_in (length plant.atoms) held) new → HasCleaned (ring_in (length plant.atoms) held) cells (seen_cells (BODY + 1) new)
        → IsAtRest plant digest (ring_in (length plant.atoms) held) standing.states standing.counts (last_number held) (map known_of held.slots) new
    rests_cleaned new same ready cleaned = record {
      ready = ready;
      sound = subst (λ (n : ℕ). cells_fault plant digest n (seen_cells (BODY + 1) new) ≡ None) (sym same) (after_none (seen_cells (BODY + 1) new) cleaned);
      journal = ap (ring_in (length plant.atoms)) (sym (after_same (seen_cells (BODY + 1) new) cleaned));
      leads = after_leads (seen_cells (BODY + 1) new) cleaned;
      slots = ap (λ (c : Contents). map known_of c.slots) (sym (after_same (seen_cells (BODY + 1) new) cleaned));
    }

-- before the cleaning a stop leaves what it left at the start
pub still_old : (plant : PlantDefinition) (digest : List ℕ) (old mid : DiskState) → Leaves (BODY + 1) (MayBe (BODY + 1) old) old mid → Leaves (BODY + 1) (IsBooting plant digest old) old mid
still_old plant digest old mid run = leaves_weaker (BODY + 1) (MayBe (BODY + 1) old) (IsBooting plant digest old) old mid (λ cells may. inl may) run

-- ---- a device, from which it was read

module _ (plant : PlantDefinition) (digest : List ℕ) (mid : DiskState) (standing : Standing) (was : WasRead plant digest mid standing) (j : Ring) (journal : j ≡ ring_in (length plant.atoms) (contents_in standing.held)) where
  -- the journal is that of what was read
  pub ring_read : j ≡ ring_in (length plant.atoms) (contents_of (length plant.atoms) was.cells)
  ring_read = journal ∙ ap (ring_in (length plant.atoms)) was.is.led.contents

  -- it reads whole
  pub whole_read : mid.keeps ≡ true → IsWhole j (seen_cells (BODY + 1) mid)
  whole_read keeps = subst (λ r. IsWhole r (seen_cells (BODY + 1) mid)) (sym ring_read)
      (subst (λ (cells : List Cell). IsWhole (ring_in (length plant.atoms) (contents_of (length plant.atoms) was.cells)) cells) (was.seen keeps) was.is.in_range.read.whole)

  -- and its cells are there
  pub inside_read : (s : DiskState) → size_of s ≡ size_of mid → cells_of_ring j ≤ cell_count (BODY + 1) s
  inside_read s same = subst (λ (r : Ring). cells_of_ring r ≤ cell_count (BODY + 1) s) (sym ring_read) (cells_inside plant digest (size_of mid) was.cells standing was.sound was.is s same)

  pub last_read : (atom : ℕ) → count_of standing.counts atom ≤ j.last
  last_read atom = subst (λ (r : Ring). count_of standing.counts atom ≤ r.last) (sym ring_read) (counts_within plant digest (size_of mid) was.cells standing was.sound was.is atom)

  cleaned_read : mid.keeps ≡ true → (cells : List Cell) → HasCleaned j (seen_cells (BODY + 1) mid) cells → HasCleaned (ring_in (length plant.atoms) (contents_of (length plant.atoms) was.cells)) was.cells cells
  cleaned_read keeps cells cleaned = subst (λ (before : List Cell). HasCleaned (ring_in (length plant.atoms) (contents_of (length plant.atoms) was.cells)) before cells) (sym (was.seen keeps))
      (subst (λ r. HasCleaned r (seen_cells (BODY + 1) mid) cells) ring_read cleaned)

  -- what is known of saved states is what stands in the slots that were read
  known_read : (known : SnapshotFields) → known ≡ nothing_kept (contents_in standing.held).slots → known ≡ nothing_kept (contents_of (length plant.atoms) was.cells).slots
  known_read known made = made ∙ ap (λ (c : Contents). nothing_kept c.slots) was.is.led.contents

  -- so it is known of each atom
  pub known_many : (known : SnapshotFields) → known ≡ nothing_kept (contents_in standing.held).slots → length known.saved ≡ length plant.atoms
  known_many known made =
      ap (λ (k : SnapshotFields). length k.saved) (known_read known made) ∙
      length-map (contents_of (length plant.atoms) was.cells).slots known_of ∙
      slots_many plant digest (size_of mid) was.cells standing was.sound was.is

  -- there is a mark for each live record
  pub marks_read : (marks : List MarkFields) → marks ≡ marks_of (contents_in standing.held).records → j.base + length marks ≡ j.last + 1
  marks_read marks made =
      let records : List FiredFields = (contents_of (length plant.atoms) was.cells).records in
      let many : length marks ≡ length records = ap length (made ∙ ap (λ (c : Contents). marks_of c.records) was.is.led.contents) ∙ length-map records mark_of in
      omega (arith, many, ap (λ (r : Ring). r.base) ring_read, ap (λ (r : Ring). r.last) ring_read, base_some was.cells)

  -- no saved state includes more of its atom's firings than there were
  pub within_read : (known : SnapshotFields) → known ≡ nothing_kept (contents_in standing.held).slots → (atom : ℕ) → saved_count known.saved atom ≤ count_of standing.counts atom
  within_read known made atom = subst (λ (k : SnapshotFields). saved_count k.saved atom ≤ count_of standing.counts atom) (sym (known_read known made)) (known_within plant digest (size_of mid) was.cells standing was.sound was.is atom)

  -- there are as many as there are slots that were read
  as_many_read : (known : SnapshotFields) → known ≡ nothing_kept (contents_in standing.held).slots → length (contents_in standing.held).slots ≡ length known.saved
  as_many_read known made = sym (length-map (contents_in standing.held).slots known_of) ∙ ap (λ (k : SnapshotFields). length k.saved) (sym made)

  -- none was asked for
  pub none_read : (known : SnapshotFields) → known ≡ nothing_kept (contents_in standing.held).slots → known.kept ≡ replicate (length known.saved) None
  none_read known made = ap (λ (k : SnapshotFields). k.kept) made ∙ ap (λ (n : ℕ). replicate n None) (as_many_read known made)

  -- and no slot was written
  pub none_written_read : (known : SnapshotFields) → known ≡ nothing_kept (contents_in standing.held).slots → known.next_slots ≡ replicate (length known.saved) None
  none_written_read known made = ap (λ (k : SnapshotFields). k.next_slots) made ∙ ap (λ (n : ℕ). replicate n None) (as_many_read known made)

  module _ (long : length standing.counts ≡ MAX_ATOMS) where
    enough : length plant.atoms ≤ length standing.counts
    enough = let few = was.is.in_range.ring.atoms in omega arith

    -- what a stop in the cleaning leaves stands for the same
    alike_read : (old : DiskState) → mid.keeps ≡ true → size_of mid ≡ size_of old → seen_cells (BODY + 1) mid ≡ seen_cells (BODY + 1) old
        → (cells : List Cell) → HasCleaned j (seen_cells (BODY + 1) mid) cells → StandAlike plant digest (size_of old) (seen_cells (BODY + 1) old) cells
    alike_read old keeps size same cells cleaned =
        subst (λ (n : ℕ). StandAlike plant digest n (seen_cells (BODY + 1) old) cells) size
        (subst (λ (before : List Cell). StandAlike plant digest (size_of mid) before cells) (was.seen keeps ∙ same)
        (stand_alike plant digest (size_of mid) was.cells standing was.sound was.is enough cells (cleaned_read keeps cells cleaned)))

    -- so a stop up to its end leaves what it left at the start, or what stands for the same
    pub stops_read : (old new : DiskState) → mid.keeps ≡ true → size_of mid ≡ size_of old → seen_cells (BODY + 1) mid ≡ seen_cells (BODY + 1) old
        → Leaves (BODY + 1) (MayBe (BODY + 1) old) old mid → Leaves (BODY + 1) (HasCleaned j (seen_cells (BODY + 1) mid)) mid new → Leaves (BODY + 1) (IsBooting plant digest old) old new
    stops_read old new keeps size same first second =
        leaves_then (BODY + 1) (IsBooting plant digest old) old mid new (still_old plant digest old mid first)
        (leaves_weaker (BODY + 1) (HasCleaned j (seen_cells (BODY + 1) mid)) (IsBooting plant digest old) mid new (λ cells cleaned. inr (alike_read old keeps size same cells cleaned)) second)

    -- the marks are those of the records that it holds after the cleaning
    pub marked_read : (new : DiskState) (marks : List MarkFields) → mid.keeps ≡ true → marks ≡ marks_of (contents_in standing.held).records → HasCleaned j (seen_cells (BODY + 1) mid) (seen_cells (BODY + 1) new)
        → marks ≡ marks_of (contents_of (length plant.atoms) (seen_cells (BODY + 1) new)).records
    marked_read new marks keeps made cleaned =
        made ∙
        ap (λ (c : Contents). marks_of c.records) was.is.led.contents ∙
        sym (ap (λ (c : Contents). marks_of c.records) (after_same plant digest (size_of mid) was.cells standing was.sound was.is enough (seen_cells (BODY + 1) new) (cleaned_read keeps (seen_cells (BODY + 1) new) cleaned)))

    -- and after it the device is at rest
    pub rests_read : (new : DiskState) (acked : List Local) (counts : List ℕ) (known : SnapshotFields) → mid.keeps ≡ true → size_of new ≡ size_of mid → acked ≡ standing.states → counts ≡ standing.counts
        → known ≡ nothing_kept (contents_in standing.held).slots → IsReady j new → HasCleaned j (seen_cells (BODY + 1) mid) (seen_cells (BODY + 1) new) → IsAtRest plant digest j acked counts j.last known.saved new
    rests_read new acked counts known keeps size states same made ready cleaned =
        let rest = rests_cleaned plant digest (size_of mid) was.cells standing was.sound was.is enough new size (subst (λ r. IsReady r new) ring_read ready) (cleaned_read keeps (seen_cells (BODY + 1) new) cleaned) in
        subst (λ (r : Ring). IsAtRest plant digest r acked counts r.last known.saved new) (sym ring_read)
        (subst (λ (ss : List Local). IsAtRest plant digest ring ss counts (last_number read) known.saved new) (sym states)
        (subst (λ (ns : List ℕ). IsAtRest plant digest ring standing.states ns (last_number read) known.saved new) (sym same)
        (subst (λ (k : SnapshotFields). IsAtRest plant digest ring standing.states standing.counts (last_number read) k.saved new) (sym (known_read known made)) rest)))
      where
        read : Contents
        read = contents_of (length plant.atoms) was.cells

        ring : Ring
        ring = ring_in (length plant.atoms) read

  -- it shows what a read gave
  pub shows_read : (old : DiskState) (acked : List Local) (counts : List ℕ) (marks : List MarkFields) (known : SnapshotFields) (away : List (Option JobDefinition)) → mid.keeps ≡ true → size_of mid ≡ size_of old → seen_cells (BODY + 1) mid ≡ seen_cells (BODY + 1) old
      → acked ≡ standing.states → counts ≡ standing.counts → marks ≡ marks_of (contents_in standing.held).records → known ≡ nothing_kept (contents_in standing.held).slots → away ≡ replicate (length plant.atoms) None
      → IsBooted plant digest (size_of old) (seen_cells (BODY + 1) old) (view_by acked counts j.last [] acked counts j marks known away false)
  shows_read old acked counts marks known away keeps size seen states same marked made none_away =
      subst (λ (n : ℕ). IsBooted plant digest n (seen_cells (BODY + 1) old) (view_by acked counts j.last [] acked counts j marks known away false)) size
      (subst (λ (cells : List Cell). IsBooted plant digest (size_of mid) cells (view_by acked counts j.last [] acked counts j marks known away false)) (was.seen keeps ∙ seen)
      (shows plant digest (size_of mid) was.cells standing was.sound was.is acked counts j marks known away states same ring_read (marked ∙ ap (λ (c : Contents). marks_of c.records) was.is.led.contents) (known_read known made) none_away))

-- two calls of one sync each
pub counts_two : (old mid new : DiskState) → Counts false true old mid → Counts false true mid new → CountsTwo true old new
counts_two old mid new first second = record {
  size = second.size ∙ first.size;
  keeps = second.keeps ∙ first.keeps;
  failures = second.failures ∙ first.failures;
  ok_syncs = λ ok. second.syncs ∙ ap (counted true) first.syncs;
  err_syncs = λ err. absurd (let err = err in cc);
}

-- and if the second failed
pub counts_one : (old mid new : DiskState) → Counts false true old mid → Counts true false mid new → CountsUpTo true 1 old new
counts_one old mid new first second = record {
  size = second.size ∙ first.size;
  keeps = second.keeps ∙ first.keeps;
  failures = second.failures ∙ ap (counted true) first.failures;
  synced = 1;
  few = omega arith;
  syncs = second.syncs ∙ first.syncs;
}

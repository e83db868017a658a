-- Records are dropped that no restart needs: what a stop leaves then, and that the device is at rest after it.
use Rattle.std.proofs.Common.{◌≡◌, ⊎_elim, ℕ, ◌+◌, ◌-◌, ◌<◌, ◌≤◌, refl, sym, ◌∙◌, ap, subst, List, [], ◌++◌, length, map, take, drop, arith, None, Ok, true}
use Rattle.std.specs.List.{list_all, prefix_len}
use Rattle.std.proofs.Math.Seq.{take-append-add}
use Rattle.std.proofs.lemmas.Bool.{and_parts, cases_lt}
use Rattle.std.proofs.lemmas.List.{append-nil, append_assoc, drop-drop, length-drop, length-map, length-take, length-take-le, take-append-drop, take-append-le, take-take}
use Rattle.std.proofs.lemmas.List.Folds.{list_all-append}
use Rattle.petri_atom.specs.Definition.{AtomDefinition}
use Rattle.petri_atom.specs.Local.{Local}
use Rattle.disk_model.specs.Cells.{Cell, Leaves, seen_cells}
use Rattle.disk_model.specs.DiskState.{DiskState, size_of}
use Rattle.disk_model.specs.Moments.{leaves_weaker}
use Rattle.disk_model.specs.declared.cells.TheConstants.{BODY}
use Rattle.gated_journal.specs.Bases.{other_cell}
use Rattle.gated_journal.specs.Stops.{HasMoved, IsMoved, IsMovedOrNot, moved}
use Rattle.gated_journal.specs.declared.ring.Ring.{Ring}
use Rattle.record_codec.specs.Fired.{FiredFields}
use Rattle.record_codec.specs.Saved.{SavedFields}
use Rattle.record_replay.specs.Records.{records_of}
use Rattle.record_replay.specs.Replay.{Position, is_included, replay_from}
use Rattle.record_replay.proofs.OverRecords.{replay-behind, same_Ok}
use Rattle.snapshot_writer.specs.Parcels.{local_in}
use Rattle.plant_model.specs.Plant.{PlantDefinition}
use Rattle.trimmer.specs.Covered.{is_covered, saved_count}
use Rattle.trimmer.specs.declared.saved.SavedAt.{SavedAt}
use Rattle.plant_image.specs.Contents.{Contents, contents_of, last_number, ring_in, saved_position, unsaved}
use Rattle.plant_image.specs.Faults.{cells_fault}
use Rattle.plant_image.specs.Standing.{AreIncluded, IsOnTheWay, Leads, StandsFor, cut_to, with_records}
use Rattle.plant_image.proofs.KeptCells.{IsSound, sound_of}
use Rattle.plant_image.proofs.MovedImages.{moved_none, moved_reads, unmoved_none, unmoved_reads}
use Rattle.plant_image.proofs.OnContents.{cut_leads}
use Rattle.plant_image.proofs.Standings.{base_some, leads_stands}
use Rattle.plant_core.specs.Invariant.{AreMarked, AreOnTheWay, FitsTogether, IsAtRest}
use Rattle.plant_core.specs.Marks.{mark_of, marks_of}
use Rattle.plant_core.specs.Snapshots.{known_of}
use Rattle.plant_core.specs.View.{View, acked_marks, may_go, with_cut}
use Rattle.plant_core.proofs.Firing.{changed-fits}
use Rattle.plant_core.proofs.Marking.{count-known, front-dropped, gone-behind, prefix-within}

-- ---- the device

module _ (plant : PlantDefinition) (digest : List ℕ) (j : Ring) (acked : List Local) (counts : List ℕ) (number : ℕ) (known : List SavedAt) (old : DiskState) (rest : IsAtRest plant digest j acked counts number known old)
    (count : ℕ) (some : 1 ≤ count) (few : count ≤ prefix_len (is_covered known) (marks_of (contents_of (length plant.atoms) (seen_cells (BODY + 1) old)).records)) where
  abbrev before : List Cell
  before = seen_cells (BODY + 1) old

  abbrev held : Contents
  held = contents_of (length plant.atoms) before

  abbrev ring : Ring
  ring = ring_in (length plant.atoms) held

  judged : IsSound plant digest (size_of old) before
  judged = sound_of plant digest (size_of old) before rest.sound

  pub short : count ≤ length held.records
  short = omega (arith, few, prefix-within (is_covered known) (marks_of held.records), length-map held.records mark_of)

  pub behind : AreIncluded held (take count held.records)
  behind = gone-behind held known count rest.slots few

  -- without these records the contents lead to the same
  led : (base_cell : ℕ) → Leads plant (cut_to base_cell (held.base + count) held) acked counts number
  led base_cell = cut_leads plant held acked counts number rest.leads base_cell count short behind

  module _ (cells : List Cell) where
    module _ (left : IsMoved (held.base + count) ring before cells) where
      sound : cells_fault plant digest (size_of old) cells ≡ None
      sound = moved_none plant digest (size_of old) before cells judged (held.base + count) (omega (arith, some)) (omega (arith, short)) left

      reads : contents_of (length plant.atoms) cells ≡ cut_to (other_cell ring) (held.base + count) held
      reads = moved_reads plant digest (size_of old) before cells judged (held.base + count) (omega (arith, some)) (omega (arith, short)) left

    stop-stands : IsMovedOrNot (j.base + count) j before cells → StandsFor plant digest (size_of old) cells acked number
    stop-stands left = ⊎_elim
        (λ same. leads_stands plant digest (size_of old) cells acked number counts (unmoved_none plant digest (size_of old) before cells judged same)
        (subst (λ c. Leads plant c acked counts number) (sym (unmoved_reads plant digest (size_of old) before cells judged same)) rest.leads))
        (λ cut. leads_stands plant digest (size_of old) cells acked number counts (sound cut) (subst (λ c. Leads plant c acked counts number) (sym (reads cut)) (led (other_cell ring))))
        (subst (λ (r : Ring). IsMovedOrNot (r.base + count) r before cells) rest.journal left)

  -- whatever a stop leaves stands for what is acknowledged
  pub trimmed-stops : (new : DiskState) → Leaves (BODY + 1) (IsMovedOrNot (j.base + count) j before) old new → Leaves (BODY + 1) (λ cells. StandsFor plant digest (size_of old) cells acked number) old new
  trimmed-stops new left = leaves_weaker (BODY + 1) (IsMovedOrNot (j.base + count) j before) (λ cells. StandsFor plant digest (size_of old) cells acked number) old new stop-stands left

  module _ (new : DiskState) (done : HasMoved (j.base + count) j old new) where
    abbrev after : List Cell
    after = seen_cells (BODY + 1) new

    is : IsMoved (held.base + count) ring before after
    is = subst (λ (r : Ring). IsMoved (r.base + count) r before after) rest.journal done.is

    pub trimmed-contents : contents_of (length plant.atoms) after ≡ cut_to (other_cell ring) (held.base + count) held
    trimmed-contents = reads after is

    same-last : last_number held ≡ last_number (cut_to (other_cell ring) (held.base + count) held)
    same-last = omega (arith, short, length-drop (held.base + count - held.base) held.records, base_some before)

    pub trimmed-rest : size_of new ≡ size_of old → IsAtRest plant digest (moved (j.base + count) j) acked counts number known new
    trimmed-rest same = record {
      ready = done.ready rest.ready;
      sound = subst (λ (bytes : ℕ). cells_fault plant digest bytes after ≡ None) (sym same) (sound after is);
      journal = ap (λ (r : Ring). moved (r.base + count) r) rest.journal ∙
          ap (λ (n : ℕ). record ring { base = held.base + count; base_cell = other_cell ring; last = n }) same-last ∙
          sym (ap (ring_in (length plant.atoms)) trimmed-contents);
      leads = subst (λ c. Leads plant c acked counts number) (sym trimmed-contents) (led (other_cell ring));
      slots = rest.slots ∙ sym (ap (λ (c : Contents). map known_of c.slots) trimmed-contents);
    }

-- ---- the copies that are kept

module _ (c : Contents) (a : AtomDefinition) (saved : SavedFields) (count : ℕ) (news : List FiredFields) (short : count ≤ length c.records) (behind : AreIncluded c (take count c.records)) (newer : (saved_position c saved.atom).count < saved.count)
    (way : IsOnTheWay (with_records news c) a saved) where
  abbrev k : ℕ
  k = saved.at + 1 - c.base

  abbrev p : Position
  p = saved_position c saved.atom

  abbrev q : Position
  q = record { state = local_in saved; count = saved.count }

  -- a replay over records that are behind the newest state ends where it begins
  passed : (xs : List FiredFields) → list_all (is_included saved.atom p.count) xs ≡ true → replay_from a saved.atom p xs ≡ Ok p
  passed xs all = ap (replay_from a saved.atom p) (sym (append-nil xs)) ∙ replay-behind a saved.atom p.count xs [] p all

  -- so more than those are needed to reach the copy
  far : count ≤ k
  far = ⊎_elim
      (λ near.
      let fewer : take k c.records ≡ take k (take count c.records) = sym (take-take k count c.records (omega (arith, near))) in
      let split : take k (take count c.records) ++ drop k (take count c.records) ≡ take count c.records = take-append-drop k (take count c.records) in
      let all : list_all (is_included saved.atom p.count) (take k (take count c.records)) ≡ true =
      (and_parts _ _ (sym (list_all-append (is_included saved.atom p.count) (take k (take count c.records)) (drop k (take count c.records))) ∙ ap (list_all (is_included saved.atom p.count)) split ∙ behind saved.atom)).0 in
      let reached : replay_from a saved.atom p (take k c.records) ≡ Ok q = ap (replay_from a saved.atom p) (sym (take-append-le k c.records news (omega (arith, near, short)))) ∙ way.reached in
      let stays : replay_from a saved.atom p (take k c.records) ≡ Ok p = ap (replay_from a saved.atom p) fewer ∙ passed (take k (take count c.records)) all in
      let same : p ≡ q = same_Ok p q (sym stays ∙ reached) in
      absurd (omega (arith, newer, ap (λ (x : Position). x.count) same)))
      (λ past. past)
      (cases_lt k count)

  -- the records that lead to it, without the first ones
  rest-of : take k (c.records ++ news) ≡ take count c.records ++ take (k - count) (drop count c.records ++ news)
  rest-of =
      let long : length (take count c.records) ≡ count = length-take-le count c.records short in
      ap (λ rs. take k (rs ++ news)) (sym (take-append-drop count c.records)) ∙
      ap (take k) (append_assoc (take count c.records) (drop count c.records) news) ∙
      ap (λ (n : ℕ). take n (take count c.records ++ (drop count c.records ++ news))) (omega (arith, long, far)) ∙
      take-append-add (take count c.records) (drop count c.records ++ news) (k - count)

  same-count : c.base + count - c.base ≡ count
  same-count = omega arith

  fewer : saved.at + 1 - (c.base + count) ≡ k - count
  fewer = omega arith

  pub way-cut : (base_cell : ℕ) → IsOnTheWay (with_records news (cut_to base_cell (c.base + count) c)) a saved
  way-cut base_cell = record {
    from = omega (arith, far, way.from);
    later = way.later;
    reached =
        ap (λ (n : ℕ). replay_from a saved.atom p (take (saved.at + 1 - (c.base + count)) (drop n c.records ++ news))) same-count ∙
        ap (λ (n : ℕ). replay_from a saved.atom p (take n (drop count c.records ++ news))) fewer ∙
        sym (replay-behind a saved.atom p.count (take count c.records) (take (k - count) (drop count c.records ++ news)) p (behind saved.atom)) ∙
        ap (replay_from a saved.atom p) (sym rest-of) ∙
        way.reached;
  }

-- ---- the plant

module _ (plant : PlantDefinition) (v : View) (bodies : List (List ℕ)) (kept : FitsTogether plant v bodies) (count : ℕ) (within : count ≤ v.number + 1 - v.base) where
  -- what is in memory fits together without the first marks
  pub cut-fits : FitsTogether plant (with_cut count v) bodies
  cut-fits = changed-fits plant v bodies kept (v.base + count) (drop count v.marks) v.saved v.kept v.away v.broken
      (omega (arith, kept.base_from)) (omega (arith, kept.base_to, within)) (omega (arith, kept.room)) (omega (arith, kept.marks_many, kept.base_to, within, length-drop count v.marks))
      (drop-drop (v.number + 1 - (v.base + count)) count v.marks ∙ ap (λ (n : ℕ). drop n v.marks) (omega (arith, kept.base_to, within)) ∙ kept.marks_of_tail)
      kept.snapshots

  module _ (cells after : List Cell) (base_cell : ℕ) (based : v.base ≡ (contents_of (length plant.atoms) cells).base) (reads : contents_of (length plant.atoms) after ≡ cut_to base_cell ((contents_of (length plant.atoms) cells).base + count) (contents_of (length plant.atoms) cells)) where
    abbrev here : Contents
    here = contents_of (length plant.atoms) cells

    pub cut-marked : AreMarked plant v cells → AreMarked plant (with_cut count v) after
    cut-marked marked =
        let front : take (count + (v.number + 1 - (v.base + count))) v.marks ≡ marks_of here.records = ap (λ (n : ℕ). take n v.marks) (omega (arith, within, kept.base_to)) ∙ marked in
        front-dropped count (v.number + 1 - (v.base + count)) v.marks here.records front ∙
        ap (λ (n : ℕ). marks_of (drop n here.records)) (omega arith) ∙
        sym (ap (λ (c : Contents). marks_of c.records) reads)

    pub ways-cut : v.saved ≡ map known_of here.slots → count ≤ length here.records → AreIncluded here (take count here.records) → AreOnTheWay plant v cells → AreOnTheWay plant (with_cut count v) after
    ways-cut known short behind ways = λ atom saved a there at.
        let counted : saved_count v.saved saved.atom ≡ (saved_position here saved.atom).count = ap (λ (ks : List SavedAt). saved_count ks saved.atom) known ∙ count-known here.slots saved.atom (unsaved saved.atom) refl in
        subst (λ d. IsOnTheWay (with_records (records_of plant v.acked v.acked_counts v.number v.tail) d) a saved) (sym reads)
        (way-cut here a saved count (records_of plant v.acked v.acked_counts v.number v.tail) short behind (omega (arith, counted, (kept.snapshots.copies atom saved there).newer)) (ways atom saved a there at) base_cell)

-- no more records may go than are acknowledged
pub go-within : (v : View) → may_go v ≤ v.number + 1 - v.base
go-within v = omega (arith, prefix-within (is_covered v.saved) (acked_marks v), length-take (v.number + 1 - v.base) v.marks)

-- ---- a trim

module _ (plant : PlantDefinition) (v : View) (bodies : List (List ℕ)) (kept : FitsTogether plant v bodies) (digest : List ℕ) (j : Ring) (old : DiskState) (rest : IsAtRest plant digest j v.acked v.acked_counts v.number v.saved old)
    (marked : AreMarked plant v (seen_cells (BODY + 1) old)) (based : v.base ≡ j.base) (count : ℕ) (is : count ≡ may_go v) (some : 1 ≤ count) where
  few : count ≤ prefix_len (is_covered v.saved) (marks_of (contents_of (length plant.atoms) (seen_cells (BODY + 1) old)).records)
  few = omega (arith, is ∙ ap (prefix_len (is_covered v.saved)) marked)

  within : count ≤ v.number + 1 - v.base
  within = omega (arith, is, go-within v)

  -- whatever a stop leaves stands for what is acknowledged
  pub gone-stops : (new : DiskState) → Leaves (BODY + 1) (IsMovedOrNot (j.base + count) j (seen_cells (BODY + 1) old)) old new → Leaves (BODY + 1) (λ cells. StandsFor plant digest (size_of old) cells v.acked v.number) old new
  gone-stops = trimmed-stops plant digest j v.acked v.acked_counts v.number v.saved old rest count some few

  -- and the device is at rest after it
  module _ (new : DiskState) (done : HasMoved (j.base + count) j old new) where
    cut-reads : contents_of (length plant.atoms) (seen_cells (BODY + 1) new) ≡ cut_to (other_cell (ring_in (length plant.atoms) (contents_of (length plant.atoms) (seen_cells (BODY + 1) old)))) ((contents_of (length plant.atoms) (seen_cells (BODY + 1) old)).base + count) (contents_of (length plant.atoms) (seen_cells (BODY + 1) old))
    cut-reads = trimmed-contents plant digest j v.acked v.acked_counts v.number v.saved old rest count some few new done

    same-base : v.base ≡ (contents_of (length plant.atoms) (seen_cells (BODY + 1) old)).base
    same-base = based ∙ ap (λ (r : Ring). r.base) rest.journal

    pub gone-rest : size_of new ≡ size_of old → IsAtRest plant digest (moved (j.base + count) j) v.acked v.acked_counts v.number v.saved new
    gone-rest = trimmed-rest plant digest j v.acked v.acked_counts v.number v.saved old rest count some few new done

    pub gone-marked : AreMarked plant (with_cut count v) (seen_cells (BODY + 1) new)
    gone-marked = cut-marked plant v bodies kept count within (seen_cells (BODY + 1) old) (seen_cells (BODY + 1) new) _ same-base cut-reads marked

    pub gone-ways : AreOnTheWay plant v (seen_cells (BODY + 1) old) → AreOnTheWay plant (with_cut count v) (seen_cells (BODY + 1) new)
    gone-ways = ways-cut plant v bodies kept count within (seen_cells (BODY + 1) old) (seen_cells (BODY + 1) new) _ same-base cut-reads rest.slots
        (short plant digest j v.acked v.acked_counts v.number v.saved old rest count some few)
        (behind plant digest j v.acked v.acked_counts v.number v.saved old rest count some few)

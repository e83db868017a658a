-- What a durable plant keeps, it keeps when all that was fired is acknowledged.
use Rattle.std.proofs.Common.{◌≡◌, ◌+◌, ◌-◌, ◌≤◌, ℕ, zero, suc, refl, sym, ◌∙◌, ap, subst, ⊎_elim, List, [], ◌∷◌, length, get_or, replicate, take, drop, arith, Bool, false, Option, None}
use Rattle.std.specs.List.{range_with_len}
use Rattle.std.proofs.lemmas.Bool.{cases_lt}
use Rattle.std.proofs.lemmas.List.{get_or_past, length-replicate, drop_all, take-append-drop}
use Rattle.std.proofs.lemmas.Option.{none-some}
use Rattle.petri_atom.specs.Local.{Local}
use Rattle.disk_model.specs.DiskState.{DiskState, size_of}
use Rattle.disk_model.specs.Cells.{cells_in}
use Rattle.disk_model.specs.declared.cells.TheConstants.{BODY}
use Rattle.gated_journal.specs.Live.{AreRecords}
use Rattle.gated_journal.specs.Rings.{IsRing, appended, cells_of_ring}
use Rattle.gated_journal.specs.declared.ring.Ring.{Ring}
use Rattle.plant_model.specs.Firing.{FiringDefinition}
use Rattle.plant_model.specs.Fitting.{IsOf, AllFit}
use Rattle.plant_model.specs.Plant.{PlantDefinition}
use Rattle.plant_model.specs.Runs.{IsRun, fold}
use Rattle.plant_model.specs.Step.{next}
use Rattle.plant_model.specs.declared.fired.Firing.{Firing}
use Rattle.plant_model.specs.declared.limits.TheConstants.{MAX_ATOMS}
use Rattle.plant_model.proofs.OnRuns.{runs-cut}
use Rattle.step_core.specs.Job.{JobDefinition}
use Rattle.record_codec.specs.Saved.{SavedFields}
use Rattle.record_replay.specs.Records.{count_of, counted_by, counts_after, counts_after_all, record_by, records_of}
use Rattle.record_replay.proofs.Counting.{counted-entry, counted-grows, length-behind}
use Rattle.record_replay.proofs.OnRuns.{length-records, numbers-of}
use Rattle.trimmer.specs.Covered.{MarkFields, saved_count}
use Rattle.trimmer.specs.declared.saved.SavedAt.{SavedAt}
use Rattle.plant_core.specs.Invariant.{FitsTogether, IsJournalOf, SnapshotsFit}
use Rattle.plant_core.specs.Snapshots.{SnapshotFields, held_at}
use Rattle.plant_core.specs.View.{View, fired_number, view_by, with_all_acked}
use Rattle.plant_core.proofs.Chosen.{run-from}
use Rattle.plant_core.proofs.Firing.{changed-fits, count-so-far, snapshots-later}

-- a front of the records of firings is the records of a front of the firings
pub records-front : (plant : PlantDefinition) (k : ℕ) (cs : List FiringDefinition) (states : List Local) (counts : List ℕ) (n : ℕ) → take k (records_of plant states counts n cs) ≡ records_of plant states counts n (take k cs)
records-front plant zero cs states counts n = refl
records-front plant (suc k) [] states counts n = refl
records-front plant (suc k) (c ∷ cs) states counts n = ap (λ rs. record_by plant states counts (n + 1) c ∷ rs) (records-front plant k cs (next plant states c) (counts_after c.moves counts) (n + 1))

-- no choice makes an atom count back
pub counts-grow : (cs : List FiringDefinition) (counts : List ℕ) (atom : ℕ) → count_of counts atom ≤ count_of (counts_after_all cs counts) atom
counts-grow [] counts atom = omega arith
counts-grow (c ∷ cs) counts atom = ⊎_elim
    (λ within.
    let here : count_of (counts_after c.moves counts) atom ≡ counted_by c.moves atom (count_of counts atom) = counted-entry c.moves atom counts within in
    omega (arith, here, counted-grows c.moves atom (count_of counts atom), counts-grow cs (counts_after c.moves counts) atom))
    (λ past.
    let none : count_of counts atom ≡ 0 = get_or_past counts atom 0 past in
    omega arith)
    (cases_lt atom (length counts))

-- if nothing is held, nothing is found
pub none-held : {X : Type 0} (many atom : ℕ) → get_or {A = Option X} (replicate many None) atom None ≡ None
none-held zero atom = refl
none-held (suc many) zero = refl
none-held (suc many) (suc atom) = none-held many atom

module _ (plant : PlantDefinition) (v : View) (bodies : List (List ℕ)) (kept : FitsTogether plant v bodies) where
  -- the bodies are those of the records of the tail
  pub are-records : (first : ℕ) → first ≡ v.number + 1 → AreRecords first bodies (records_of plant v.acked v.acked_counts v.number v.tail)
  are-records first is = record {
    held = kept.held;
    numbered = numbers-of plant v.acked v.acked_counts v.number v.tail ∙
        ap (λ (f : ℕ). range_with_len f (length v.tail)) (sym is) ∙
        ap (range_with_len first) (sym (length-records plant v.acked v.acked_counts v.number v.tail));
  }

  -- each front of the tail is a run from the acknowledged state
  pub front-runs : (k : ℕ) → IsRun plant v.acked (take k v.tail) (fold plant v.acked (take k v.tail))
  front-runs k =
      (runs-cut plant (take k v.tail) (drop k v.tail) v.acked (fold plant v.acked v.tail)
      (subst (λ cs. IsRun plant v.acked cs (fold plant v.acked v.tail)) (sym (take-append-drop k v.tail)) (run-from plant v.tail v.acked kept.run))).0

  -- no atom has taken part less often than was acknowledged
  pub counts-grown : (atom : ℕ) → count_of v.acked_counts atom ≤ count_of v.counts atom
  counts-grown atom = subst (λ (ks : List ℕ). count_of v.acked_counts atom ≤ count_of ks atom) (sym kept.counted) (counts-grow v.tail v.acked_counts atom)

  -- with all of it acknowledged, what is kept fits together with an empty tail
  pub all-acked : IsOf plant v.present → AllFit plant v.present → FitsTogether plant (with_all_acked v) []
  all-acked of_plant fits = record {
    of_plant = of_plant;
    fits = fits;
    run = refl;
    leads = refl;
    counted = refl;
    counts_length = ap length kept.counted ∙ length-behind v.tail v.acked_counts ∙ kept.counts_length;
    counts_within = count-so-far plant v bodies kept;
    held = refl;
    short = omega arith;
    base_from = kept.base_from;
    base_to = omega (arith, kept.base_to);
    room = omega (arith, kept.room);
    last_to = omega (arith, kept.last_to);
    marks_many = omega (arith, kept.marks_many);
    marks_of_tail = drop_all (fired_number v + 1 - v.base) v.marks (omega (arith, kept.marks_many));
    snapshots = snapshots-later plant v.saved v.kept v.acked_counts v.counts (fired_number v) (fired_number v + 0) counts-grown (omega arith) kept.snapshots;
  }

-- where nothing is fired that is not acknowledged, the view has all of it acknowledged as it is
pub nothing-new : (plant : PlantDefinition) (v : View) (bodies : List (List ℕ)) → FitsTogether plant v bodies → v.tail ≡ [] → v ≡ with_all_acked v
nothing-new plant v bodies fits none =
    let states : v.acked ≡ v.present = sym (fits.leads ∙ ap (fold plant v.acked) none) in
    let counts : v.acked_counts ≡ v.counts = sym (fits.counted ∙ ap (λ cs. counts_after_all cs v.acked_counts) none) in
    let number : v.number ≡ fired_number v = omega (arith, ap length none) in
    ap (λ ss. record v { acked = ss }) states ∙
    ap (λ ks. record v { acked = v.present; acked_counts = ks }) counts ∙
    ap (λ (n : ℕ). record v { acked = v.present; acked_counts = v.counts; number = n }) number ∙
    ap (λ cs. record v { acked = v.present; acked_counts = v.counts; number = fired_number v; tail = cs }) none

-- the view after a flush, as it is kept
pub view-of-flushed : (acked present then : List Local) (counts : List ℕ) (number sum : ℕ) (tail : List Firing) (j after : Ring) (count : ℕ) (marks : List MarkFields) (s : SnapshotFields) (away jobs : List (Option JobDefinition)) (whole broken : Bool)
    → acked ≡ present → then ≡ present → jobs ≡ away → number ≡ sum → tail ≡ [] → after ≡ appended count j → whole ≡ broken
    → view_by acked counts number tail then counts after marks s jobs whole ≡ view_by present counts sum [] present counts j marks s away broken
view-of-flushed acked present then counts number sum tail j after count marks s away jobs whole broken same still kept summed empty more is =
    ap (λ states. view_by states counts number tail then counts after marks s jobs whole) same ∙
    ap (λ states. view_by present counts number tail states counts after marks s jobs whole) still ∙
    ap (λ js. view_by present counts number tail present counts after marks s js whole) kept ∙
    ap (λ (n : ℕ). view_by present counts n tail present counts after marks s away whole) summed ∙
    ap (λ cs. view_by present counts sum cs present counts after marks s away whole) empty ∙
    ap (λ (r : Ring). view_by present counts sum [] present counts r marks s away whole) more ∙
    ap (λ (b : Bool). view_by present counts sum [] present counts j marks s away b) is

-- the journal after a flush is that of the plant
pub journal-of-flushed : (plant : PlantDefinition) (number count : ℕ) (j after : Ring) (old new : DiskState) → after ≡ appended count j → size_of new ≡ size_of old → IsJournalOf plant number j old → IsJournalOf plant (number + count) after new
journal-of-flushed plant number count j after old new more same is = subst (λ r. IsJournalOf plant (number + count) r new) (sym more) (record {
  atoms = is.atoms;
  last = ap (λ (n : ℕ). n + count) is.last;
  inside = subst (λ (bytes : ℕ). cells_of_ring j ≤ cells_in (BODY + 1) bytes) (sym same) is.inside;
})

-- what is known of saved states, and whether the device has failed, says nothing of the rest
pub noted-fits : (plant : PlantDefinition) (v : View) (bodies : List (List ℕ)) (saved : List SavedAt) (held : List (Option SavedFields)) (broken : Bool) → SnapshotsFit plant saved held v.acked_counts (fired_number v)
    → FitsTogether plant v bodies → FitsTogether plant (record v { saved = saved; kept = held; broken = broken }) bodies
noted-fits plant v bodies saved held broken fit kept =
    changed-fits plant v bodies kept v.base v.marks saved held v.away broken kept.base_from kept.base_to kept.room kept.marks_many kept.marks_of_tail fit

-- and so is that after one that failed
pub journal-of-failed : (plant : PlantDefinition) (number : ℕ) (j after : Ring) (old new : DiskState) → after ≡ j → size_of new ≡ size_of old → IsJournalOf plant number j old → IsJournalOf plant number after new
journal-of-failed plant number j after old new kept same is = subst (λ r. IsJournalOf plant number r new) (sym kept) (record {
  atoms = is.atoms;
  last = is.last;
  inside = subst (λ (bytes : ℕ). cells_of_ring j ≤ cells_in (BODY + 1) bytes) (sym same) is.inside;
})

-- if nothing was fired since the last flush, what is kept fits together
pub nothing-fired : (plant : PlantDefinition) (states : List Local) (counts : List ℕ) (number : ℕ) (j : Ring) → IsOf plant states → AllFit plant states → length counts ≡ MAX_ATOMS
    → ((atom : ℕ) → count_of counts atom ≤ number) → IsRing j → j.last ≡ number → (marks : List MarkFields) → j.base + length marks ≡ number + 1 → (s : SnapshotFields) → (away : List (Option JobDefinition)) → length s.saved ≡ length plant.atoms
    → ((atom : ℕ) → saved_count s.saved atom ≤ count_of counts atom) → s.kept ≡ replicate (length s.saved) None → FitsTogether plant (view_by states counts number [] states counts j marks s away false) []
nothing-fired plant states counts number j of_plant fits long within ring last marks many s away known known_within none = record {
  of_plant = of_plant;
  fits = fits;
  run = refl;
  leads = refl;
  counted = refl;
  counts_length = long;
  counts_within = within;
  held = refl;
  short = omega arith;
  base_from = ring.base_from;
  base_to = omega (arith, ring.base_to);
  room = omega (arith, ring.room);
  last_to = omega (arith, ring.last_to);
  marks_many = omega (arith, many);
  marks_of_tail = drop_all (number + 1 - j.base) marks (omega (arith, many));
  snapshots = record {
    known_many = known;
    known_within = known_within;
    places = ap (λ (held : List (Option SavedFields)). length held) none ∙ length-replicate (length s.saved) None ∙ known;
    own = λ atom saved there. absurd (none-some saved (sym (held-none atom) ∙ there));
    copies = λ atom saved there. absurd (none-some saved (sym (held-none atom) ∙ there));
  };
}
  where
    held-none : (atom : ℕ) → held_at s.kept atom ≡ None
    held-none atom = ap (λ (held : List (Option SavedFields)). held_at held atom) none ∙ none-held (length s.saved) atom

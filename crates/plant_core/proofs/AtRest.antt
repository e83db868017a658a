-- What a stop leaves of a durable plant, and that its device is at rest after a flush.
use Rattle.std.proofs.Common.{◌≡◌, ◌+◌, ◌-◌, ◌≤◌, ℕ, refl, sym, ◌∙◌, ap, subst, List, [], ◌∷◌, ◌++◌, length, map, take, arith, true, Bool, false, None}
use Rattle.std.specs.List.{list_all}
use Rattle.std.proofs.lemmas.Bool.{and_from}
use Rattle.std.proofs.lemmas.List.{length-append, length-take, take-append-le, take_all}
use Rattle.petri_atom.specs.Local.{Local}
use Rattle.disk_model.specs.Cells.{Cell, Leaves, MayBe, cells_of, seen_cells}
use Rattle.disk_model.specs.DiskState.{DiskState, size_of}
use Rattle.disk_model.specs.declared.cells.TheConstants.{BODY}
use Rattle.disk_model.specs.Moments.{leaves_now, leaves_start, leaves_weaker, same_count}
use Rattle.gated_journal.specs.Live.{live}
use Rattle.gated_journal.specs.Rings.{appended}
use Rattle.gated_journal.specs.Stops.{HasAppended, HasAppendedAll}
use Rattle.gated_journal.specs.declared.ring.Ring.{Ring}
use Rattle.record_codec.specs.Fired.{FiredFields}
use Rattle.plant_model.specs.Firing.{FiringDefinition}
use Rattle.plant_model.specs.Plant.{PlantDefinition}
use Rattle.plant_model.specs.Rules.{fault_of}
use Rattle.plant_model.specs.Runs.{IsRun, fold}
use Rattle.plant_model.specs.Step.{next}
use Rattle.record_replay.specs.OfPlant.{is_record_of}
use Rattle.record_replay.specs.Records.{counts_after, counts_after_all, record_by, records_of}
use Rattle.record_replay.proofs.OfPlants.{record-of-plant}
use Rattle.record_replay.proofs.OnRuns.{length-records}
use Rattle.plant_image.specs.Contents.{Contents, contents_of, last_number, ring_in}
use Rattle.plant_image.specs.Faults.{cells_fault}
use Rattle.plant_image.specs.Standing.{Leads, StandsFor, with_records}
use Rattle.plant_image.proofs.AppendedImages.{appended_none, appended_reads}
use Rattle.plant_image.proofs.KeptCells.{sound_of}
use Rattle.plant_image.proofs.OnContents.{run_leads}
use Rattle.plant_image.proofs.Standings.{leads_stands}
use Rattle.plant_core.specs.Invariant.{IsAtRest, IsFrontOf}
use Rattle.plant_core.specs.Snapshots.{known_of}
use Rattle.plant_core.specs.Stops.{StandsForAcked, StandsForFront, number_held}
use Rattle.trimmer.specs.declared.saved.SavedAt.{SavedAt}
use Rattle.plant_core.specs.View.{View, with_fired}
use Rattle.plant_core.proofs.Flushing.{records-front}

-- the records of a run can be of the plant
pub records-of-plant : (plant : PlantDefinition) → fault_of plant ≡ None → (cs : List FiringDefinition) (states end : List Local) (counts : List ℕ) (n : ℕ) → IsRun plant states cs end → list_all (is_record_of plant) (records_of plant states counts n cs) ≡ true
records-of-plant plant valid [] states end counts n run = refl
records-of-plant plant valid (c ∷ cs) states end counts n run =
    and_from (is_record_of plant (record_by plant states counts (n + 1) c)) (list_all (is_record_of plant) (records_of plant (next plant states c) (counts_after c.moves counts) (n + 1) cs))
    (record-of-plant plant states counts c valid run.0.0 (n + 1))
    (records-of-plant plant valid cs (next plant states c) end (counts_after c.moves counts) (n + 1) run.1)

-- all of the records are a front of themselves
pub all-appended : (j : Ring) (news : List FiredFields) (old new : DiskState) → size_of new ≡ size_of old → HasAppendedAll j news old new → HasAppended j news (seen_cells (BODY + 1) old) (seen_cells (BODY + 1) new)
all-appended j news old new same all = record {
  size = same_count (BODY + 1) old new same;
  based = all.based;
  count = length news;
  within = omega arith;
  reads = all.reads ∙ ap (λ rs. live-before ++ rs) (sym (take_all (length news) news (omega arith)));
  behind = λ ahead. all.ready.ahead (j.last + length news + 1) ahead;
  others = all.others;
}
  where
    live-before : List FiredFields
    live-before = live j (seen_cells (BODY + 1) old)

-- What stands for the state after a front of the tail says itself how long that front is, and the other way round.
pub front-of : (plant : PlantDefinition) (digest : List ℕ) (bytes : ℕ) (v : View) (cells : List Cell) → StandsForFront plant digest bytes v cells → IsFrontOf plant digest bytes v cells
front-of plant digest bytes v cells stands =
    let k : ℕ = stands.0 in
    let number : number_held plant cells ≡ v.number + k = stands.2.number_is in
    let long : number_held plant cells - v.number ≡ k = omega (arith, number) in
    record {
      from = omega (arith, number);
      to = omega (arith, number, stands.1);
      stands = subst (λ (n : ℕ). StandsFor plant digest bytes cells (fold plant v.acked (take n v.tail)) (number_held plant cells)) (sym long)
          (subst (λ (n : ℕ). StandsFor plant digest bytes cells (fold plant v.acked (take k v.tail)) n) (sym number) stands.2);
    }

pub of-front : (plant : PlantDefinition) (digest : List ℕ) (bytes : ℕ) (v : View) (cells : List Cell) → IsFrontOf plant digest bytes v cells → StandsForFront plant digest bytes v cells
of-front plant digest bytes v cells front =
    let number : number_held plant cells ≡ v.number + (number_held plant cells - v.number) = omega (arith, front.from) in (
      number_held plant cells - v.number,
      omega (arith, front.from, front.to),
      subst (λ (n : ℕ). StandsFor plant digest bytes cells (fold plant v.acked (take (number_held plant cells - v.number) v.tail)) n) number front.stands,
    )

-- what stands for the acknowledged state stands for the front of length 0
pub acked-front : (plant : PlantDefinition) (digest : List ℕ) (bytes : ℕ) (v : View) (cells : List Cell) → StandsForAcked plant digest bytes v cells → StandsForFront plant digest bytes v cells
acked-front plant digest bytes v cells stands = (0, omega arith, subst (λ (n : ℕ). StandsFor plant digest bytes cells v.acked n) (omega arith) stands)

-- what a stop leaves after a call is among what one since its start leaves
pub acked-now : (plant : PlantDefinition) (digest : List ℕ) (v : View) (old new : DiskState) → (old.keeps ≡ true → v.broken ≡ false → Leaves (BODY + 1) (StandsForAcked plant digest (size_of old) v) old new)
    → old.keeps ≡ true → v.broken ≡ false → (cells : List Cell) → MayBe (BODY + 1) new cells → StandsForAcked plant digest (size_of old) v cells
acked-now plant digest v old new stops keeps whole = leaves_now (BODY + 1) (StandsForAcked plant digest (size_of old) v) old new (stops keeps whole)

-- so before the first call whatever a stop leaves stands for a front
pub front-now : (plant : PlantDefinition) (digest : List ℕ) (v : View) (s : DiskState) → ((cells : List Cell) → MayBe (BODY + 1) s cells → IsFrontOf plant digest (size_of s) v cells) → Leaves (BODY + 1) (StandsForFront plant digest (size_of s) v) s s
front-now plant digest v s front = leaves_start (BODY + 1) (StandsForFront plant digest (size_of s) v) s (λ cells may. of-front plant digest (size_of s) v cells (front cells may))

-- If a state is handed in to be stored the device is left as it was, or whatever a stop leaves stands for the acknowledged state.
pub put-front : (plant : PlantDefinition) (digest : List ℕ) (v : View) (old new : DiskState) → ((cells : List Cell) → MayBe (BODY + 1) old cells → IsFrontOf plant digest (size_of old) v cells) → (v.broken ≡ true → new ≡ old)
    → (v.broken ≡ false → Leaves (BODY + 1) (StandsForAcked plant digest (size_of old) v) old new) → Leaves (BODY + 1) (StandsForFront plant digest (size_of old) v) old new
put-front plant digest v old new front same stops = by v.broken refl
  where
    by : (broken : Bool) → v.broken ≡ broken → Leaves (BODY + 1) (StandsForFront plant digest (size_of old) v) old new
    by true is = subst (Leaves (BODY + 1) (StandsForFront plant digest (size_of old) v) old) (sym (same is)) (front-now plant digest v old front)
    by false is = leaves_weaker (BODY + 1) (StandsForAcked plant digest (size_of old) v) (StandsForFront plant digest (size_of old) v) old new (acked-front plant digest (size_of old) v) (stops is)

-- a front of the tail is one of a longer tail
pub front-longer : (plant : PlantDefinition) (digest : List ℕ) (bytes : ℕ) (v : View) (c : FiringDefinition) (cells : List Cell) → IsFrontOf plant digest bytes v cells → IsFrontOf plant digest bytes (with_fired plant c v) cells
front-longer plant digest bytes v c cells front =
    let short : number_held plant cells - v.number ≤ length v.tail = omega (arith, front.from, front.to) in
    record {
      from = front.from;
      to = omega (arith, front.to, length-append v.tail (c ∷ []));
      stands = subst (λ (cs : List FiringDefinition). StandsFor plant digest bytes cells (fold plant v.acked cs) (number_held plant cells)) (sym (take-append-le (number_held plant cells - v.number) v.tail (c ∷ []) short)) front.stands;
    }

module _ (plant : PlantDefinition) (digest : List ℕ) (j : Ring) (acked : List Local) (counts : List ℕ) (number : ℕ) (saved : List SavedAt) (old : DiskState) (rest : IsAtRest plant digest j acked counts number saved old) where
  -- whatever a stop now leaves stands for the acknowledged state
  pub stands-now : (cells : List Cell) → MayBe (BODY + 1) old cells → StandsFor plant digest (size_of old) cells acked number
  stands-now cells may =
      let image = rest.ready.settled may.image may.left in
      let same : seen_cells (BODY + 1) old ≡ cells = sym (may.same ∙ ap (cells_of (BODY + 1)) image) in
      subst (λ cells. StandsFor plant digest (size_of old) cells acked number) same
      (leads_stands plant digest (size_of old) (seen_cells (BODY + 1) old) acked number counts rest.sound rest.leads)

  -- which is after no choice of any tail
  pub rest-front : (v : View) → v.acked ≡ acked → v.number ≡ number → (cells : List Cell) → MayBe (BODY + 1) old cells → IsFrontOf plant digest (size_of old) v cells
  rest-front v its_state its_number cells may = front-of plant digest (size_of old) v cells (
    0,
    omega arith,
    subst (λ (n : ℕ). StandsFor plant digest (size_of old) cells v.acked n) (sym its_number ∙ omega arith)
        (subst (λ states. StandsFor plant digest (size_of old) cells states number) (sym its_state) (stands-now cells may)),
  )

  module _ (valid : fault_of plant ≡ None) (tail : List FiringDefinition) (runs : (k : ℕ) → IsRun plant acked (take k tail) (fold plant acked (take k tail))) where
    abbrev pub news : List FiredFields
    news = records_of plant acked counts number tail

    many : length news ≡ length tail
    many = length-records plant acked counts number tail

    fit : list_all (is_record_of plant) news ≡ true
    fit = subst (λ cs. list_all (is_record_of plant) (records_of plant acked counts number cs) ≡ true) (take_all (length tail) tail (omega arith))
        (records-of-plant plant valid (take (length tail) tail) acked (fold plant acked (take (length tail) tail)) counts number (runs (length tail)))

    -- a front of the new records leads to the state after as many choices
    front-leads : (k : ℕ) → k ≤ length tail → Leads plant (with_records (take k news) (contents_of (length plant.atoms) (seen_cells (BODY + 1) old))) (fold plant acked (take k tail)) (counts_after_all (take k tail) counts) (number + k)
    front-leads k within =
        let long : length (take k tail) ≡ k = omega (arith, length-take k tail) in
        subst (λ (n : ℕ). Leads plant (with_records (take k news) (contents_of (length plant.atoms) (seen_cells (BODY + 1) old))) (fold plant acked (take k tail)) (counts_after_all (take k tail) counts) (number + n)) long
        (subst (λ rs. Leads plant (with_records rs (contents_of (length plant.atoms) (seen_cells (BODY + 1) old))) (fold plant acked (take k tail)) (counts_after_all (take k tail) counts) (number + length (take k tail))) (sym (records-front plant k tail acked counts number))
        (run_leads plant (contents_of (length plant.atoms) (seen_cells (BODY + 1) old)) acked counts number rest.leads (fold plant acked (take k tail)) (take k tail) (runs k)))

    module _ (cells : List Cell) (left : HasAppended j news (seen_cells (BODY + 1) old) cells) where
      in-ring : HasAppended (ring_in (length plant.atoms) (contents_of (length plant.atoms) (seen_cells (BODY + 1) old))) news (seen_cells (BODY + 1) old) cells
      in-ring = subst (λ r. HasAppended r news (seen_cells (BODY + 1) old) cells) rest.journal left

      within : in-ring.count ≤ length tail
      within = omega (arith, in-ring.within, many)

      sound : cells_fault plant digest (size_of old) cells ≡ None
      sound = appended_none plant digest (size_of old) news (seen_cells (BODY + 1) old) cells (sound_of plant digest (size_of old) (seen_cells (BODY + 1) old) rest.sound) fit in-ring

      reads : contents_of (length plant.atoms) cells ≡ with_records (take in-ring.count news) (contents_of (length plant.atoms) (seen_cells (BODY + 1) old))
      reads = appended_reads plant digest (size_of old) news (seen_cells (BODY + 1) old) cells (sound_of plant digest (size_of old) (seen_cells (BODY + 1) old) rest.sound) fit in-ring

      -- so what stands there stands for the state after a front of the tail
      pub stop-stands : (k : ℕ) × (k ≤ length tail) × StandsFor plant digest (size_of old) cells (fold plant acked (take k tail)) (number + k)
      stop-stands = (
        in-ring.count,
        within,
        leads_stands plant digest (size_of old) cells (fold plant acked (take in-ring.count tail)) (number + in-ring.count) (counts_after_all (take in-ring.count tail) counts) sound
            (subst (λ c. Leads plant c (fold plant acked (take in-ring.count tail)) (counts_after_all (take in-ring.count tail) counts) (number + in-ring.count)) (sym reads) (front-leads in-ring.count within)),
      )

    -- whenever it comes
    pub stops-stand : (new : DiskState) → Leaves (BODY + 1) (HasAppended j news (seen_cells (BODY + 1) old)) old new
        → Leaves (BODY + 1) (λ cells. (k : ℕ) × (k ≤ length tail) × StandsFor plant digest (size_of old) cells (fold plant acked (take k tail)) (number + k)) old new
    stops-stand new left = leaves_weaker (BODY + 1) (HasAppended j news (seen_cells (BODY + 1) old)) (λ cells. (k : ℕ) × (k ≤ length tail) × StandsFor plant digest (size_of old) cells (fold plant acked (take k tail)) (number + k)) old new stop-stands left

    -- with all of the records appended the cells hold them too
    pub again-reads : (new : DiskState) → HasAppendedAll j news old new → size_of new ≡ size_of old → contents_of (length plant.atoms) (seen_cells (BODY + 1) new) ≡ with_records news (contents_of (length plant.atoms) (seen_cells (BODY + 1) old))
    unfolding all-appended
    again-reads new all same =
        let before : Contents = contents_of (length plant.atoms) (seen_cells (BODY + 1) old) in
        let ring : Ring = ring_in (length plant.atoms) before in
        let left : HasAppended ring news (seen_cells (BODY + 1) old) (seen_cells (BODY + 1) new) = all-appended ring news old new same (subst (λ r. HasAppendedAll r news old new) rest.journal all) in
        appended_reads plant digest (size_of old) news (seen_cells (BODY + 1) old) (seen_cells (BODY + 1) new) (sound_of plant digest (size_of old) (seen_cells (BODY + 1) old) rest.sound) fit left ∙ ap (λ rs. with_records rs before) (take_all (length news) news (omega arith))

    -- and the device is at rest again
    pub rest-again : (after : Ring) (new : DiskState) → HasAppendedAll j news old new → size_of new ≡ size_of old → after ≡ appended (length news) j
        → IsAtRest plant digest after (fold plant acked tail) (counts_after_all tail counts) (number + length tail) saved new
    unfolding all-appended
    rest-again after new all same more =
        let before : Contents = contents_of (length plant.atoms) (seen_cells (BODY + 1) old) in
        let ring : Ring = ring_in (length plant.atoms) before in
        let left : HasAppended ring news (seen_cells (BODY + 1) old) (seen_cells (BODY + 1) new) = all-appended ring news old new same (subst (λ r. HasAppendedAll r news old new) rest.journal all) in
        let judged = sound_of plant digest (size_of old) (seen_cells (BODY + 1) old) rest.sound in
        let run : IsRun plant acked tail (fold plant acked tail) = subst (λ cs. IsRun plant acked cs (fold plant acked cs)) (take_all (length tail) tail (omega arith)) (runs (length tail)) in
        let reads : contents_of (length plant.atoms) (seen_cells (BODY + 1) new) ≡ with_records news before = again-reads new all same in
        let long : length (before.records ++ news) ≡ length before.records + length news = length-append before.records news in
        let last : last_number before + length news ≡ before.base + length (before.records ++ news) - 1 = omega (arith, long, rest.leads.last) in
        subst (λ r. IsAtRest plant digest r (fold plant acked tail) (counts_after_all tail counts) (number + length tail) saved new) (sym more) (record {
          ready = all.ready;
          sound = subst (λ (bytes : ℕ). cells_fault plant digest bytes (seen_cells (BODY + 1) new) ≡ None) (sym same)
              (appended_none plant digest (size_of old) news (seen_cells (BODY + 1) old) (seen_cells (BODY + 1) new) judged fit left);
          journal = ap (appended (length news)) rest.journal ∙ ap (λ (n : ℕ). record ring { last = n }) last ∙ ap (ring_in (length plant.atoms)) (sym reads);
          leads = subst (λ c. Leads plant c (fold plant acked tail) (counts_after_all tail counts) (number + length tail)) (sym reads)
              (run_leads plant before acked counts number rest.leads (fold plant acked tail) tail run);
          slots = rest.slots ∙ ap (λ (c : Contents). map known_of c.slots) (sym reads);
        })

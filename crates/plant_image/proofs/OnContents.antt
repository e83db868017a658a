-- What becomes of where contents lead, on plain lists.
use Rattle.std.proofs.Common.{◌≡◌, ◌≢◌, inl, inr, ℕ, ◌+◌, ◌-◌, ◌<◌, ◌≤◌, List, [], ◌∷◌, ◌++◌, length, take, drop, slice_get, Some, Ok, sym, ◌∙◌, ap, subst, arith, get_or-set_same, get_or-set_other}
use Rattle.std.proofs.lemmas.Bool.{cases_eq}
use Rattle.std.proofs.lemmas.List.{length-append, length-drop, take-append-drop}
use Rattle.std.proofs.lemmas.Option.{slice_get_within}
use Rattle.petri_atom.specs.Definition.{AtomDefinition}
use Rattle.petri_atom.specs.Local.{Local}
use Rattle.record_codec.specs.Fired.{FiredFields}
use Rattle.record_codec.specs.Saved.{SavedFields}
use Rattle.record_replay.specs.Records.{count_of, counted_by, counts_after, counts_after_all, records_of}
use Rattle.record_replay.specs.Replay.{Position, replay, replay_from}
use Rattle.record_replay.proofs.Counting.{counted-entry, length-counted, length-behind}
use Rattle.record_replay.proofs.OnRuns.{length-records, run-leads-on}
use Rattle.record_replay.proofs.OverRecords.{replay-anew, replay-behind, replay-grows}
use Rattle.snapshot_writer.specs.Parcels.{local_in}
use Rattle.plant_model.specs.Firing.{FiringDefinition}
use Rattle.plant_model.specs.Plant.{PlantDefinition}
use Rattle.plant_model.specs.Runs.{IsRun}
use Rattle.plant_model.specs.Step.{next, transfer}
use Rattle.plant_model.proofs.Stepping.{length-stepped}
use Rattle.plant_image.specs.Contents.{Contents, copied_at, most_by, most_firings, replayed, saved_position, unsaved}
use Rattle.plant_image.specs.declared.counts.TheConstants.{MOST_AHEAD}
use Rattle.plant_image.specs.Standing.{AreIncluded, IsOnTheWay, Leads, cut_to, with_records, with_saved}
use Rattle.plant_image.proofs.ByAtoms.{element_at}
use Rattle.plant_image.proofs.Firings.{counted_once, most_by-append, most_by-cut, run-allowed}

-- ---- records of a run

-- so no atom counts faster than the choices
counts_slow : (cs : List FiringDefinition) (counts : List ℕ) (i : ℕ) → i < length counts → count_of (counts_after_all cs counts) i ≤ count_of counts i + length cs
counts_slow [] counts i within = omega arith
counts_slow (c ∷ cs) counts i within =
    let long : i < length (counts_after c.moves counts) = omega (arith, within, length-counted c.moves 0 counts) in
    let here : count_of (counts_after c.moves counts) i ≡ counted_by c.moves i (count_of counts i) = counted-entry c.moves i counts within in
    omega (arith, counts_slow cs (counts_after c.moves counts) i long, here, counted_once c.moves i (count_of counts i))

-- a run keeps the number of states
run_length : (plant : PlantDefinition) (cs : List FiringDefinition) (start end : List Local) → IsRun plant start cs end → length end ≡ length start
run_length plant [] start end run = ap (λ (l : List Local). length l) (sym run)
run_length plant (c ∷ cs) start end run = run_length plant cs (next plant start c) end run.1 ∙ length-stepped plant.atoms c.moves (transfer plant start c) 0 start

module _ (plant : PlantDefinition) (c : Contents) (states : List Local) (counts : List ℕ) (number : ℕ) (leads : Leads plant c states counts number) where
  pub run_leads : (end : List Local) (cs : List FiringDefinition) → IsRun plant states cs end → Leads plant (with_records (records_of plant states counts number cs) c) end (counts_after_all cs counts) (number + length cs)
  run_leads end cs run = record {
    last = omega (arith, leads.last, length-append c.records (records_of plant states counts number cs), length-records plant states counts number cs);
    as_many = run_length plant cs states end run ∙ leads.as_many;
    counted = omega (arith, leads.counted, length-behind cs counts);
    each = λ i a e at its.
        let there = element_at states i (omega (arith, slice_get_within plant.atoms i a at, leads.as_many)) in
        let before : replayed c i a ≡ Ok (record { state = there.0; count = count_of counts i }) = leads.each i a there.0 at there.1 in
        let within : i < length counts = omega (arith, slice_get_within plant.atoms i a at, leads.counted) in
        run-leads-on plant i a at states end counts number cs (saved_position c i).count there.0 e c.records (saved_position c i) run within there.1 its
        (replay-grows a i (saved_position c i).count c.records (saved_position c i) (record { state = there.0; count = count_of counts i }) before) before;
    within = λ i below. omega (arith, leads.within i below, counts_slow cs counts i (omega (arith, below, leads.counted)));
    accounted = λ i below.
        let news : List FiredFields = records_of plant states counts number cs in
        let most : ℕ = most_firings c i in
        let long : i < length counts = omega (arith, below, leads.counted) in
        let next_number : number + 1 ≡ c.base + length c.records = sym leads.last in
        subst (λ (k : ℕ). count_of (counts_after_all cs counts) i ≤ k) (sym (most_by-append i c.records news (c.base - 1) c.base))
        (subst (λ (n : ℕ). count_of (counts_after_all cs counts) i ≤ most_by i most n news) next_number
        (run-allowed i plant cs states counts number most long (leads.within i below) (leads.accounted i below)));
    copied = λ i below. omega (arith, leads.copied i below);
  }

  -- ---- a newer saved state

  module _ (a : AtomDefinition) (saved : SavedFields) (at : slice_get plant.atoms saved.atom ≡ Some a) (slots : length c.slots ≡ length plant.atoms) (way : IsOnTheWay c a saved) (early : saved.at ≤ number + MOST_AHEAD) where
    in_slots : saved.atom < length c.slots
    in_slots = omega (arith, slots, slice_get_within plant.atoms saved.atom a at)

    -- the saved position of the atom itself, and of any other
    own_position : saved_position (with_saved saved c) saved.atom ≡ record { state = local_in saved; count = saved.count }
    own_position = ap (λ (s : SavedFields). record { state = local_in s; count = s.count }) (get_or-set_same c.slots saved.atom saved (unsaved saved.atom) in_slots)

    other_position : (i : ℕ) → i ≢ saved.atom → saved_position (with_saved saved c) i ≡ saved_position c i
    other_position i other = ap (λ (s : SavedFields). record { state = local_in s; count = s.count }) (get_or-set_other c.slots saved.atom i saved (unsaved i) other)

    own_copied : copied_at (with_saved saved c) saved.atom ≡ saved.at
    own_copied = ap (λ (s : SavedFields). s.at) (get_or-set_same c.slots saved.atom saved (unsaved saved.atom) in_slots)

    other_copied : (i : ℕ) → i ≢ saved.atom → copied_at (with_saved saved c) i ≡ copied_at c i
    other_copied i other = ap (λ (s : SavedFields). s.at) (get_or-set_other c.slots saved.atom i saved (unsaved i) other)

    front : List FiredFields
    front = take (saved.at + 1 - c.base) c.records

    own_replay : (e : Position) → replayed c saved.atom a ≡ Ok e → replayed (with_saved saved c) saved.atom a ≡ Ok e
    own_replay e there =
        let k : ℕ = saved.at + 1 - c.base in
        let whole : take k c.records ++ drop k c.records ≡ c.records = take-append-drop k c.records in
        let p : Position = saved_position c saved.atom in
        let q : Position = record { state = local_in saved; count = saved.count } in
        ap (λ (w : Position). replay_from a saved.atom w c.records) own_position
        ∙ ap (replay_from a saved.atom q) (sym whole)
        ∙ replay-anew a saved.atom p.count (take k c.records) (drop k c.records) p q e (omega arith) way.reached (ap (λ (l : List FiredFields). replay a saved.atom p.count l p) whole ∙ there)

    pub saved_leads : Leads plant (with_saved saved c) states counts number
    saved_leads = record {
      last = leads.last;
      as_many = leads.as_many;
      counted = leads.counted;
      each = λ i b s b_at its. elim (cases_eq i saved.atom) [
        | inl same ↦
            let both : Some a ≡ Some b = sym at ∙ ap (slice_get plant.atoms) (sym same) ∙ b_at in
            let is : a ≡ b = cc in
            let there : replayed c saved.atom a ≡ Ok (record { state = s; count = count_of counts i }) = ap (λ (k : ℕ). replayed c k a) (sym same) ∙ ap (replayed c i) is ∙ leads.each i b s b_at its in
            ap (λ (k : ℕ). replayed (with_saved saved c) k b) same ∙ ap (replayed (with_saved saved c) saved.atom) (sym is) ∙ own_replay (record { state = s; count = count_of counts i }) there
        | inr other ↦ ap (λ (w : Position). replay_from b i w c.records) (other_position i other) ∙ leads.each i b s b_at its
      ];
      within = leads.within;
      accounted = leads.accounted;
      copied = λ i below. elim (cases_eq i saved.atom) [
        | inl same ↦ omega (arith, ap (copied_at (with_saved saved c)) same, own_copied, early)
        | inr other ↦ omega (arith, other_copied i other, leads.copied i below)
      ];
    }

  -- ---- fewer records

  pub cut_leads : (base_cell count : ℕ) → count ≤ length c.records → AreIncluded c (take count c.records) → Leads plant (cut_to base_cell (c.base + count) c) states counts number
  cut_leads base_cell count short behind =
      let k : ℕ = c.base + count - c.base in
      let is : k ≡ count = omega arith in
      record {
        last = omega (arith, length-drop k c.records, is, short, leads.last);
        as_many = leads.as_many;
        counted = leads.counted;
        each = λ i a s at its.
            let p : Position = saved_position c i in
            ap (λ (n : ℕ). replay_from a i p (drop n c.records)) is
            ∙ sym (replay-behind a i p.count (take count c.records) (drop count c.records) p (behind i))
            ∙ ap (replay_from a i p) (take-append-drop count c.records)
            ∙ leads.each i a s at its;
        within = leads.within;
        accounted = λ i below.
            let allowed : count_of counts i ≤ most_by i (c.base + count - 1) (c.base + count) (drop count c.records) = omega (arith, leads.accounted i below, most_by-cut i c.records c.base count short) in
            subst (λ (n : ℕ). count_of counts i ≤ most_by i (c.base + count - 1) (c.base + count) (drop n c.records)) (sym is) allowed;
        copied = leads.copied;
      }

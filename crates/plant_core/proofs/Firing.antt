-- What a durable plant keeps, it keeps when it fires a choice.
use Rattle.std.proofs.Common.{◌≡◌, ◌+◌, ◌-◌, ◌<◌, ◌≤◌, ℕ, suc, refl, sym, ◌∙◌, ap, subst, List, [], ◌∷◌, ◌++◌, length, drop, map, arith, ⊎_elim, All, Bool, true, Option, Some, None}
use Rattle.std.specs.List.{list_all}
use Rattle.std.proofs.lemmas.Bool.{cases_lt}
use Rattle.std.proofs.lemmas.List.{get_or_past, length-append, length-map, map-append}
use Rattle.std.proofs.lemmas.Option.{none-some}
use Rattle.std.proofs.lemmas.List.Elements.{All-cons, All-nil, All-weaker}
use Rattle.petri_atom.specs.Definition.{is_well_formed}
use Rattle.petri_atom.specs.Local.{Local, Row}
use Rattle.gated_journal.specs.declared.ring.Ring.{Ring}
use Rattle.record_codec.specs.Fired.{FiredFields, IsFired, fired_in}
use Rattle.record_codec.specs.declared.layout.TheConstants.{LAST_NUMBER}
use Rattle.plant_model.specs.Chosen.{fired_of}
use Rattle.plant_model.specs.Firing.{CanFire, FiringDefinition}
use Rattle.plant_model.specs.Delivery.{IsDelivered}
use Rattle.plant_model.specs.Plant.{PlantDefinition}
use Rattle.plant_model.specs.Rules.{fault_of}
use Rattle.plant_model.specs.Step.{next}
use Rattle.plant_model.specs.declared.fired.Firing.{Firing}
use Rattle.plant_model.specs.declared.choice.Move.{Move}
use Rattle.step_core.specs.Job.{JobDefinition}
use Rattle.record_replay.specs.Records.{count_of, counts_after, counts_after_all, record_by, records_of}
use Rattle.record_replay.proofs.Counting.{behind-append, behind-within}
use Rattle.record_replay.proofs.OfPlants.{record-in-range}
use Rattle.record_replay.proofs.OnRuns.{length-records, records-append}
use Rattle.record_codec.specs.Saved.{SavedFields}
use Rattle.trimmer.specs.Covered.{MarkFields}
use Rattle.trimmer.specs.declared.saved.SavedAt.{SavedAt}
use Rattle.disk_model.specs.Cells.{Cell}
use Rattle.plant_core.specs.Invariant.{FitsTogether, IsCopy, IsFrontOf, SnapshotsFit}
use Rattle.plant_core.specs.Marks.{mark_of, marks_of}
use Rattle.plant_core.specs.Snapshots.{SnapshotFields}
use Rattle.plant_core.specs.View.{View, fired_number, view_by, with_away, with_fired}
use Rattle.plant_core.specs.declared.limits.TheConstants.{MOST_TAIL}
use Rattle.plant_core.proofs.Chosen.{fold-more, run-more}
use Rattle.plant_core.proofs.Marking.{tail-marked}

-- a bound on each count is one on all of the list, and the other way round
pub all-within : (counts : List ℕ) (n : ℕ) → ((atom : ℕ) → count_of counts atom ≤ n) → All (λ count. count ≤ n) counts
all-within [] n each = All-nil (λ count. count ≤ n)
all-within (k ∷ ks) n each = All-cons (λ (count : ℕ). count ≤ n) k ks (each 0) (all-within ks n (λ atom. each (suc atom)))

pub each-within : (counts : List ℕ) (n atom : ℕ) → All (λ count. count ≤ n) counts → count_of counts atom ≤ n
each-within counts n atom all = ⊎_elim
    (λ within. all atom 0 within)
    (λ past. let none : count_of counts atom ≡ 0 = get_or_past counts atom 0 past in omega arith)
    (cases_lt atom (length counts))

-- there is a row for each move whose row is told
pub told-many : (delivered : ℕ → Row) (moves : List Move) (rows : List Row) → IsDelivered moves delivered rows → length moves ≤ length rows
told-many delivered [] rows told = omega arith
told-many delivered (m ∷ ms) [] told = absurd (none-some (delivered m.atom) (told 0 m refl))
told-many delivered (m ∷ ms) (row ∷ rows) told =
    let fewer : length ms ≤ length rows = told-many delivered ms rows (λ place k there. told (suc place) k there) in
    omega arith

-- what is known of saved states fits if more was acknowledged and fired since
pub snapshots-later : (plant : PlantDefinition) (known : List SavedAt) (held : List (Option SavedFields)) (counts later : List ℕ) (fired last : ℕ) → ((atom : ℕ) → count_of counts atom ≤ count_of later atom) → fired ≤ last
    → SnapshotsFit plant known held counts fired → SnapshotsFit plant known held later last
snapshots-later plant known held counts later fired last grown more fit = record {
  known_many = fit.known_many;
  known_within = λ atom. omega (arith, fit.known_within atom, grown atom);
  places = fit.places;
  own = fit.own;
  copies = λ atom saved there.
      let copy : IsCopy plant known fired saved = fit.copies atom saved there in
      record { of_atom = copy.of_atom; last = omega (arith, copy.last, more); newer = copy.newer };
}

module _ (plant : PlantDefinition) (v : View) (bodies : List (List ℕ)) (kept : FitsTogether plant v bodies) where
  -- there is a body for each choice of the tail
  pub bodies-many : length bodies ≡ length v.tail
  bodies-many =
      sym (length-map bodies fired_in) ∙ ap length kept.held ∙
      length-map (records_of plant v.acked v.acked_counts v.number v.tail) (λ (r : FiredFields). Some r) ∙
      length-records plant v.acked v.acked_counts v.number v.tail

  -- no atom has taken part more often than there were choices
  pub counts-so-far : All (λ count. count ≤ fired_number v) v.counts
  counts-so-far = subst (All (λ (count : ℕ). count ≤ fired_number v)) (sym kept.counted) (behind-within v.tail v.acked_counts v.number (all-within v.acked_counts v.number kept.counts_within))

  pub count-so-far : (atom : ℕ) → count_of v.counts atom ≤ fired_number v
  count-so-far atom = each-within v.counts (fired_number v) atom counts-so-far

  module _ (c : FiringDefinition) (can : CanFire plant v.present c) where
    -- the record of the choice is in the ranges of a record
    pub next-in-range : fault_of plant ≡ None → list_all is_well_formed plant.atoms ≡ true → fired_number v < LAST_NUMBER → IsFired (record_by plant v.present v.counts (fired_number v + 1) c)
    next-in-range valid formed last =
        let below : All (λ count. count < fired_number v + 1) v.counts =
        All-weaker (λ (count : ℕ). count ≤ fired_number v) (λ (count : ℕ). count < fired_number v + 1) (λ count within. omega arith) v.counts counts-so-far in
        record-in-range plant v.present v.counts c valid can.0 (fired_number v + 1) formed below (omega arith) (omega arith)

    -- what is kept fits together with one choice and one record more
    pub one-more : (more : List (List ℕ)) → map fired_in more ≡ map fired_in bodies ++ Some (record_by plant v.present v.counts (fired_number v + 1) c) ∷ [] → length v.tail < MOST_TAIL
        → fired_number v + 1 < v.base + v.ring → fired_number v < LAST_NUMBER → FitsTogether plant (with_fired plant c v) more
    one-more more held short room last =
        let longer : length (v.tail ++ c ∷ []) ≡ length v.tail + 1 = length-append v.tail (c ∷ []) in
        record {
          of_plant = kept.of_plant;
          fits = kept.fits;
          run = run-more plant v.tail v.acked c kept.run (subst (λ states. CanFire plant states c) kept.leads can);
          leads = ap (λ states. next plant states c) kept.leads ∙ fold-more plant v.tail v.acked c;
          counted = ap (counts_after c.moves) kept.counted ∙ sym (behind-append v.tail (c ∷ []) v.acked_counts);
          counts_length = kept.counts_length;
          counts_within = kept.counts_within;
          held = all-held;
          short = omega (arith, longer);
          base_from = kept.base_from;
          base_to = kept.base_to;
          room = omega (arith, longer);
          last_to = omega (arith, longer);
          marks_many = omega (arith, longer, kept.marks_many, length-append v.marks (mark_of (record_by plant v.present v.counts (fired_number v + 1) c) ∷ []));
          marks_of_tail = tail-marked (v.number + 1 - v.base) v.marks records (records_of plant v.acked v.acked_counts v.number (v.tail ++ c ∷ [])) (record_by plant v.present v.counts (fired_number v + 1) c)
              (omega (arith, kept.marks_many)) all-records kept.marks_of_tail;
          snapshots = snapshots-later plant v.saved v.kept v.acked_counts v.acked_counts (fired_number v) (v.number + length (v.tail ++ c ∷ [])) (λ atom. omega arith) (omega (arith, longer)) kept.snapshots;
        }
      where
        records : List FiredFields
        records = records_of plant v.acked v.acked_counts v.number v.tail

        told : List FiredFields → List (Option FiredFields)
        told rs = map (λ (r : FiredFields). Some r) rs

        all-records : records_of plant v.acked v.acked_counts v.number (v.tail ++ c ∷ []) ≡ records ++ record_by plant v.present v.counts (fired_number v + 1) c ∷ []
        all-records =
            records-append plant v.tail (c ∷ []) v.acked v.acked_counts v.number ∙
            ap (λ states. records ++ record_by plant states (counts_after_all v.tail v.acked_counts) (fired_number v + 1) c ∷ []) (sym kept.leads) ∙
            ap (λ counts. records ++ record_by plant v.present counts (fired_number v + 1) c ∷ []) (sym kept.counted)

        all-held : map fired_in more ≡ told (records_of plant v.acked v.acked_counts v.number (v.tail ++ c ∷ []))
        all-held =
            held ∙
            ap (λ os. os ++ Some (record_by plant v.present v.counts (fired_number v + 1) c) ∷ []) kept.held ∙
            sym (map-append (λ (r : FiredFields). Some r) records (record_by plant v.present v.counts (fired_number v + 1) c ∷ [])) ∙
            ap told (sym all-records)

-- the view after a firing, as it is kept, if these jobs are given out then
pub view-of-fired : (plant : PlantDefinition) (acked still present after : List Local) (acked_counts counts counts_then : List ℕ) (number : ℕ) (tail longer : List Firing) (fired : Firing) (j : Ring) (marks marked : List MarkFields) (s : SnapshotFields) (away out jobs : List (Option JobDefinition)) (broken : Bool)
    → still ≡ acked → longer ≡ tail ++ fired ∷ [] → after ≡ next plant present (fired_of fired) → counts_then ≡ counts_after (fired_of fired).moves counts
    → marked ≡ marks ++ mark_of (record_by plant present counts (number + length (map fired_of tail) + 1) (fired_of fired)) ∷ [] → out ≡ jobs
    → view_by still acked_counts number longer after counts_then j marked s out broken ≡ with_away jobs (with_fired plant (fired_of fired) (view_by acked acked_counts number tail present counts j marks s away broken))
view-of-fired plant acked still present after acked_counts counts counts_then number tail longer fired j marks marked s away out jobs broken same grown stepped counted more given =
    ap (λ states. view_by states acked_counts number longer after counts_then j marked s out broken) same ∙
    ap (λ cs. view_by acked acked_counts number cs after counts_then j marked s out broken) grown ∙
    ap (λ states. view_by acked acked_counts number (tail ++ fired ∷ []) states counts_then j marked s out broken) stepped ∙
    ap (λ ks. view_by acked acked_counts number (tail ++ fired ∷ []) (next plant present (fired_of fired)) ks j marked s out broken) counted ∙
    ap (λ ms. view_by acked acked_counts number (tail ++ fired ∷ []) (next plant present (fired_of fired)) (counts_after (fired_of fired).moves counts) j ms s out broken) more ∙
    ap (λ js. view_by acked acked_counts number (tail ++ fired ∷ []) (next plant present (fired_of fired)) (counts_after (fired_of fired).moves counts) j (marks ++ mark_of (record_by plant present counts (number + length (map fired_of tail) + 1) (fired_of fired)) ∷ []) s js broken) given ∙
    ap (λ (cs : List FiringDefinition). record (with_fired plant (fired_of fired) (view_by acked acked_counts number tail present counts j marks s away broken)) { tail = cs; away = jobs }) (map-append fired_of tail (fired ∷ []))

-- Which records are kept, what is known of saved states, which atoms are away and whether the device has failed say nothing of the rest.
pub changed-fits : (plant : PlantDefinition) (v : View) (bodies : List (List ℕ)) → FitsTogether plant v bodies
    → (base : ℕ) (marks : List MarkFields) (saved : List SavedAt) (held : List (Option SavedFields)) (away : List (Option JobDefinition)) (broken : Bool) → 1 ≤ base → base ≤ v.number + 1
    → fired_number v < base + v.ring → base + length marks ≡ fired_number v + 1 → drop (v.number + 1 - base) marks ≡ marks_of (records_of plant v.acked v.acked_counts v.number v.tail) → SnapshotsFit plant saved held v.acked_counts (fired_number v)
    → FitsTogether plant (record v { base = base; marks = marks; saved = saved; kept = held; away = away; broken = broken }) bodies
changed-fits plant v bodies kept base marks saved held away broken from to room many of_tail snapshots = record {
  of_plant = kept.of_plant;
  fits = kept.fits;
  run = kept.run;
  leads = kept.leads;
  counted = kept.counted;
  counts_length = kept.counts_length;
  counts_within = kept.counts_within;
  held = kept.held;
  short = kept.short;
  base_from = from;
  base_to = to;
  room = room;
  last_to = kept.last_to;
  marks_many = many;
  marks_of_tail = of_tail;
  snapshots = snapshots;
}

-- so it is if other atoms are away
pub away-fits : (plant : PlantDefinition) (v : View) (bodies : List (List ℕ)) (jobs : List (Option JobDefinition)) → FitsTogether plant v bodies → FitsTogether plant (with_away jobs v) bodies
away-fits plant v bodies jobs kept =
    changed-fits plant v bodies kept v.base v.marks v.saved v.kept jobs v.broken kept.base_from kept.base_to kept.room kept.marks_many kept.marks_of_tail kept.snapshots

pub away-front : (plant : PlantDefinition) (digest : List ℕ) (bytes : ℕ) (v : View) (jobs : List (Option JobDefinition)) (image : List Cell) → IsFrontOf plant digest bytes v image → IsFrontOf plant digest bytes (with_away jobs v) image
away-front plant digest bytes v jobs image front = record { from = front.from; to = front.to; stands = front.stands }

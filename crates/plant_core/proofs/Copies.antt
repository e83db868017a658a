-- The copies that a durable plant keeps are on the way of their atoms' replay, whatever it does.
use Rattle.std.proofs.Common.{◌≡◌, ◌≢◌, inl, inr, ℕ, zero, suc, ◌+◌, ◌-◌, ◌<◌, ◌≤◌, refl, sym, ◌∙◌, ap, subst, ⊎_elim, List, [], ◌∷◌, ◌++◌, length, get_or, slice_get, take, set, arith, Option, None, Some, Ok, get_or-set_same, get_or-set_other, length-set}
use Rattle.std.specs.Prelude.{IfSome}
use Rattle.std.specs.Option.{option_map}
use Rattle.std.proofs.Math.Seq.{take-append-add}
use Rattle.std.proofs.lemmas.Bool.{cases_eq, cases_lt}
use Rattle.std.proofs.lemmas.List.{append-nil, append_assoc, get_or_past, length-append, take-append-le, take_all, take_more, take_more_set}
use Rattle.std.proofs.lemmas.Option.{get_or_from_slice_get, none-some, same_Some, slice_get_within}
use Rattle.petri_atom.specs.Definition.{AtomDefinition}
use Rattle.petri_atom.specs.Local.{Local}
use Rattle.disk_model.specs.Cells.{Cell}
use Rattle.record_codec.specs.Fired.{FiredFields}
use Rattle.record_codec.specs.Saved.{SavedFields}
use Rattle.snapshot_writer.specs.Parcels.{local_in, saved_by}
use Rattle.plant_model.specs.Firing.{FiringDefinition}
use Rattle.plant_model.specs.Plant.{PlantDefinition}
use Rattle.plant_model.specs.Runs.{IsRun, fold}
use Rattle.record_replay.specs.Records.{count_of, counts_after_all, records_of}
use Rattle.record_replay.specs.Replay.{Position, ok_then, replay, replay_from}
use Rattle.record_replay.proofs.OnRuns.{length-records, records-append}
use Rattle.record_replay.proofs.OverRecords.{replay-alike, replay-append, replay-grows, replay-passed, same_Ok}
use Rattle.plant_image.specs.Contents.{Contents, contents_of, replayed, saved_position, unsaved}
use Rattle.plant_image.specs.Standing.{IsOnTheWay, Leads, with_records, with_saved}
use Rattle.plant_image.proofs.ByAtoms.{element_at}
use Rattle.plant_image.proofs.OnContents.{run_leads}
use Rattle.plant_core.specs.Events.{copy_in}
use Rattle.plant_core.specs.Invariant.{AreOnTheWay, FitsTogether}
use Rattle.plant_core.specs.Snapshots.{AreOwn, held_at}
use Rattle.plant_core.specs.View.{View, fired_number, with_all_acked, with_asked, with_fired, with_stored}
use Rattle.plant_core.proofs.Flushing.{front-runs}

-- ---- one after the other

-- what is copied up to a number, and one more
pub one_more_copied : {X : Type 0} (xs ys : List X) (i : ℕ) (x : X) → i < length xs → i < length ys → slice_get ys i ≡ Some x → take i xs ≡ take i ys → take (i + 1) (set xs i x) ≡ take (i + 1) ys
one_more_copied xs ys i x inside within there so_far =
    take_more_set xs i x inside ∙
    ap (λ zs. zs ++ x ∷ []) so_far ∙
    ap (λ y. take i ys ++ y ∷ []) (sym (get_or_from_slice_get ys i x x there)) ∙
    sym (take_more ys i x within)

-- ---- what is held

-- what is put in an atom's place is there, and every other as before
pub held-other : {X : Type 0} (held : List (Option X)) (atom i : ℕ) (o : Option X) → i ≢ atom → get_or (set held atom o) i None ≡ get_or held i None
held-other held atom i o other = get_or-set_other held atom i o None other

pub held-own : {X : Type 0} (held : List (Option X)) (atom : ℕ) (o : Option X) → atom < length held → get_or (set held atom o) atom None ≡ o
held-own held atom o within = get_or-set_same held atom o None within

-- past the end nothing is put, and nothing is there
pub held-none : (held : List (Option SavedFields)) (atom : ℕ) → held_at (set held atom None) atom ≡ None
held-none held atom = ⊎_elim
    (λ within. held-own held atom None within)
    (λ past. let none : Option SavedFields = None in get_or_past (set held atom none) atom none (omega (arith, length-set held atom none, past)))
    (cases_lt atom (length held))

-- what is found where something was put is just that
pub put-there : {X : Type 0} (held : List (Option X)) (atom : ℕ) (x other : X) → get_or (set held atom (Some x)) atom None ≡ Some other → x ≡ other
put-there {X} held atom x other there = ⊎_elim
    (λ within. same_Some x other (sym (held-own held atom (Some x) within) ∙ there))
    (λ past. let some : Option X = Some x in absurd (none-some other (sym (get_or_past (set held atom some) atom None (omega (arith, length-set held atom some, past))) ∙ there)))
    (cases_lt atom (length held))

-- each is one of its own atom
pub own-held : (held : List (Option SavedFields)) (atom : ℕ) (found : Option SavedFields) → AreOwn held → found ≡ held_at held atom → IfSome found (λ saved. saved.atom ≡ atom)
own-held held atom None own is = tt
own-held held atom (Some saved) own is = own atom saved (sym is)

-- there is a place for one that is held
pub held-within : (held : List (Option SavedFields)) (atom : ℕ) (saved : SavedFields) → held_at held atom ≡ Some saved → atom < length held
held-within held atom saved there = ⊎_elim
    (λ within. within)
    (λ past. absurd (none-some saved (sym (get_or_past held atom None past) ∙ there)))
    (cases_lt atom (length held))

-- what was taken is put back
pub held-again : (held : List (Option SavedFields)) (atom : ℕ) (saved : SavedFields) → held_at held atom ≡ Some saved → set (set held atom None) atom (Some saved) ≡ held
held-again [] atom saved there = refl
held-again (o ∷ os) zero saved there = ap (λ (x : Option SavedFields). x ∷ os) (sym there)
held-again (o ∷ os) (suc atom) saved there = ap (λ (xs : List (Option SavedFields)). o ∷ xs) (held-again os atom saved there)

-- ---- on the way

-- more records after those that lead to the copy change nothing
pub way-longer : (c : Contents) (a : AtomDefinition) (saved : SavedFields) (more : List FiredFields) → saved.at + 1 - c.base ≤ length c.records → IsOnTheWay c a saved → IsOnTheWay (with_records more c) a saved
way-longer c a saved more short way = record {
  from = way.from;
  later = way.later;
  reached = ap (replay_from a saved.atom (saved_position c saved.atom)) (take-append-le (saved.at + 1 - c.base) c.records more short) ∙ way.reached;
}

-- another atom's state is stored
pub way-beside : (c : Contents) (a : AtomDefinition) (saved other : SavedFields) → other.atom ≢ saved.atom → IsOnTheWay c a other → IsOnTheWay (with_saved saved c) a other
way-beside c a saved other apart way =
    let same : saved_position (with_saved saved c) other.atom ≡ saved_position c other.atom =
    ap (λ (s : SavedFields). record { state = local_in s; count = s.count }) (get_or-set_other c.slots saved.atom other.atom saved (unsaved other.atom) apart) in
    record {
      from = way.from;
      later = subst (λ (p : Position). p.count ≤ other.count) (sym same) way.later;
      reached = ap (λ (p : Position). replay_from a other.atom p (take (other.at + 1 - c.base) c.records)) same ∙ way.reached;
    }

-- the state of an atom to which the contents lead
pub way-whole : (plant : PlantDefinition) (c : Contents) (states : List Local) (counts : List ℕ) (number : ℕ) → Leads plant c states counts number → (atom : ℕ) (a : AtomDefinition) (s : Local)
    → slice_get plant.atoms atom ≡ Some a → slice_get states atom ≡ Some s → IsOnTheWay c a (saved_by atom (count_of counts atom) number s)
way-whole plant c states counts number leads atom a s own there =
    let p : Position = saved_position c atom in
    let k : ℕ = number + 1 - c.base in
    let e : Position = record { state = s; count = count_of counts atom } in
    let reached : replayed c atom a ≡ Ok e = leads.each atom a s own there in
    record {
      from = omega (arith, leads.last);
      later = replay-grows a atom p.count c.records p e reached;
      reached = ap (replay_from a atom p) (take_all k c.records (omega (arith, leads.last))) ∙ reached;
    }

-- contents with the same records after one another
joined : (c : Contents) (xs ys : List FiredFields) → with_records ys (with_records xs c) ≡ with_records (xs ++ ys) c
joined c xs ys = ap (λ rs. record c { records = rs }) (append_assoc c.records xs ys)

nothing-more : (c : Contents) → with_records [] c ≡ c
nothing-more c = ap (λ (rs : List FiredFields). record c { records = rs }) (append-nil c.records)

-- a replay that counts nothing leaves the state
stays-there : (a : AtomDefinition) (atom limit : ℕ) (xs : List FiredFields) (p q : Position) → limit ≤ p.count → replay a atom limit xs p ≡ Ok q → q.count ≤ p.count → p ≡ q
stays-there a atom limit xs p q few there still = same_Ok p q (sym (replay-passed a atom limit p.count xs p q p few there still) ∙ replay-alike a atom limit p.count xs p q few (omega arith) there)

-- the parts of a copy of the present state
pub copy-parts : (v : View) (atom : ℕ) (saved : SavedFields) → copy_in v atom ≡ Some saved → (s : Local) × (slice_get v.present atom ≡ Some s) × (saved_by atom (count_of v.counts atom) (fired_number v) s ≡ saved)
copy-parts v atom saved is = by_state (slice_get v.present atom) is
  where
    by_state : (o : Option Local) → option_map (saved_by atom (count_of v.counts atom) (fired_number v)) o ≡ Some saved → (s : Local) × (o ≡ Some s) × (saved_by atom (count_of v.counts atom) (fired_number v) s ≡ saved)
    by_state None found = absurd (none-some saved found)
    by_state (Some s) found = (s, refl, same_Some (saved_by atom (count_of v.counts atom) (fired_number v) s) saved found)

module _ (plant : PlantDefinition) (v : View) (bodies : List (List ℕ)) (kept : FitsTogether plant v bodies) where
  abbrev news : List FiredFields
  news = records_of plant v.acked v.acked_counts v.number v.tail

  many : length news ≡ length v.tail
  many = length-records plant v.acked v.acked_counts v.number v.tail

  module _ (c : Contents) (leads : Leads plant c v.acked v.acked_counts v.number) where
    -- the records that lead to a copy are among those on the device and those of the tail
    short : (saved : SavedFields) → saved.at ≤ fired_number v → saved.at + 1 - c.base ≤ length (c.records ++ news)
    short saved last = omega (arith, last, leads.last, many, length-append c.records news)

    -- the plant fires
    pub way-fired : (choice : FiringDefinition) (a : AtomDefinition) (saved : SavedFields) → saved.at ≤ fired_number v → IsOnTheWay (with_records news c) a saved
        → IsOnTheWay (with_records (records_of plant v.acked v.acked_counts v.number (v.tail ++ choice ∷ [])) c) a saved
    way-fired choice a saved last way =
        let more : List FiredFields = records_of plant (fold plant v.acked v.tail) (counts_after_all v.tail v.acked_counts) (v.number + length v.tail) (choice ∷ []) in
        subst (λ rs. IsOnTheWay (with_records rs c) a saved) (sym (records-append plant v.tail (choice ∷ []) v.acked v.acked_counts v.number))
        (subst (λ d. IsOnTheWay d a saved) (joined c news more) (way-longer (with_records news c) a saved more (short saved last) way))

    -- it copies the present state of an atom
    led : Leads plant (with_records news c) (fold plant v.acked v.tail) (counts_after_all v.tail v.acked_counts) (v.number + length v.tail)
    led = run_leads plant c v.acked v.acked_counts v.number leads (fold plant v.acked v.tail) v.tail
        (subst (λ cs. IsRun plant v.acked cs (fold plant v.acked cs)) (take_all (length v.tail) v.tail (omega arith)) (front-runs plant v bodies kept (length v.tail)))

    pub way-copied : (atom : ℕ) (a : AtomDefinition) (saved : SavedFields) → copy_in v atom ≡ Some saved → slice_get plant.atoms saved.atom ≡ Some a → IsOnTheWay (with_records news c) a saved
    way-copied atom a saved is at =
        let parts = copy-parts v atom saved is in
        let s : Local = parts.0 in
        let made : saved_by atom (count_of v.counts atom) (fired_number v) s ≡ saved = parts.2 in
        subst (λ (t : SavedFields). IsOnTheWay (with_records news c) a t) made (by_parts s parts.1 (subst (λ (t : SavedFields). slice_get plant.atoms t.atom ≡ Some a) (sym made) at))
      where
        by_parts : (s : Local) → slice_get v.present atom ≡ Some s → slice_get plant.atoms atom ≡ Some a → IsOnTheWay (with_records news c) a (saved_by atom (count_of v.counts atom) (fired_number v) s)
        by_parts s there own =
            subst (λ (counts : List ℕ). IsOnTheWay (with_records news c) a (saved_by atom (count_of counts atom) (fired_number v) s)) (sym kept.counted)
            (way-whole plant (with_records news c) (fold plant v.acked v.tail) (counts_after_all v.tail v.acked_counts) (v.number + length v.tail) led atom a s own (subst (λ (states : List Local). slice_get states atom ≡ Some s) kept.leads there))

    -- a copy that includes acknowledged firings alone is on the way over the records on the device
    pub way-acked : (a : AtomDefinition) (saved : SavedFields) → slice_get plant.atoms saved.atom ≡ Some a → saved.count ≤ count_of v.acked_counts saved.atom → IsOnTheWay (with_records news c) a saved → IsOnTheWay c a saved
    way-acked a saved at behind way = record { from = way.from; later = way.later; reached = ⊎_elim in-front past (cases_lt (length c.records) (saved.at + 1 - c.base)) }
      where
        k : ℕ
        k = saved.at + 1 - c.base

        p : Position
        p = saved_position c saved.atom

        q : Position
        q = record { state = local_in saved; count = saved.count }

        past : k ≤ length c.records → replay_from a saved.atom p (take k c.records) ≡ Ok q
        past few = ap (replay_from a saved.atom p) (sym (take-append-le k c.records news few)) ∙ way.reached

        in-front : length c.records < k → replay_from a saved.atom p (take k c.records) ≡ Ok q
        in-front far =
            let below : saved.atom < length v.acked = omega (arith, slice_get_within plant.atoms saved.atom a at, leads.as_many) in
            let there = element_at v.acked saved.atom below in
            let e : Position = record { state = there.0; count = count_of v.acked_counts saved.atom } in
            let acked : replay a saved.atom p.count c.records p ≡ Ok e = leads.each saved.atom a there.0 at there.1 in
            let m : ℕ = k - length c.records in
            let split : take k (c.records ++ news) ≡ c.records ++ take m news = ap (λ (n : ℕ). take n (c.records ++ news)) (omega (arith, far)) ∙ take-append-add c.records news m in
            let rest : replay a saved.atom p.count (take m news) e ≡ Ok q =
            ap (λ r. ok_then r (λ (x : Position). replay a saved.atom p.count (take m news) x)) (sym acked) ∙
            sym (replay-append a saved.atom p.count c.records (take m news) p) ∙
            ap (λ rs. replay a saved.atom p.count rs p) (sym split) ∙ way.reached in
            let is : e ≡ q = stays-there a saved.atom p.count (take m news) e q (replay-grows a saved.atom p.count c.records p e acked) rest behind in
            ap (replay_from a saved.atom p) (take_all k c.records (omega (arith, far))) ∙ acked ∙ ap (λ (x : Position). Ok x) is

  module _ (cells : List Cell) (leads : Leads plant (contents_of (length plant.atoms) cells) v.acked v.acked_counts v.number) (ways : AreOnTheWay plant v cells) where
    pub ways-fired : (choice : FiringDefinition) → AreOnTheWay plant (with_fired plant choice v) cells
    ways-fired choice = λ atom saved a there at.
        way-fired (contents_of (length plant.atoms) cells) leads choice a saved (kept.snapshots.copies atom saved there).last (ways atom saved a there at)

    pub ways-asked : (atom : ℕ) (saved : SavedFields) → copy_in v atom ≡ Some saved → AreOnTheWay plant (with_asked saved v) cells
    ways-asked atom saved is = λ i other a there at. elim (cases_eq i saved.atom) [
      | inl same ↦
          let held : held_at (set v.kept saved.atom (Some saved)) saved.atom ≡ Some other = ap (held_at (set v.kept saved.atom (Some saved))) (sym same) ∙ there in
          let own : saved ≡ other = put-there v.kept saved.atom saved other held in
          subst (λ (t : SavedFields). IsOnTheWay (with_records news (contents_of (length plant.atoms) cells)) a t) own
          (way-copied (contents_of (length plant.atoms) cells) leads atom a saved is (subst (λ (t : SavedFields). slice_get plant.atoms t.atom ≡ Some a) (sym own) at))
      | inr apart ↦ ways i other a (sym (held-other v.kept saved.atom i (Some saved) apart) ∙ there) at
    ]

    -- all that was fired is acknowledged
    pub ways-flushed : (after : List Cell) → contents_of (length plant.atoms) after ≡ with_records news (contents_of (length plant.atoms) cells) → AreOnTheWay plant (with_all_acked v) after
    ways-flushed after reads = λ atom saved a there at.
        subst (λ d. IsOnTheWay d a saved) (sym (nothing-more (contents_of (length plant.atoms) after) ∙ reads)) (ways atom saved a there at)

    -- a state is stored, and its copy given up
    pub ways-stored : (saved : SavedFields) (after : List Cell) → AreOwn v.kept → contents_of (length plant.atoms) after ≡ with_saved saved (contents_of (length plant.atoms) cells) → AreOnTheWay plant (with_stored saved v) after
    ways-stored saved after own reads = λ i other a there at. elim (cases_eq i saved.atom) [
      | inl same ↦ absurd (none-some other (sym (held-none v.kept saved.atom) ∙ ap (held_at (set v.kept saved.atom None)) (sym same) ∙ there))
      | inr apart ↦
          let before : held_at v.kept i ≡ Some other = sym (held-other v.kept saved.atom i None apart) ∙ there in
          subst (λ d. IsOnTheWay (with_records news d) a other) (sym reads)
          (way-beside (with_records news (contents_of (length plant.atoms) cells)) a saved other (λ same. apart (sym (own i other before) ∙ same)) (ways i other a before at))
    ]

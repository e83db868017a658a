-- Replay over the records of a run.
use Rattle.std.proofs.Common.{◌≡◌, ◌+◌, ◌==◌, ◌<◌, ◌≤◌, ℕ, suc, refl, sym, ◌∙◌, ap, subst, List, [], ◌∷◌, ◌++◌, length, map, slice_get, arith, Contains, Bool, true, false, cond, ◌&&◌, Option, Some, None, find, option_map, Ok}
use Rattle.std.specs.List.{range_with_len}
use Rattle.std.specs.Option.{option_map_or}
use Rattle.std.proofs.lemmas.Bool.{and_parts, eqb-true}
use Rattle.std.proofs.lemmas.Option.{none-some, same_Some}
use Rattle.petri_atom.specs.Definition.{AtomDefinition, fired, offers_number}
use Rattle.petri_atom.specs.Local.{Local, Row}
use Rattle.record_codec.specs.Fired.{FiredFields}
use Rattle.record_codec.specs.declared.entry.Entry.{Entry}
use Rattle.plant_model.specs.Choice.{IsAllowed}
use Rattle.plant_model.specs.Firing.{FiringDefinition, choice_in}
use Rattle.plant_model.specs.Laws.{is_of_port}
use Rattle.plant_model.specs.Plant.{PlantDefinition}
use Rattle.plant_model.specs.Runs.{IsRun, fold}
use Rattle.plant_model.specs.Step.{moved_by, next, stepped, transfer}
use Rattle.plant_model.specs.declared.choice.Move.{Move}
use Rattle.plant_model.proofs.ByAtom.{next-entry}
use Rattle.plant_model.proofs.Membership.{here, later}
use Rattle.plant_model.proofs.OfChoices.{taking}
use Rattle.plant_model.proofs.OfPorts.{port-of-move}
use Rattle.plant_model.proofs.OnRuns.{runs-cut}
use Rattle.record_replay.specs.Records.{count_of, counted_by, counts_after, counts_after_all, entry_by, record_by, records_of}
use Rattle.record_replay.specs.Replay.{Position, ok_then, replay, replay_from, replay_record}
use Rattle.record_replay.proofs.Counting.{counted-entry, counted-grows, length-counted}
use Rattle.record_replay.proofs.OverRecords.{fires-entry, goes-onward, play, replay-anew, replay-append}

-- what is found is in the list, and passes
pub found-in : {X : Type 0} (f : X → Bool) (xs : List X) (x : X) → find f xs ≡ Some x → Contains xs x × (f x ≡ true)
found-in f [] x found = absurd (none-some x found)
found-in f (y ∷ ys) x found = each (found-in f ys x) (f y) refl found
  where
    each : (find f ys ≡ Some x → Contains ys x × (f x ≡ true)) → (b : Bool) → f y ≡ b → cond b (Some y) (find f ys) ≡ Some x → Contains (y ∷ ys) x × (f x ≡ true)
    each behind true told is =
        let same : y ≡ x = same_Some y x is in
        (subst (Contains (y ∷ ys)) same (here y ys), ap f (sym same) ∙ told)
    each behind false told is = let rest = behind is in (later y ys x rest.0, rest.1)

-- what is found among elements that are made of others
pub find-made : {X Y : Type 0} (f : Y → Bool) (g : X → Y) (xs : List X) → find f (map g xs) ≡ option_map g (find (λ x. f (g x)) xs)
find-made f g [] = refl
find-made f g (x ∷ xs) = each (find-made f g xs) (f (g x))
  where
    each : find f (map g xs) ≡ option_map g (find (λ y. f (g y)) xs) → (b : Bool) → cond b (Some (g x)) (find f (map g xs)) ≡ option_map g (cond b (Some x) (find (λ y. f (g y)) xs))
    each behind true = refl
    each behind false = behind

-- the records are numbered in a row
pub numbers-of : (plant : PlantDefinition) (states : List Local) (counts : List ℕ) (n : ℕ) (cs : List FiringDefinition) → map (λ (r : FiredFields). r.number) (records_of plant states counts n cs) ≡ range_with_len (n + 1) (length cs)
numbers-of plant states counts n [] = refl
numbers-of plant states counts n (c ∷ cs) =
    ap (λ ns. (n + 1) ∷ ns) (numbers-of plant (next plant states c) (counts_after c.moves counts) (n + 1) cs)

pub length-records : (plant : PlantDefinition) (states : List Local) (counts : List ℕ) (n : ℕ) (cs : List FiringDefinition) → length (records_of plant states counts n cs) ≡ length cs
length-records plant states counts n [] = refl
length-records plant states counts n (c ∷ cs) = ap suc (length-records plant (next plant states c) (counts_after c.moves counts) (n + 1) cs)

pub records-append : (plant : PlantDefinition) (xs ys : List FiringDefinition) (states : List Local) (counts : List ℕ) (n : ℕ) → records_of plant states counts n (xs ++ ys) ≡ records_of plant states counts n xs ++ records_of plant (fold plant states xs) (counts_after_all xs counts) (n + length xs) ys
records-append plant [] ys states counts n =
    let e : n ≡ n + 0 = omega arith in
    ap (λ (k : ℕ). records_of plant states counts k ys) e
records-append plant (x ∷ xs) ys states counts n =
    let e : (n + 1) + length xs ≡ n + suc (length xs) = omega arith in
    let after = next plant states x in
    let counted = counts_after x.moves counts in
    ap (λ rs. record_by plant states counts (n + 1) x ∷ rs) (records-append plant xs ys after counted (n + 1)) ∙
    ap (λ (k : ℕ). record_by plant states counts (n + 1) x ∷ (records_of plant after counted (n + 1) xs ++ records_of plant (fold plant after xs) (counts_after_all xs counted) k ys)) e

module _ (plant : PlantDefinition) (atom : ℕ) (a : AtomDefinition) (its_atom : slice_get plant.atoms atom ≡ Some a) where
  -- a participant of an allowed choice fires a transition that its atom's state offers
  move-offered : (states : List Local) (c : FiringDefinition) (s : Local) (m : Move) → IsAllowed plant states (choice_in c) → slice_get states atom ≡ Some s → Contains c.moves m → m.atom ≡ atom → offers_number a s m.transition ≡ true
  move-offered states c s m allowed its_state at own =
      let takes = (taking plant states (choice_in c) allowed).1 in
      let found = port-of-move plant.atoms states takes.interaction.ports c.moves takes.moves m at in
      let p = found.0 in
      let parts = and_parts (m.atom == p.atom) _ found.2 in
      let same : p.atom ≡ atom = sym (eqb-true m.atom p.atom parts.0) ∙ own in
      let both : (is_of_port a p.port m.transition && offers_number a s m.transition) ≡ true =
      sym (ap (λ (k : ℕ). option_map_or (λ b. option_map_or (λ w. is_of_port b p.port m.transition && offers_number b w m.transition) (slice_get states k) false) (slice_get plant.atoms k) false) same ∙
      ap (λ o. option_map_or (λ b. option_map_or (λ w. is_of_port b p.port m.transition && offers_number b w m.transition) (slice_get states atom) false) o false) its_atom ∙
      ap (λ o. option_map_or (λ w. is_of_port a p.port m.transition && offers_number a w m.transition) o false) its_state) ∙ parts.1 in
      (and_parts (is_of_port a p.port m.transition) (offers_number a s m.transition) both).1

  -- where the atom is after the first of its moves
  abbrev after_move : (ℕ → Row) → Local → ℕ → Option Move → Position
  after_move delivered s count o = record {
    state = option_map_or (λ m. fired a m.transition (delivered atom) s) o s;
    count = option_map_or (λ m. count + 1) o count;
  }

  -- the record of a step brings the atom on with the plant
  one-record : (states : List Local) (counts : List ℕ) (n : ℕ) (c : FiringDefinition) (saved : ℕ) (s : Local) → IsAllowed plant states (choice_in c) → slice_get states atom ≡ Some s → saved ≤ count_of counts atom
      → replay_record a atom saved (record_by plant states counts n c) (record { state = s; count = count_of counts atom }) ≡ Ok (record { state = stepped plant.atoms c.moves (transfer plant states c) atom s; count = counted_by c.moves atom (count_of counts atom) })
  one-record states counts n c saved s allowed its_state from =
      ap (λ o. play a n saved o (record { state = s; count = count_of counts atom })) (find-made (λ (e : Entry). e.atom == atom) (λ m. entry_by counts m (transfer plant states c m.atom)) c.moves) ∙
      each (find (λ m. m.atom == atom) c.moves) refl ∙
      ap (λ o. Ok (record { state = option_map_or (λ b. moved_by b c.moves (transfer plant states c atom) atom s) o s; count = counted_by c.moves atom (count_of counts atom) })) (sym its_atom)
    where
      part : Move → Entry
      part m = entry_by counts m (transfer plant states c m.atom)

      each : (o : Option Move) → find (λ m. m.atom == atom) c.moves ≡ o → play a n saved (option_map (λ m. entry_by counts m (transfer plant states c m.atom)) o) (record { state = s; count = count_of counts atom }) ≡ Ok (after_move (transfer plant states c) s (count_of counts atom) o)
      each None found = refl
      each (Some m) found =
          let in_it = found-in (λ (k : Move). k.atom == atom) c.moves m found in
          let own : m.atom ≡ atom = eqb-true m.atom atom in_it.1 in
          let there : Position = record { state = s; count = count_of counts atom } in
          let e : Entry = entry_by counts m (transfer plant states c m.atom) in
          let count : count_of counts m.atom + 1 ≡ count_of counts atom + 1 = ap (λ (k : ℕ). count_of counts k + 1) own in
          let past : saved < count_of counts m.atom + 1 = omega arith in
          goes-onward a n e there saved past ∙
          fires-entry a n e there count (move-offered states c s m allowed its_state in_it.0 own) ∙
          ap (λ (k : ℕ). Ok (record { state = fired a m.transition (transfer plant states c k) s; count = count_of counts atom + 1 })) own

  -- so do those of a run
  pub leads-on : (cs : List FiringDefinition) (states end : List Local) (counts : List ℕ) (n saved : ℕ) (s e : Local) → IsRun plant states cs end → atom < length counts → slice_get states atom ≡ Some s → slice_get end atom ≡ Some e → saved ≤ count_of counts atom
      → replay a atom saved (records_of plant states counts n cs) (record { state = s; count = count_of counts atom }) ≡ Ok (record { state = e; count = count_of (counts_after_all cs counts) atom })
  leads-on [] states end counts n saved s e run counted its_state its_end from =
      let same : s ≡ e = same_Some s e (sym its_state ∙ ap (λ states. slice_get states atom) run ∙ its_end) in
      ap (λ w. Ok (record { state = w; count = count_of counts atom })) same
  leads-on (c ∷ cs) states end counts n saved s e run counted its_state its_end from =
      let after = next plant states c in
      let w : Local = stepped plant.atoms c.moves (transfer plant states c) atom s in
      let its_next : slice_get after atom ≡ Some w = next-entry plant.atoms c.moves (transfer plant states c) atom states ∙ ap (option_map (stepped plant.atoms c.moves (transfer plant states c) atom)) its_state in
      let its_count : count_of (counts_after c.moves counts) atom ≡ counted_by c.moves atom (count_of counts atom) = counted-entry c.moves atom counts counted in
      let many : atom < length (counts_after c.moves counts) = omega (arith, length-counted c.moves 0 counts) in
      let more : saved ≤ count_of (counts_after c.moves counts) atom = omega (arith, its_count, counted-grows c.moves atom (count_of counts atom)) in
      ap (λ o. ok_then o (λ q. replay a atom saved (records_of plant after (counts_after c.moves counts) (n + 1) cs) q)) (one-record states counts (n + 1) c saved s run.0.0 its_state from) ∙
      ap (λ k. replay a atom saved (records_of plant after (counts_after c.moves counts) (n + 1) cs) (record { state = w; count = k })) (sym its_count) ∙
      leads-on cs after end (counts_after c.moves counts) (n + 1) saved w e run.1 many its_next its_end more

  -- after records that brought it to the state where the run begins
  pub run-leads-on : (start end : List Local) (counts : List ℕ) (n : ℕ) (cs : List FiringDefinition) (saved : ℕ) (s e : Local) (rs : List FiredFields) (p : Position) → IsRun plant start cs end → atom < length counts → slice_get start atom ≡ Some s → slice_get end atom ≡ Some e → saved ≤ count_of counts atom → replay a atom saved rs p ≡ Ok (record { state = s; count = count_of counts atom })
      → replay a atom saved (rs ++ records_of plant start counts n cs) p ≡ Ok (record { state = e; count = count_of (counts_after_all cs counts) atom })
  run-leads-on start end counts n cs saved s e rs p run counted its_state its_end from there =
      replay-append a atom saved rs (records_of plant start counts n cs) p ∙
      ap (λ o. ok_then o (λ q. replay a atom saved (records_of plant start counts n cs) q)) there ∙
      leads-on cs start end counts n saved s e run counted its_state its_end from

  -- a state after choices has one before them
  state-before : (cs : List FiringDefinition) (start : List Local) (s : Local) → slice_get (fold plant start cs) atom ≡ Some s → (first : Local) × (slice_get start atom ≡ Some first)
  state-before [] start s there = (s, there)
  state-before (c ∷ cs) start s there =
      let behind = state-before cs (next plant start c) s there in
      each behind.0 (slice_get start atom) refl (sym (next-entry plant.atoms c.moves (transfer plant start c) atom start) ∙ behind.1)
    where
      each : (w : Local) (o : Option Local) → slice_get start atom ≡ o → option_map (stepped plant.atoms c.moves (transfer plant start c) atom) o ≡ Some w → (first : Local) × (slice_get start atom ≡ Some first)
      each w None told is = absurd (none-some w is)
      each w (Some first) told is = (first, told)

  -- mixed counts
  pub run-replays : (start end : List Local) (counts : List ℕ) (n : ℕ) (xs ys : List FiringDefinition) (s e : Local) → IsRun plant start (xs ++ ys) end → atom < length counts → slice_get (fold plant start xs) atom ≡ Some s → slice_get end atom ≡ Some e
      → replay_from a atom (record { state = s; count = count_of (counts_after_all xs counts) atom }) (records_of plant start counts n (xs ++ ys)) ≡ Ok (record { state = e; count = count_of (counts_after_all (xs ++ ys) counts) atom })
  run-replays start end counts n xs ys s e run counted its_state its_end =
      let parts = runs-cut plant xs ys start end run in
      let before = state-before xs start s its_state in
      let first : Local = before.0 in
      let saved : ℕ = count_of counts atom in
      let p : Position = record { state = first; count = saved } in
      let same : saved ≤ saved = omega arith in
      let front = leads-on xs start (fold plant start xs) counts n saved first s parts.0 counted before.1 its_state same in
      let whole = leads-on (xs ++ ys) start end counts n saved first e run counted before.1 its_end same in
      let split = records-append plant xs ys start counts n in
      ap (λ rs. replay_from a atom (record { state = s; count = count_of (counts_after_all xs counts) atom }) rs) split ∙
      replay-anew a atom saved (records_of plant start counts n xs) (records_of plant (fold plant start xs) (counts_after_all xs counts) (n + length xs) ys) p (record { state = s; count = count_of (counts_after_all xs counts) atom }) (record { state = e; count = count_of (counts_after_all (xs ++ ys) counts) atom }) same front
      (ap (λ rs. replay a atom saved rs p) (sym split) ∙ whole)

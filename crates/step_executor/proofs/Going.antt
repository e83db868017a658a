-- What becomes of the whole state, the parts and the jobs where a sure choice fires, where its participants go away, and where one comes back.
use Rattle.std.proofs.Common.{◌≡◌, ◌≢◌, ℕ, ◌<◌, refl, sym, ◌∙◌, ap, subst, List, length, get_or, set, Contains, arith, Bool, true, false, cond, ◌||◌, unwrap_or, ⊎_elim, length-set, get_or-set_same, get_or-set_other}
use Rattle.std.specs.Prelude.{Option, Some, None, is_none, is_some, option_map, slice_get, slice_index}
use Rattle.std.specs.Option.{option_map_or}
use Rattle.std.proofs.lemmas.Bool.{cases_eq, cases_lt, false≢true, false_from_ne_true}
use Rattle.std.proofs.lemmas.List.{get_or_past}
use Rattle.std.proofs.lemmas.Option.{none-some, same_Some, slice_get_within, slice_get-get_or, unwrap_or-slice_get}
use Rattle.petri_atom.specs.Local.{Local}
use Rattle.petri_atom.specs.Definition.{AtomDefinition, fired}
use Rattle.plant_model.specs.Choice.{IsAllowed}
use Rattle.plant_model.specs.Firing.{FiringDefinition, choice_in}
use Rattle.plant_model.specs.Plant.{PlantDefinition}
use Rattle.plant_model.specs.Rules.{fault_of}
use Rattle.plant_model.specs.Step.{next, transfer}
use Rattle.plant_model.specs.declared.choice.Move.{Move}
use Rattle.plant_model.proofs.ByAtom.{first-of-atom, moves-on, none-of, stays}
use Rattle.plant_model.proofs.ValueRows.{set-here, set-other}
use Rattle.plant_model.proofs.Stepping.{length-stepped}
use Rattle.step_core.specs.Job.{JobDefinition, worked}
use Rattle.step_core.specs.Parts.{nothing_shown, parts_of, shown_in}
use Rattle.step_core.specs.Sure.{IsSure, has_move, left_by, went_on}
use Rattle.step_core.proofs.Present.{participant}
use Rattle.step_core.proofs.SureAllowed.{delivered-same, goes-on, leaves-behind, sure-allowed}
use Rattle.step_executor.specs.Outstanding.{AreCommitted, AreKept, committed_by, ended_at, is_out, is_part_away, job_by, jobs_after, parts_without, whole_of}
use Rattle.step_executor.proofs.Behind.{from-behind, length-behind, out-behind}
use Rattle.step_executor.proofs.Wholes.{away-of, ended-by, filled-at, filled-long, filled-own, filled-put, filled-same, parts-again}

-- an atom that is away has a job
pub some-job : (o : Option JobDefinition) → is_some o ≡ true → (job : JobDefinition) × (o ≡ Some job)
some-job None none = absurd (false≢true none)
some-job (Some job) some = (job, refl)

-- one that is away is there, and nothing is kept of it
pub none-there : (parts : List (Option Local)) (n : ℕ) → is_part_away parts n ≡ true → slice_get parts n ≡ Some None
none-there parts n away = each (slice_get parts n) away
  where
    each : (o : Option (Option Local)) → option_map_or is_none o false ≡ true → o ≡ Some None
    each None none = absurd (false≢true none)
    each (Some None) is = refl
    each (Some (Some s)) none = absurd (false≢true none)

pub away-within : (parts : List (Option Local)) (n : ℕ) → is_part_away parts n ≡ true → n < length parts
away-within parts n away = slice_get_within parts n None (none-there parts n away)

-- only a number within a list has one
pub some-within : (jobs : List (Option JobDefinition)) (n : ℕ) → is_out jobs n ≡ true → n < length jobs
some-within jobs n out = ⊎_elim
    (λ within. within)
    (λ past. absurd (false≢true (sym (ap is_some (get_or_past jobs n None past)) ∙ out)))
    (cases_lt n (length jobs))

-- lists that have the same at a number have the same there
pub same-entry : (xs ys : List Local) (n : ℕ) → slice_get xs n ≡ slice_get ys n → get_or xs n nothing_shown ≡ get_or ys n nothing_shown
same-entry xs ys n same = sym (unwrap_or-slice_get xs n nothing_shown) ∙ ap (λ o. unwrap_or o nothing_shown) same ∙ unwrap_or-slice_get ys n nothing_shown

module _ (plant : PlantDefinition) (jobs : List (Option JobDefinition)) (parts : List (Option Local)) (kept : AreKept plant parts jobs) where
  abbrev whole : List Local
  whole = whole_of jobs parts

  pub parts-are : parts_without jobs whole ≡ parts
  parts-are = parts-again jobs parts kept.away

  -- an atom that has a job is where that leaves it
  pub out-is : (n : ℕ) (job : JobDefinition) (s : Local) → get_or jobs n None ≡ Some job → slice_get whole n ≡ Some s → s ≡ worked job
  out-is n job s its there = each (slice_get parts n) refl
    where
      out : option_map_or is_none (slice_get parts n) false ≡ true
      out = kept.away n ∙ ap is_some its

      each : (o : Option (Option Local)) → slice_get parts n ≡ o → s ≡ worked job
      each None is = absurd (false≢true (sym (ap (λ o. option_map_or is_none o false) is) ∙ out))
      each (Some (Some t)) is = absurd (false≢true (sym (ap (λ o. option_map_or is_none o false) is) ∙ out))
      each (Some None) is =
          let both : Some (ended_at jobs n) ≡ Some s = sym (filled-at (ended_at jobs) parts n ∙ ap (option_map (λ p. unwrap_or p (ended_at jobs n))) is) ∙ there in
          sym (same_Some (ended_at jobs n) s both) ∙ ended-by jobs n job its

  -- one that is away stands at its number
  pub job-of-away : (n : ℕ) → slice_get parts n ≡ Some None → (job : JobDefinition) × (get_or jobs n None ≡ Some job)
  job-of-away n away = some-job (get_or jobs n None) (sym (kept.away n) ∙ ap (λ o. option_map_or is_none o false) away)

  -- the state of an atom that has a job, and of one that has none
  pub whole-out : (n : ℕ) (job : JobDefinition) → get_or jobs n None ≡ Some job → slice_get whole n ≡ Some (worked job)
  whole-out n job its = each (slice_get parts n) refl
    where
      out : option_map_or is_none (slice_get parts n) false ≡ true
      out = kept.away n ∙ ap is_some its

      each : (o : Option (Option Local)) → slice_get parts n ≡ o → slice_get whole n ≡ Some (worked job)
      each None is = absurd (false≢true (sym (ap (λ o. option_map_or is_none o false) is) ∙ out))
      each (Some (Some t)) is = absurd (false≢true (sym (ap (λ o. option_map_or is_none o false) is) ∙ out))
      each (Some None) is = filled-at (ended_at jobs) parts n ∙ ap (option_map (λ p. unwrap_or p (ended_at jobs n))) is ∙ ap Some (ended-by jobs n job its)

  pub whole-there : (n : ℕ) → get_or jobs n None ≡ None → slice_get whole n ≡ get_or parts n None
  whole-there n none = filled-at (ended_at jobs) parts n ∙ each (slice_get parts n) refl
    where
      here : option_map_or is_none (slice_get parts n) false ≡ false
      here = kept.away n ∙ ap is_some none

      each : (o : Option (Option Local)) → slice_get parts n ≡ o → option_map (λ p. unwrap_or p (ended_at jobs n)) (slice_get parts n) ≡ get_or parts n None
      each None is = ap (option_map (λ p. unwrap_or p (ended_at jobs n))) is ∙ sym (sym (unwrap_or-slice_get parts n None) ∙ ap (λ o. unwrap_or o None) is)
      each (Some None) is = absurd (false≢true (sym here ∙ ap (λ o. option_map_or is_none o false) is))
      each (Some (Some s)) is = ap (option_map (λ p. unwrap_or p (ended_at jobs n))) is ∙ sym (sym (unwrap_or-slice_get parts n None) ∙ ap (λ o. unwrap_or o None) is)

  -- where all that are present are committed, and those that are away are to be, the present state is
  pub committed-now : committed_by parts whole ≡ whole
  committed-now = filled-same (λ n. get_or whole n nothing_shown) (ended_at jobs) parts (λ n away.
      same-place n (filled-at (ended_at jobs) parts n ∙ ap (option_map (λ p. unwrap_or p (ended_at jobs n))) away))
    where
      same-place : (n : ℕ) → slice_get whole n ≡ Some (ended_at jobs n) → get_or whole n nothing_shown ≡ ended_at jobs n
      same-place n there = sym (unwrap_or-slice_get whole n nothing_shown) ∙ ap (λ o. unwrap_or o nothing_shown) there

  module _ (c : FiringDefinition) (sure : IsSure plant parts (choice_in c)) where
    abbrev after : List Local
    after = next plant whole c

    sure-without : IsSure plant (parts_without jobs whole) (choice_in c)
    sure-without = subst (λ ps. IsSure plant ps (choice_in c)) (sym parts-are) sure

    pub allowed : IsAllowed plant whole (choice_in c)
    allowed = sure-allowed plant whole (is_out jobs) (choice_in c) sure-without

    pub delivers : (atom : ℕ) → transfer plant (shown_in parts) c atom ≡ transfer plant whole c atom
    delivers atom = ap (λ ps. transfer plant (shown_in ps) c atom) (sym parts-are) ∙ delivered-same plant whole (is_out jobs) c sure-without atom

    -- a participant has no job
    pub not-out : (m : Move) → Contains c.moves m → is_out jobs m.atom ≡ false
    not-out m at = sym (kept.away m.atom) ∙ ap (λ o. option_map_or is_none o false) (participant plant parts (choice_in c) sure m at).3

    -- an atom that has one stays where it is
    pub stays-out : (n : ℕ) → is_out jobs n ≡ true → slice_get after n ≡ slice_get whole n
    stays-out n out = stays plant.atoms c.moves (transfer plant whole c) n whole (none-of n c.moves (λ m at same. false≢true (sym (not-out m at) ∙ ap (is_out jobs) same ∙ out)))

    length-after : length after ≡ length parts
    length-after = length-stepped plant.atoms c.moves (transfer plant whole c) 0 whole ∙ filled-long (ended_at jobs) 0 parts

    -- ---- where it fires

    went : went_on plant parts c ≡ parts_without jobs after
    went = ap (λ ps. went_on plant ps c) (sym parts-are) ∙ goes-on plant whole (is_out jobs) c sure-without

    pub fired-whole : whole_of jobs (went_on plant parts c) ≡ after
    fired-whole = ap (whole_of jobs) went ∙ filled-own (ended_at jobs) (is_out jobs) after (λ n s out there.
        let job = some-job (get_or jobs n None) out in
        ended-by jobs n job.0 job.1 ∙ sym (out-is n job.0 s job.1 (sym (stays-out n out) ∙ there)))

    pub fired-kept : length parts ≡ length plant.atoms → AreKept plant (went_on plant parts c) jobs
    fired-kept long = record {
      many = kept.many;
      away = λ n. ap (λ ps. is_part_away ps n) went ∙ away-of (is_out jobs) after n (λ past. false_from_ne_true (is_out jobs n) (λ out.
          let within : n < length jobs = some-within jobs n out in
          let here : n < length after = omega (arith, within, length-after, long, kept.many) in
          absurd (none-some (get_or after n nothing_shown) (sym past ∙ slice_get-get_or after n nothing_shown here))));
      own = kept.own;
    }

    -- what is committed is kept as it was
    pub fired-committed : (committed : List (Option Local)) → AreCommitted plant committed jobs → committed_by committed after ≡ committed_by committed whole
    fired-committed committed behind = filled-same (λ n. get_or after n nothing_shown) (λ n. get_or whole n nothing_shown) committed (λ n away.
        let out : is_out jobs n ≡ true = behind.away n (ap (λ o. option_map_or is_none o false) away) in
        same-entry after whole n (stays-out n out))

    -- ---- where the participants go away

    module _ (valid : fault_of plant ≡ None) (counts : List ℕ) where
      abbrev jobs-then : List (Option JobDefinition)
      jobs-then = jobs_after plant whole counts c c.moves jobs

      -- the state of a participant
      pub participant-state : (m : Move) → Contains c.moves m → (a : AtomDefinition) × (s : Local) × (slice_get plant.atoms m.atom ≡ Some a) × (slice_get whole m.atom ≡ Some s) × (slice_get parts m.atom ≡ Some (Some s))
      participant-state m at =
          let its = participant plant parts (choice_in c) sure m at in
          (its.0, its.1, its.2, filled-at (ended_at jobs) parts m.atom ∙ ap (option_map (λ p. unwrap_or p (ended_at jobs m.atom))) its.3, its.3)

      pub job-at : (m : Move) (a : AtomDefinition) (s : Local) → slice_get plant.atoms m.atom ≡ Some a → slice_get whole m.atom ≡ Some s
          → job_by plant whole counts c m ≡ Some (record { definition = a; atom = m.atom; count = slice_index counts m.atom; transition = m.transition; delivered = transfer plant whole c m.atom; state = s })
      job-at m a s its_atom its_state =
          ap (λ o. option_map_or (λ b. option_map_or (λ w. Some (record { definition = b; atom = m.atom; count = slice_index counts m.atom; transition = m.transition; delivered = transfer plant whole c m.atom; state = w })) (slice_get whole m.atom) None) o None) its_atom ∙
          ap (λ o. option_map_or (λ w. Some (record { definition = a; atom = m.atom; count = slice_index counts m.atom; transition = m.transition; delivered = transfer plant whole c m.atom; state = w })) o None) its_state

      each-has : length parts ≡ length plant.atoms → (m : Move) → Contains c.moves m → (m.atom < length jobs) × (is_some (job_by plant whole counts c m) ≡ true)
      each-has long m at =
          let its = participant-state m at in (
            (let within : m.atom < length plant.atoms = slice_get_within plant.atoms m.atom its.0 its.2 in omega (arith, within, kept.many)),
            ap is_some (job-at m its.0 its.1 its.2 its.3),
          )

      pub out-then : length parts ≡ length plant.atoms → (n : ℕ) → is_out jobs-then n ≡ (is_out jobs n || has_move c.moves n)
      out-then long n = out-behind plant whole counts c c.moves jobs (each-has long) n

      left : length parts ≡ length plant.atoms → left_by parts c.moves ≡ parts_without jobs-then after
      left long =
          ap (λ ps. left_by ps c.moves) (sym parts-are) ∙ leaves-behind plant whole (is_out jobs) c ∙
          ap (λ (away : ℕ → Bool). parts_of away after) (λ j n. sym (out-then long n) j)

      -- each that is away then is where its job leaves it
      ended-then : length parts ≡ length plant.atoms → (n : ℕ) (job : JobDefinition) (s : Local) → get_or jobs-then n None ≡ Some job → slice_get after n ≡ Some s → s ≡ worked job
      ended-then long n job s its there = ⊎_elim
          (λ found.
          let m : Move = found.0 in
          let who = participant-state m found.1 in
          let made : Some job ≡ Some (record { definition = who.0; atom = m.atom; count = slice_index counts m.atom; transition = m.transition; delivered = transfer plant whole c m.atom; state = who.1 }) = sym found.3 ∙ job-at m who.0 who.1 who.2 who.3 in
          let moved : slice_get after m.atom ≡ Some (fired who.0 m.transition (transfer plant whole c m.atom) who.1) = moves-on plant.atoms c.moves (transfer plant whole c) m.atom whole m who.0 who.1 (first-of-atom plant whole (choice_in c) valid allowed m found.1) who.2 who.3 in
          let is : Some s ≡ Some (fired who.0 m.transition (transfer plant whole c m.atom) who.1) = sym there ∙ ap (slice_get after) (sym found.2) ∙ moved in
          same_Some s _ is ∙ sym (ap worked (same_Some job _ made)))
          (λ was. out-is n job s was (sym (stays-out n (ap is_some was)) ∙ there))
          (from-behind plant whole counts c c.moves jobs n job its)

      pub begun-whole : length parts ≡ length plant.atoms → whole_of jobs-then (left_by parts c.moves) ≡ after
      begun-whole long = ap (whole_of jobs-then) (left long) ∙ filled-own (ended_at jobs-then) (is_out jobs-then) after (λ n s out there.
          let job = some-job (get_or jobs-then n None) out in
          ended-by jobs-then n job.0 job.1 ∙ sym (ended-then long n job.0 s job.1 there))

      pub begun-kept : length parts ≡ length plant.atoms → AreKept plant (left_by parts c.moves) jobs-then
      begun-kept long = record {
        many = length-behind plant whole counts c c.moves jobs ∙ kept.many;
        away = λ n. ap (λ ps. is_part_away ps n) (left long) ∙ away-of (is_out jobs-then) after n (λ past. false_from_ne_true (is_out jobs-then n) (λ out.
            let many : length jobs-then ≡ length jobs = length-behind plant whole counts c c.moves jobs in
            let within : n < length jobs-then = some-within jobs-then n out in
            let here : n < length after = omega (arith, within, many, length-after, long, kept.many) in
            absurd (none-some (get_or after n nothing_shown) (sym past ∙ slice_get-get_or after n nothing_shown here))));
        own = λ n job its. ⊎_elim
            (λ found.
            let who = participant-state found.0 found.1 in
            let made = sym found.3 ∙ job-at found.0 who.0 who.1 who.2 who.3 in
            ap (λ (j : JobDefinition). j.atom) (same_Some job _ made) ∙ found.2)
            (λ was. kept.own n job was)
            (from-behind plant whole counts c c.moves jobs n job its);
      }

      pub begun-committed : length parts ≡ length plant.atoms → (committed : List (Option Local)) → AreCommitted plant committed jobs → AreCommitted plant committed jobs-then
      begun-committed long committed behind = record {
        many = behind.many;
        away = λ n away. out-then long n ∙ ap (λ b. b || has_move c.moves n) (behind.away n away);
      }

-- ---- where one comes back

module _ (plant : PlantDefinition) (jobs : List (Option JobDefinition)) (parts : List (Option Local)) (kept : AreKept plant parts jobs) (long : length parts ≡ length plant.atoms) (n : ℕ) (job : JobDefinition) (its : get_or jobs n None ≡ Some job) where
  abbrev fewer : List (Option JobDefinition)
  fewer = set jobs n None

  abbrev more : List (Option Local)
  more = set parts n (Some (worked job))

  pub back-within : n < length parts
  back-within =
      let within : n < length jobs = some-within jobs n (ap is_some its) in
      omega (arith, within, kept.many, long)

  -- it was away
  pub was-away : slice_get parts n ≡ Some None
  was-away = each (slice_get parts n) refl
    where
      out : option_map_or is_none (slice_get parts n) false ≡ true
      out = kept.away n ∙ ap is_some its

      each : (o : Option (Option Local)) → slice_get parts n ≡ o → slice_get parts n ≡ Some None
      each None is = absurd (false≢true (sym (ap (λ o. option_map_or is_none o false) is) ∙ out))
      each (Some (Some t)) is = absurd (false≢true (sym (ap (λ o. option_map_or is_none o false) is) ∙ out))
      each (Some None) is = is

  other-job : (k : ℕ) → k ≢ n → get_or fewer k None ≡ get_or jobs k None
  other-job k other = get_or-set_other jobs n k None None other

  own-job : get_or fewer n None ≡ None
  own-job = get_or-set_same jobs n None None (some-within jobs n (ap is_some its))

  -- the whole state is as it was
  pub back-whole : whole_of fewer more ≡ whole_of jobs parts
  back-whole = filled-put (ended_at fewer) (ended_at jobs) parts n (worked job) was-away (ended-by jobs n job its) (λ k other. ap (λ o. option_map_or worked o nothing_shown) (other-job k other))

  pub back-kept : AreKept plant more fewer
  back-kept = record {
    many = length-set jobs n None ∙ kept.many;
    away = λ k. ⊎_elim
        (λ same.
        ap (is_part_away more) same ∙ ap (λ o. option_map_or is_none o false) (set-here parts n (Some (worked job)) back-within) ∙ sym (ap (is_out fewer) same ∙ ap is_some own-job))
        (λ other. ap (λ o. option_map_or is_none o false) (set-other parts n (Some (worked job)) k other) ∙ kept.away k ∙ sym (ap is_some (other-job k other)))
        (cases_eq k n);
    own = λ k j there. ⊎_elim
        (λ same. absurd (none-some j (sym own-job ∙ sym (ap (λ i. get_or fewer i None) same) ∙ there)))
        (λ other. kept.own k j (sym (other-job k other) ∙ there))
        (cases_eq k n);
  }

  -- what is committed is the same, where the state is put in its place if nothing was kept of the atom
  module _ (committed : List (Option Local)) (behind : AreCommitted plant committed jobs) where
    abbrev noted : List (Option Local)
    noted = cond (is_part_away committed n) (set committed n (Some (worked job))) committed

    whole-n : slice_get (whole_of jobs parts) n ≡ Some (worked job)
    whole-n = whole-out plant jobs parts kept n job its

    pub back-noted : committed_by noted (whole_of jobs parts) ≡ committed_by committed (whole_of jobs parts)
    back-noted = each (is_part_away committed n) refl
      where
        entry : get_or (whole_of jobs parts) n nothing_shown ≡ worked job
        entry = sym (unwrap_or-slice_get (whole_of jobs parts) n nothing_shown) ∙ ap (λ o. unwrap_or o nothing_shown) whole-n

        each : (b : Bool) → is_part_away committed n ≡ b → committed_by (cond b (set committed n (Some (worked job))) committed) (whole_of jobs parts) ≡ committed_by committed (whole_of jobs parts)
        each false is = refl
        each true is = filled-put (λ k. get_or (whole_of jobs parts) k nothing_shown) (λ k. get_or (whole_of jobs parts) k nothing_shown) committed n (worked job) (none-there committed n is) entry (λ k other. refl)

    pub back-committed : AreCommitted plant noted fewer
    back-committed = each (is_part_away committed n) refl
      where
        stays-away : (k : ℕ) → k ≢ n → is_part_away committed k ≡ true → is_out fewer k ≡ true
        stays-away k other away = ap is_some (other-job k other) ∙ behind.away k away

        each : (b : Bool) → is_part_away committed n ≡ b → AreCommitted plant (cond b (set committed n (Some (worked job))) committed) fewer
        each false is = record {
          many = behind.many;
          away = λ k away. stays-away k (λ same. false≢true (sym is ∙ sym (ap (is_part_away committed) same) ∙ away)) away;
        }
        each true is = record {
          many = length-set committed n (Some (worked job)) ∙ behind.many;
          away = λ k away. ⊎_elim
              (λ same. absurd (false≢true (sym (ap (λ o. option_map_or is_none o false) (set-here committed n (Some (worked job)) (away-within committed n is))) ∙ sym (ap (is_part_away (set committed n (Some (worked job)))) same) ∙ away)))
              (λ other. stays-away k other (sym (ap (λ o. option_map_or is_none o false) (set-other committed n (Some (worked job)) k other)) ∙ away))
              (cases_eq k n);
        }

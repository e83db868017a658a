use Rattle.std.proofs.Common.{◌≡◌, ◌+◌, ℕ, suc, sym, ◌∙◌, ap, drop, get_or, set, arith, length-set, ⊎_elim}
use Rattle.std.specs.Prelude.{Some, option_map, slice_get}
use Rattle.std.proofs.lemmas.Bool.{cases_eq}
use Rattle.std.proofs.lemmas.List.{map-set}
use Rattle.std.proofs.lemmas.Option.{same_Some, slice_get-get_or, slice_get_within}
use Rattle.plant_model.proofs.ValueRows.{set-here, set-other}
use Rattle.plant_model.proofs.Stepping.{no_move}
use Rattle.step_core.specs.Job.{JobDefinition, job_of}
use Rattle.step_core.specs.Jobs.{jobs_of}
use Rattle.step_executor.specs.Outstanding.{kept_in, put_all}
use Rattle.step_executor.proofs.OneByOne.{past-of-none, put-next}
use Rattle.step_executor.proofs.keeping.keep_jobs.Goals as goal

pub index_mut-requires : goal.index_mut-requires
index_mut-requires c =
    let k = c.loop-place.place in
    let m = get_or c.args.moves.now k no_move in
    omega (arith, c.requires.there k m (slice_get-get_or c.args.moves.now k no_move c.loop-place-test.true), c.loop-place.invariant.long, c.from.ensures, c.loop-place.kept.ok)

pub unreachable-requires : goal.unreachable-requires
unreachable-requires c =
    let past = past-of-none (jobs_of c.args.jobs.now) c.loop-place.place (sym c.in-None.ensures) in
    omega (arith, past, c.requires.as_many, c.loop-place-test.true)

pub loop-place-preserved : goal.loop-place-preserved
loop-place-preserved c =
    let k = c.loop-place.place in
    let moves = c.args.moves.now in
    let jobs = jobs_of c.args.jobs.now in
    let m = get_or moves k no_move in
    let job = job_of c.in-Some.job.now in
    let items = c.loop-place.kept.items in
    let its_move : slice_get moves k ≡ Some m = slice_get-get_or moves k no_move c.loop-place-test.true in
    let its_job : slice_get jobs k ≡ Some job = sym c.in-Some.ensures in
    let one : k + 1 ≡ suc k = omega arith in
    let put : kept_in (set items c.from.result (Some c.copy.result)) ≡ set (kept_in items) m.atom (Some job) =
    map-set (λ j. option_map job_of j) items c.from.result (Some c.copy.result) ∙ ap (λ (n : ℕ). set (kept_in items) n (Some (job_of c.copy.result))) c.from.ensures ∙ ap (λ j. set (kept_in items) m.atom (Some j)) c.copy.ensures in
    record {
      kept = ap (λ (n : ℕ). put_all (drop n moves) (drop n jobs) (kept_in (set items c.from.result (Some c.copy.result)))) one ∙
          ap (put_all (drop (suc k) moves) (drop (suc k) jobs)) put ∙
          sym (put-next moves jobs k m job (kept_in items) its_move its_job) ∙ c.loop-place.invariant.kept;
      long = length-set items c.from.result (Some c.copy.result) ∙ c.loop-place.invariant.long;
      row = length-set c.loop-place.delivered k c.delivered.result ∙ c.loop-place.invariant.row;
      delivered = λ place j below its. ⊎_elim
          (λ same.
          let here : slice_get (set c.loop-place.delivered k c.delivered.result) k ≡ Some c.delivered.result = set-here c.loop-place.delivered k c.delivered.result (omega (arith, c.loop-place.invariant.row, c.loop-place-test.true, c.requires.few)) in
          let is : Some job ≡ Some j = sym its_job ∙ sym (ap (slice_get jobs) same) ∙ its in
          ap (slice_get (set c.loop-place.delivered k c.delivered.result)) same ∙ here ∙ ap Some (c.delivered.ensures ∙ ap (λ (d : JobDefinition). d.delivered) (same_Some job j is)))
          (λ other. set-other c.loop-place.delivered k c.delivered.result place other ∙ c.loop-place.invariant.delivered place j (omega (arith, below, other)) its)
          (cases_eq place k);
    }

pub returns-clause-delivered : goal.returns-clause-delivered
returns-clause-delivered c place job its = c.loop-place.invariant.delivered place job (omega (arith, slice_get_within (jobs_of c.args.jobs.now) place job its, c.requires.as_many, c.loop-place-test.false)) its

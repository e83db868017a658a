use Rattle.std.proofs.Common.{◌≡◌, ◌<◌, ◌+◌, ◌∙◌, ℕ, List, sym, ap, subst, arith, length, map, take, get_or}
use Rattle.std.specs.Prelude.{Option, Some, slice_get, slice_index}
use Rattle.std.proofs.lemmas.List.{length-map}
use Rattle.std.proofs.lemmas.Option.{none-some, get_or_from_slice_get}
use Rattle.petri_atom.specs.Atom.{definition_of}
use Rattle.petri_atom.specs.Local.{Local}
use Rattle.petri_atom.specs.declared.atom.Atom.{Atom}
use Rattle.plant_model.specs.Choice.{ChoiceDefinition}
use Rattle.plant_model.specs.Chosen.{choice_of, firing_of}
use Rattle.plant_model.specs.Step.{transfer}
use Rattle.plant_model.specs.System.{plant_of}
use Rattle.plant_model.specs.declared.choice.Move.{Move}
use Rattle.plant_model.specs.declared.system.System.{System}
use Rattle.plant_model.proofs.Judging.{atom-at}
use Rattle.plant_model.proofs.OwnAtoms.{are-apart}
use Rattle.plant_model.proofs.Stepping.{no_move}
use Rattle.step_core.specs.Job.{job_of}
use Rattle.step_core.specs.Jobs.{AreJobsOf, IsJobOf, jobs_of}
use Rattle.step_core.specs.Parts.{shown_in}
use Rattle.step_core.specs.Queue.{items_in}
use Rattle.step_core.specs.Sure.{IsSure, left_by}
use Rattle.step_core.proofs.PartsLeft.{IsLeaving, first-of-atom, fits-taken, in-parts, in-plant, move-there, none-left, offers, one-job, one-left, present, there, was}
use Rattle.step_core.proofs.Present.{sure-shown}
use Rattle.step_core.proofs.Queued.{all-empty, no-jobs}
use Rattle.step_core.proofs.leaving.leave.Goals as goal

pub deliver-requires-clause-apart : goal.deliver-requires-clause-apart
deliver-requires-clause-apart c =
    let plant = plant_of c.args.system.now in
    are-apart plant (shown_in c.args.parts.now) (choice_of c.args.choice.now) c.args.system.now.valid (sure-shown plant c.args.parts.now (choice_of c.args.choice.now) c.requires.sure)

-- the move at a place of a choice that is sure leaves
leaving : (system : System) (parts : List (Option Local)) (choice : ChoiceDefinition) (moves : List Move) (k : ℕ) (left : List (Option Local)) → IsSure (plant_of system) parts choice
    → moves ≡ choice.moves → k < length moves → left ≡ left_by parts (take k moves) → IsLeaving (plant_of system) parts choice moves k left
leaving system parts choice moves k left sure same more is = record { valid = system.valid; sure = sure; same = same; more = more; is = is }

-- its atom, as the plant has it
atom-known : (system : System) {parts : List (Option Local)} {choice : ChoiceDefinition} {moves : List Move} {k : ℕ} {left : List (Option Local)} (step : IsLeaving (plant_of system) parts choice moves k left) (n : ℕ) (atom : Atom)
    → n ≡ (get_or moves k no_move).atom → atom ≡ get_or system.atoms.items n atom → slice_get (map definition_of system.atoms.items) (get_or moves k no_move).atom ≡ Some (definition_of atom)
atom-known system {moves = moves} {k = k} step n atom same here =
    atom-at system.atoms.items n (get_or moves k no_move).atom atom same (omega (arith, in-plant step, same, length-map system.atoms.items definition_of)) here

pub loop-place-init : goal.loop-place-init
loop-place-init c = record {
  left = sym (none-left 0 c.args.parts.now);
  jobs = record {
    as_many = ap length c.requires.empty;
    each = λ place m job there. absurd (none-some m there);
  };
  room = λ n past. all-empty c.args.jobs.now.queue.places (no-jobs job_of (items_in c.args.jobs.now.queue) c.requires.empty) n;
}

pub take-state-requires-clause-there : goal.take-state-requires-clause-there
take-state-requires-clause-there c =
    let step = leaving c.args.system.now c.args.parts.now (choice_of c.args.choice.now) c.as_slice-moves.result.now c.loop-place.place c.loop-place.parts c.requires.sure c.as_slice-moves.ensures.moves c.loop-place-test.true c.loop-place.invariant.left in
    there step

pub take-state-requires-clause-present : goal.take-state-requires-clause-present
take-state-requires-clause-present c =
    let step = leaving c.args.system.now c.args.parts.now (choice_of c.args.choice.now) c.as_slice-moves.result.now c.loop-place.place c.loop-place.parts c.requires.sure c.as_slice-moves.ensures.moves c.loop-place-test.true c.loop-place.invariant.left in
    present step

pub index-requires : goal.index-requires
index-requires c =
    let step = leaving c.args.system.now c.args.parts.now (choice_of c.args.choice.now) c.as_slice-moves.result.now c.loop-place.place c.loop-place.parts c.requires.sure c.as_slice-moves.ensures.moves c.loop-place-test.true c.loop-place.invariant.left in
    omega (arith, in-plant step, c.from-number.ensures, length-map c.args.system.now.atoms.items definition_of, c.args.system.now.atoms.ok.0)

pub bounds-counts-number : goal.bounds-counts-number
bounds-counts-number c =
    let step = leaving c.args.system.now c.args.parts.now (choice_of c.args.choice.now) c.as_slice-moves.result.now c.loop-place.place c.loop-place.parts c.requires.sure c.as_slice-moves.ensures.moves c.loop-place-test.true c.loop-place.invariant.left in
    omega (arith, in-parts step, c.from-number.ensures, c.shown.ensures.few)

pub offset_bounds-counts-number : goal.offset_bounds-counts-number
offset_bounds-counts-number c =
    let step = leaving c.args.system.now c.args.parts.now (choice_of c.args.choice.now) c.as_slice-moves.result.now c.loop-place.place c.loop-place.parts c.requires.sure c.as_slice-moves.ensures.moves c.loop-place-test.true c.loop-place.invariant.left in
    omega (arith, in-parts step, c.from-number.ensures, c.shown.ensures.few)

pub new-job-requires-clause-offered : goal.new-job-requires-clause-offered
new-job-requires-clause-offered c =
    let step = leaving c.args.system.now c.args.parts.now (choice_of c.args.choice.now) c.as_slice-moves.result.now c.loop-place.place c.loop-place.parts c.requires.sure c.as_slice-moves.ensures.moves c.loop-place-test.true c.loop-place.invariant.left in
    let known = atom-known c.args.system.now step c.from-number.result c.index.result.now c.from-number.ensures c.index.ensures in
    offers step (definition_of c.index.result.now) c.take-state.result known c.take-state.ensures.state

pub new-job-requires-clause-fits : goal.new-job-requires-clause-fits
new-job-requires-clause-fits c =
    let step = leaving c.args.system.now c.args.parts.now (choice_of c.args.choice.now) c.as_slice-moves.result.now c.loop-place.place c.loop-place.parts c.requires.sure c.as_slice-moves.ensures.moves c.loop-place-test.true c.loop-place.invariant.left in
    let known = atom-known c.args.system.now step c.from-number.result c.index.result.now c.from-number.ensures c.index.ensures in
    fits-taken step (definition_of c.index.result.now) c.take-state.result known c.take-state.ensures.state c.requires.fits

pub loop-place-preserved : goal.loop-place-preserved
loop-place-preserved c =
    let step = leaving c.args.system.now c.args.parts.now (choice_of c.args.choice.now) c.as_slice-moves.result.now c.loop-place.place c.loop-place.parts c.requires.sure c.as_slice-moves.ensures.moves c.loop-place-test.true c.loop-place.invariant.left in
    let choice = firing_of c.args.choice.now c.args.inputs.now in
    let moves = c.as_slice-moves.result.now in
    let k = c.loop-place.place in
    let m = get_or moves k no_move in
    let known = atom-known c.args.system.now step c.from-number.result c.index.result.now c.from-number.ensures c.index.ensures in
    let delivered = get_or_from_slice_get c.deliver.new.delivered k (transfer (plant_of c.args.system.now) c.shown.result.now choice m.atom) c.index-delivered-place.result (c.deliver.ensures k m (move-there step) (first-of-atom step)) in
    let job : IsJobOf (plant_of c.args.system.now) c.args.parts.now choice c.args.counts.now m (job_of c.new-job.result) = record {
      definition = known ∙ ap Some (sym c.new-job.ensures.definition);
      atom = c.new-job.ensures.atom;
      count = c.new-job.ensures.count ∙ ap (λ n. slice_index c.args.counts.now n) c.from-number.ensures;
      transition = c.new-job.ensures.transition;
      delivered = c.new-job.ensures.delivered ∙ delivered ∙ ap (λ states. transfer (plant_of c.args.system.now) states choice m.atom) c.shown.ensures.states;
      state = was step (definition_of c.index.result.now) c.take-state.result known c.take-state.ensures.state ∙ ap (λ s. Some (Some s)) (sym c.new-job.ensures.state);
    } in
    record {
      left = c.take-state.ensures.parts ∙ one-left step;
      jobs = subst (AreJobsOf (plant_of c.args.system.now) c.args.parts.now choice c.args.counts.now (take (k + 1) moves)) (sym c.put.ensures.jobs)
          (one-job step choice c.args.counts.now (jobs_of c.loop-place.jobs) (job_of c.new-job.result) c.loop-place.invariant.jobs job);
      room = c.put.ensures.room;
    }

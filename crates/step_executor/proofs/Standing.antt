-- The whole state of a plant that runs while atoms are away, and what its calls make of it.
use Rattle.std.proofs.Common.{◌≡◌, ◌<◌, ◌||◌, ℕ, sym, ◌∙◌, ap, subst, List, [], ◌∷◌, length, set, cond, Contains, arith, true}
use Rattle.std.specs.Prelude.{Option, Some, None, option_map}
use Rattle.std.specs.List.{list_all}
use Rattle.std.proofs.lemmas.List.{map-set}
use Rattle.std.proofs.lemmas.Option.{slice_get_within}
use Rattle.petri_atom.specs.Definition.{is_well_formed}
use Rattle.petri_atom.specs.Local.{Local, has}
use Rattle.plant_model.specs.Firing.{FiringDefinition, choice_in}
use Rattle.plant_model.specs.Fitting.{AllFit, IsOf}
use Rattle.plant_model.specs.Rules.{fault_of}
use Rattle.plant_model.specs.Step.{next, transfer}
use Rattle.plant_model.specs.declared.choice.Move.{Move}
use Rattle.plant_model.proofs.OnRuns.{fold-fits}
use Rattle.step_core.specs.Dispatcher.{parts_in}
use Rattle.step_core.specs.Job.{JobDefinition, job_of}
use Rattle.step_core.specs.Jobs.{AreJobsOf}
use Rattle.step_core.specs.Parts.{shown_in}
use Rattle.step_core.specs.Sure.{IsSure, has_move, left_by, went_on}
use Rattle.step_core.specs.declared.job.Job.{Job}
use Rattle.step_core.proofs.Present.{participant}
use Rattle.step_executor.specs.Executing.{committed_in, jobs_in, plant_in, states_in}
use Rattle.step_executor.specs.Outstanding.{AreMarked, committed_by, ended_at, is_part_away, jobs_after, kept_in, parts_without, put_all, whole_of}
use Rattle.step_executor.specs.declared.executor.Executor.{Executor}
use Rattle.step_executor.proofs.Begun.{put-are}
use Rattle.step_executor.proofs.Going.{begun-whole, delivers, fired-committed, fired-whole, parts-are}
use Rattle.step_executor.proofs.Marked.{left-long, left-other, marked-more, went-long, went-other}
use Rattle.step_executor.proofs.Wholes.{filled-long}

-- there is a state for each atom
pub states-many : (run : Executor) → IsOf (plant_in run) (states_in run)
states-many run = filled-long (ended_at (kept_in run.kept.items)) 0 (parts_in run.dispatcher) ∙ run.dispatcher.of_plant

-- what is known of the state without the atoms that are away is what the dispatcher keeps
pub parts-known : (run : Executor) → parts_without (jobs_in run) (states_in run) ≡ parts_in run.dispatcher
parts-known run = parts-are (plant_in run) (jobs_in run) (parts_in run.dispatcher) run.outstanding

-- a state that is put at a number, whichever way both are said
pub put-same : (parts : List (Option Local)) (k n : ℕ) (s t : Local) → k ≡ n → s ≡ t → set parts k (Some s) ≡ set parts n (Some t)
put-same parts k n s t at is = ap (λ (j : ℕ). set parts j (Some s)) at ∙ ap (λ r. set parts n (Some r)) is

-- the same of one that is put only where nothing is kept
pub noted-same : (parts : List (Option Local)) (k n : ℕ) (s t : Local) → k ≡ n → s ≡ t
    → cond (is_part_away parts k) (set parts k (Some s)) parts ≡ cond (is_part_away parts n) (set parts n (Some t)) parts
noted-same parts k n s t at is =
    ap (λ (j : ℕ). cond (is_part_away parts j) (set parts j (Some s)) parts) at ∙ ap (λ r. cond (is_part_away parts n) (set parts n (Some r)) parts) is

-- no job any more at a number
pub fewer-kept : (kept : List (Option Job)) (k n : ℕ) → k ≡ n → kept_in (set kept k None) ≡ set (kept_in kept) n None
fewer-kept kept k n at = map-set (λ j. option_map job_of j) kept k None ∙ ap (λ (j : ℕ). set (kept_in kept) j None) at

module _ (run : Executor) (c : FiringDefinition) (known : IsSure (plant_in run) (parts_without (jobs_in run) (states_in run)) (choice_in c)) where
  -- the choice is sure by what the dispatcher keeps
  pub sure-here : IsSure (plant_in run) (parts_in run.dispatcher) (choice_in c)
  sure-here = subst (λ ps. IsSure (plant_in run) ps (choice_in c)) (parts-known run) known

  -- its firing makes the model's step of the whole state
  pub next-fired : (after : List (Option Local)) → after ≡ went_on (plant_in run) (parts_in run.dispatcher) c → whole_of (jobs_in run) after ≡ next (plant_in run) (states_in run) c
  next-fired after went = ap (whole_of (jobs_in run)) went ∙ fired-whole (plant_in run) (jobs_in run) (parts_in run.dispatcher) run.outstanding c sure-here

  -- its participants are atoms of the plant
  pub mover-there : (m : Move) → Contains c.moves m → m.atom < length (plant_in run).atoms
  mover-there m at =
      let who = participant (plant_in run) (parts_in run.dispatcher) (choice_in c) sure-here m at in
      slice_get_within (plant_in run).atoms m.atom who.0 who.2

  -- where they are marked too, the others are as they were when committed
  pub marked-fired : (more : ℕ) (moves : List Move) (after : List (Option Local)) → moves ≡ c.moves → after ≡ went_on (plant_in run) (parts_in run.dispatcher) c
      → ((n : ℕ) → has more n ≡ (has run.moved n || has_move moves n)) → AreMarked more run.committed after
  marked-fired more moves after same went told =
      subst (AreMarked more run.committed) (sym went)
      (marked-more run.moved run.committed (parts_in run.dispatcher) run.marked more c.moves (went_on (plant_in run) (parts_in run.dispatcher) c)
      (λ n. told n ∙ ap (λ ms. has run.moved n || has_move ms n) same)
      (λ m at. omega (arith, mover-there m at, run.dispatcher.of_plant))
      (went-long (plant_in run) (parts_in run.dispatcher) c) (went-other (plant_in run) (parts_in run.dispatcher) c))

  pub marked-begun : (more : ℕ) (moves : List Move) (after : List (Option Local)) → moves ≡ c.moves → after ≡ left_by (parts_in run.dispatcher) c.moves
      → ((n : ℕ) → has more n ≡ (has run.moved n || has_move moves n)) → AreMarked more run.committed after
  marked-begun more moves after same left told =
      subst (AreMarked more run.committed) (sym left)
      (marked-more run.moved run.committed (parts_in run.dispatcher) run.marked more c.moves (left_by (parts_in run.dispatcher) c.moves)
      (λ n. told n ∙ ap (λ ms. has run.moved n || has_move ms n) same)
      (λ m at. omega (arith, mover-there m at, run.dispatcher.of_plant))
      (left-long (parts_in run.dispatcher) c.moves) (left-other (parts_in run.dispatcher) c.moves))

  -- the committed state stays as it was
  pub committed-stays : (after : List Local) → after ≡ next (plant_in run) (states_in run) c → committed_by run.committed after ≡ committed_in run
  committed-stays after is =
      ap (committed_by run.committed) is ∙ fired-committed (plant_in run) (jobs_in run) (parts_in run.dispatcher) run.outstanding c sure-here run.committed run.behind

  -- it delivers what the whole state says
  pub delivers-whole : (atom : ℕ) → transfer (plant_in run) (shown_in (parts_in run.dispatcher)) c atom ≡ transfer (plant_in run) (states_in run) c atom
  delivers-whole = delivers (plant_in run) (jobs_in run) (parts_in run.dispatcher) run.outstanding c sure-here

  -- the next state fits
  pub next-fits : list_all is_well_formed (plant_in run).atoms ≡ true → AllFit (plant_in run) (next (plant_in run) (states_in run) c)
  next-fits formed = (fold-fits (plant_in run) formed (c ∷ []) (states_in run) (states-many run) run.fits).1

  module _ (valid : fault_of (plant_in run) ≡ None) (counts : List ℕ) (made : List JobDefinition) (are : AreJobsOf (plant_in run) (parts_in run.dispatcher) c counts c.moves made) where
    abbrev pub then : List (Option JobDefinition)
    then = jobs_after (plant_in run) (states_in run) counts c c.moves (jobs_in run)

    -- the jobs of its participants are kept
    pub kept-begun : (kept : List (Option JobDefinition)) (moves : List Move) → moves ≡ c.moves → kept ≡ put_all moves made (jobs_in run) → kept ≡ then
    kept-begun kept moves same put =
        put ∙ ap (λ ms. put_all ms made (jobs_in run)) same ∙
        put-are (plant_in run) (jobs_in run) (parts_in run.dispatcher) run.outstanding c sure-here valid counts made are

    -- where they have gone away, the whole state is the model's next one
    pub next-begun : (kept : List (Option JobDefinition)) (after : List (Option Local)) → kept ≡ then → after ≡ left_by (parts_in run.dispatcher) c.moves
        → whole_of kept after ≡ next (plant_in run) (states_in run) c
    next-begun kept after are-then left =
        ap (λ js. whole_of js after) are-then ∙ ap (whole_of then) left ∙
        begun-whole (plant_in run) (jobs_in run) (parts_in run.dispatcher) run.outstanding c sure-here valid counts run.dispatcher.of_plant

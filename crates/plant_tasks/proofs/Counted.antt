-- The runs of seeds that are counted, and how their task then ends.
use Rattle.std.proofs.Common.{◌≡◌, ℕ, refl, sym, subst, Bool, List, Option, None, Result, Err}
use Rattle.std.specs.Prelude.{IfOk, is_some}
use Rattle.std.specs.Io.KnownBytes.{Appends}
use Rattle.plant_model.specs.Plant.{PlantDefinition}
use Rattle.run_text.specs.Ran.{IfRan, OnRan}
use Rattle.run_text.specs.Watched.{Held}
use Rattle.run_text.specs.declared.fault.TraceFault.{TraceFault}
use Rattle.run_text.specs.declared.fault.TraceFault.TheVariants.{Memory}
use Rattle.run_tallies.specs.SeedRuns.{first_bad, refusal_among, seed_picks, seeds_text}
use Rattle.run_tallies.specs.Seeds.{seeds_in}
use Rattle.run_tallies.specs.declared.seeds.Seeds.{Seeds as RunSeeds}
use Rattle.command_line.specs.declared.request.Runs.TheVariants as runs
use Rattle.command_line.specs.declared.request.Seeds.{Seeds}
use Rattle.command_line.specs.declared.request.Tally.{Tally}
use Rattle.command_line.specs.declared.request.Task.TheVariants.{Summary}
use Rattle.plant_tasks.specs.Done.{IsDone}
use Rattle.plant_tasks.specs.Ending.{seeds_ending}
use Rattle.plant_tasks.specs.Printed.{bad_by, plant_read}
use Rattle.plant_tasks.specs.Reached.{are_several}
use Rattle.plant_tasks.specs.Tallied.{AreCounted, nevers_in, picks_by_seed, seed_held, seeds_counted, seeds_of}
use Rattle.plant_tasks.specs.Watches.{held_in}
use Rattle.plant_tasks.specs.Weights.{weights_said}
use Rattle.plant_tasks.specs.declared.ending.PlantEnding.{PlantEnding}
use Rattle.plant_tasks.specs.declared.task.ReadPlant.{ReadPlant}
use Rattle.plant_tasks.proofs.AfterPicks.{saved_nothing}
use Rattle.plant_tasks.proofs.Endings.{held_as, of_task, quiet, ran_done, read_of}

-- What the runs of seeds come to: how they are made, by weights and up to where something holds, may be written in one way or another.
pub record AreRun {W : Type 0} (taken : W → Option (List ℕ)) (plant : PlantDefinition) (ran : Result (Option ℕ) TraceFault) (before after : W)
    (seeds : RunSeeds) (weights : Option (List ℕ)) (held : Held) (several : Bool) (marks : List Bool) : Type 0 where
  pub printed : OnRan ran (Appends (taken before) (taken after) (seeds_text seeds weights several held plant))
  pub refusal : IfRan ran (λ refusal. refusal ≡ refusal_among plant (seed_picks weights held plant seeds.count) (seeds_in seeds))
  pub bad : IfOk ran (λ seed. seed ≡ first_bad marks held plant (seed_picks weights held plant seeds.count) (seeds_in seeds))

-- the runs are made as the words say
pub counted_as : {W : Type 0} (taken : W → Option (List ℕ)) (tally : Tally) (asked seeds : RunSeeds) (plant : PlantDefinition) (ran : Result (Option ℕ) TraceFault)
    (weights : Option (List ℕ)) (held : Held) (several : Bool) (bad : List Bool) (before after : W) → seeds ≡ asked → weights ≡ weights_said plant tally.weights.items
    → held ≡ held_in plant tally.watches.items → several ≡ are_several tally.watches.items → bad ≡ nevers_in tally.watches.items
    → AreRun taken plant ran before after seeds weights held several bad → (ran ≡ Err Memory → after ≡ before) → AreCounted taken tally asked plant ran before after
counted_as taken tally asked seeds plant ran weights held several bad before after same_seeds same_weights same_held same_several same_bad run silent =
    let words = tally.watches.items in
    let so : AreRun taken plant ran before after asked (weights_said plant tally.weights.items) (held_in plant words) (are_several words) (nevers_in words) =
    subst (λ s. AreRun taken plant ran before after s (weights_said plant tally.weights.items) (held_in plant words) (are_several words) (nevers_in words)) same_seeds
    (subst (λ w. AreRun taken plant ran before after seeds w (held_in plant words) (are_several words) (nevers_in words)) same_weights
    (subst (λ h. AreRun taken plant ran before after seeds weights h (are_several words) (nevers_in words)) same_held
    (subst (λ many. AreRun taken plant ran before after seeds weights held many (nevers_in words)) same_several
    (subst (λ marks. AreRun taken plant ran before after seeds weights held several marks) same_bad run)))) in
    record { printed = so.printed; refusal = so.refusal; held = so.bad; nothing_printed = silent }

-- A task is done that prints the runs of seeds, counted.
pub seeds_done : {W S : Type 0} (taken : W → Option (List ℕ)) (kept : S → Option (List ℕ)) (tally : Tally) (asked : Seeds) (plant : ReadPlant) (input : Option (List ℕ))
    (ended : Result (Unit {0}) PlantEnding) (ran : Result (Option ℕ) TraceFault) (before after : W) (saved : S) → ended ≡ seeds_ending ran
    → None ≡ bad_by (Summary tally) plant → AreCounted taken tally (seeds_of asked) (plant_read plant) ran before after
    → IsDone taken kept (Summary (record tally { runs = runs.Seeds asked })) plant input ended before after saved saved
seeds_done taken kept tally asked plant input ended ran before after saved is well so =
    subst (λ end. IsDone taken kept (Summary (record tally { runs = runs.Seeds asked })) plant input end before after saved saved) (sym is) (record {
      printed = ran_done is_some ran (λ refusal. Appends (taken before) (taken after) (seeds_counted tally (seeds_of asked) (plant_read plant))) so.printed;
      saved = saved_nothing (seeds_ending ran) (kept saved);
      refusal = ran_done is_some ran (λ refusal. refusal ≡ refusal_among (plant_read plant) (picks_by_seed tally (seeds_of asked) (plant_read plant)) (seeds_in (seeds_of asked))) so.refusal;
      held = held_as is_some ran (seed_held tally (seeds_of asked) (plant_read plant)) so.held;
      read = read_of is_some ran (bad_by (Summary tally) plant) well;
      of_task = of_task is_some ran;
      nothing_printed = quiet is_some ran before after so.nothing_printed;
      nothing_saved = quiet is_some ran saved saved (λ lacking. refl);
    })

-- The run goes on, by the picks that are left, as it would have from its start.
use Rattle.std.proofs.Common.{◌≡◌, ◌+◌, ◌-◌, ◌^◌, List}
use Rattle.std.specs.Prelude.{Some}
use Rattle.step_core.specs.Running.{plant_in, states_in, system_in}
use Rattle.run_text.specs.History.{History}
use Rattle.run_text.specs.Picks.{PickDefinition}
use Rattle.run_text.specs.Watched.{watched}
use Rattle.run_text.proofs.GoingOn.{GoesOn}
use Rattle.run_text.proofs.running.run_picks.Given as goal

abbrev pub invariant-loop-pick : goal.invariant-loop-pick
invariant-loop-pick g l = record {
  system : system_in l.run ≡ system_in l.initial.run;
  plant : plant_in l.run ≡ plant_in l.initial.run;
  parts : g.T.Telling.parts l.telling ≡ g.T.Telling.parts l.initial.telling;
  ready : (told : History) → g.T.Telling.IsReady l.initial.telling (plant_in l.initial.run) told (states_in l.initial.run)
      → (so_far : History) × g.T.Telling.IsReady l.telling (plant_in l.run) so_far (states_in l.run)
      × ((picks : List PickDefinition) → watched (g.V.Watching.held l.watching) (plant_in l.initial.run) (states_in l.initial.run) 1 (g.P.Picks.left l.initial.picks) ≡ Some picks → GoesOn (g.T.Telling.parts l.initial.telling) (plant_in l.initial.run) picks
      (record { states = states_in l.initial.run; number = 1; left = watched (g.V.Watching.held l.watching) (plant_in l.initial.run) (states_in l.initial.run) 1 (g.P.Picks.left l.initial.picks); told = told; printed = g.W.Write.contents l.initial.output; saved = g.S.Write.contents l.initial.saved })
      (record { states = states_in l.run; number = l.fired + 1; left = watched (g.V.Watching.held l.watching) (plant_in l.initial.run) (states_in l.run) (l.fired + 1) (g.P.Picks.left l.picks); told = so_far; printed = g.W.Write.contents l.output; saved = g.S.Write.contents l.saved }));
}

abbrev pub decreases-loop-pick : goal.decreases-loop-pick
decreases-loop-pick g l = 2 ^ 64 - l.fired

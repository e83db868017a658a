use Rattle.std.proofs.Common.{◌≡◌, ◌+◌, ℕ, sym, subst}
use Rattle.disk_model.specs.declared.change.Tear.{Tear}
use Rattle.plant_model.specs.System.{digest_of, plant_of}
use Rattle.crash_explorer.specs.Exploring.{IsTrial}
use Rattle.crash_explorer.specs.Halting.{HaltedRun}
use Rattle.crash_explorer.specs.declared.explorer.Trial.{Trial}
use Rattle.crash_explorer.proofs.explorer.Explorer.next_trial.Goals.{in-Some+in_ok-trial-in-Some, in-None+in_ok-halted-in-None+in_ok-trial-in-None}
use Rattle.crash_explorer.proofs.explorer.Explorer.next_trial.Goals as goal

-- a trial of a stopped run
abbrev IsTrialOf : HaltedRun → Tear → Trial → Type 0
IsTrialOf run tear trial = IsTrial (plant_of run.system) (digest_of run.system) run.ring run.events run.stop tear trial

-- the run is this one, and so is the trial
of-run : (run is : HaltedRun) (tear : Tear) (trial told : Trial) → run ≡ is → told ≡ trial → IsTrialOf run tear trial → IsTrialOf is tear told
of-run run is tear trial told same alike made = subst (λ (h : HaltedRun). IsTrialOf h tear told) same (subst (λ (t : Trial). IsTrialOf run tear t) (sym alike) made)

pub returns-then-self-eq4-clause-trial : goal.returns-then-self-eq4-clause-trial
returns-then-self-eq4-clause-trial c =
    let self = c.args.self.now in
    let next : HaltedRun = record { system = self.system.now; ring = self.ring; events = self.events.now; stop = self.stop + 1 } in
    let tear : Tear = c.next_tear-tear.result in
    let trial : Trial = c.match-self.trial in (
      tear,
      c.next_tear-tear.ensures,
      elim c.match-self.branch [
        | in-Some+in_ok-trial-in-Some w ↦
            of-run w.in-Some.halted next tear w.in_ok-trial-in-Some.trial trial (self.of_next w.in-Some.halted w.in-Some.is) w.trial-is w.in_ok-trial-in-Some.ensures
        | in-None+in_ok-halted-in-None+in_ok-trial-in-None w ↦
            of-run w.in_ok-halted-in-None.halted next tear w.in_ok-trial-in-None.trial trial w.in_ok-halted-in-None.ensures w.trial-is w.in_ok-trial-in-None.ensures
      ],
    )

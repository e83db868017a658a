use Rattle.std.proofs.Common.{◌≡◌, ◌∙◌, ap, sym, subst}
use Rattle.std.specs.Io.KnownBytes.{Appends}
use Rattle.std.proofs.KnownBytes.{Appends-trans}
use Rattle.plant_model.specs.Chosen.{choice_of}
use Rattle.plant_model.specs.Fitting.{IsOf}
use Rattle.plant_model.specs.Step.{next}
use Rattle.plant_model.specs.System.{plant_of}
use Rattle.step_core.specs.Running.{plant_in}
use Rattle.run_text.specs.Alone.{alone}
use Rattle.run_states.specs.Changes.{changes_of}
use Rattle.run_states.specs.Waves.{time_line}
use Rattle.run_states.proofs.waves.WavesTelling.tell_fired.Goals as goal

pub print_changes-requires-clause-before : goal.print_changes-requires-clause-before
print_changes-requires-clause-before g c =
    subst (λ p. IsOf p c.args.self.now.before) (sym c.system.ensures.plant) (subst (IsOf (plant_in c.args.run.now)) (sym c.requires.2) c.requires.3.of_plant)

pub returns-clause-printed : goal.returns-clause-printed
returns-clause-printed g c = λ told before ready fired.
    let plant = plant_in c.args.run.now in
    let kept = c.args.self.now.before in
    let f = c.args.firing.now in
    let same : changes_of (plant_of c.system.result.now) kept c.states.result.now ≡ changes_of plant before (next plant before (alone (choice_of f.choice.now))) =
    ap (λ p. changes_of p kept c.states.result.now) c.system.ensures.plant ∙ ap (λ s. changes_of plant s c.states.result.now) ready ∙ ap (changes_of plant before) (c.states.ensures.states ∙ fired.after) in
    let timed : Appends (g.W.Write.contents c.args.output.now) (g.W.Write.contents c.print_time.new.output) (time_line f.number) =
    subst (λ n. Appends (g.W.Write.contents c.args.output.now) (g.W.Write.contents c.print_time.new.output) (time_line n)) c.from.ensures c.in_ok-print_time.ensures in
    Appends-trans _ _ _ _ _ timed (subst (Appends _ _) same c.in_ok-print_changes.ensures)

use Rattle.std.proofs.Common.{◌≡◌, ◌∙◌, ap, subst}
use Rattle.std.specs.Prelude.{OnOk}
use Rattle.std.specs.Io.KnownBytes.{Appends}
use Rattle.plant_model.specs.System.{plant_of}
use Rattle.step_core.specs.Running.{plant_in, states_in}
use Rattle.text_io.proofs.Leading.{printed-last}
use Rattle.run_states.specs.Declarations.{declarations_of}
use Rattle.run_states.specs.Waves.{start_values}
use Rattle.run_states.proofs.waves.WavesTelling.tell_start.Goals as goal

pub returns : goal.returns
returns g c =
    let plant = plant_in c.args.run.now in
    let now = g.W.Write.contents c.print_declarations.new.output in
    let same : start_values (plant_of c.of.result.system.now) c.of.result.states.now ≡ start_values plant (states_in c.args.run.now) =
    ap (λ p. start_values p c.of.result.states.now) c.of.ensures.plant ∙ ap (start_values plant) c.of.ensures.states in
    printed-last c.print_start.result _ now _ _ _ (subst (Appends _ now) (ap declarations_of c.system.ensures.plant) c.in_ok-print_declarations.ensures)
    (subst (λ text. OnOk c.print_start.result (Appends now (g.W.Write.contents c.print_start.new.output) text)) same c.print_start.ensures)

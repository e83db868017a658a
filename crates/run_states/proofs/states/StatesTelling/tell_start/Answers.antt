use Rattle.std.proofs.Common.{◌≡◌, ◌∙◌, ap, subst}
use Rattle.std.specs.Prelude.{OnOk}
use Rattle.std.specs.Io.KnownBytes.{Appends}
use Rattle.plant_model.specs.System.{plant_of}
use Rattle.step_core.specs.Running.{plant_in, states_in}
use Rattle.text_io.proofs.Leading.{printed-last}
use Rattle.run_states.specs.States.{head_line, start_lines}
use Rattle.run_states.proofs.states.StatesTelling.tell_start.Goals as goal

pub returns : goal.returns
returns g c =
    let format = c.args.self.now.format in
    let plant = plant_in c.args.run.now in
    let now = g.W.Write.contents c.print_head.new.output in
    let same : start_lines format (plant_of c.of.result.system.now) c.of.result.states.now ≡ start_lines format plant (states_in c.args.run.now) =
    ap (λ p. start_lines format p c.of.result.states.now) c.of.ensures.plant ∙ ap (start_lines format plant) c.of.ensures.states in
    printed-last c.print_start.result _ now _ _ _ (subst (Appends _ now) (ap (head_line format) c.system.ensures.plant) c.in_ok-print_head.ensures)
    (subst (λ text. OnOk c.print_start.result (Appends now (g.W.Write.contents c.print_start.new.output) text)) same c.print_start.ensures)

use Rattle.std.proofs.Common.{◌≡◌, ◌∙◌, ap, subst}
use Rattle.std.specs.Prelude.{OnOk}
use Rattle.std.specs.Io.KnownBytes.{Appends}
use Rattle.plant_model.specs.Chosen.{choice_of}
use Rattle.plant_model.specs.Step.{next}
use Rattle.plant_model.specs.System.{plant_of}
use Rattle.step_core.specs.Running.{plant_in}
use Rattle.text_io.proofs.Leading.{printed-last}
use Rattle.run_text.specs.Alone.{alone}
use Rattle.run_states.specs.States.{fired_begin, present_part}
use Rattle.run_states.specs.ByRows.{begin_by_rows}
use Rattle.run_states.proofs.ByRows.{begin-by-rows}
use Rattle.run_states.proofs.states.StatesTelling.tell_fired.Goals as goal

pub returns-clause-printed : goal.returns-clause-printed
returns-clause-printed g c = λ told before ready fired.
    let format = c.args.self.now.format in
    let plant = plant_in c.args.run.now in
    let f = c.args.firing.now in
    let choice = choice_of f.choice.now in
    let begun : begin_by_rows format (plant_of c.of-plant.result.system.now) f ≡ fired_begin format plant before f.number choice =
    ap (λ p. begin_by_rows format p f) c.of-plant.ensures.plant ∙ begin-by-rows format plant before f fired.rows in
    let same : present_part format (plant_of c.of-plant.result.system.now) c.of-plant.result.states.now ≡ present_part format plant (next plant before (alone choice)) =
    ap (λ p. present_part format p c.of-plant.result.states.now) c.of-plant.ensures.plant ∙ ap (present_part format plant) (c.of-plant.ensures.states ∙ fired.after) in
    printed-last c.print_present.result _ _ _ _ _ (subst (Appends _ _) begun c.in_ok-print_begin.ensures)
    (subst (λ text. OnOk c.print_present.result (Appends (g.W.Write.contents c.print_begin.new.output) (g.W.Write.contents c.print_present.new.output) text)) same c.print_present.ensures)

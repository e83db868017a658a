use Rattle.std.proofs.Common.{◌≡◌, ◌∙◌, ap, subst}
use Rattle.std.specs.Io.KnownBytes.{Appends}
use Rattle.plant_model.specs.Chosen.{choice_of}
use Rattle.plant_model.specs.System.{plant_of}
use Rattle.step_core.specs.Running.{plant_in}
use Rattle.text_io.proofs.Leading.{printed-last}
use Rattle.run_text.specs.Format.{step_text}
use Rattle.run_text.specs.ByRows.{step_by_rows}
use Rattle.run_text.proofs.ByRows.{step-by-rows}
use Rattle.run_text.proofs.trace.TraceTelling.tell_fired.Goals as goal

pub returns-clause-printed : goal.returns-clause-printed
returns-clause-printed g c = λ told before ready fired.
    let format = c.args.self.now.format in
    let plant = plant_in c.args.run.now in
    let f = c.args.firing.now in
    let same : step_by_rows format (plant_of c.system.result.now) f ≡ step_text format plant before f.number (choice_of f.choice.now) =
    ap (λ p. step_by_rows format p f) c.system.ensures.plant ∙ step-by-rows format plant before f fired.rows in
    printed-last c.end_line.result _ _ _ _ _ (subst (Appends _ _) same c.in_ok-print_fired_step.ensures) c.end_line.ensures

-- The counts are printed, and then the warnings with the lines of the text.
use Rattle.std.proofs.Common.{◌∙◌, ap, subst}
use Rattle.std.specs.Io.KnownBytes.{Appends}
use Rattle.part_lines.specs.Table.{part_lines}
use Rattle.plant_warnings.specs.Warnings.{warnings_text}
use Rattle.plant_tasks.specs.Printed.{plant_read}
use Rattle.plant_tasks.proofs.Printing.{appended_then}
use Rattle.plant_tasks.proofs.doing.print_warned.Goals as goal

pub returns-clause-printed : goal.returns-clause-printed
returns-clause-printed g c =
    let plant = plant_read c.args.plant.now in
    let warned = subst (Appends (g.W.Write.contents c.print_counts.new.output) (g.W.Write.contents c.print_warnings.new.output))
    (ap (λ lines. warnings_text plant lines c.as_bytes.result.now) c.in_ok-lines.ensures ∙
    ap (warnings_text plant (part_lines c.args.plant.now.text.now)) c.as_bytes.ensures.value)
    c.in_ok-print_warnings.ensures in
    appended_then _ _ _ _ _ c.in_ok-print_counts.ensures warned

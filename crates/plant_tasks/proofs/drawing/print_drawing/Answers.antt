-- What is drawn of some atoms is what the words ask for.
use Rattle.std.proofs.Common.{◌∙◌, ap, sym, subst, Some}
use Rattle.std.specs.Io.KnownBytes.{Appends}
use Rattle.std.specs.Option.{option_copied}
use Rattle.std.specs.Prelude.{IfSome}
use Rattle.command_line.specs.Asked.{names_in}
use Rattle.plant_model.specs.System.{plant_of}
use Rattle.plant_drawing.specs.Outline.{outline_of}
use Rattle.plant_tasks.specs.Drawn.{drawn_by, drawn_part, filling_after, set_drawn}
use Rattle.plant_tasks.specs.Ending.{OnDone}
use Rattle.plant_tasks.specs.declared.drawing.Shown.TheVariants.{All, Atoms}
use Rattle.plant_tasks.proofs.drawing.print_drawing.Goals as goal

pub returns-in-Whole-clause-printed : goal.returns-in-Whole-clause-printed
returns-in-Whole-clause-printed g c =
    let plant = plant_of c.args.system.now in
    let input = g.F.Read.remaining c.args.input in
    let asked = c.in-Whole.picking in
    subst (λ text. OnDone c.draw_after.result (IfSome text (Appends (g.W.Write.contents c.args.output.now) (g.W.Write.contents c.draw_after.new.output))))
    (ap (λ filling. drawn_part (All filling) plant c.in_ok-drawn.drawn (option_copied c.as_ref-picking.result) input) c.filling_after.ensures ∙
    ap (λ picking. drawn_part (All (filling_after picking)) plant c.in_ok-drawn.drawn picking input) c.as_ref-picking.ensures.value ∙
    ap (λ drawn. drawn_part (All (filling_after asked)) plant drawn asked input) c.in_ok-drawn.ensures.set ∙
    ap (λ view. drawn_by view plant (set_drawn plant (names_in c.args.drawing.now.only)) input) (sym c.in-Whole.is))
    c.draw_after.ensures.printed

pub returns-in-Machines-clause-printed : goal.returns-in-Machines-clause-printed
returns-in-Machines-clause-printed g c =
    let plant = plant_of c.args.system.now in
    let input = g.F.Read.remaining c.args.input in
    let asked = c.in-Machines.picking in
    subst (λ text. OnDone c.draw_after-in-Machines.result (IfSome text (Appends (g.W.Write.contents c.args.output.now) (g.W.Write.contents c.draw_after-in-Machines.new.output))))
    (ap (λ picking. drawn_part Atoms plant c.in_ok-drawn.drawn picking input) c.as_ref-picking-in-Machines.ensures.value ∙
    ap (λ drawn. drawn_part Atoms plant drawn asked input) c.in_ok-drawn.ensures.set ∙
    ap (λ view. drawn_by view plant (set_drawn plant (names_in c.args.drawing.now.only)) input) (sym c.in-Machines.is))
    c.draw_after-in-Machines.ensures.printed

pub returns-in_ok-outline_to-in-Outline-clause-printed : goal.returns-in_ok-outline_to-in-Outline-clause-printed
returns-in_ok-outline_to-in-Outline-clause-printed g c =
    let plant = plant_of c.args.system.now in
    let input = g.F.Read.remaining c.args.input in
    subst (λ text. IfSome text (Appends (g.W.Write.contents c.args.output.now) (g.W.Write.contents c.outline_to.new.output)))
    (ap (λ drawn. Some (outline_of plant drawn)) c.in_ok-drawn.ensures.set ∙
    ap (λ view. drawn_by view plant (set_drawn plant (names_in c.args.drawing.now.only)) input) (sym c.in-Outline.is))
    c.in_ok-outline_to-in-Outline.ensures

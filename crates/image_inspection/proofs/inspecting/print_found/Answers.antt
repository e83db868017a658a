use Rattle.std.proofs.Common.{◌∙◌, ap, subst, List, ℕ, Option}
use Rattle.std.specs.Prelude.{option_copied}
use Rattle.std.specs.Io.KnownBytes.{Appends}
use Rattle.plant_image.specs.Reading.{contents_in}
use Rattle.plant_model.specs.declared.system.System.{System}
use Rattle.image_inspection.specs.Inspected.{atoms_told}
use Rattle.image_inspection.proofs.Printed.{all-printed, text-is, verdict-is}
use Rattle.image_inspection.proofs.inspecting.print_found.Goals as goal

pub returns-clause-printed : goal.returns-clause-printed
returns-clause-printed g c =
    let plant : Option System = option_copied c.args.plant in
    let names : Option System = option_copied c.names_told-names.result in
    let held = contents_in c.args.found.now.held in
    let cells = c.args.cells.now in
    subst (λ (text : List ℕ). Appends (g.W.Write.contents c.args.output.now) (g.W.Write.contents c.hand_on.new.writer) text)
    (text-is c.args.shown plant c.args.bytes cells c.args.identity.now c.args.atoms names c.base_of.result held c.args.found.now.fault
    c.requires.identity c.requires.atoms c.names_told-names.ensures c.base_of.ensures.base c.requires.found.contents c.requires.found.fault)
    (all-printed c.args.shown plant c.args.bytes cells c.args.identity.now c.args.atoms names c.base_of.result held c.args.found.now.fault _ _ _ _ _ _
    c.in_ok-print_image_line.ensures c.in_ok-print_base_line.ensures c.in_ok-doubtful.ensures.printed c.in_ok-print_answer.ensures c.in_ok-hand_on.ensures)

pub returns-clause-verdict : goal.returns-clause-verdict
returns-clause-verdict g c =
    verdict-is c.args.shown (option_copied c.args.plant) c.args.bytes c.args.cells.now c.args.atoms (contents_in c.args.found.now.held) c.args.found.now.fault c.in_ok-doubtful.doubtful
    (c.requires.atoms ∙ ap (atoms_told (option_copied c.args.plant)) c.requires.identity) c.requires.found.contents c.requires.found.fault c.in_ok-doubtful.ensures.doubtful

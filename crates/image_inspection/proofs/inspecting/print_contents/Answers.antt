use Rattle.std.proofs.Common.{◌≡◌, ◌∙◌, ap, subst, ℕ, List, Option}
use Rattle.std.specs.Prelude.{option_copied}
use Rattle.std.specs.Io.KnownBytes.{Appends}
use Rattle.plant_image.specs.Contents.{Contents, last_number}
use Rattle.plant_image.specs.Reading.{contents_in}
use Rattle.plant_model.specs.declared.system.System.{System}
use Rattle.image_inspection.specs.Holding.{missing}
use Rattle.image_inspection.proofs.Printed.{doubtful-is, lines-are, lines-printed}
use Rattle.image_inspection.proofs.inspecting.print_contents.Goals as goal

pub returns-clause-printed : goal.returns-clause-printed
returns-clause-printed g c =
    let names : Option System = option_copied c.args.names in
    let held : Contents = contents_in c.args.held.now in
    let saved = c.args.saved.now in
    let marks = c.args.marks.now in
    let count : c.missing-count.result ≡ missing (last_number held) saved marks c.args.atoms =
    c.missing-count.ensures ∙ ap (λ (n : ℕ). missing n saved marks c.args.atoms) c.last_number.ensures in
    subst (λ (text : List ℕ). Appends (g.W.Write.contents c.args.output.now) (g.W.Write.contents c.print_missing.new.output) text)
    (lines-are c.args.shown names c.args.atoms c.args.cells.now held saved marks c.deref.result.now c.missing-count.result c.requires.saved c.requires.marks c.deref.ensures.value count)
    (lines-printed c.args.shown names c.args.atoms c.args.cells.now held saved marks c.deref.result.now c.missing-count.result _ _ _ _ _ _ _
    c.in_ok-print_atoms.ensures c.in_ok-print_held_line.ensures c.in_ok-print_records.ensures c.in_ok-print_slots.ensures c.in_ok-doubted.ensures.printed c.in_ok-print_missing.ensures)

pub returns-clause-doubtful : goal.returns-clause-doubtful
returns-clause-doubtful g c =
    let held : Contents = contents_in c.args.held.now in
    let saved = c.args.saved.now in
    let marks = c.args.marks.now in
    let count : c.missing-count.result ≡ missing (last_number held) saved marks c.args.atoms =
    c.missing-count.ensures ∙ ap (λ (n : ℕ). missing n saved marks c.args.atoms) c.last_number.ensures in
    doubtful-is c.args.shown (option_copied c.args.names) c.args.atoms c.args.cells.now held saved marks c.missing-count.result c.in_ok-doubted.doubted c.requires.saved c.requires.marks count c.in_ok-doubted.ensures.doubted

use Rattle.std.proofs.Common.{◌≡◌, ◌∙◌, sym, ℕ, List}
use Rattle.std.specs.Prelude.{IfOk, OnOk, option_copied}
use Rattle.std.specs.Io.KnownBytes.{Appends}
use Rattle.disk_model.specs.Cells.{Cell}
use Rattle.image_inspection.specs.Lines.{inspection_text}
use Rattle.image_inspection.specs.Verdicts.{verdict_on}
use Rattle.image_inspection.proofs.Booted.{as-booted}
use Rattle.image_inspection.proofs.Endings.{reads-until, reads-whole}
use Rattle.image_inspection.proofs.Loaded.{told-before}
use Rattle.image_inspection.proofs.inspecting.inspect_image.Goals as goal

pub load_cells-requires : goal.load_cells-requires
load_cells-requires g c = c.in_ok-bytes.ensures.size ∙ sym c.in_ok-bytes.ensures.reads.counts.size

pub returns-in_err-list-clause-reads : goal.returns-in_err-list-clause-reads
returns-in_err-list-clause-reads g c =
    reads-until c.from_residual-in_err-list.result c.in_err-list.field-0.0 (g.C.ReadCells.state c.args.cells.now) (g.C.ReadCells.state c.bytes.new.self) (g.C.ReadCells.state c.load_cells.new.cells)
    c.in_ok-bytes.ensures.reads c.in_err-list.ensures.reads c.from_residual-in_err-list.ensures.1

pub returns-clause-reads : goal.returns-clause-reads
returns-clause-reads g c =
    reads-whole c.inspect_cells.result (g.C.ReadCells.state c.args.cells.now) (g.C.ReadCells.state c.bytes.new.self) (g.C.ReadCells.state c.load_cells.new.cells)
    c.in_ok-bytes.ensures.reads c.in_ok-list.ensures.reads c.inspect_cells.ensures.no_failure

pub returns-clause-printed : goal.returns-clause-printed
returns-clause-printed g c keeps =
    told-before (λ (n : ℕ) (l : List Cell). OnOk c.inspect_cells.result (Appends (g.W.Write.contents c.args.output.now) (g.W.Write.contents c.inspect_cells.new.output) (inspection_text c.args.shown (option_copied c.args.plant) n l)))
    (g.C.ReadCells.state c.args.cells.now) (g.C.ReadCells.state c.bytes.new.self) c.in_ok-bytes.bytes c.deref.result.now _
    c.in_ok-bytes.ensures.size c.in_ok-bytes.ensures.reads keeps c.deref.ensures.value c.in_ok-list.ensures.loaded c.inspect_cells.ensures.printed

pub returns-clause-verdict : goal.returns-clause-verdict
returns-clause-verdict g c keeps =
    told-before (λ (n : ℕ) (l : List Cell). IfOk c.inspect_cells.result (λ v. v ≡ verdict_on (option_copied c.args.plant) n l))
    (g.C.ReadCells.state c.args.cells.now) (g.C.ReadCells.state c.bytes.new.self) c.in_ok-bytes.bytes c.deref.result.now _
    c.in_ok-bytes.ensures.size c.in_ok-bytes.ensures.reads keeps c.deref.ensures.value c.in_ok-list.ensures.loaded c.inspect_cells.ensures.verdict

pub returns-clause-booted : goal.returns-clause-booted
returns-clause-booted g c keeps =
    as-booted (option_copied c.args.plant) (g.C.ReadCells.state c.args.cells.now) c.inspect_cells.result c.keeps_its_rules.ensures (returns-clause-verdict g c keeps)

use Rattle.std.proofs.Common.{◌≡◌, ◌∙◌, ap, arith, codes, subst, ◌++◌}
use Rattle.std.specs.Io.KnownBytes.{Appends}
use Rattle.plant_model.specs.Wire.{wire_of}
use Rattle.run_text.proofs.Listing.{leads-mapped}
use Rattle.run_summary.specs.Lines.{connector_line, part_line}
use Rattle.run_summary.proofs.connectors.print_connectors.Goals as goal

pub loop-number-preserved : goal.loop-number-preserved
loop-number-preserved g c =
    let n = c.loop-number.number in
    let wire = c.index-wires-number.result in
    let counts = c.args.counts.now in
    let same : part_line c.args.listing (codes "connector " ++ c.as_bytes.result.now) c.of.result ≡ connector_line c.args.listing counts n (wire_of wire) =
    ap (λ name. part_line c.args.listing (codes "connector " ++ name) c.of.result) c.as_bytes.ensures
    ∙ ap (part_line c.args.listing (codes "connector " ++ wire.name)) c.of.ensures in
    leads-mapped wire_of c.args.wires.now n wire (omega arith) c.index-wires-number.is (connector_line c.args.listing counts)
    (g.W.Write.contents c.args.output.now) (g.W.Write.contents c.loop-number.output) (g.W.Write.contents c.print_connector.new.output) _
    c.loop-number.invariant (subst (Appends _ _) same c.in_ok-print_connector.ensures)

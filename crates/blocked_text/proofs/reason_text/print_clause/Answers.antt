use Rattle.std.proofs.Common.{subst, OnOk}
use Rattle.std.specs.Prelude.{slice_get}
use Rattle.std.specs.Io.KnownBytes.{Appends}
use Rattle.plant_model.specs.Plant.{WireDefinition}
use Rattle.plant_model.specs.System.{plant_of}
use Rattle.plant_model.specs.Wire.{wire_of}
use Rattle.blocked_text.specs.ReasonText.{clause_text}
use Rattle.blocked_text.proofs.Entries.{made-at, made-past, printed-entry, printed-no-entry}
use Rattle.blocked_text.proofs.Small.{small-guards}
use Rattle.blocked_text.proofs.reason_text.print_clause.Goals as goal

pub print_clause_of-requires : goal.print_clause_of-requires
print_clause_of-requires g c =
    let plant = plant_of c.args.report.now.system.now in
    let wire = c.in-Some.wire.now in
    let found = c.in-Some.ensures.lookup in
    small-guards plant c.args.connector (wire_of wire) c.keeps_its_rules.ensures.plant
    (made-at wire_of c.wires.result.now plant.wires c.wires.ensures c.from.result c.args.connector c.from.ensures wire found.3.0 found.1)

pub returns-in-Some : goal.returns-in-Some
returns-in-Some g c =
    let plant = plant_of c.args.report.now.system.now in
    let states = c.args.report.now.states.now in
    let wire = c.in-Some.wire.now in
    let found = c.in-Some.ensures.lookup in
    let start = g.W.Write.contents c.args.output.now in
    let after = g.W.Write.contents c.print_clause_of.new.output in
    printed-entry (λ (w : WireDefinition). clause_text plant.atoms states w c.args.clause) (slice_get plant.wires c.args.connector) (wire_of wire) c.print_clause_of.result start after
    (made-at wire_of c.wires.result.now plant.wires c.wires.ensures c.from.result c.args.connector c.from.ensures wire found.3.0 found.1)
    (subst (λ atoms. OnOk c.print_clause_of.result (Appends start after (clause_text atoms states (wire_of wire) c.args.clause))) c.atoms.ensures c.print_clause_of.ensures)

pub returns-in-None : goal.returns-in-None
returns-in-None g c =
    let plant = plant_of c.args.report.now.system.now in
    printed-no-entry (λ (w : WireDefinition). clause_text plant.atoms c.args.report.now.states.now w c.args.clause) (slice_get plant.wires c.args.connector) (g.W.Write.contents c.args.output.now)
    (made-past wire_of c.wires.result.now plant.wires c.wires.ensures c.from.result c.args.connector c.from.ensures c.in-None.ensures.lookup.3)

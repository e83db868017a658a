use Rattle.std.proofs.Common.{◌∙◌, ap, sym, arith}
use Rattle.std.specs.Prelude.{slice_index_or}
use Rattle.std.proofs.lemmas.Bool.{eqb-true}
use Rattle.plant_model.specs.Choice.{is_possible_at}
use Rattle.plant_model.specs.System.{interactions_in, plant_of}
use Rattle.step_core.proofs.LeafStates.{off-of}
use Rattle.step_core.proofs.OwnRows.{common-bit, first-own, no-common-bit, none-possible, one-possible, only-one}
use Rattle.step_core.proofs.alone.Apart.is_one_possible.Goals as goal

pub judge_connector-requires-clause-off : goal.judge_connector-requires-clause-off
judge_connector-requires-clause-off c =
    let a = c.args.self.now in
    off-of (plant_of a.system.now) a.states.now a.offers.now.sets a.offers.now.counts a.leaves.now a.of_plant a.offering.offered a.offering.counted a.offering.leaves c.args.connector

-- a leaf that takes part in it offers nothing
pub returns-then-off-rows-ne0-clause-own : goal.returns-then-off-rows-ne0-clause-own
returns-then-off-rows-ne0-clause-own c n own =
    let a = c.args.self.now in
    let rows = c.args.rows.now in
    let off = slice_index_or a.leaves.now.off c.args.connector 0 in
    let leaves = off-of (plant_of a.system.now) a.states.now a.offers.now.sets a.offers.now.counts a.leaves.now a.of_plant a.offering.offered a.offering.counted a.offering.leaves c.args.connector in
    let found = common-bit off rows.must (omega arith) (omega (arith, c.if-off-rows-ne0.true)) in
    sym (none-possible a.system.now c.args.connector rows c.requires.connector c.requires.rows a.states.now off leaves found.0 found.1 found.2 n own)

-- none does, and no clause forbids anything
pub returns-then-is_empty-clause-own : goal.returns-then-is_empty-clause-own
returns-then-is_empty-clause-own c n own =
    let a = c.args.self.now in
    let rows = c.args.rows.now in
    let off = slice_index_or a.leaves.now.off c.args.connector 0 in
    let leaves = off-of (plant_of a.system.now) a.states.now a.offers.now.sets a.offers.now.counts a.leaves.now a.of_plant a.offering.offered a.offering.counted a.offering.leaves c.args.connector in
    one-possible a.system.now c.args.connector rows c.requires.connector c.requires.rows a.states.now off leaves c.requires.one (omega (arith, eqb-true rows.under_clause.len 0 (sym c.is_empty.ensures ∙ c.if-is_empty.true), rows.under_clause.ok.0)) (no-common-bit off rows.must (omega (arith, c.if-off-rows-ne0.false))) n own

pub returns-clause-own : goal.returns-clause-own
returns-clause-own c n own =
    let a = c.args.self.now in
    let system = a.system.now in
    let plant = plant_of system in
    let rows = c.args.rows.now in
    let first = first-own system c.args.connector rows c.requires.connector c.requires.rows c.requires.one in
    c.contains.ensures.held ∙ c.judge_connector.ensures.judged rows.first first ∙
    ap (λ m. is_possible_at plant.atoms plant.wires a.states.now (interactions_in system) m) (only-one system c.args.connector rows c.requires.connector c.requires.rows c.requires.one n rows.first own first)

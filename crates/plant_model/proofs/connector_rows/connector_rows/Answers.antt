use Rattle.std.proofs.Common.{◌≡◌, ◌<◌, ◌+◌, ◌∙◌, ℕ, [], ◌∷◌, ap, sym, subst, refl, map, length, arith}
use Rattle.std.specs.Prelude.{Some, slice_get}
use Rattle.std.proofs.lemmas.List.{length-append, length-map}
use Rattle.std.proofs.lemmas.Option.{same_Some, slice_get_read}
use Rattle.connector_tree.specs.Tree.{leaves}
use Rattle.plant_model.specs.ConnectorRows.{AreRowsOf}
use Rattle.plant_model.specs.Interaction.{interaction_of}
use Rattle.plant_model.specs.Plant.{WireDefinition}
use Rattle.plant_model.specs.Wire.{wire_of}
use Rattle.plant_model.specs.declared.bound_expressions.BoundExpressions.{BoundExpressions}
use Rattle.plant_model.specs.declared.connector_rows.ConnectorRows.{ConnectorRows}
use Rattle.plant_model.proofs.ByConnector.{lent-count, lent-leaves}
use Rattle.plant_model.proofs.Pushed.{each-pushed, some-at}
use Rattle.plant_model.proofs.connector_rows.connector_rows.Goals as goal

pub rows_of-requires-clause-leaves : goal.rows_of-requires-clause-leaves
rows_of-requires-clause-leaves c =
    let wires = c.args.wires.now in
    let ports = c.args.ports.now in
    let n = c.loop-number.number in
    let p = c.index-ports-number.result in
    let w = some-at (map wire_of wires) n (omega (arith, length-map wires wire_of, c.loop-number-test.true)) in
    let within : n < length ports = omega (arith, lent-count (λ list. list.items) ports wires c.requires.leaves, c.loop-number-test.true) in
    omega (arith, c.len-leaves.ensures, p.ok.0, ap length (lent-leaves (λ list. list.items) ports wires c.requires.leaves n p w.0 within c.index-ports-number.is w.1), c.requires.few_leaves n w.0 w.1)

pub loop-number-preserved : goal.loop-number-preserved
loop-number-preserved c =
    let wires = c.args.wires.now in
    let ports = c.args.ports.now in
    let bound = c.args.bound.now in
    let all = map interaction_of c.args.interactions.now in
    let n = c.loop-number.number in
    let p = c.index-ports-number.result in
    let its = c.index-bound-number.result in
    let rows = c.loop-number.all.items in
    let made = c.in_ok-rows_of.field-0 in
    let pushed = c.in_ok-push.ensures.items in
    let within : n < length ports = omega (arith, lent-count (λ list. list.items) ports wires c.requires.leaves, c.loop-number-test.true) in
    let inside : n < length bound = omega (arith, c.requires.bound, c.loop-number-test.true) in
    let Right : ℕ → ConnectorRows → Type 0 = λ k r. (w : WireDefinition) (b : BoundExpressions) → slice_get (map wire_of wires) k ≡ Some w → slice_get bound k ≡ Some b → AreRowsOf all k (length (leaves w.connector)) b.clauses.items r in
    let here : Right n made = λ w b at_wire at_bound.
    let own : its ≡ b = same_Some its b (sym (slice_get_read bound (length bound) n its refl inside c.index-bound-number.is) ∙ at_bound) in
    let lent = lent-leaves (λ list. list.items) ports wires c.requires.leaves n p w within c.index-ports-number.is at_wire in
    let count : c.len-leaves.result ≡ length (leaves w.connector) = omega (arith, c.len-leaves.ensures, p.ok.0, ap length lent) in
    subst (λ m. AreRowsOf all n m b.clauses.items made) count (subst (λ cs. AreRowsOf all n c.len-leaves.result cs made) (c.deref.ensures.value ∙ ap (λ (x : BoundExpressions). x.clauses.items) (sym c.index-bound-number.is ∙ own)) c.in_ok-rows_of.ensures) in (
      ap length pushed ∙ length-append rows (made ∷ []) ∙ ap (λ m. m + 1) c.loop-number.invariant.0,
      λ k r w b there. each-pushed Right rows made n c.loop-number.invariant.0 (λ j x at v e. c.loop-number.invariant.1 j x v e at) here k r (sym (ap (λ xs. slice_get xs k) pushed) ∙ there) w b,
    )

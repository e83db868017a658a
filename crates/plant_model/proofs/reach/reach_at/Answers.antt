use Rattle.std.proofs.Common.{◌≡◌, ◌<◌, ◌≤◌, ◌++◌, ◌∙◌, false, ap, sym, map, length, arith}
use Rattle.std.specs.Option.{option_map_or}
use Rattle.std.proofs.lemmas.List.{length-map}
use Rattle.std.proofs.lemmas.Option.{slice_get_past}
use Rattle.connector_tree.specs.Tree.{leaves}
use Rattle.priority_filter.specs.Members.{has_bit}
use Rattle.plant_model.specs.Plant.{WireDefinition}
use Rattle.plant_model.specs.Reach.{is_at, leaves_at, leaves_from, has_row}
use Rattle.plant_model.specs.Wire.{wire_of}
use Rattle.plant_model.proofs.ByConnector.{lent-count, lent-leaves}
use Rattle.plant_model.proofs.Pushed.{some-at}
use Rattle.plant_model.proofs.Reaching.{bit-added, bit-passed, bits-over, wire-added, wires-over}
use Rattle.plant_model.proofs.reach.reach_at.Goals as goal
use Rattle.plant_model.proofs.reach.reach_at.Goals.{then-some, else-some}

pub push_leaves-requires : goal.push_leaves-requires
push_leaves-requires c =
    let wires = c.args.wires.now in
    let ports = c.args.ports.now in
    let n = c.loop-number.number in
    let w = some-at (map wire_of wires) n (omega (arith, length-map wires wire_of, c.loop-number-test.true)) in
    let within : n < length ports = omega (arith, lent-count (λ list. list.items) ports wires c.requires.leaves, c.loop-number-test.true) in
    omega (arith, ap length (c.deref.ensures.value ∙ lent-leaves (λ list. list.items) ports wires c.requires.leaves n c.index-ports-number.result w.0 within c.index-ports-number.is w.1), c.requires.few_leaves n w.0 w.1)

pub loop-number-preserved : goal.loop-number-preserved
loop-number-preserved c =
    let wires = c.args.wires.now in
    let ports = c.args.ports.now in
    let place = c.args.place in
    let n = c.loop-number.number in
    let all = map wire_of wires in
    let inside : n < length all = omega (arith, length-map wires wire_of, c.loop-number-test.true) in
    let w = some-at all n inside in
    let within : n < length ports = omega (arith, lent-count (λ list. list.items) ports wires c.requires.leaves, c.loop-number-test.true) in
    let lent = c.deref.ensures.value ∙ lent-leaves (λ list. list.items) ports wires c.requires.leaves n c.index-ports-number.result w.0 within c.index-ports-number.is w.1 in
    let old = c.loop-number.leaves.items in
    let word = c.loop-number.connectors in
    let its : is_at all place n ≡ c.in_ok-some.some =
    ap (λ o. option_map_or (λ (v : WireDefinition). has_row (leaves v.connector) place) o false) w.1 ∙ ap (λ ps. has_row ps place) (sym lent) ∙ sym c.in_ok-some.ensures.some in
    let low : n < 64 = omega (arith, c.loop-number-test.true, c.requires.few_wires) in (
      wire-added place n all w.0 inside w.1 old c.push_leaves.new.into.items (leaves_at place 0 all) (c.in_ok-some.ensures.added ∙ ap (λ ps. old ++ leaves_from place n 0 ps) lent) c.loop-number.invariant.0,
      λ k. elim c.if-some.branch [
        | then-some t ↦ ap (λ x. has_bit x k) t.connectors-is ∙ bit-added word n (is_at all place) c.loop-number.invariant.1 low (its ∙ t.if-some.true) k
        | else-some t ↦ ap (λ x. has_bit x k) t.connectors-is ∙ bit-passed word n (is_at all place) c.loop-number.invariant.1 (its ∙ t.if-some.false) k
      ],
    )

pub returns : goal.returns
returns c =
    let all = map wire_of c.args.wires.now in
    let place = c.args.place in
    let n = c.loop-number.number in
    let over : length all ≤ n = omega (arith, length-map c.args.wires.now wire_of, c.loop-number-test.false) in
    record {
      leaves = wires-over place n all c.loop-number.leaves.items (leaves_at place 0 all) over c.loop-number.invariant.0;
      connectors = bits-over c.loop-number.connectors n (is_at all place) c.loop-number.invariant.1
          (λ k past. ap (λ o. option_map_or (λ (v : WireDefinition). has_row (leaves v.connector) place) o false) (slice_get_past all k (omega (arith, past, over))));
    }

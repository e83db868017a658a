use Rattle.std.proofs.Common.{◌≡◌, ◌<◌, ◌∙◌, ◌&&◌, ℕ, Bool, false, ap, sym, refl, map, nat_lt, length, arith}
use Rattle.std.specs.Prelude.{Some, slice_get, option_map}
use Rattle.std.specs.Option.{option_map_or}
use Rattle.std.proofs.lemmas.List.{length-map}
use Rattle.std.proofs.lemmas.Option.{slice_get-map, slice_get_past, slice_get_read}
use Rattle.connector_tree.specs.Tree.{leaves}
use Rattle.priority_filter.specs.Members.{has_bit}
use Rattle.plant_model.specs.Plant.{WireDefinition}
use Rattle.plant_model.specs.Reach.{can_read, has_atom}
use Rattle.plant_model.specs.Wire.{wire_of}
use Rattle.plant_model.proofs.ByConnector.{lent-count, lent-leaves}
use Rattle.plant_model.proofs.Reaching.{bit-added, bit-passed, bits-over}
use Rattle.plant_model.proofs.reach.readers_of.Goals as goal
use Rattle.plant_model.proofs.reach.readers_of.Goals.{then-is_reader, else-is_reader}

pub loop-number-preserved : goal.loop-number-preserved
loop-number-preserved c k =
    let wires = c.args.wires.now in
    let ports = c.args.ports.now in
    let n = c.loop-number.number in
    let word = c.loop-number.connectors in
    let test : ℕ → Bool = can_read (map wire_of wires) c.args.atom in
    let wire = c.index-wires-number.result in
    let p = c.index-ports-number.result in
    let within : n < length ports = omega (arith, lent-count (λ list. list.items) ports wires c.requires.leaves, c.loop-number-test.true) in
    let there : slice_get (map wire_of wires) n ≡ Some (wire_of wire) =
    slice_get-map wire_of wires n ∙ ap (option_map wire_of) (slice_get_read wires (length wires) n wire refl c.loop-number-test.true c.index-wires-number.is) in
    let lent : c.deref.result.now ≡ leaves (wire_of wire).connector =
    c.deref.ensures.value ∙ lent-leaves (λ list. list.items) ports wires c.requires.leaves n p (wire_of wire) within c.index-ports-number.is there in
    let its : test n ≡ c.is_reader.result =
    ap (λ o. option_map_or (λ (w : WireDefinition). nat_lt 0 (length w.guards) && has_atom (leaves w.connector) c.args.atom) o false) there ∙
    ap (λ ps. nat_lt 0 (length (wire_of wire).guards) && has_atom ps c.args.atom) (sym lent) ∙ sym c.is_reader.ensures in
    let low : n < 64 = omega (arith, c.loop-number-test.true, c.requires.few_wires) in
    elim c.if-is_reader.branch [
      | then-is_reader w ↦ ap (λ x. has_bit x k) w.connectors-is ∙ bit-added word n test c.loop-number.invariant low (its ∙ w.if-is_reader.true) k
      | else-is_reader w ↦ ap (λ x. has_bit x k) w.connectors-is ∙ bit-passed word n test c.loop-number.invariant (its ∙ w.if-is_reader.false) k
    ]

pub returns : goal.returns
returns c =
    let wires = c.args.wires.now in
    bits-over c.loop-number.connectors c.loop-number.number (can_read (map wire_of wires) c.args.atom) c.loop-number.invariant
    (λ k past. ap (λ o. option_map_or (λ (w : WireDefinition). nat_lt 0 (length w.guards) && has_atom (leaves w.connector) c.args.atom) o false)
    (slice_get_past (map wire_of wires) k (omega (arith, past, length-map wires wire_of, c.loop-number-test.false))))

use Rattle.std.proofs.Common.{◌≡◌, ◌&&◌, ◌∙◌, false, ap, refl, get_or, nat_lt, arith}
use Rattle.std.specs.Prelude.{Some, slice_get}
use Rattle.std.specs.Option.{option_map_or}
use Rattle.std.proofs.lemmas.Bool.{and_from, and_right, lt-ltb, le-ltb}
use Rattle.std.proofs.lemmas.Option.{slice_get_past, slice_get-get_or}
use Rattle.connector_tree.specs.declared.tree.Port.{Port}
use Rattle.priority_filter.specs.Members.{has_bit}
use Rattle.plant_model.specs.BoundExpressions.{is_lower}
use Rattle.plant_model.proofs.Reaching.{bit-added, bit-passed, bits-over}
use Rattle.plant_model.proofs.bound_expressions.lower_leaves.Goals as goal
use Rattle.plant_model.proofs.bound_expressions.lower_leaves.Goals.{then-leaf-lt16+then-ports-leaf, else-leaf-lt16, else-leaf-lt16-via-then-leaf-lt16+else-ports-leaf, else-leaf-lt16-via-else-leaf-lt16}

abbrev no_port : Port
no_port = record { atom = 0; port = 0 }

pub loop-leaf-preserved : goal.loop-leaf-preserved
loop-leaf-preserved c =
    let ports = c.args.ports.now in
    let atom = c.args.atom in
    let n = c.loop-leaf.leaf in
    let word = c.loop-leaf.lower in
    let port : Port = get_or ports n no_port in
    let there : slice_get ports n ≡ Some port = slice_get-get_or ports n no_port c.loop-leaf-test.true in
    let its : is_lower ports atom n ≡ (nat_lt n 16 && nat_lt port.atom atom) = ap (λ o. nat_lt n 16 && option_map_or (λ (p : Port). nat_lt p.atom atom) o false) there in
    let passed = λ (fails : is_lower ports atom n ≡ false). bit-passed word n (is_lower ports atom) c.loop-leaf.invariant fails in
    elim c.if-leaf-lt16.branch [
      | then-leaf-lt16+then-ports-leaf w ↦ λ j. ap (λ x. has_bit x j) w.lower-is ∙ bit-added word n (is_lower ports atom) c.loop-leaf.invariant (omega (arith, w.if-leaf-lt16.true)) (its ∙ and_from (nat_lt n 16) (nat_lt port.atom atom) (lt-ltb n 16 w.if-leaf-lt16.true) (lt-ltb port.atom atom w.if-ports-leaf.true)) j
      | else-leaf-lt16 w ↦ λ j.
          ap (λ x. has_bit x j) w.lower-is ∙
          passed (its ∙ elim w.else-leaf-lt16.branch [
            | else-leaf-lt16-via-then-leaf-lt16+else-ports-leaf w' ↦ and_right (nat_lt n 16) (nat_lt port.atom atom) (le-ltb port.atom atom w'.if-ports-leaf.false)
            | else-leaf-lt16-via-else-leaf-lt16 w' ↦ ap (λ b. b && nat_lt port.atom atom) (le-ltb n 16 w'.if-leaf-lt16.false)
          ]) j
    ]

pub returns : goal.returns
returns c =
    let ports = c.args.ports.now in
    bits-over c.loop-leaf.lower c.loop-leaf.leaf (is_lower ports c.args.atom) c.loop-leaf.invariant
    (λ j past. ap (λ o. nat_lt j 16 && option_map_or (λ (p : Port). nat_lt p.atom c.args.atom) o false) (slice_get_past ports j (omega (arith, past, c.loop-leaf-test.false))) ∙ and_right (nat_lt j 16) false refl)

use Rattle.std.proofs.Common.{◌≡◌, ◌∙◌, ap, sym, refl, arith, length}
use Rattle.std.specs.Prelude.{Some, None, slice_get, option_map}
use Rattle.std.proofs.lemmas.Option.{slice_get_read, slice_get_past}
use Rattle.connector_tree.specs.declared.tree.Port.{Port}
use Rattle.plant_model.proofs.bound_expressions.atom_of.Goals as goal

pub returns-in-Some : goal.returns-in-Some
returns-in-Some c =
    let ports = c.args.ports.now in
    let port = c.in-Some.port.now in
    let found = c.in-Some.ensures.lookup in
    let there : slice_get ports c.args.leaf ≡ Some port =
    ap (slice_get ports) (sym c.from.ensures) ∙ slice_get_read ports (length ports) c.from.result port refl found.3.0 found.1 in
    sym (ap (option_map (λ (p : Port). p.atom)) there)

pub returns-in-None : goal.returns-in-None
returns-in-None c =
    let none : slice_get c.args.ports.now c.args.leaf ≡ None =
    slice_get_past c.args.ports.now c.args.leaf (omega (arith, c.in-None.ensures.lookup.3, c.from.ensures)) in
    sym (ap (option_map (λ (p : Port). p.atom)) none)

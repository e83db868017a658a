use Rattle.std.proofs.Common.{◌≡◌, ◌<◌, ◌∙◌, ℕ, refl, ap, sym, arith, length, map, get_or, ⊎_elim}
use Rattle.std.proofs.lemmas.Bool.{cases_eq, or_from, or_parts}
use Rattle.std.specs.Prelude.{Some, option_map, slice_get}
use Rattle.std.proofs.lemmas.List.{length-map}
use Rattle.std.proofs.lemmas.Option.{slice_get-map, slice_get_read}
use Rattle.petri_atom.specs.Atom.{definition_of}
use Rattle.petri_atom.specs.Parts.{port_of}
use Rattle.petri_atom.proofs.Sets.{has-or}
use Rattle.priority_filter.specs.Members.{has_bit}
use Rattle.plant_model.specs.Reach.{row_of_port}
use Rattle.plant_model.specs.Reach.{is_at}
use Rattle.plant_model.specs.Wire.{wire_of}
use Rattle.step_core.proofs.ConnectorsOf.{at-none, no-leaf, no-leaf-past}
use Rattle.step_core.proofs.sure.connectors_of_atom.Goals as goal

pub loop-port-preserved : goal.loop-port-preserved
loop-port-preserved c =
    let system = c.args.system.now in
    let atom : ℕ = c.args.atom in
    let port : ℕ = c.loop-port.port in
    let before = c.loop-port.connectors in
    let reach = c.index-in-loop-port.result.now in
    let more = reach.connectors in
    let low : atom < length system.atoms.items = omega (arith, c.if-index-len.true, c.from-index.ensures, c.len.ensures, system.atoms.ok.0) in
    let within : row_of_port atom port < length system.reach.ports.items = omega (arith, low, system.reached.port_count, c.loop-port-test.true) in
    let is : reach ≡ get_or system.reach.ports.items (row_of_port atom port) reach = c.index-in-loop-port.ensures ∙ ap (λ k. get_or system.reach.ports.items k reach) c.port_row.ensures in
    let there = slice_get_read system.reach.ports.items (length system.reach.ports.items) (row_of_port atom port) reach refl within is in
    let stands : (k : ℕ) → has_bit more k ≡ is_at (map wire_of system.wires.items) (row_of_port atom port) k = (system.reached.ports (row_of_port atom port) reach there).connectors in
    record {
      told = λ k none at below.
          let both = or_parts (has_bit before k) (has_bit more k) (sym (has-or before more k) ∙ none) in
          ⊎_elim
          (λ same. ap (λ p. is_at (map wire_of system.wires.items) (row_of_port atom p) k) same ∙ sym (stands k) ∙ both.1)
          (λ other. c.loop-port.invariant.told k both.0 at (omega (arith, below, other)))
          (cases_eq at port);
      within = λ k past.
          has-or before more k ∙
          or_from (has_bit before k) (has_bit more k) (c.loop-port.invariant.within k past) (stands k ∙ at-none system (row_of_port atom port) k past);
    }

pub returns-after-loop-port-clause-told : goal.returns-after-loop-port-clause-told
returns-after-loop-port-clause-told c k none =
    let system = c.args.system.now in
    let number : ℕ = c.args.atom in
    let atom = c.index.result.now in
    let ports = c.ports-port-end.result.now in
    let within : number < length system.atoms.items = omega (arith, c.if-index-len.true, c.from-index.ensures, c.len.ensures, system.atoms.ok.0) in
    let is : atom ≡ get_or system.atoms.items number atom = c.index.ensures ∙ ap (λ k. get_or system.atoms.items k atom) c.from-index.ensures in
    let there : slice_get (map definition_of system.atoms.items) number ≡ Some (definition_of atom) =
    slice_get-map definition_of system.atoms.items number ∙ ap (option_map definition_of) (slice_get_read system.atoms.items (length system.atoms.items) number atom refl within is) in
    no-leaf system number k (definition_of atom) there (λ port low. c.loop-port.invariant.told k none port (omega (arith, low, ap length c.ports-port-end.ensures, length-map ports port_of, c.loop-port-test.false)))

pub returns-else-index-len-clause-told : goal.returns-else-index-len-clause-told
returns-else-index-len-clause-told c k none =
    no-leaf-past c.args.system.now c.args.atom k (omega (arith, c.if-index-len.false, c.from-index.ensures, c.len.ensures, c.args.system.now.atoms.ok.0))

use Rattle.std.proofs.Common.{◌≡◌, ◌∙◌, sym, ap, ◌<◌, ◌≤◌, [], length, map, Some, position, arith}
use Rattle.std.specs.Prelude.{slice_get}
use Rattle.std.specs.Option.{option_map_or}
use Rattle.petri_atom.specs.Definition.{exports_of}
use Rattle.petri_atom.specs.Parts.{port_of}
use Rattle.petri_atom.specs.declared.state.TheConstants.{MAX_EXPORTS}
use Rattle.atom_lines.specs.Draft.{drafted}
use Rattle.atom_lines.specs.Lookup.{is_named}
use Rattle.atom_lines.proofs.Exports.{port_there, few_exports}
use Rattle.atom_lines.proofs.draft.AtomDraft.find_export.Goals as goal

-- the port with the number
there : (c : goal.In_ok-find_export) → slice_get (map port_of c.args.self.now.ports.items) c.args.port ≡ Some (port_of c.in_ok-port.port.now)
there c =
    let read = c.in_ok-port.ensures.lookup.3 in
    port_there c.args.self.now.ports.items c.deref.result.now c.args.port c.from.result c.in_ok-port.port.now c.deref.ensures.value c.from.ensures read.0 (read.1 c.in_ok-port.port.now)

pub returns-clause-number : goal.returns-clause-number
returns-clause-number c =
    let d = c.args.self.now in
    let exports : c.deref-3.result.now ≡ exports_of (drafted d) c.args.port = c.deref-3.ensures.value ∙ sym (ap (λ o. option_map_or (λ q. q.exports) o []) (there c)) in
    c.in_ok-find_export.ensures.first ∙ ap (λ vs. position (is_named vs c.args.variable.now) c.deref-3.result.now) c.deref-2.ensures.value ∙ ap (position (is_named d.variables.items c.args.variable.now)) exports

-- a port exports few variables
within : (c : goal.In_ok-find_export) → c.in_ok-find_export.field-0 < MAX_EXPORTS
within c =
    let d = c.args.self.now in
    let few : length c.in_ok-port.port.now.exports.items ≤ MAX_EXPORTS = few_exports (length d.variables.items) (map port_of d.ports.items) c.args.port (port_of c.in_ok-port.port.now) d.sound_ports (there c) in
    omega (arith, c.in_ok-find_export.ensures.within, ap length c.deref-3.ensures.value, few)

pub returns-clause-within : goal.returns-clause-within
returns-clause-within c = within c

pub overflow_cast-result : goal.overflow_cast-result
overflow_cast-result c = omega (arith, within c)

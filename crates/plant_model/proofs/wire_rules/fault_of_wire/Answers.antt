use Rattle.std.proofs.Common.{◌∙◌, ◌++◌, sym, ap, map}
use Rattle.std.specs.List.{list_all}
use Rattle.std.proofs.lemmas.List.Folds.{list_all-map}
use Rattle.petri_atom.specs.Atom.{definition_of}
use Rattle.petri_atom.specs.Definition.{is_each_once}
use Rattle.petri_atom.specs.Expression.{tree_of, all_variables}
use Rattle.petri_atom.specs.Name.{is_same_text}
use Rattle.plant_model.specs.Rules.{first_broken, has_value, is_known_port, is_known_export, is_known_input, names_known, is_same_export}
use Rattle.plant_model.specs.Wire.{wire_of, transfer_of}
use Rattle.plant_model.proofs.FirstFault.{list_any-map, same_targets, five, both}
use Rattle.plant_model.proofs.wire_rules.fault_of_wire.Goals as goal

pub returns : goal.returns
returns c =
    let atoms = map definition_of c.args.atoms.now in
    let wire = c.args.wire.now in
    let named = c.has_name.ensures ∙ sym (list_any-map (λ v. is_same_text v.name wire.name) wire_of c.args.earlier.now) in
    let ports = c.are_known_ports.ensures ∙ ap (list_all (is_known_port atoms)) c.requires in
    let clauses = c.are_known_clauses.ensures ∙ ap (λ gs. list_all (λ g. all_variables (is_known_export atoms c.args.ports.now) (tree_of g)) gs) c.deref.ensures.value ∙ ap (λ ps. list_all (λ g. all_variables (is_known_export atoms ps) (tree_of g)) wire.guards.items) c.requires ∙ sym (list_all-map _ tree_of wire.guards.items) in
    let transfers = c.name_known_variables.ensures ∙ ap (λ ts. list_all (λ t. names_known atoms c.args.ports.now (transfer_of t)) ts) c.deref-2.ensures.value ∙ ap (λ ps. list_all (λ t. names_known atoms ps (transfer_of t)) wire.transfers.items) c.requires ∙ sym (list_all-map _ transfer_of wire.transfers.items) in
    let inputs = c.are_known_inputs.ensures ∙ ap (list_all (is_known_input atoms c.args.ports.now)) c.deref-3.ensures.value ∙ ap (λ ps. list_all (is_known_input atoms ps) wire.inputs.items) c.requires in
    let variables = both (both clauses transfers) inputs in
    let targets = c.are_each_once.ensures ∙ ap (λ ts. is_each_once is_same_export (map (λ t. t.target) ts ++ map (λ i. i.target) c.deref-5.result.now)) c.deref-4.ensures.value ∙ ap (λ is. is_each_once is_same_export (map (λ t. t.target) wire.transfers.items ++ map (λ i. i.target) is)) c.deref-5.ensures.value ∙ ap (λ es. is_each_once is_same_export (es ++ map (λ i. i.target) wire.inputs.items)) (same_targets wire.transfers.items) in
    let values = c.have_values.ensures ∙ ap (list_all has_value) c.deref-6.ensures.value in
    c.first_broken.ensures ∙ five first_broken named ports variables targets values

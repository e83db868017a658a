use Rattle.std.proofs.Common.{◌≡◌, ◌∙◌, sym, ap, subst, ℕ, ◌≤◌, List, [], ◌∷◌, ◌++◌, length, map, position, arith, true, ◌+◌}
use Rattle.std.specs.List.{list_all}
use Rattle.std.proofs.lemmas.List.{length-append, map-append}
use Rattle.petri_atom.specs.Definition.{PortDefinition, is_each_once}
use Rattle.petri_atom.specs.Name.{is_same_text}
use Rattle.petri_atom.specs.Parts.{port_of}
use Rattle.petri_atom.specs.Transition.{transition_of}
use Rattle.petri_atom.specs.declared.parts.Port.{Port}
use Rattle.plant_words.proofs.Indexed.{not_full, was_pushed, one_name_more}
use Rattle.atom_lines.specs.Sound.{is_sound_port}
use Rattle.atom_lines.proofs.Bounds.{sound_transitions-more}
use Rattle.atom_lines.proofs.Named.{number_of_port}
use Rattle.plant_words.proofs.Once.{named_once, all_and_one}
use Rattle.atom_lines.proofs.draft.AtomDraft.push_port.Goals as goal

pub add-requires : goal.add-requires
add-requires c =
    let d = c.args.self.now in
    ap (λ (name : List ℕ). position (λ known. is_same_text known name) d.port_names) c.as_bytes.ensures ∙ number_of_port d c.args.port.name ∙ c.requires.new

-- the list has one port more
pushed : (c : goal.After-push) → c.push.new.self.items ≡ c.args.self.now.ports.items ++ c.args.port ∷ []
pushed c =
    was_pushed c.push.result c.reserve.new.self.items c.push.new.self.items c.args.port (not_full c.push.result _ _ c.push.ensures.full c.in_ok-reserve.ensures.ok) c.push.ensures.items
    ∙ ap (λ list. list ++ c.args.port ∷ []) c.reserve.ensures.items

pub invariant_of-self-2 : goal.invariant_of-self-2
invariant_of-self-2 c =
    let d = c.args.self.now in
    let port : Port = c.args.port in
    let before = d.ports.items in
    let after = c.push.new.self.items in
    let longer : length after ≡ length before + 1 = ap length (pushed c) ∙ length-append before (port ∷ []) in
    let written : map port_of before ++ port_of port ∷ [] ≡ map port_of after = sym (map-append port_of before (port ∷ [])) ∙ ap (map port_of) (sym (pushed c)) in
    let ports : length d.ports.items ≤ length c.push.new.self.items = omega (arith, longer) in
    let places : length d.places.items ≤ length d.places.items = omega (arith) in
    let variables : length d.variables.items ≤ length d.variables.items = omega (arith) in
    record {
      few_places = d.few_places;
      few_variables = d.few_variables;
      few_ports = omega (arith, longer, c.requires.few);
      few_transitions = d.few_transitions;
      places_named = d.places_named;
      variables_named = d.variables_named;
      ports_named = one_name_more (λ (x : Port). x.name) before after port d.port_names c.add.new.self c.as_bytes.result.now d.ports_named c.in_ok-add.ensures.added c.as_bytes.ensures (pushed c);
      places_once = d.places_once;
      variables_once = d.variables_once;
      ports_once = subst (λ list. is_each_once (λ (x : PortDefinition). λ (y : PortDefinition). is_same_text x.name y.name) list ≡ true) written (named_once (λ (x : PortDefinition). x.name) (map port_of before) (port_of port) d.ports_once c.requires.new);
      sound_ports = subst (λ list. list_all (is_sound_port (length d.variables.items)) list ≡ true) written (all_and_one (is_sound_port (length d.variables.items)) (map port_of before) (port_of port) d.sound_ports c.requires.sound);
      sound_transitions =
          sound_transitions-more (length d.ports.items) (length d.places.items) (length d.variables.items) (length c.push.new.self.items) (length d.places.items) (length d.variables.items)
          (map transition_of d.transitions.items) ports places variables d.sound_transitions;
    }

pub unwrap-requires : goal.unwrap-requires
unwrap-requires c = not_full c.push.result _ _ c.push.ensures.full c.in_ok-reserve.ensures.ok

use Rattle.std.proofs.Common.{◌≡◌, ◌∙◌, sym, ap, subst, ℕ, ◌≤◌, List, [], ◌∷◌, ◌++◌, length, map, position, arith, true, ◌+◌}
use Rattle.std.proofs.lemmas.List.{length-append}
use Rattle.petri_atom.specs.Definition.{is_each_once}
use Rattle.petri_atom.specs.Name.{is_same_text}
use Rattle.petri_atom.specs.Parts.{port_of}
use Rattle.petri_atom.specs.Transition.{transition_of}
use Rattle.petri_atom.specs.declared.parts.Variable.{Variable}
use Rattle.plant_words.proofs.Indexed.{not_full, was_pushed, one_name_more}
use Rattle.atom_lines.proofs.Bounds.{sound_ports-more, sound_transitions-more}
use Rattle.atom_lines.proofs.Named.{number_of_variable}
use Rattle.plant_words.proofs.Once.{named_once}
use Rattle.atom_lines.proofs.draft.AtomDraft.push_variable.Goals as goal

pub add-requires : goal.add-requires
add-requires c =
    let d = c.args.self.now in
    ap (λ (name : List ℕ). position (λ known. is_same_text known name) d.variable_names) c.as_bytes.ensures ∙ number_of_variable d c.args.variable.name ∙ c.requires.new

-- the list has one variable more
pushed : (c : goal.After-push) → c.push.new.self.items ≡ c.args.self.now.variables.items ++ c.args.variable ∷ []
pushed c =
    was_pushed c.push.result c.reserve.new.self.items c.push.new.self.items c.args.variable (not_full c.push.result _ _ c.push.ensures.full c.in_ok-reserve.ensures.ok) c.push.ensures.items
    ∙ ap (λ list. list ++ c.args.variable ∷ []) c.reserve.ensures.items

pub invariant_of-self-2 : goal.invariant_of-self-2
invariant_of-self-2 c =
    let d = c.args.self.now in
    let variable : Variable = c.args.variable in
    let before = d.variables.items in
    let after = c.push.new.self.items in
    let longer : length after ≡ length before + 1 = ap length (pushed c) ∙ length-append before (variable ∷ []) in
    let ports : length d.ports.items ≤ length d.ports.items = omega (arith) in
    let places : length d.places.items ≤ length d.places.items = omega (arith) in
    let variables : length d.variables.items ≤ length c.push.new.self.items = omega (arith, longer) in
    record {
      few_places = d.few_places;
      few_variables = omega (arith, longer, c.requires.few);
      few_ports = d.few_ports;
      few_transitions = d.few_transitions;
      places_named = d.places_named;
      variables_named = one_name_more (λ (x : Variable). x.name) before after variable d.variable_names c.add.new.self c.as_bytes.result.now d.variables_named c.in_ok-add.ensures.added c.as_bytes.ensures (pushed c);
      ports_named = d.ports_named;
      places_once = d.places_once;
      variables_once = subst (λ xs. is_each_once (λ (x : Variable). λ (y : Variable). is_same_text x.name y.name) xs ≡ true) (sym (pushed c)) (named_once (λ (x : Variable). x.name) before variable d.variables_once c.requires.new);
      ports_once = d.ports_once;
      sound_ports = sound_ports-more (length before) (length after) (map port_of d.ports.items) variables d.sound_ports;
      sound_transitions =
          sound_transitions-more (length d.ports.items) (length d.places.items) (length d.variables.items) (length d.ports.items) (length d.places.items) (length c.push.new.self.items)
          (map transition_of d.transitions.items) ports places variables d.sound_transitions;
    }

pub unwrap-requires : goal.unwrap-requires
unwrap-requires c = not_full c.push.result _ _ c.push.ensures.full c.in_ok-reserve.ensures.ok

use Rattle.std.proofs.Common.{◌≡◌, ◌∙◌, sym, ap, subst, ℕ, ◌≤◌, List, [], ◌∷◌, ◌++◌, length, map, position, arith, true, ◌+◌}
use Rattle.std.proofs.lemmas.List.{length-append}
use Rattle.petri_atom.specs.Definition.{is_each_once}
use Rattle.petri_atom.specs.Name.{is_same_text}
use Rattle.petri_atom.specs.Transition.{transition_of}
use Rattle.petri_atom.specs.declared.parts.Place.{Place}
use Rattle.plant_words.proofs.Indexed.{not_full, was_pushed, one_name_more}
use Rattle.atom_lines.proofs.Bounds.{sound_transitions-more}
use Rattle.atom_lines.proofs.Named.{number_of_place}
use Rattle.plant_words.proofs.Once.{named_once}
use Rattle.atom_lines.proofs.draft.AtomDraft.push_place.Goals as goal

pub add-requires : goal.add-requires
add-requires c =
    let d = c.args.self.now in
    ap (λ (name : List ℕ). position (λ known. is_same_text known name) d.place_names) c.as_bytes.ensures ∙ number_of_place d c.args.place.name ∙ c.requires.new

-- the list has one place more
pushed : (c : goal.After-push) → c.push.new.self.items ≡ c.args.self.now.places.items ++ c.args.place ∷ []
pushed c =
    was_pushed c.push.result c.reserve.new.self.items c.push.new.self.items c.args.place (not_full c.push.result _ _ c.push.ensures.full c.in_ok-reserve.ensures.ok) c.push.ensures.items
    ∙ ap (λ list. list ++ c.args.place ∷ []) c.reserve.ensures.items

pub invariant_of-self-2 : goal.invariant_of-self-2
invariant_of-self-2 c =
    let d = c.args.self.now in
    let place : Place = c.args.place in
    let before = d.places.items in
    let after = c.push.new.self.items in
    let longer : length after ≡ length before + 1 = ap length (pushed c) ∙ length-append before (place ∷ []) in
    let ports : length d.ports.items ≤ length d.ports.items = omega (arith) in
    let places : length d.places.items ≤ length c.push.new.self.items = omega (arith, longer) in
    let variables : length d.variables.items ≤ length d.variables.items = omega (arith) in
    record {
      few_places = omega (arith, longer, c.requires.few);
      few_variables = d.few_variables;
      few_ports = d.few_ports;
      few_transitions = d.few_transitions;
      places_named = one_name_more (λ (x : Place). x.name) before after place d.place_names c.add.new.self c.as_bytes.result.now d.places_named c.in_ok-add.ensures.added c.as_bytes.ensures (pushed c);
      variables_named = d.variables_named;
      ports_named = d.ports_named;
      places_once = subst (λ xs. is_each_once (λ (x : Place). λ (y : Place). is_same_text x.name y.name) xs ≡ true) (sym (pushed c)) (named_once (λ (x : Place). x.name) before place d.places_once c.requires.new);
      variables_once = d.variables_once;
      ports_once = d.ports_once;
      sound_ports = d.sound_ports;
      sound_transitions =
          sound_transitions-more (length d.ports.items) (length d.places.items) (length d.variables.items) (length d.ports.items) (length c.push.new.self.items) (length d.variables.items)
          (map transition_of d.transitions.items) ports places variables d.sound_transitions;
    }

pub unwrap-requires : goal.unwrap-requires
unwrap-requires c = not_full c.push.result _ _ c.push.ensures.full c.in_ok-reserve.ensures.ok

-- An atom of few parts, each sound and of a name of its own, breaks no rule.
use Rattle.std.proofs.Common.{◌≡◌, refl, ℕ, ◌≤◌, Bool, true, false, not, ◌&&◌, if◌then◌else◌, List, length, map, Option, Some, None, sym, subst}
use Rattle.std.specs.List.{list_all}
use Rattle.std.proofs.Math.ListN.{length-map}
use Rattle.std.proofs.lemmas.Bool.{and_parts, and_from, le-leb}
use Rattle.petri_atom.specs.Name.{is_same_text}
use Rattle.petri_atom.specs.Definition.{AtomDefinition, is_each_once, exports_few, exports_once, exports_known, is_small_transition, has_each_place_once, has_known_numbers_in, has_source_and_target, is_within_limits, has_each_once, has_known_numbers, has_sources_and_targets, fault_of, IsFaultOf}
use Rattle.petri_atom.specs.Parts.{port_of, definition_by}
use Rattle.petri_atom.specs.Transition.{transition_of}
use Rattle.petri_atom.specs.declared.parts.Place.{Place}
use Rattle.petri_atom.specs.declared.parts.Variable.{Variable}
use Rattle.petri_atom.specs.declared.parts.Port.{Port}
use Rattle.petri_atom.specs.declared.transition.Transition.{Transition}
use Rattle.petri_atom.specs.declared.fault.AtomFault.{AtomFault}
use Rattle.petri_atom.specs.declared.fault.AtomFault.TheVariants.{Limit, Twice, Unknown, NoPlace, Memory}
use Rattle.petri_atom.specs.declared.state.TheConstants.{MAX_PLACES, MAX_VARIABLES}
use Rattle.petri_atom.specs.declared.parts.TheConstants.{MAX_PORTS, MAX_TRANSITIONS}
use Rattle.petri_atom.proofs.Fitting.{all_weaker}
use Rattle.atom_lines.specs.declared.draft.AtomDraft.{AtomDraft}
use Rattle.atom_lines.specs.Draft.{drafted}
use Rattle.atom_lines.specs.Sound.{is_sound_port, is_sound_transition}

-- where each kind of rule is kept, there is no first that isn't
no_first : (limits once known ends : Bool) → (limits && once && known && ends) ≡ true →
    (if not limits then Some Limit else if not once then Some Twice else if not known then Some Unknown else if not ends then Some NoPlace else None) ≡ None
no_first true true true true kept = refl
no_first true true true false kept = absurd (cc)
no_first true true false ends kept = absurd (cc)
no_first true false known ends kept = absurd (cc)
no_first false once known ends kept = absurd (cc)

-- an atom of few and sound parts, with names of their own
pub breaks_no_rule : (a : AtomDefinition) →
    length a.places ≤ MAX_PLACES → length a.variables ≤ MAX_VARIABLES → length a.ports ≤ MAX_PORTS → length a.transitions ≤ MAX_TRANSITIONS →
    is_each_once (λ x y. is_same_text x.name y.name) a.places ≡ true →
    is_each_once (λ x y. is_same_text x.name y.name) a.variables ≡ true →
    is_each_once (λ x y. is_same_text x.name y.name) a.ports ≡ true →
    list_all (is_sound_port (length a.variables)) a.ports ≡ true →
    list_all (is_sound_transition (length a.ports) (length a.places) (length a.variables)) a.transitions ≡ true →
    fault_of a ≡ None
breaks_no_rule a few_places few_variables few_ports few_transitions places variables ports sound_ports sound_transitions =
    let of_port = all_weaker (is_sound_port (length a.variables)) in
    let of_transition = all_weaker (is_sound_transition (length a.ports) (length a.places) (length a.variables)) in
    let limits : is_within_limits a ≡ true =
    and_from _ _ (and_from _ _ (and_from _ _ (and_from _ _ (and_from _ _ (le-leb _ _ few_places) (le-leb _ _ few_variables)) (le-leb _ _ few_ports)) (le-leb _ _ few_transitions))
    (of_port exports_few (λ p s. (and_parts _ _ (and_parts _ _ s).0).0) a.ports sound_ports))
    (of_transition is_small_transition (λ t s. (and_parts _ _ (and_parts _ _ (and_parts _ _ s).0).0).0) a.transitions sound_transitions) in
    let once : has_each_once a ≡ true =
    and_from _ _ (and_from _ _ (and_from _ _ (and_from _ _ places variables) ports)
    (of_port exports_once (λ p s. (and_parts _ _ (and_parts _ _ s).0).1) a.ports sound_ports))
    (of_transition has_each_place_once (λ t s. (and_parts _ _ (and_parts _ _ (and_parts _ _ s).0).0).1) a.transitions sound_transitions) in
    let known : has_known_numbers a ≡ true =
    and_from _ _ (of_port (exports_known (length a.variables)) (λ p s. (and_parts _ _ s).1) a.ports sound_ports)
    (of_transition (has_known_numbers_in (length a.ports) (length a.places) (length a.variables)) (λ t s. (and_parts _ _ (and_parts _ _ s).0).1) a.transitions sound_transitions) in
    let ends : has_sources_and_targets a ≡ true = of_transition has_source_and_target (λ t s. (and_parts _ _ s).1) a.transitions sound_transitions in
    no_first _ _ _ _ (and_from _ _ (and_from _ _ (and_from _ _ limits once) known) ends)

-- the same of parts as they stand in memory
pub parts_break_no_rule : (name : List ℕ) (places : List Place) (variables : List Variable) (ports : List Port) (transitions : List Transition) →
    length places ≤ MAX_PLACES → length variables ≤ MAX_VARIABLES → length ports ≤ MAX_PORTS → length transitions ≤ MAX_TRANSITIONS →
    is_each_once (λ x y. is_same_text x.name y.name) places ≡ true →
    is_each_once (λ x y. is_same_text x.name y.name) variables ≡ true →
    is_each_once (λ x y. is_same_text x.name y.name) (map port_of ports) ≡ true →
    list_all (is_sound_port (length variables)) (map port_of ports) ≡ true →
    list_all (is_sound_transition (length ports) (length places) (length variables)) (map transition_of transitions) ≡ true →
    fault_of (definition_by name places variables ports transitions) ≡ None
parts_break_no_rule name places variables ports transitions few_places few_variables few_ports few_transitions places_once variables_once ports_once sound_ports sound_transitions =
    let as_many : length ports ≡ length (map port_of ports) = sym (length-map ports port_of) in
    breaks_no_rule (definition_by name places variables ports transitions) few_places few_variables
    (subst (λ n. n ≤ MAX_PORTS) as_many few_ports)
    (subst (λ n. n ≤ MAX_TRANSITIONS) (sym (length-map transitions transition_of)) few_transitions)
    places_once variables_once ports_once sound_ports
    (subst (λ n. list_all (is_sound_transition n (length places) (length variables)) (map transition_of transitions) ≡ true) as_many sound_transitions)

-- what is drafted breaks no rule
pub draft_breaks_no_rule : (d : AtomDraft) → fault_of (drafted d) ≡ None
draft_breaks_no_rule d =
    parts_break_no_rule d.name d.places.items d.variables.items d.ports.items d.transitions.items
    d.few_places d.few_variables d.few_ports d.few_transitions d.places_once d.variables_once d.ports_once d.sound_ports d.sound_transitions

-- the fault of parts that break no rule is want of memory
pub memory_alone : (broken : Option AtomFault) (fault : AtomFault) → broken ≡ None → IsFaultOf fault broken → fault ≡ Memory
memory_alone None fault none told = told
memory_alone (Some rule) fault none told = absurd (cc)

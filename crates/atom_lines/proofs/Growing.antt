-- What each line leaves as it is in an atom: its name, the ports and the places that it has.
use Rattle.std.proofs.Common.{◌≡◌, refl, sym, subst, arith, ℕ, ◌+◌, ◌≤◌, List, [], ◌∷◌, ◌++◌, append-nil, length, drop, Result, Ok}
use Rattle.std.specs.Prelude.{nat_lt, is_none}
use Rattle.std.proofs.lemmas.List.{length-append}
use Rattle.petri_atom.specs.Definition.{AtomDefinition, PortDefinition, TransitionDefinition}
use Rattle.petri_atom.specs.declared.parts.Place.{Place}
use Rattle.petri_atom.specs.declared.parts.Variable.{Variable}
use Rattle.petri_atom.specs.declared.state.TheConstants.{MAX_PLACES, MAX_VARIABLES}
use Rattle.petri_atom.specs.declared.parts.TheConstants.{MAX_PORTS, MAX_TRANSITIONS}
use Rattle.plant_words.specs.declared.line_fault.LineFault.{LineFault}
use Rattle.plant_words.specs.declared.line_fault.LineFault.TheVariants.{Twice, Limit}
use Rattle.atom_lines.specs.Lookup.{place_number, variable_number, port_number}
use Rattle.plant_words.specs.Reading.{◌>>=◌, check, first_name}
use Rattle.atom_lines.specs.Reading.{mark_in, value_in}
use Rattle.atom_lines.specs.Rows.{place_row, variable_row, port_row, exports_in, with_place, with_variable, with_port}
use Rattle.atom_lines.specs.Transitions.{transition_row, transition_in, with_transition}
use Rattle.plant_words.proofs.Steps.{adds_named, led_on, same_end}

-- an atom that has the name and the ports of another, and may have more ports after them; it has no fewer places
pub record Grows (a grown : AtomDefinition) : Type 0 where
  pub name : grown.name ≡ a.name
  pub more : List PortDefinition
  pub ports : grown.ports ≡ a.ports ++ more
  pub places : length a.places ≤ length grown.places

as_many : (n : ℕ) → n ≤ n
as_many n = omega arith

-- the atom with one part more
more_places : (a : AtomDefinition) (place : Place) → Grows a (with_place a place)
more_places a place =
    let count : length (a.places ++ place ∷ []) ≡ length a.places + 1 = length-append a.places (place ∷ []) in
    let fewer : length a.places ≤ length (a.places ++ place ∷ []) = omega (arith, count) in
    record { name = refl; more = []; ports = sym (append-nil a.ports); places = fewer }

more_variables : (a : AtomDefinition) (variable : Variable) → Grows a (with_variable a variable)
more_variables a variable = record { name = refl; more = []; ports = sym (append-nil a.ports); places = as_many (length a.places) }

more_ports : (a : AtomDefinition) (port : PortDefinition) → Grows a (with_port a port)
more_ports a port = record { name = refl; more = port ∷ []; ports = refl; places = as_many (length a.places) }

more_transitions : (a : AtomDefinition) (transition : TransitionDefinition) → Grows a (with_transition a transition)
more_transitions a transition = record { name = refl; more = []; ports = sym (append-nil a.ports); places = as_many (length a.places) }

-- what a line came to is what it gives
at_end : (a next grown : AtomDefinition) → ◌≡◌ {A = Result AtomDefinition LineFault} (Ok next) (Ok grown) → Grows a next → Grows a grown
at_end a next grown told = subst (Grows a) (same_end next grown told)

pub place_grows : (words : List (List ℕ)) (a grown : AtomDefinition) → place_row words a ≡ Ok grown → Grows a grown
place_grows words a grown told =
    let line = adds_named (nat_lt (length a.places) MAX_PLACES) Limit Twice (first_name words) (λ name. is_none (place_number a name)) (mark_in (drop 1 words)) (λ name marked. Ok (with_place a (record { name = name; marked = marked }))) grown told in
    at_end a _ grown line.gives (more_places a (record { name = line.name; marked = line.value }))

pub variable_grows : (words : List (List ℕ)) (a grown : AtomDefinition) → variable_row words a ≡ Ok grown → Grows a grown
variable_grows words a grown told =
    let line = adds_named (nat_lt (length a.variables) MAX_VARIABLES) Limit Twice (first_name words) (λ name. is_none (variable_number a name)) (value_in (drop 1 words)) (λ name first. Ok (with_variable a (record { name = name; first = first }))) grown told in
    at_end a _ grown line.gives (more_variables a (record { name = line.name; first = line.value }))

pub port_grows : (words : List (List ℕ)) (a grown : AtomDefinition) → port_row words a ≡ Ok grown → Grows a grown
port_grows words a grown told =
    let line = adds_named (nat_lt (length a.ports) MAX_PORTS) Limit Twice (first_name words) (λ name. is_none (port_number a name)) (exports_in a [] (drop 1 words)) (λ name exports. Ok (with_port a (record { name = name; exports = exports }))) grown told in
    at_end a _ grown line.gives (more_ports a (record { name = line.name; exports = line.value }))

pub transition_grows : (words : List (List ℕ)) (a grown : AtomDefinition) → transition_row words a ≡ Ok grown → Grows a grown
transition_grows words a grown told =
    let made : TransitionDefinition → Result AtomDefinition LineFault = λ transition. Ok (with_transition a transition) in
    let room = led_on (check (nat_lt (length a.transitions) MAX_TRANSITIONS) Limit) (λ room. transition_in a words >>= made) grown told in
    let transition = led_on (transition_in a words) made grown room.2 in
    at_end a (with_transition a transition.0) grown transition.2 (more_transitions a transition.0)

-- What is said of a port that offers nothing.
use Rattle.std.specs.Prelude.{ℕ, ◌==◌, nat_lt, nat_eq, if◌then◌else◌, List, [], ◌∷◌, ◌++◌, codes, decimal, count_by}
use Rattle.std.specs.Option.{option_map_or}
use Rattle.petri_atom.specs.Definition.{AtomDefinition, TransitionDefinition, variable_name}
use Rattle.petri_atom.specs.Local.{Local, value_in}
use Rattle.connector_tree.specs.declared.tree.Port.{Port}
use Rattle.plant_model.specs.Plant.{of_atom}
use Rattle.text_io.specs.Numbered.{numbered}
use Rattle.part_text.specs.Rule.{place_name}
use Rattle.part_text.specs.Words.{leaf_word}
use Rattle.blocked_text.specs.Hindrance.{hindrance_of}
use Rattle.blocked_text.specs.Separated.{separated_after}
use Rattle.blocked_text.specs.Zero.{zero_text}
use Rattle.blocked_text.specs.declared.hindrance.Hindrance.{Hindrance}
use Rattle.blocked_text.specs.declared.hindrance.Hindrance.TheVariants.{Unmarked, Marked, ZeroGuard}

-- why a transition of an atom is not offered
abbrev pub hindrance_text : AtomDefinition → Local → TransitionDefinition → Hindrance → List ℕ
hindrance_text a state t (Unmarked place) = codes "place " ++ place_name a place ++ codes " is not marked"
hindrance_text a state t (Marked place) = codes "place " ++ place_name a place ++ codes " is marked already"
hindrance_text a state t ZeroGuard = zero_text nat_eq (variable_name a) (value_in state.values) t.guard

-- the same, found first; nothing of a transition that is offered
abbrev pub hindered_text : AtomDefinition → Local → TransitionDefinition → List ℕ
hindered_text a state t = option_map_or (hindrance_text a state t) (hindrance_of state t) []

-- how many transitions a port has
abbrev pub transition_count : ℕ → List TransitionDefinition → ℕ
transition_count port ts = count_by (λ t. t.port == port) ts

-- the number of a transition, if its port has more than one
abbrev pub number_text : ℕ → ℕ → List ℕ
number_text count k = if nat_lt 1 count then codes "/" ++ decimal k ++ codes " " else []

-- why the transition with number k is not offered, if it is one of the port, which has so many
abbrev pub hindered_word : AtomDefinition → Local → ℕ → ℕ → ℕ → TransitionDefinition → List (List ℕ)
hindered_word a state port count k t =
    if t.port == port then (number_text count k ++ hindered_text a state t) ∷ [] else []

-- the same of each transition of the port
abbrev pub hindered_words : AtomDefinition → Local → ℕ → ℕ → List (List ℕ)
hindered_words a state port count = numbered (hindered_word a state port count) 0 a.transitions

-- a port of an atom offers nothing, by each of its transitions, if it has any
abbrev pub idle_by : AtomDefinition → Local → ℕ → ℕ → List ℕ
idle_by a state port count =
    if count == 0 then codes " has no transition" else
    codes " offers nothing: " ++ separated_after [] (codes "; ") (hindered_words a state port count)

abbrev pub idle_text : AtomDefinition → Local → ℕ → List ℕ
idle_text a state port = idle_by a state port (transition_count port a.transitions)

-- a port of a plant by its name, and why it offers nothing
abbrev pub port_text : List AtomDefinition → List Local → Port → List ℕ
port_text atoms states p =
    leaf_word atoms p ++ of_atom atoms states p.atom (λ a state. idle_text a state p.port) []

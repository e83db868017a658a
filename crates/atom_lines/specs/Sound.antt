-- What the rules of an atom ask of each port and of each transition, so that an atom keeps them line by line.
use Rattle.std.specs.Prelude.{ℕ, Bool, ◌&&◌}
use Rattle.petri_atom.specs.Definition.{PortDefinition, TransitionDefinition, exports_few, exports_once, exports_known, is_small_transition, has_each_place_once, has_known_numbers_in, has_source_and_target}

-- a port of an atom with so many variables exports few of them, each once
abbrev pub is_sound_port : ℕ → PortDefinition → Bool
is_sound_port variables p = exports_few p && exports_once p && exports_known variables p

-- a transition of an atom with so many ports, places and variables is small, has a source and a target, no place twice
-- in one list, and no number of a part that is not there
abbrev pub is_sound_transition : ℕ → ℕ → ℕ → TransitionDefinition → Bool
is_sound_transition ports places variables t =
    is_small_transition t && has_each_place_once t && has_known_numbers_in ports places variables t && has_source_and_target t

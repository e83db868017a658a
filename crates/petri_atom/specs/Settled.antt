use Rattle.std.specs.Prelude.{ℕ, pos, length, replicate, slice_get}
use Rattle.std.specs.Option.{option_map_or}
use Rattle.petri_atom.specs.Local.{Local, is_in, set_below}
use Rattle.petri_atom.specs.Definition.{AtomDefinition, TransitionDefinition, offered_set}
use Rattle.petri_atom.specs.declared.state.TheConstants.{MAX_PLACES}

-- the local state of an atom in which the sources of a transition alone are marked, and each variable is 0
abbrev pub bare_state : AtomDefinition → TransitionDefinition → Local
bare_state a t = record {
  marking = set_below MAX_PLACES (is_in t.sources);
  values = replicate (length a.variables) (pos 0);
}

-- the set of the transitions that it offers; of a transition that is not there, the empty set
abbrev pub offered_from : AtomDefinition → ℕ → ℕ
offered_from a n = option_map_or (λ t. offered_set a (bare_state a t)) (slice_get a.transitions n) 0

-- the set of the targets of the transition with a number; of one that is not there, the empty set
abbrev pub targets_of : AtomDefinition → ℕ → ℕ
targets_of a n = option_map_or (λ t. set_below MAX_PLACES (is_in t.targets)) (slice_get a.transitions n) 0

use Rattle.std.specs.Prelude.{◌≡◌, ℕ, ◌^◌, ◌<◌, Bool, false, ◌&&◌, List, length, slice_get, bit_and, ◌==◌}
use Rattle.std.specs.List.{list_any}
use Rattle.std.specs.Option.{option_map_or}
use Rattle.petri_atom.specs.Expression.{Tree, bare, is_same_tree, is_true, is_true_number, is_turned, value_of}
use Rattle.petri_atom.specs.Local.{Local, has, set_below, value_in}
use Rattle.petri_atom.specs.Definition.{TransitionDefinition, can_move}
use Rattle.petri_atom.specs.declared.groups.Group.{Group}
use Rattle.petri_atom.specs.declared.transition.Transition.{Transition}

-- ---- what a marking lets move

-- a marking has all places of one set, and none of another
abbrev pub suits : ℕ → ℕ → ℕ → Bool
suits marking sources blocking = bit_and marking sources == sources && bit_and marking blocking == 0

-- a group asks of a marking what a transition asks
abbrev pub asks_same : Group → Transition → Bool
asks_same g t = g.sources == t.source_word && g.blocking == t.blocking_word

-- the number is in a group that the marking lets move
abbrev pub is_movable : List Group → ℕ → ℕ → Bool
is_movable groups marking n = list_any (λ g. suits marking g.sources g.blocking && has g.members n) groups

-- the marking lets the transition with a number move; it lets none move that is not there
abbrev pub can_move_number : List TransitionDefinition → ℕ → ℕ → Bool
can_move_number ts marking n = option_map_or (can_move marking) (slice_get ts n) false

-- the transition with a number passes a test; none passes that is not there
abbrev pub passes_number : (TransitionDefinition → Bool) → List TransitionDefinition → ℕ → Bool
passes_number test ts n = option_map_or test (slice_get ts n) false

-- by the groups a marking lets the transitions move that it lets move one by one
abbrev pub AreGroupsOf : List Group → List TransitionDefinition → Type 0
AreGroupsOf groups ts =
    (marking n : ℕ) → marking < 2 ^ 64 → is_movable groups marking n ≡ can_move_number ts marking n

-- ---- guards

-- the guard of the transition with a number is a number other than 0
abbrev pub is_unguarded : List TransitionDefinition → ℕ → Bool
is_unguarded ts n = option_map_or (λ t. is_true_number t.guard) (slice_get ts n) false

-- the set of those transitions
abbrev pub unguarded_set : List TransitionDefinition → ℕ
unguarded_set ts = set_below (length ts) (is_unguarded ts)

-- the guard of the transition with a number has an odd number of `!` before it
abbrev pub is_turned_number : List TransitionDefinition → ℕ → Bool
is_turned_number ts n = passes_number (λ t. is_turned t.guard) ts n

-- the set of those transitions
abbrev pub turned_set : List TransitionDefinition → ℕ
turned_set ts = set_below (length ts) (is_turned_number ts)

-- the guard of the transition with a number is the same as another one, but for the `!` before both
abbrev pub has_bare_guard : Tree ℕ → List TransitionDefinition → ℕ → Bool
has_bare_guard guard ts n = passes_number (λ t. is_same_tree (bare guard) (bare t.guard)) ts n

-- the set of those transitions
abbrev pub alike_set : Tree ℕ → List TransitionDefinition → ℕ
alike_set guard ts = set_below (length ts) (has_bare_guard guard ts)

-- the guard of the transition with a number is not 0 without the `!` before it
abbrev pub passes_bare : List TransitionDefinition → Local → ℕ → Bool
passes_bare ts state n = passes_number (λ t. is_true (value_of (value_in state.values) (bare t.guard))) ts n

-- the guard of the transition with a number is not 0
abbrev pub passes_guard : List TransitionDefinition → Local → ℕ → Bool
passes_guard ts state n =
    option_map_or (λ t. is_true (value_of (value_in state.values) t.guard)) (slice_get ts n) false

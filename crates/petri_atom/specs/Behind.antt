use Rattle.std.specs.Prelude.{◌≡◌, ℕ, ◌%◌, ◌<◌, ◌≤◌, Bool, true, false, not, ◌&&◌, ◌||◌, List, [], length, slice_get, slice_index_or, Some, ◌==◌, IsTrue}
use Rattle.std.specs.List.{list_any}
use Rattle.std.specs.Option.{option_map_or}
use Rattle.petri_atom.specs.Expression.{value_of}
use Rattle.petri_atom.specs.Local.{Local, Row, has, is_in, set_below, moved, value_in}
use Rattle.petri_atom.specs.Definition.{AtomDefinition, PortDefinition, TransitionDefinition, UpdateDefinition, can_move, enabled, fired, fired_by, offered_set, offers_number}
use Rattle.petri_atom.specs.Groups.{can_move_number}
use Rattle.petri_atom.specs.declared.behind.Behind.{Behind}
use Rattle.petri_atom.specs.declared.behind.Effect.{Effect}
use Rattle.petri_atom.specs.declared.behind.Effect.TheVariants.{Keeps, Makes, Stops, Asks}
use Rattle.petri_atom.specs.declared.state.TheConstants.{MAX_VARIABLES}

-- ---- what a marking lets move

-- the set of the transitions that the marking of a local state lets move
abbrev pub movable_set : AtomDefinition → Local → ℕ
movable_set a state = set_below (length a.transitions) (can_move_number a.transitions state.marking)

-- ---- what was known before a firing of the transition with a number is known again after it

-- the set of those that can move
abbrev pub MovableFollows : AtomDefinition → ℕ → Local → ℕ → ℕ → Type 0
MovableFollows a n after old new =
    (before : Local) (delivered : Row) → IsTrue (offers_number a before n) → old ≡ movable_set a before → after ≡ fired a n delivered before → new ≡ movable_set a after

-- with it the set of those that are offered
abbrev pub OfferedFollows : AtomDefinition → ℕ → Local → ℕ → ℕ → ℕ → Type 0
OfferedFollows a n after movable old new =
    (before : Local) (delivered : Row) → IsTrue (offers_number a before n) → movable ≡ movable_set a before → old ≡ offered_set a before → after ≡ fired a n delivered before → new ≡ offered_set a after

-- with two sets of those that are offered how many of them each port has
abbrev pub CountsFollow : AtomDefinition → ℕ → ℕ → List ℕ → List ℕ → Type 0
CountsFollow a before after old new =
    (s t : Local) → before ≡ offered_set a s → after ≡ offered_set a t → (port : ℕ) → slice_index_or old port 0 ≡ length (enabled a s port) → slice_index_or new port 0 ≡ length (enabled a t port)

-- ---- what a firing of one transition does to another one

-- the marking after a transition moved
abbrev pub marking_after : TransitionDefinition → ℕ → ℕ
marking_after fired marking = moved marking fired.sources fired.targets

-- the other one can move after a firing exactly if it could before
abbrev pub IsKept : TransitionDefinition → TransitionDefinition → Type 0
IsKept fired other =
    (marking : ℕ) → IsTrue (can_move marking fired) → can_move (marking_after fired marking) other ≡ can_move marking other

-- it can move after a firing, whatever was marked
abbrev pub IsMade : TransitionDefinition → TransitionDefinition → Type 0
IsMade fired other = (marking : ℕ) → can_move (marking_after fired marking) other ≡ true

-- it cannot move after one
abbrev pub IsStopped : TransitionDefinition → TransitionDefinition → Type 0
IsStopped fired other = (marking : ℕ) → can_move (marking_after fired marking) other ≡ false

-- what is told of the other one is so; where a marking has to be asked, nothing is
abbrev pub HasEffect : Effect → TransitionDefinition → TransitionDefinition → Type 0
HasEffect Keeps fired other = IsKept fired other
HasEffect Makes fired other = IsMade fired other
HasEffect Stops fired other = IsStopped fired other
HasEffect Asks fired other = Unit {0}

-- two effects are the same
abbrev pub is_effect : Effect → Effect → Bool
is_effect Keeps Keeps = true
is_effect Makes Makes = true
is_effect Stops Stops = true
is_effect Asks Asks = true
is_effect e f = false

-- the guard of the other one has the same value after a firing as before, if the port of the one that is fired exports these variables
abbrev pub HasSameGuard : TransitionDefinition → List ℕ → TransitionDefinition → Type 0
HasSameGuard fired exports other =
    (before : Local) (row : Row) → value_of (value_in (fired_by fired exports row before).values) other.guard ≡ value_of (value_in before.values) other.guard

-- ---- the variables that a firing writes

-- the word that stands for some variables has this one; a variable that no atom has room for shares its bit with one that it has
abbrev pub may_write : ℕ → ℕ → Bool
may_write word variable = has word (variable % MAX_VARIABLES)

-- the variable is written by one of the updates
abbrev pub is_updated : List UpdateDefinition → ℕ → Bool
is_updated updates variable = list_any (λ u. u.variable == variable) updates

-- a word stands for all variables that a firing writes: those of the updates, and those that the port exports
abbrev pub AreWritten : ℕ → List UpdateDefinition → List ℕ → Type 0
AreWritten word updates exports =
    (variable : ℕ) → may_write word variable ≡ false → (is_updated updates variable || is_in exports variable) ≡ false

-- ---- the table

-- what four truth values tell of another transition: it is kept, made, to be asked, and its guard is to be judged again
pub record Tells (fired : TransitionDefinition) (exports : List ℕ) (other : TransitionDefinition) (keep make ask again : Bool) : Type 0 where
  pub kept : IsTrue keep → IsKept fired other
  pub made : IsTrue make → IsMade fired other
  pub stopped : (keep || make || ask) ≡ false → IsStopped fired other
  pub unread : again ≡ false → HasSameGuard fired exports other

-- an entry tells what is so of each of the first transitions, for one that is fired and whose port exports these variables; it has no
-- other transition; if it is quiet, each one is kept, and no guard is to be judged again
pub record IsBehind (ts : List TransitionDefinition) (count : ℕ) (fired : TransitionDefinition) (exports : List ℕ) (b : Behind) : Type 0 where
  pub told : (n : ℕ) (other : TransitionDefinition) → n < count → slice_get ts n ≡ Some other → Tells fired exports other (has b.keep n) (has b.make n) (has b.ask n) (has b.again n)
  pub within : (n : ℕ) → count ≤ n → (has b.keep n || has b.make n || has b.ask n || has b.again n) ≡ false
  pub quiet : IsTrue b.is_quiet → (n : ℕ) → n < count → (has b.keep n && not (has b.again n)) ≡ true

-- the variables that the port with a number exports; none if it is not there
abbrev pub exports_in : List PortDefinition → ℕ → List ℕ
exports_in ports port = option_map_or (λ p. p.exports) (slice_get ports port) []

-- there is an entry for each transition, and each is right for the transition with its number
pub record AreBehind (ports : List PortDefinition) (ts : List TransitionDefinition) (entries : List Behind) : Type 0 where
  pub number : length entries ≡ length ts
  pub right : (n : ℕ) (fired : TransitionDefinition) (b : Behind) → slice_get ts n ≡ Some fired → slice_get entries n ≡ Some b → IsBehind ts (length ts) fired (exports_in ports fired.port) b

-- What a line `trans PORT from PLACE.. to PLACE..` with its guard and updates says of an atom, or the fault of its
-- first word that is at fault.
use Rattle.std.specs.Prelude.{ℕ, zero, suc, Bool, true, false, ◌||◌, not, pos, if◌then◌else◌, List, [], ◌∷◌, ◌++◌, length, drop, nat_lt, nat_eq, Result, Ok, Err, codes}
use Rattle.std.specs.List.{list_any}
use Rattle.std.specs.Option.{ok_or}
use Rattle.petri_atom.specs.Name.{is_same_text}
use Rattle.petri_atom.specs.Expression.{Tree, number}
use Rattle.petri_atom.specs.Definition.{AtomDefinition, TransitionDefinition, UpdateDefinition}
use Rattle.petri_atom.specs.declared.parts.TheConstants.{MAX_TRANSITIONS, MAX_UPDATES}
use Rattle.plant_words.specs.Expressions.{expression_in}
use Rattle.plant_words.specs.Lines.{is_legal_line}
use Rattle.plant_words.specs.declared.line_fault.LineFault.{LineFault}
use Rattle.plant_words.specs.declared.line_fault.LineFault.TheVariants.{NotAscii, Twice, UnknownName, Shape, Limit}
use Rattle.plant_words.specs.Reading.{◌>>=◌, check, first_word, first_keyword, leads, on_line}
use Rattle.atom_lines.specs.Reading.{goes_on}
use Rattle.atom_lines.specs.Lookup.{place_number, variable_number, port_number}

-- a list of places ends at the words that may stand after one, and at the line's end
abbrev pub ends_places : List (List ℕ) → Bool
ends_places [] = true
ends_places (word ∷ words) = is_same_text word (codes "to") || is_same_text word (codes "when") || is_same_text word (codes "do")

-- the number of the port that the first word names
abbrev pub port_in : AtomDefinition → List (List ℕ) → Result ℕ LineFault
port_in a words = do
  word ← first_word words
  ok_or (port_number a word) UnknownName

-- the number of the place that a word of legal bytes names, after these: a place that is there, and is not listed yet
abbrev pub place_in : AtomDefinition → List ℕ → List ℕ → Result ℕ LineFault
place_in a before word = do
  _ ← check (is_legal_line word) NotAscii
  place ← ok_or (place_number a word) UnknownName
  _ ← check (not (list_any (λ k. nat_eq k place) before)) Twice
  Ok place

-- the numbers of the places that the words of a list name, after these, and the words after the list
abbrev pub places_in : AtomDefinition → List ℕ → List (List ℕ) → Result (List ℕ × List (List ℕ)) LineFault
places_in a before [] = Ok (before, [])
places_in a before (word ∷ words) =
    if ends_places (word ∷ words) then Ok (before, word ∷ words) else
    (place_in a before word >>= λ place. places_in a (before ++ place ∷ []) words)

-- the places of a list that begins with a word, one at least, and the words after the list
abbrev pub places_after : List ℕ → AtomDefinition → List (List ℕ) → Result (List ℕ × List (List ℕ)) LineFault
places_after keyword a words = do
  _ ← first_keyword keyword words
  listed ← places_in a [] (drop 1 words)
  _ ← check (nat_lt 0 (length listed.0)) Shape
  Ok listed

-- an expression over the variables of the atom, and the words after it
abbrev pub expression_on : AtomDefinition → List (List ℕ) → Result (Tree ℕ × List (List ℕ)) LineFault
expression_on a words = on_line (expression_in (variable_number a) words)

-- the guard after `when`, or 1 if no `when` stands, and the words after it
abbrev pub guard_in : AtomDefinition → List (List ℕ) → Result (Tree ℕ × List (List ℕ)) LineFault
guard_in a words = if leads (codes "when") words then expression_on a (drop 1 words) else Ok (number (pos 1), words)

-- `VAR := EXPR`: the update, and the words after it
abbrev pub update_in : AtomDefinition → List (List ℕ) → Result (UpdateDefinition × List (List ℕ)) LineFault
update_in a words = do
  word ← first_word words
  variable ← ok_or (variable_number a word) UnknownName
  _ ← first_keyword (codes ":=") (drop 1 words)
  value ← expression_on a (drop 1 (drop 1 words))
  Ok (record { variable = variable; value = value.0 }, value.1)

-- The updates after these, of which so many may come, where the line goes on. One too many is at fault by the
-- word before it.
unfoldable pub updates_from : AtomDefinition → ℕ → List UpdateDefinition → Bool → List (List ℕ) → Result (List UpdateDefinition) LineFault
updates_from a left before false words = Ok before
updates_from a zero before true words = Err Limit
updates_from a (suc left) before true words = do
  update ← update_in a words
  more ← goes_on (codes ";") update.1
  updates_from a left (before ++ update.0 ∷ []) more (drop 1 update.1)

-- the updates after `do`, or none where the line ends
abbrev pub updates_in : AtomDefinition → List (List ℕ) → Result (List UpdateDefinition) LineFault
updates_in a words = do
  more ← goes_on (codes "do") words
  updates_from a MAX_UPDATES [] more (drop 1 words)

-- a transition of a port from places to places, with its guard and its updates
abbrev pub transition_in : AtomDefinition → List (List ℕ) → Result TransitionDefinition LineFault
transition_in a words = do
  port ← port_in a words
  sources ← places_after (codes "from") a (drop 1 words)
  targets ← places_after (codes "to") a sources.1
  guard ← guard_in a targets.1
  updates ← updates_in a guard.1
  Ok (record { port = port; sources = sources.0; targets = targets.0; guard = guard.0; updates = updates })

-- the atom with one more transition after its others
abbrev pub with_transition : AtomDefinition → TransitionDefinition → AtomDefinition
with_transition a transition = record a { transitions = a.transitions ++ transition ∷ [] }

-- `trans PORT from PLACE.. to PLACE..`, with `when EXPR`, and with `do VAR := EXPR ; VAR := EXPR ..`: a transition
abbrev pub transition_row : List (List ℕ) → AtomDefinition → Result AtomDefinition LineFault
transition_row words a = do
  _ ← check (nat_lt (length a.transitions) MAX_TRANSITIONS) Limit
  transition ← transition_in a words
  Ok (with_transition a transition)

-- What has to stand at a place of a line, after words without a fault.
use Rattle.std.specs.Prelude.{ℕ, ◌-◌, Bool, true, false, ◌||◌, ◌==◌, if◌then◌else◌, List, [], ◌∷◌, length, map, Option, codes}
use Rattle.std.specs.Option.{option_map_or}
use Rattle.shown_fault.specs.Table.{row_of}
use Rattle.shown_fault.specs.Front.{is_word_at, has_word}
use Rattle.shown_fault.specs.declared.wanted.Wanted.{Wanted}
use Rattle.shown_fault.specs.declared.wanted.TheConstants.{PLACES}
use Rattle.shown_fault.specs.declared.wanted.Wanted.TheVariants.{First, NewName, Mark, Number, Export, Port, From, Place, Source, Target, Guard, Variable, Assign, Value, Tree, Leaf, Transfer, Clause, Side, Below, When, ConditionAtom, ConditionAt, ConditionPlace, Whole, End}

-- what has to stand after one word, after two, and after more
abbrev pub by_place : ℕ → Wanted → Wanted → Wanted → Wanted
by_place count one two more = if count == 1 then one else if count == 2 then two else more

-- what has to stand after the sign of a rule, or further on
abbrev pub in_rule : ℕ → Wanted
in_rule count =
    if count == 3 then Side else if count == 4 then When else if count == 5 then ConditionAtom
    else if count == 6 then ConditionAt else if count == 7 then ConditionPlace else End

-- what has to stand in a list of places: a first one, or what may stand after it
abbrev pub in_places : Bool → Wanted → Wanted
in_places is_first after = if is_first then Place else after

-- the word with this number, counted from the last as 1, is this one
abbrev pub is_last : List (List ℕ) → ℕ → List ℕ → Bool
is_last words number word = is_word_at words (length words - number) word

-- an update begins after the word with this number, counted from the last as 1
abbrev pub begins_update : List (List ℕ) → ℕ → Bool
begins_update words number = is_last words number (codes "do") || is_last words number (codes ";")

-- what has to stand after the `do` of a transition
abbrev pub in_updates : List (List ℕ) → Wanted
in_updates words = if begins_update words 1 then Variable else if begins_update words 2 then Assign else Value

-- what has to stand after the `from` of a transition: the last of its keywords says where that is
abbrev pub in_transition : List (List ℕ) → Wanted
in_transition words =
    if has_word words (codes "do") then in_updates words
    else if has_word words (codes "when") then Guard
    else if has_word words (codes "to") then in_places (is_last words 1 (codes "to")) Target
    else in_places (is_last words 1 (codes "from")) Source

-- what has to stand at the places of a line that begins with a word
unfoldable pub places_of : List ℕ → Option (Wanted × Wanted × Wanted)
places_of word = row_of (map (λ row. (row.0.now, row.1)) PLACES) word

-- what has to stand after more words of a line: in a transition and in a rule these say it, and elsewhere it is always the same
abbrev pub after_more : Wanted → List (List ℕ) → Wanted
after_more Source words = in_transition words
after_more When words = in_rule (length words)
after_more more words = more

-- what has to stand after words of a line, of which this is the first
abbrev pub after_first : List ℕ → List (List ℕ) → Wanted
after_first first words =
    option_map_or (λ places. by_place (length words) places.0 places.1 (after_more places.2 words)) (places_of first) End

-- what has to stand after words of a line
unfoldable pub wanted_in : List (List ℕ) → Wanted
wanted_in [] = First
wanted_in (first ∷ words) = after_first first (first ∷ words)

-- a word of an expression may stand there
abbrev pub is_of_expression : Wanted → Bool
is_of_expression Guard = true
is_of_expression Value = true
is_of_expression Clause = true
is_of_expression wanted = false

-- a word of a tree has to stand there
abbrev pub is_of_tree : Wanted → Bool
is_of_tree Tree = true
is_of_tree Leaf = true
is_of_tree wanted = false

-- what has to stand there, to a person; empty if a word too many stands there
abbrev pub expected_text : Wanted → List ℕ
expected_text First = codes "a kind of line"
expected_text NewName = codes "a name"
expected_text Mark = codes "'init'"
expected_text Number = codes "a number"
expected_text Export = codes "a variable"
expected_text Port = codes "a port"
expected_text From = codes "'from'"
expected_text Place = codes "a place"
expected_text Source = codes "'to'"
expected_text Target = codes "'when' or 'do'"
expected_text Guard = codes "'do'"
expected_text Variable = codes "a variable"
expected_text Assign = codes "':='"
expected_text Value = codes "';'"
expected_text Tree = codes "a port as ATOM.PORT"
expected_text Leaf = codes "a port as ATOM.PORT"
expected_text Transfer = codes "a variable as ATOM.VAR"
expected_text Clause = codes ""
expected_text Side = codes "a connector"
expected_text Below = codes "'<'"
expected_text When = codes "'when'"
expected_text ConditionAtom = codes "an atom"
expected_text ConditionAt = codes "'at'"
expected_text ConditionPlace = codes "a place"
expected_text Whole = codes "a connector"
expected_text End = codes ""

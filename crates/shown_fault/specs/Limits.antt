-- Which limit a line passes.
use Rattle.std.specs.Prelude.{ℕ, if◌then◌else◌, List, [], ◌∷◌, codes}
use Rattle.std.specs.Option.{option_map_or}
use Rattle.std.specs.Fmt.{decimal}
use Rattle.petri_atom.specs.Name.{is_same_text}
use Rattle.petri_atom.specs.declared.state.TheConstants.{MAX_PLACES, MAX_VARIABLES, MAX_EXPORTS}
use Rattle.petri_atom.specs.declared.parts.TheConstants.{MAX_PORTS, MAX_TRANSITIONS, MAX_UPDATES, MAX_WORDS}
use Rattle.plant_model.specs.declared.limits.TheConstants.{MAX_ATOMS, MAX_WIRES, MAX_RULES, MAX_GUARDS, MAX_TRANSFERS, MAX_INTERACTIONS}
use Rattle.plant_words.specs.LineKinds.{kind_in}
use Rattle.plant_words.specs.declared.line_kind.AtomPart.TheVariants.{Place, Variable, Port, Transition}
use Rattle.plant_words.specs.declared.line_kind.WirePart.TheVariants.{Guard, Transfer}
use Rattle.plant_words.specs.declared.line_kind.LineKind.{LineKind}
use Rattle.plant_words.specs.declared.line_kind.LineKind.TheVariants.{Atom, Connector, OfAtom, OfConnector, Rule}
use Rattle.shown_fault.specs.Shown.{advice_line}
use Rattle.shown_fault.specs.Wanted.{wanted_in}
use Rattle.shown_fault.specs.declared.wanted.Wanted.{Wanted}
use Rattle.shown_fault.specs.declared.wanted.Wanted.TheVariants.{First, Export, Tree}

-- something has at most so many parts
abbrev pub limit : List ℕ → ℕ → List ℕ → List ℕ
limit whole most parts = advice_line (whole ∷ codes " has at most " ∷ decimal most ∷ codes " " ∷ parts ∷ [])

-- which limit is passed by one more line of the kind
abbrev pub limit_of_kind : LineKind → List ℕ
limit_of_kind Atom = limit (codes "a plant") MAX_ATOMS (codes "atoms")
limit_of_kind Connector = limit (codes "a plant") MAX_WIRES (codes "connectors")
limit_of_kind (OfAtom Place) = limit (codes "an atom") MAX_PLACES (codes "places")
limit_of_kind (OfAtom Variable) = limit (codes "an atom") MAX_VARIABLES (codes "variables")
limit_of_kind (OfAtom Port) = limit (codes "an atom") MAX_PORTS (codes "ports")
limit_of_kind (OfAtom Transition) = limit (codes "an atom") MAX_TRANSITIONS (codes "transitions")
limit_of_kind (OfConnector Guard) = limit (codes "a connector") MAX_GUARDS (codes "guard clauses")
limit_of_kind (OfConnector Transfer) = limit (codes "a connector") MAX_TRANSFERS (codes "transfers")
limit_of_kind (Rule rule) = limit (codes "a plant") MAX_RULES (codes "priority rules")

-- which limit is passed by one more line that begins with this word
abbrev pub limit_of_line : List ℕ → List ℕ
limit_of_line word = option_map_or limit_of_kind (kind_in word) []

-- which limit is passed by a word of a transition or of an expression
abbrev pub limit_of_word : List ℕ → List ℕ
limit_of_word word =
    if is_same_text word (codes ";") then limit (codes "a transition") MAX_UPDATES (codes "updates")
    else limit (codes "an expression") MAX_WORDS (codes "words")

-- which limit is passed by a word that stands where this has to
abbrev pub limit_at : Wanted → List ℕ → List ℕ
limit_at First word = limit_of_line word
limit_at Export word = limit (codes "a port") MAX_EXPORTS (codes "variables")
limit_at Tree word = limit (codes "a plant") MAX_INTERACTIONS (codes "interactions")
limit_at wanted word = limit_of_word word

-- which limit a line passes whose word that is at fault stands after these
abbrev pub limit_advice : List (List ℕ) → List ℕ → List ℕ
limit_advice words word = limit_at (wanted_in words) word

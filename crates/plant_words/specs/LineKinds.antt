-- The kinds of lines of a plant text, each known by its first word.
use Rattle.std.specs.Prelude.{ℕ, List, codes, find, Option}
use Rattle.petri_atom.specs.Name.{is_same_text}
use Rattle.plant_words.specs.declared.line_kind.AtomPart.TheVariants.{Place, Variable, Port, Transition}
use Rattle.plant_words.specs.declared.line_kind.WirePart.TheVariants.{Guard, Transfer}
use Rattle.plant_words.specs.declared.line_kind.RuleKind.TheVariants.{Priority, Maximal}
use Rattle.plant_words.specs.declared.line_kind.LineKind.{LineKind}
use Rattle.plant_words.specs.declared.line_kind.LineKind.TheVariants.{Atom, Connector, OfAtom, OfConnector, Rule}
use Rattle.plant_words.specs.declared.line_kind.TheConstants.{LINE_KINDS}

-- the word that begins a line of a kind
abbrev pub keyword_of : LineKind → List ℕ
keyword_of Atom = codes "atom"
keyword_of Connector = codes "connector"
keyword_of (OfAtom Place) = codes "place"
keyword_of (OfAtom Variable) = codes "var"
keyword_of (OfAtom Port) = codes "port"
keyword_of (OfAtom Transition) = codes "trans"
keyword_of (OfConnector Guard) = codes "guard"
keyword_of (OfConnector Transfer) = codes "move"
keyword_of (Rule Priority) = codes "prio"
keyword_of (Rule Maximal) = codes "maximal"

-- what kind of line begins with a word
abbrev pub kind_in : List ℕ → Option LineKind
kind_in word = find (λ kind. is_same_text word (keyword_of kind)) LINE_KINDS

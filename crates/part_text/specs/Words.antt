-- The words of a connector's tree, as the plant text writes them.
use Rattle.std.specs.Prelude.{ℕ, Bool, if◌then◌else◌, List, [], ◌++◌, codes, slice_get}
use Rattle.std.specs.Option.{option_map_or}
use Rattle.petri_atom.specs.Definition.{AtomDefinition, port_name}
use Rattle.connector_tree.specs.declared.tree.Port.{Port}
use Rattle.connector_tree.specs.declared.token.Token.{Token}
use Rattle.connector_tree.specs.declared.token.Token.TheVariants.{Leaf, Open, Close}

-- a port by the names of its atom and its own
abbrev pub leaf_word : List AtomDefinition → Port → List ℕ
leaf_word atoms port =
    option_map_or (λ a. a.name ++ codes "." ++ port_name a port.port) (slice_get atoms port.atom) []

-- the mark of a trigger
abbrev pub trigger_mark : Bool → List ℕ
trigger_mark trigger = if trigger then codes "'" else []

-- a word of the connector's tree, as the plant text writes it
abbrev pub token_word : List AtomDefinition → Token → List ℕ
token_word atoms (Leaf port trigger) = leaf_word atoms port ++ trigger_mark trigger
token_word atoms Open = codes "["
token_word atoms (Close trigger) = codes "]" ++ trigger_mark trigger

-- the same with a space before it
abbrev pub spaced_word : List AtomDefinition → Token → List ℕ
spaced_word atoms token = codes " " ++ token_word atoms token

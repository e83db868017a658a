-- Priority rules as the plant text writes them.
use Rattle.std.specs.Prelude.{List, [], ℕ, ◌++◌, codes, decimal, slice_get}
use Rattle.std.specs.Option.{option_map_or}
use Rattle.petri_atom.specs.Definition.{AtomDefinition}
use Rattle.priority_filter.specs.declared.rule.Side.{Side}
use Rattle.priority_filter.specs.declared.rule.Side.TheVariants.{Whole, One}
use Rattle.priority_filter.specs.declared.rule.Rule.{Rule}
use Rattle.priority_filter.specs.declared.rule.Rule.TheVariants.{Under, UnderAt, Maximal}
use Rattle.priority_filter.specs.declared.seen.At.{At}
use Rattle.plant_model.specs.Plant.{PlantDefinition, wire_name}

-- a side as the plant text writes it
abbrev pub side_word : PlantDefinition → Side → List ℕ
side_word plant (Whole connector) = wire_name plant connector
side_word plant (One connector mask) = wire_name plant connector ++ codes ":" ++ decimal mask

-- the sides of a rule, the lower first
abbrev pub sides_text : PlantDefinition → Side → Side → List ℕ
sides_text plant left right = side_word plant left ++ codes " < " ++ side_word plant right

-- the name of the atom with a number, and of a place of it; empty if it is not there
abbrev pub atom_name : List AtomDefinition → ℕ → List ℕ
atom_name atoms atom = option_map_or (λ a. a.name) (slice_get atoms atom) []

abbrev pub place_name : AtomDefinition → ℕ → List ℕ
place_name a place = option_map_or (λ p. p.name) (slice_get a.places place) []

abbrev pub name_of_place : List AtomDefinition → ℕ → ℕ → List ℕ
name_of_place atoms atom place = option_map_or (λ a. place_name a place) (slice_get atoms atom) []

-- the condition of a rule
abbrev pub condition_text : PlantDefinition → At → List ℕ
condition_text plant at = codes " when " ++ atom_name plant.atoms at.atom ++ codes " at " ++ name_of_place plant.atoms at.atom at.place

-- the words of a rule's line
abbrev pub rule_text : PlantDefinition → Rule → List ℕ
rule_text plant (Under left right) = codes "prio " ++ sides_text plant left right
rule_text plant (UnderAt left right at) = codes "prio " ++ sides_text plant left right ++ condition_text plant at
rule_text plant (Maximal connector) = codes "maximal " ++ wire_name plant connector

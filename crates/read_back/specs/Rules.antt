-- Priority rules over the connectors and the atoms of a plant.
use Rattle.std.specs.Prelude.{◌^◌, Bool, true, false, ◌&&◌, List, length, nat_lt, slice_get}
use Rattle.std.specs.Option.{option_map_or}
use Rattle.priority_filter.specs.declared.rule.Side.{Side}
use Rattle.priority_filter.specs.declared.rule.Side.TheVariants.{Whole, One}
use Rattle.priority_filter.specs.declared.rule.Rule.{Rule}
use Rattle.priority_filter.specs.declared.rule.Rule.TheVariants.{Under, UnderAt, Maximal}
use Rattle.plant_model.specs.Plant.{PlantDefinition}
use Rattle.plant_model.specs.Rules.{is_known_place}
use Rattle.plant_text.specs.Interactions.{has_interaction}
use Rattle.plant_text.specs.Text.{PlantText, text_of}
use Rattle.read_back.specs.Names.{are_named}

-- the side is a connector of the plant, or one of its interactions by a mask of 16 bits
abbrev pub is_side_of : PlantDefinition → Side → Bool
is_side_of plant (Whole connector) = nat_lt connector (length plant.wires)
is_side_of plant (One connector mask) = nat_lt mask (2 ^ 16) && has_interaction (text_of plant).wires connector mask

-- the sides of the rule are, and its condition names an atom of the plant and a place of it
abbrev pub is_rule_of : PlantDefinition → Rule → Bool
is_rule_of plant (Under left right) = is_side_of plant left && is_side_of plant right
is_rule_of plant (UnderAt left right at) = is_side_of plant left && is_side_of plant right && is_known_place plant.atoms at
is_rule_of plant (Maximal connector) = is_side_of plant (Whole connector)

-- the rule has no condition; or each atom has a name that no other has, and so has each place of the condition's atom
abbrev pub has_named_condition : PlantDefinition → Rule → Bool
has_named_condition plant (Under left right) = true
has_named_condition plant (UnderAt left right at) =
    are_named (λ a. a.name) plant.atoms && option_map_or (λ a. are_named (λ p. p.name) a.places) (slice_get plant.atoms at.atom) false
has_named_condition plant (Maximal connector) = true

-- the plant as it is written, with these rules in place of its own
abbrev pub with_rules : PlantDefinition → List Rule → PlantText
with_rules plant rules = record (text_of plant) { rules = rules }

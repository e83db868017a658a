-- A priority rule as a dashed edge between connectors, from the lower to the higher.
use Rattle.std.specs.Prelude.{ℕ, if◌then◌else◌, List, [], ◌++◌, codes}
use Rattle.priority_filter.specs.declared.rule.Rule.{Rule}
use Rattle.priority_filter.specs.declared.rule.Rule.TheVariants.{Under, UnderAt, Maximal}
use Rattle.plant_model.specs.Plant.{PlantDefinition}
use Rattle.part_text.specs.Rule.{condition_text, sides_text}
use Rattle.plant_drawing.specs.Drawn.{is_drawn_rule, side_connector}
use Rattle.plant_drawing.specs.Edges.{from_connector}
use Rattle.plant_drawing.specs.Node.{connector_node}
use Rattle.plant_drawing.specs.declared.rule.RuleLabel.{RuleLabel}
use Rattle.plant_drawing.specs.declared.rule.RuleLabel.TheVariants.{Written, Absent}

-- the begin of the edge between two connectors
abbrev pub arrow : ℕ → ℕ → List ℕ
arrow from to = from_connector from ++ connector_node to

-- the begin of a rule's edge; a connector that is to be maximal has a loop
abbrev pub rule_arrow : Rule → List ℕ
rule_arrow (Under left right) = arrow (side_connector left) (side_connector right)
rule_arrow (UnderAt left right at) = arrow (side_connector left) (side_connector right)
rule_arrow (Maximal connector) = arrow connector connector

-- the words of a rule on its edge
abbrev pub rule_words : PlantDefinition → Rule → List ℕ
rule_words plant (Under left right) = sides_text plant left right
rule_words plant (UnderAt left right at) = sides_text plant left right ++ condition_text plant at
rule_words plant (Maximal connector) = codes "maximal"

-- the label of a rule's edge, if it has one
abbrev pub label_of : RuleLabel → PlantDefinition → Rule → List ℕ
label_of Written plant rule = codes ", fontcolor=firebrick, label=\" " ++ rule_words plant rule ++ codes " \""
label_of Absent plant rule = []

-- a rule's edge
abbrev pub rule_line : RuleLabel → PlantDefinition → Rule → List ℕ
rule_line label plant rule = rule_arrow rule ++ codes " [style=dashed, color=firebrick" ++ label_of label plant rule ++ codes "];\n"

-- the same if the rule is drawn; nothing of another
abbrev pub drawn_rule : RuleLabel → ℕ → PlantDefinition → Rule → List ℕ
drawn_rule label drawn plant rule = if is_drawn_rule drawn plant rule then rule_line label plant rule else []

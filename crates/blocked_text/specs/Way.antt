-- What is said of an interaction that gives way to another.
use Rattle.std.specs.Prelude.{ℕ, Bool, ◌&&◌, ◌==◌, nat_lt, if◌then◌else◌, List, [], ◌++◌, codes, count_by, decimal, slice_get, Option}
use Rattle.std.specs.List.{position_from}
use Rattle.std.specs.Option.{option_map_or}
use Rattle.petri_atom.specs.Local.{Local}
use Rattle.priority_filter.specs.Active.{is_active}
use Rattle.priority_filter.specs.Decided.{puts}
use Rattle.priority_filter.specs.declared.rule.Rule.{Rule}
use Rattle.priority_filter.specs.declared.seen.At.{At}
use Rattle.plant_model.specs.Choice.{Interaction, is_marked_at, named}
use Rattle.plant_model.specs.Plant.{PlantDefinition, wire_name}
use Rattle.part_text.specs.Rule.{rule_text}

-- a connector has more than one interaction
abbrev pub has_several : List Interaction → ℕ → Bool
has_several interactions connector = nat_lt 1 (count_by (λ i. i.connector == connector) interactions)

-- an interaction by its connector's name, and by its mask too if the connector has more than one interaction
abbrev pub interaction_text : PlantDefinition → List Interaction → Interaction → List ℕ
interaction_text plant interactions i =
    wire_name plant i.connector ++ (if has_several interactions i.connector then codes ":" ++ decimal i.mask else [])

-- the number of the first rule that counts, where these conditions hold, and puts the first interaction below the second
abbrev pub first_rule : (At → Bool) → List Rule → ℕ × ℕ → ℕ × ℕ → Option ℕ
first_rule holds rules i j = position_from (λ rule. is_active holds rule && puts rule i j) 0 rules

-- the number of a line, if it is known
abbrev pub line_text : List ℕ → ℕ → List ℕ
line_text lines k = option_map_or (λ line. codes "line " ++ decimal line ++ codes ": ") (slice_get lines k) []

-- the rule with a number, with its line; nothing of one that is not there
abbrev pub rule_with_line : PlantDefinition → List ℕ → ℕ → List ℕ
rule_with_line plant lines k =
    option_map_or (λ rule. codes " (" ++ line_text lines k ++ rule_text plant rule ++ codes ")") (slice_get plant.rules k) []

-- what puts the first interaction below the second in a state: one rule that counts, or else a chain of them
abbrev pub by_text : PlantDefinition → List Local → List ℕ → Interaction → Interaction → List ℕ
by_text plant states lines i j =
    option_map_or (rule_with_line plant lines) (first_rule (is_marked_at states) plant.rules (named i) (named j)) (codes " (by a chain of rules)")

-- the first interaction is possible, and gives way to the second
abbrev pub way_text : PlantDefinition → List Local → List Interaction → List ℕ → Interaction → Interaction → List ℕ
way_text plant states interactions lines i j =
    codes "possible, gives way to " ++ interaction_text plant interactions j ++ by_text plant states lines i j

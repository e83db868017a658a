-- Which connectors a state can't fire, and why.
use Rattle.std.specs.Prelude.{ℕ, Bool, false, ◌&&◌, ◌==◌, if◌then◌else◌, List, [], ◌++◌, codes, flat_map, is_none, length, slice_get}
use Rattle.std.specs.List.{list_any, range_with_len}
use Rattle.std.specs.Option.{option_map_or}
use Rattle.petri_atom.specs.Local.{Local}
use Rattle.plant_model.specs.Choice.{Interaction, choices, plant_interactions}
use Rattle.plant_model.specs.Plant.{PlantDefinition, wire_name}
use Rattle.text_io.specs.Numbered.{numbered}
use Rattle.blocked_text.specs.Reason.{reason_among}
use Rattle.blocked_text.specs.SameReason.{is_same_reason}
use Rattle.blocked_text.specs.ReasonText.{reason_text}
use Rattle.blocked_text.specs.declared.reason.Reason.{Reason}

-- a connector can be fired if one of the state's choices is of it
abbrev pub can_fire : PlantDefinition → List Local → ℕ → Bool
can_fire plant states connector = list_any (λ c. c.connector == connector) (choices plant states)

-- the interaction with number n is one of the connector, and has no reason
abbrev pub is_allowed_of : PlantDefinition → List Local → List Interaction → ℕ → ℕ → Interaction → Bool
is_allowed_of plant states interactions connector n i =
    i.connector == connector && is_none (reason_among plant states interactions n)

-- an interaction of the connector has no reason
abbrev pub has_allowed : PlantDefinition → List Local → List Interaction → ℕ → Bool
has_allowed plant states interactions connector =
    list_any (λ n. option_map_or (is_allowed_of plant states interactions connector n) (slice_get interactions n) false) (range_with_len 0 (length interactions))

-- the interaction with number n is one of the connector, and has this reason
abbrev pub has_reason : PlantDefinition → List Local → List Interaction → ℕ → Reason → ℕ → Interaction → Bool
has_reason plant states interactions connector r n i =
    i.connector == connector && option_map_or (is_same_reason r) (reason_among plant states interactions n) false

-- an interaction of the connector before the one with number n has this reason
abbrev pub is_printed_before : PlantDefinition → List Local → List Interaction → ℕ → ℕ → Reason → Bool
is_printed_before plant states interactions connector n r =
    list_any (λ j. option_map_or (has_reason plant states interactions connector r j) (slice_get interactions j) false) (range_with_len 0 n)

-- the line of a reason of the interaction with number n; nothing if it is printed before
abbrev pub reason_line : PlantDefinition → List Local → List Interaction → List ℕ → ℕ → Interaction → Reason → List ℕ
reason_line plant states interactions lines n i r =
    if is_printed_before plant states interactions i.connector n r then [] else
    wire_name plant i.connector ++ codes ": " ++ reason_text plant states interactions lines i r ++ codes "\n"

-- the line of the interaction with number n, if it is one of the connector and has a reason
abbrev pub line_of : PlantDefinition → List Local → List Interaction → List ℕ → ℕ → ℕ → Interaction → List ℕ
line_of plant states interactions lines connector n i =
    if i.connector == connector then option_map_or (reason_line plant states interactions lines n i) (reason_among plant states interactions n) [] else []

-- the different reasons of a connector's interactions, each on a line, in the order of the interactions
abbrev pub lines_among : PlantDefinition → List Local → List Interaction → List ℕ → ℕ → List ℕ
lines_among plant states interactions lines connector =
    numbered (line_of plant states interactions lines connector) 0 interactions

abbrev pub lines_of : PlantDefinition → List Local → List ℕ → ℕ → List ℕ
lines_of plant states lines connector = lines_among plant states (plant_interactions plant) lines connector

-- these lines of a connector that can't be fired; nothing of one that can
abbrev pub blocked_lines : PlantDefinition → List Local → List ℕ → ℕ → List ℕ
blocked_lines plant states lines connector =
    if can_fire plant states connector then [] else lines_of plant states lines connector

-- what is printed of a state: these lines of each connector, in order
abbrev pub blocked_text : PlantDefinition → List Local → List ℕ → List ℕ
blocked_text plant states lines = flat_map (blocked_lines plant states lines) (range_with_len 0 (length plant.wires))

-- what is printed of one connector alone
abbrev pub connector_text : PlantDefinition → List Local → List ℕ → ℕ → List ℕ
connector_text plant states lines connector =
    if can_fire plant states connector then wire_name plant connector ++ codes ": can be fired\n" else lines_of plant states lines connector

-- of each connector why it can't be fired, or that it can be
abbrev pub why_text : PlantDefinition → List Local → List ℕ → List ℕ
why_text plant states rules = flat_map (connector_text plant states rules) (range_with_len 0 (length plant.wires))

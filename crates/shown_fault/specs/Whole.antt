-- A fault of no line.
use Rattle.std.specs.Prelude.{ℕ, Bool, true, false, List, [], ◌∷◌, length, codes}
use Rattle.std.specs.Option.{option_map_or}
use Rattle.std.specs.Fmt.{decimal}
use Rattle.priority_filter.specs.declared.fault.OrderFault.TheVariants.{Cycle}
use Rattle.plant_text.specs.Fault.{message_of}
use Rattle.plant_text.specs.declared.fault.Fault.{Fault}
use Rattle.plant_text.specs.declared.fault.Fault.TheVariants.{TooLong, NoAtom, Order}
use Rattle.shown_fault.specs.Shown.{joined, advice_line}
use Rattle.shown_fault.specs.Names.{names_in}
use Rattle.shown_fault.specs.Interaction.{interaction_in}
use Rattle.shown_fault.specs.Circle.{reached, circle_lines}

-- The connectors that are reached from this one by rules, up or down: as many rounds over the rules as there are connectors
-- reach all.
unfoldable pub reached_from : List (List ℕ) → Bool → List ℕ → List (List ℕ)
reached_from lines is_up connector = reached (length (names_in (codes "connector") lines)) is_up (connector ∷ []) lines

-- an interaction, by its connector and its mask
unfoldable pub interaction_line : List ℕ × ℕ → List ℕ
interaction_line interaction =
    advice_line (codes "the rules put connector " ∷ interaction.0 ∷ codes ", mask " ∷ decimal interaction.1 ∷ codes " below itself" ∷ [])

-- an interaction that the rules put below itself, and the rules that lead round from its connector
unfoldable pub round_advice : List (List ℕ) → List ℕ × ℕ → List ℕ
round_advice lines interaction =
    joined (interaction_line interaction ∷
    circle_lines (reached_from lines true interaction.0) (reached_from lines false interaction.0) lines ∷ [])

-- the interaction with this number, and the rules that lead round
unfoldable pub cycle_advice : List (List ℕ) → ℕ → List ℕ
cycle_advice lines number = option_map_or (round_advice lines) (interaction_in (names_in (codes "atom") lines) number lines) []

-- what can be done about a fault of no line
abbrev pub whole_advice : List (List ℕ) → Fault → List ℕ
whole_advice lines TooLong = advice_line (message_of TooLong ∷ [])
whole_advice lines NoAtom = advice_line (codes "write at least one line 'atom NAME'" ∷ [])
whole_advice lines (Order (Cycle number)) = cycle_advice lines number
whole_advice lines fault = []

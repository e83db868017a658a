use Rattle.std.proofs.Common.{◌≡◌, ◌<◌, ◌↔◌, ℕ, true, map}
use Rattle.connector_tree.specs.Masks.{is_set}
use Rattle.plant_model.specs.ConnectorRows.{IsInAll}
use Rattle.plant_model.specs.Interaction.{interaction_of}
use Rattle.plant_model.proofs.connector_rows.leaves_of_all.Given as goal

-- the leaves that take part in all interactions so far
abbrev pub invariant-loop-number : goal.invariant-loop-number
invariant-loop-number l =
    (j : ℕ) → (is_set l.all j ≡ true) ↔ ((j < l.leaves) × IsInAll (map interaction_of l.interactions) l.first l.number j)

-- How a choice and a state are told.
use Rattle.std.specs.Prelude.{◌≡◌, ◌<◌, ◌≤◌, ℕ, ℤ, List, length, map, Result, Ok, Err}
use Rattle.petri_atom.specs.Local.{Local}
use Rattle.plant_model.specs.declared.choice.Choice.{Choice}
use Rattle.plant_model.specs.declared.choice.Move.{Move}
use Rattle.plant_for_c.specs.Statuses.{number_of}
use Rattle.plant_for_c.specs.declared.status.Status.{Status}
use Rattle.kilnmace_c.specs.Told.{IsToldRow}
use Rattle.kilnmace_c.specs.declared.looks.Participant.{Participant}

-- a move, as C has it
abbrev pub participant_of : Move → Participant
participant_of m = record { atom = m.atom; transition = m.transition }

-- A choice is told: how many participants it has; and, if there is room, its connector and these. A refusal leaves all as it was.
abbrev pub IsToldChoice : Result Choice Status → ℕ → ℕ → ℕ → List Participant → List Participant → ℕ → ℕ → Type 0
IsToldChoice (Ok c) status had connector room moves counted count =
    IsToldRow (map participant_of c.moves) status room moves count
    × (length c.moves ≤ length room → connector ≡ c.connector)
    × (length room < length c.moves → connector ≡ had)
IsToldChoice (Err refused) status had connector room moves counted count = (status ≡ number_of refused) × (connector ≡ had) × (moves ≡ room) × (count ≡ counted)

-- A state is told: how many variables it has; and, if there is room, which places are marked, and the values. A refusal leaves all as it was.
abbrev pub IsToldState : Result Local Status → ℕ → ℕ → ℕ → List ℤ → List ℤ → ℕ → ℕ → Type 0
IsToldState (Ok s) status had marked room values counted count =
    IsToldRow s.values status room values count
    × (length s.values ≤ length room → marked ≡ s.marking)
    × (length room < length s.values → marked ≡ had)
IsToldState (Err refused) status had marked room values counted count = (status ≡ number_of refused) × (marked ≡ had) × (values ≡ room) × (count ≡ counted)

-- The moves of what was fired.
use Rattle.std.specs.Prelude.{ℕ, ℤ, ◌==◌, List, [], ◌∷◌, filter, slice_get}
use Rattle.std.specs.Option.{option_map_or}
use Rattle.petri_atom.specs.Local.{Local}
use Rattle.plant_model.specs.Plant.{PlantDefinition}
use Rattle.plant_model.specs.Step.{next}
use Rattle.plant_model.specs.declared.choice.Move.{Move}
use Rattle.run_text.specs.Alone.{alone}
use Rattle.run_text.specs.History.{History}

-- a move that was made: its atom, its transition, and the values of the atom's variables after it
pub record Moved : Type 0 where
  pub atom : ℕ
  pub transition : ℕ
  pub values : List ℤ

-- a move that led to these states
abbrev pub moved_to : List Local → Move → Moved
moved_to states m = record { atom = m.atom; transition = m.transition; values = option_map_or (λ s. s.values) (slice_get states m.atom) [] }

-- moves that led to these states, behind those before them; the last stands first
abbrev pub all_moved_to : List Local → List Move → List Moved → List Moved
all_moved_to states [] past = past
all_moved_to states (m ∷ ms) past = all_moved_to states ms (moved_to states m ∷ past)

-- the moves of all that was fired, the last first
abbrev pub moves_of : PlantDefinition → History → List Moved
moves_of plant [] = []
moves_of plant (step ∷ told) = all_moved_to (next plant step.before (alone step.choice)) step.choice.moves (moves_of plant told)

-- those of one atom
abbrev pub by_atom : ℕ → List Moved → List Moved
by_atom n moves = filter (λ m. m.atom == n) moves

-- The whole state of a plant of which atoms are away, and what these were given to do.
use Rattle.std.specs.Prelude.{◌≡◌, ◌<◌, ℕ, suc, Bool, true, false, List, [], ◌∷◌, length, map, slice_get, slice_set, slice_index, slice_index_or, Option, Some, None, is_none, is_some, option_map, unwrap_or}
use Rattle.std.specs.Option.{option_map_or}
use Rattle.petri_atom.specs.Local.{Local, has}
use Rattle.plant_model.specs.Firing.{FiringDefinition}
use Rattle.plant_model.specs.Plant.{PlantDefinition, of_atom}
use Rattle.plant_model.specs.Step.{transfer}
use Rattle.plant_model.specs.declared.choice.Move.{Move}
use Rattle.step_core.specs.Job.{JobDefinition, job_of, worked}
use Rattle.step_core.specs.Parts.{nothing_shown, parts_of}
use Rattle.step_core.specs.declared.job.Job.{Job}

-- the jobs as they are kept, by the atoms' numbers
abbrev pub kept_in : List (Option Job) → List (Option JobDefinition)
kept_in kept = map (λ j. option_map job_of j) kept

-- an atom that has a job is away
abbrev pub is_out : List (Option JobDefinition) → ℕ → Bool
is_out jobs n = is_some (slice_index_or jobs n None)

-- what is known of a state without the atoms that have jobs
abbrev pub parts_without : List (Option JobDefinition) → List Local → List (Option Local)
parts_without jobs states = parts_of (is_out jobs) states

-- the states of all atoms from the number n on: the parts, and in the place of one that is away another state
abbrev pub filled : (ℕ → Local) → ℕ → List (Option Local) → List Local
filled others n [] = []
filled others n (part ∷ parts) = unwrap_or part (others n) ∷ filled others (suc n) parts

-- the state in which the job of an atom leaves it
abbrev pub ended_at : List (Option JobDefinition) → ℕ → Local
ended_at jobs n = option_map_or worked (slice_index_or jobs n None) nothing_shown

-- the whole state: an atom that is away is where its job will leave it
abbrev pub whole_of : List (Option JobDefinition) → List (Option Local) → List Local
whole_of jobs parts = filled (ended_at jobs) 0 parts

-- the job of a move of a firing: the move's atom fires its transition from the state that it has, with what the firing delivers to it;
-- it carries the atom's count
abbrev pub job_by : PlantDefinition → List Local → List ℕ → FiringDefinition → Move → Option JobDefinition
job_by plant states counts c m = of_atom plant.atoms states m.atom (λ a s. Some (record {
  definition = a;
  atom = m.atom;
  count = slice_index counts m.atom;
  transition = m.transition;
  delivered = transfer plant states c m.atom;
  state = s;
})) None

-- the jobs that atoms have where the atoms of moves of a choice go away
abbrev pub jobs_after : PlantDefinition → List Local → List ℕ → FiringDefinition → List Move → List (Option JobDefinition) → List (Option JobDefinition)
jobs_after plant states counts c [] jobs = jobs
jobs_after plant states counts c (m ∷ ms) jobs = jobs_after plant states counts c ms (slice_set jobs m.atom (job_by plant states counts c m))

-- the atom with a number is away, by what is known of it
abbrev pub is_part_away : List (Option Local) → ℕ → Bool
is_part_away parts n = option_map_or is_none (slice_get parts n) false

-- there is a place for each atom; those that are away have a job, which is their own
pub record AreKept (plant : PlantDefinition) (parts : List (Option Local)) (jobs : List (Option JobDefinition)) : Type 0 where
  pub many : length jobs ≡ length plant.atoms
  pub away : (n : ℕ) → is_part_away parts n ≡ is_out jobs n
  pub own : (n : ℕ) (job : JobDefinition) → slice_index_or jobs n None ≡ Some job → job.atom ≡ n

-- ---- the committed state

-- the committed state, as it is kept: where nothing is kept of an atom it is in the present state
abbrev pub committed_by : List (Option Local) → List Local → List Local
committed_by committed states = filled (λ n. slice_index_or states n nothing_shown) 0 committed

-- there is a part for each atom, and each of which nothing is kept is away
pub record AreCommitted (plant : PlantDefinition) (committed : List (Option Local)) (jobs : List (Option JobDefinition)) : Type 0 where
  pub many : length committed ≡ length plant.atoms
  pub away : (n : ℕ) → is_part_away committed n ≡ true → is_out jobs n ≡ true

-- the atoms that have moved since the last commit are marked: each marked one is there, and the part of any other is the committed one
pub record AreMarked (moved : ℕ) (committed : List (Option Local)) (parts : List (Option Local)) : Type 0 where
  pub there : (n : ℕ) → has moved n ≡ true → n < length parts
  pub others : (n : ℕ) → has moved n ≡ false → slice_get committed n ≡ slice_get parts n

-- ---- how jobs are kept

-- these jobs at the numbers of the atoms of moves
abbrev pub put_all : List Move → List JobDefinition → List (Option JobDefinition) → List (Option JobDefinition)
put_all [] jobs kept = kept
put_all (m ∷ ms) [] kept = kept
put_all (m ∷ ms) (job ∷ jobs) kept = put_all ms jobs (slice_set kept m.atom (Some job))

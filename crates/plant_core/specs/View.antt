-- What a durable plant shows of itself.
use Rattle.std.specs.Prelude.{ℕ, ◌+◌, ◌-◌, Bool, false, List, [], ◌∷◌, ◌++◌, Option, None, length, map, nat_lt, take, drop, slice_get, slice_set}
use Rattle.std.specs.List.{prefix_len}
use Rattle.std.specs.Option.{option_map_or}
use Rattle.petri_atom.specs.Local.{Local}
use Rattle.gated_journal.specs.declared.ring.Ring.{Ring}
use Rattle.plant_model.specs.Choice.{ChoiceDefinition}
use Rattle.plant_model.specs.Chosen.{fired_of}
use Rattle.plant_model.specs.Firing.{FiringDefinition}
use Rattle.plant_model.specs.Plant.{PlantDefinition}
use Rattle.plant_model.specs.Step.{next}
use Rattle.plant_model.specs.declared.fired.Firing.{Firing}
use Rattle.step_core.specs.Job.{JobDefinition}
use Rattle.step_core.specs.Sure.{sure_choices}
use Rattle.step_executor.specs.Outstanding.{jobs_after, parts_without}
use Rattle.record_codec.specs.Saved.{SavedFields}
use Rattle.record_replay.specs.Records.{count_of, counts_after, record_by}
use Rattle.trimmer.specs.Covered.{MarkFields, is_covered, is_held_by, saved_count}
use Rattle.trimmer.specs.declared.saved.SavedAt.{SavedAt}
use Rattle.plant_core.specs.Marks.{mark_of}
use Rattle.plant_core.specs.Snapshots.{SnapshotFields, copies_behind, copy_if_behind, with_held, with_known, without}

-- The acknowledged state, how often each atom has taken part in it, and the number of its last record; the choices that were fired since, each
-- with the values that came in, the state and the counts that they lead to; the number of the first record that is kept, for how many records there is room, and the marks of
-- those that are kept, up to that of the last choice that was fired; what is known of the newest state in the slots of each atom, and the copies of
-- states that were asked for; the job of each atom that is away (in the present state such an atom is where its job leaves it); and whether the device
-- has failed.
pub record View : Type 0 where
  pub acked : List Local
  pub acked_counts : List ℕ
  pub number : ℕ
  pub tail : List FiringDefinition
  pub present : List Local
  pub counts : List ℕ
  pub base : ℕ
  pub ring : ℕ
  pub marks : List MarkFields
  pub saved : List SavedAt
  pub kept : List (Option SavedFields)
  pub away : List (Option JobDefinition)
  pub broken : Bool

-- the view that these make, with the firings as they are kept, where the records stand so
abbrev pub view_by : List Local → List ℕ → ℕ → List Firing → List Local → List ℕ → Ring → List MarkFields → SnapshotFields → List (Option JobDefinition) → Bool → View
view_by acked acked_counts number tail present counts j marks snapshots away broken = record {
  acked = acked;
  acked_counts = acked_counts;
  number = number;
  tail = map fired_of tail;
  present = present;
  counts = counts;
  base = j.base;
  ring = j.ring;
  marks = marks;
  saved = snapshots.saved;
  kept = snapshots.kept;
  away = away;
  broken = broken;
}

-- how many choices were fired in all
abbrev pub fired_number : View → ℕ
fired_number v = v.number + length v.tail

-- the view after one more firing
abbrev pub with_fired : PlantDefinition → FiringDefinition → View → View
with_fired plant f v = record v {
  tail = v.tail ++ f ∷ [];
  present = next plant v.present f;
  counts = counts_after f.moves v.counts;
  marks = v.marks ++ mark_of (record_by plant v.present v.counts (fired_number v + 1) f) ∷ [];
}

-- what is known of the present state without the atoms that are away
abbrev pub parts_in : View → List (Option Local)
parts_in v = parts_without v.away v.present

-- the choices that are sure: all of the present state if no atom is away
abbrev pub sure_in : PlantDefinition → View → List ChoiceDefinition
sure_in plant v = sure_choices plant (parts_in v)

-- the view once jobs are given out
abbrev pub with_away : List (Option JobDefinition) → View → View
with_away away v = record v { away = away }

-- the view after one more firing whose participants go away, each with a job that carries how often it had taken part before
abbrev pub with_begun : PlantDefinition → FiringDefinition → View → View
with_begun plant f v = with_away (jobs_after plant v.present v.counts f f.moves v.away) (with_fired plant f v)

-- the view where the atom of this job is back
abbrev pub with_back : JobDefinition → View → View
with_back job v = with_away (slice_set v.away job.atom None) v

-- the view once all that was fired is acknowledged
abbrev pub with_all_acked : View → View
with_all_acked v = record v {
  acked = v.present;
  acked_counts = v.counts;
  number = fired_number v;
  tail = [];
}

-- the view once a copy of this state is kept
abbrev pub with_asked : SavedFields → View → View
with_asked saved v = record v { kept = with_held saved v.kept }

-- the view once this state is stored, and its copy given up
abbrev pub with_stored : SavedFields → View → View
with_stored saved v = record v {
  saved = with_known saved v.saved;
  kept = without saved v.kept;
}

-- the view once these states are stored, one after another
abbrev pub with_all_stored : List SavedFields → View → View
with_all_stored [] v = v
with_all_stored (saved ∷ rest) v = with_all_stored rest (with_stored saved v)

-- the atom's newest saved state is behind the acknowledged one
abbrev pub is_behind : ℕ → View → Bool
is_behind atom v = nat_lt (saved_count v.saved atom) (count_of v.acked_counts atom)

-- the acknowledged state of an atom as it is saved, if its newest saved state is behind it
abbrev pub behind_state : View → ℕ → Option SavedFields
behind_state v = copy_if_behind v.saved v.acked_counts v.number v.acked

-- those of all atoms, in the order of the atoms
abbrev pub behind_states : View → List SavedFields
behind_states v = copies_behind v.saved v.acked_counts v.number v.acked

-- the marks of the records that are acknowledged
abbrev pub acked_marks : View → List MarkFields
acked_marks v = take (v.number + 1 - v.base) v.marks

-- an atom keeps the base where it is: the first acknowledged record includes a firing of it that its newest saved state does not
abbrev pub is_base_held_by : ℕ → View → Bool
is_base_held_by atom v = option_map_or (is_held_by atom v.saved) (slice_get (acked_marks v) 0) false

-- how many records may go: the longest front of them that are acknowledged and covered
abbrev pub may_go : View → ℕ
may_go v = prefix_len (is_covered v.saved) (acked_marks v)

-- the view without the first records
abbrev pub with_cut : ℕ → View → View
with_cut count v = record v {
  base = v.base + count;
  marks = drop count v.marks;
}

-- What the cells of a device say, whether or not something is wrong with them.
use Rattle.std.specs.Prelude.{ℕ, suc, ◌+◌, ◌-◌, min, List, [], ◌∷◌, Option, length, map, unwrap_or, Ok, Err, Result, slice_index_or}
use Rattle.std.specs.List.{range_with_len}
use Rattle.std.specs.Option.{option_map_or}
use Rattle.std.specs.Prelude.{option_and_then}
use Rattle.petri_atom.specs.Local.{Local}
use Rattle.petri_atom.specs.Definition.{AtomDefinition}
use Rattle.plant_model.specs.Plant.{PlantDefinition}
use Rattle.disk_model.specs.Cells.{Cell, cell}
use Rattle.record_codec.specs.Fired.{FiredFields}
use Rattle.record_codec.specs.declared.entry.Entry.{Entry}
use Rattle.record_codec.specs.Identity.{IdentityFields, identity_in}
use Rattle.record_codec.specs.Ring.{identity_cell}
use Rattle.record_codec.specs.Saved.{SavedFields}
use Rattle.gated_journal.specs.Bases.{base_of, base_cell_of}
use Rattle.gated_journal.specs.Live.{live}
use Rattle.gated_journal.specs.declared.ring.Ring.{Ring}
use Rattle.snapshot_writer.specs.Parcels.{local_in}
use Rattle.snapshot_writer.specs.Slots.{newest}
use Rattle.record_replay.specs.Replay.{Position, part_of, replay_from}
use Rattle.record_replay.specs.declared.fault.ReplayFault.{ReplayFault}

-- what the device was formatted for, by its first cell
abbrev pub identity_held : List Cell → Option IdentityFields
identity_held cells = option_and_then identity_in (cell cells identity_cell)

-- how many records its ring has cells for
abbrev pub ring_held : List Cell → ℕ
ring_held cells = option_map_or (λ (identity : IdentityFields). identity.ring) (identity_held cells) 0

-- the number of the first record that is kept
abbrev pub base_held : List Cell → ℕ
base_held cells = unwrap_or (base_of cells) 1

-- where the records of a device for so many atoms stand, of which the last live one has this number
abbrev pub ring_at : ℕ → List Cell → ℕ → Ring
ring_at atoms cells last = record { atoms = atoms; ring = ring_held cells; base_cell = base_cell_of cells; base = base_held cells; last = last }

-- What stands on a device: where its ring is, its base, the newest saved state of each atom by the atoms' numbers, and the live records.
pub record Contents : Type 0 where
  pub ring : ℕ
  pub base_cell : ℕ
  pub base : ℕ
  pub slots : List SavedFields
  pub records : List FiredFields

-- what stands for an atom of which no state is saved
abbrev pub unsaved : ℕ → SavedFields
unsaved atom = record { atom = atom; count = 0; at = 0; marking = 0; values = [] }

-- the newest saved state of an atom
abbrev pub newest_held : List Cell → ℕ → SavedFields
newest_held cells atom = unwrap_or (newest atom cells) (unsaved atom)

-- what the cells of a device for so many atoms hold
abbrev pub contents_of : ℕ → List Cell → Contents
contents_of atoms cells = record {
  ring = ring_held cells;
  base_cell = base_cell_of cells;
  base = base_held cells;
  slots = map (newest_held cells) (range_with_len 0 atoms);
  records = live (ring_at atoms cells 0) cells;
}

-- the number of the last live record, and base - 1 if none is live
abbrev pub last_number : Contents → ℕ
last_number c = c.base + length c.records - 1

-- where the records stand, as the journal's contracts see it
abbrev pub ring_in : ℕ → Contents → Ring
ring_in atoms c = record { atoms = atoms; ring = c.ring; base_cell = c.base_cell; base = c.base; last = last_number c }

-- where an atom was when its newest state was saved
abbrev pub saved_position : Contents → ℕ → Position
saved_position c atom =
    let saved = slice_index_or c.slots atom (unsaved atom) in
    record { state = local_in saved; count = saved.count }

-- after which record this state was copied
abbrev pub copied_at : Contents → ℕ → ℕ
copied_at c atom = (slice_index_or c.slots atom (unsaved atom)).at

-- How often an atom can have taken part after the record with this number, if it had at most so often before: if it has a part in the record, as often as that
-- says, and never more often than there were firings.
abbrev pub most_at : ℕ → ℕ → ℕ → FiredFields → ℕ
most_at atom most number r = option_map_or (λ (e : Entry). min e.participation number) (part_of atom r) most

-- and after the records from this number on
abbrev pub most_by : ℕ → ℕ → ℕ → List FiredFields → ℕ
most_by atom most number [] = most
most_by atom most number (r ∷ rs) = most_by atom (most_at atom most number r) (number + 1) rs

-- How often an atom can have taken part after the live records: as often as the last one in which it has a part says; if it has a part in none, base - 1 times.
abbrev pub most_firings : Contents → ℕ → ℕ
most_firings c atom = most_by atom (c.base - 1) c.base c.records

-- where the live records bring it from there, or why they do not
abbrev pub replayed : Contents → ℕ → AtomDefinition → Result Position ReplayFault
replayed c atom a = replay_from a atom (saved_position c atom) c.records

-- the place where the records bring it; where it was saved, if they bring it nowhere
abbrev pub place_or : Position → Result Position ReplayFault → Position
place_or saved (Ok place) = place
place_or saved (Err fault) = saved

-- the same of all atoms from a number on
abbrev pub places_from : Contents → ℕ → List AtomDefinition → List Position
places_from c n [] = []
places_from c n (a ∷ rest) = place_or (saved_position c n) (replayed c n a) ∷ places_from c (suc n) rest

-- the state of the plant that the contents lead to, and how often each atom has taken part in it
abbrev pub states_of : PlantDefinition → Contents → List Local
states_of plant c = map (λ (p : Position). p.state) (places_from c 0 plant.atoms)

abbrev pub counts_of : PlantDefinition → Contents → List ℕ
counts_of plant c = map (λ (p : Position). p.count) (places_from c 0 plant.atoms)

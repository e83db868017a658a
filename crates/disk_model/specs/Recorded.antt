-- What a recorded device keeps: its parts have one length, its changes lead to what stands there, the room was made, and what was written since the last sync
-- lies in one stretch.
use Rattle.std.specs.Prelude.{◌≡◌, ◌-◌, ◌≤◌, length, vec_len, vec_capacity}
use Rattle.disk_model.specs.declared.recorded.Recorded.TheInside.{Inside}
use Rattle.disk_model.specs.Recording.{Recording, at_rest, last_moment, moments_before}
use Rattle.disk_model.specs.Stretch.{AreClearOutside, AreSameOutside}

abbrev pub recording_of : Inside → Recording
recording_of r = record {
  present = record { seen = r.bytes.items; pending = r.marks.items };
  past = moments_before (at_rest r.first.items) r.changes.items;
  synced = r.synced.items;
  room = r.room - vec_len r.changes;
}

pub record IsSound (r : Inside) : Type 0 where
  pub marks : length r.marks.items ≡ length r.bytes.items
  pub synced : length r.synced.items ≡ length r.bytes.items
  pub first : length r.first.items ≡ length r.bytes.items
  pub replayed : last_moment (at_rest r.first.items) r.changes.items ≡ record { seen = r.bytes.items; pending = r.marks.items }
  pub within : vec_len r.changes ≤ r.room
  pub made : r.room ≤ vec_capacity r.changes
  pub inside : r.written.to ≤ length r.bytes.items
  pub same : AreSameOutside r.written r.synced.items r.bytes.items
  pub clear : AreClearOutside r.written r.marks.items

-- A device in memory: what stands on it, and the moments that its record of changes gives.
use Rattle.std.specs.Prelude.{ℕ, ◌/◌, ◌%◌, ◌==◌, if◌then◌else◌, Bool, true, false, List, [], ◌∷◌, length, take, replicate}
use Rattle.disk_model.specs.declared.change.Change.{Change}
use Rattle.disk_model.specs.declared.change.Change.TheVariants.{Write, Sync}
use Rattle.disk_model.specs.declared.change.Tear.{Tear}
use Rattle.disk_model.specs.declared.change.Tear.TheVariants.{Old, New, Gates, Mixed}
use Rattle.disk_model.specs.DiskState.{Moment, overwritten}

-- What callers see: the present moment, those before it, the bytes of the last successful sync, and how many changes more
-- the record has room for.
pub record Recording : Type 0 where
  pub present : Moment
  pub past : List Moment
  pub synced : List ℕ
  pub room : ℕ

-- a moment at which nothing is pending
abbrev pub at_rest : List ℕ → Moment
at_rest bytes = record { seen = bytes; pending = replicate (length bytes) false }

-- the moment after a change
abbrev pub moment_after : Moment → Change → Moment
moment_after m (Write piece) = record {
  seen = overwritten piece.at (take piece.put piece.bytes) m.seen;
  pending = overwritten piece.at (replicate piece.count true) m.pending;
}
moment_after m Sync = record { seen = m.seen; pending = replicate (length m.pending) false }

-- the moment after all of these changes
abbrev pub last_moment : Moment → List Change → Moment
last_moment m [] = m
last_moment m (change ∷ changes) = last_moment (moment_after m change) changes

-- the moments before that one, each before its change
abbrev pub moments_before : Moment → List Change → List Moment
moments_before m [] = []
moments_before m (change ∷ changes) = m ∷ moments_before (moment_after m change) changes

-- what a stop leaves of byte i, of which a read gives `seen` and which was `synced` at the last successful sync
abbrev pub byte_left : Tear → ℕ → Bool → ℕ → ℕ → ℕ → ℕ
byte_left tear cell false i seen synced = seen
byte_left Old cell true i seen synced = synced
byte_left New cell true i seen synced = seen
byte_left Gates cell true i seen synced = 0xA5
byte_left Mixed cell true i seen synced = if (i / cell) % 2 == 1 then seen else synced

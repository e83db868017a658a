-- Which records the cells of a ring hold, and which of them are live.
use Rattle.std.specs.Prelude.{◌≡◌, ℕ, ◌==◌, if◌then◌else◌, List, length, map, Option, Some, None}
use Rattle.std.specs.Option.{option_and_then, some_prefix}
use Rattle.std.specs.List.{range_with_len}
use Rattle.std.proofs.Common.{sym, ◌∙◌, ap}
use Rattle.std.proofs.lemmas.List.{length-map}
use Rattle.disk_model.specs.Cells.{Cell, cell}
use Rattle.record_codec.specs.Fired.{FiredFields, fired_in}
use Rattle.record_codec.specs.Ring.{record_cell}
use Rattle.gated_journal.specs.declared.ring.Ring.{Ring}

-- the record that a cell holds, whatever its number: an empty cell holds none
abbrev pub held_in : Cell → Option FiredFields
held_in c = option_and_then fired_in c

-- the record, where its number is n
abbrev pub if_numbered : ℕ → FiredFields → Option FiredFields
if_numbered n fired = if fired.number == n then Some fired else None

-- record n, where the cell holds it
abbrev pub record_in : ℕ → Cell → Option FiredFields
record_in n c = option_and_then (if_numbered n) (held_in c)

-- the records of these numbers, in their order, up to the first whose cell is empty or holds another
abbrev pub live_among : List Cell → (ℕ → ℕ) → List ℕ → List FiredFields
live_among cells place numbers = some_prefix (map (λ n. record_in n (cell cells (place n))) numbers)

-- the cell of record n
abbrev pub place : Ring → ℕ → ℕ
place j n = record_cell j.atoms j.ring n

-- The live records: base, base + 1, .., up to the first cell that is empty or holds another number. A ring has no more
-- than its cells.
abbrev pub live : Ring → List Cell → List FiredFields
live j cells = live_among cells (place j) (range_with_len j.base j.ring)

-- These bodies hold these records, which are numbered in a row.
pub record AreRecords (first : ℕ) (bodies : List (List ℕ)) (records : List FiredFields) : Type 0 where
  pub held : map fired_in bodies ≡ map (λ (r : FiredFields). Some r) records
  pub numbered : map (λ (r : FiredFields). r.number) records ≡ range_with_len first (length records)

-- There are as many bodies as records.
pub records_length : (first : ℕ) (bodies : List (List ℕ)) (records : List FiredFields) → AreRecords first bodies records → length bodies ≡ length records
records_length first bodies records are = sym (length-map bodies fired_in) ∙ ap (λ (l : List (Option FiredFields)). length l) are.held ∙ length-map records (λ (r : FiredFields). Some r)

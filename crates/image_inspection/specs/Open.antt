-- The record cells past the end of the live records that are full.
use Rattle.std.specs.Prelude.{ℕ, ◌+◌, ◌-◌, Bool, false, not, nat_lt, if◌then◌else◌, List, [], ◌++◌, Option, None, Some, codes, decimal, length, option_map}
use Rattle.std.specs.Option.{option_map_or}
use Rattle.std.specs.List.{range_with_len}
use Rattle.disk_model.specs.Cells.{Cell, cell}
use Rattle.record_codec.specs.Fired.{FiredFields, fired_in}
use Rattle.record_codec.specs.Ring.{record_cell}
use Rattle.plant_image.specs.Contents.{Contents}

-- the numbers of the records that have a cell in the round that begins at the base, and are not live
abbrev pub ahead_of : Contents → List ℕ
ahead_of c = range_with_len (c.base + length c.records) (c.ring - length c.records)

-- the number of the record that a body holds, if it holds one
abbrev pub number_in : List ℕ → Option ℕ
number_in body = option_map (λ (r : FiredFields). r.number) (fired_in body)

-- a record below the base: a trim was stopped before it emptied the cell
abbrev pub is_dropped : ℕ → Option ℕ → Bool
is_dropped base number = option_map_or (λ n. nat_lt n base) number false

-- what a full cell holds
abbrev pub record_words : Option ℕ → List ℕ
record_words None = codes "no record"
record_words (Some number) = codes "record " ++ decimal number

-- a doubt begins so
abbrev pub doubt_words : Bool → List ℕ
doubt_words doubted = if doubted then codes "doubt: " else []

-- a full cell past the end: a doubt, unless its record is below the base
abbrev pub open_words : ℕ → ℕ → Option ℕ → List ℕ
open_words base k number = doubt_words (not (is_dropped base number)) ++ codes "open cell " ++ decimal k ++ codes " holds " ++ record_words number ++ codes "\n"

-- what is told of cell k past the end: nothing if it is empty
abbrev pub cell_line : List Cell → ℕ → ℕ → List ℕ
cell_line cells base k = option_map_or (λ body. open_words base k (number_in body)) (cell cells k) []

-- it is full, and not with a record below the base
abbrev pub is_cell_doubted : List Cell → ℕ → ℕ → Bool
is_cell_doubted cells base k = option_map_or (λ body. not (is_dropped base (number_in body))) (cell cells k) false

-- the same of the cell that record n would have
abbrev pub open_line : List Cell → ℕ → Contents → ℕ → List ℕ
open_line cells atoms c n = cell_line cells c.base (record_cell atoms c.ring n)

abbrev pub is_doubted : List Cell → ℕ → Contents → ℕ → Bool
is_doubted cells atoms c n = is_cell_doubted cells c.base (record_cell atoms c.ring n)

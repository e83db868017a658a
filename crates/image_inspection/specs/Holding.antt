-- Which records an atom holds, and how many interactions no atom took part in.
use Rattle.std.specs.Prelude.{ℕ, ◌+◌, ◌-◌, Bool, false, List, Option, count_by, find, map, slice_get}
use Rattle.std.specs.List.{range_with_len}
use Rattle.std.specs.Prelude.{sum, option_map}
use Rattle.std.specs.Option.{option_map_or}
use Rattle.trimmer.specs.Covered.{MarkFields, is_held_by, saved_count}
use Rattle.trimmer.specs.declared.saved.SavedAt.{SavedAt}

-- how many records an atom holds: its firings there come after its newest saved state
abbrev pub behind : List SavedAt → List MarkFields → ℕ → ℕ
behind saved marks atom = count_by (is_held_by atom saved) marks

-- the number of the first of them
abbrev pub first_held : List SavedAt → List MarkFields → ℕ → Option ℕ
first_held saved marks atom = option_map (λ (m : MarkFields). m.number) (find (is_held_by atom saved) marks)

-- the atom keeps the base where it is: it holds the first record
abbrev pub keeps_base : List SavedAt → List MarkFields → ℕ → Bool
keeps_base saved marks atom = option_map_or (is_held_by atom saved) (slice_get marks 0) false

-- how often an atom took part: what its newest saved state includes, and the firings after it
abbrev pub took_part : List SavedAt → List MarkFields → ℕ → ℕ
took_part saved marks atom = saved_count saved atom + behind saved marks atom

-- so many interactions more than the first atoms took part in all
abbrev pub missing : ℕ → List SavedAt → List MarkFields → ℕ → ℕ
missing last saved marks atoms = last - sum (map (took_part saved marks) (range_with_len 0 atoms))

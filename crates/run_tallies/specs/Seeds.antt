-- The seeds of runs, and their random picks.
use Rattle.std.specs.Prelude.{ℕ, ◌+◌, ◌-◌, ◌*◌, ◌^◌, min, List, Option, None, Some}
use Rattle.std.specs.List.{range_with_len}
use Rattle.run_text.specs.Picks.{PickDefinition, counted_picks, random_picks, weighted_picks}
use Rattle.run_tallies.specs.declared.seeds.Seeds.{Seeds}

-- how many seeds there are: none where the last is before the first
abbrev pub number_of : Seeds → ℕ
number_of seeds = seeds.last + 1 - seeds.first

-- the seeds, from the first to the last
abbrev pub seeds_in : Seeds → List ℕ
seeds_in seeds = range_with_len seeds.first (number_of seeds)

-- how many picks all runs have; one more than 2^64 - 1 counts as that
abbrev pub asked_of : Seeds → ℕ
asked_of seeds = min (seeds.count * number_of seeds) (2 ^ 64 - 1)

-- so many random picks by a seed, and by weights where they are given
abbrev pub random_run : Option (List ℕ) → ℕ → ℕ → List PickDefinition
random_run None count seed = counted_picks (random_picks seed count)
random_run (Some weights) count seed = weighted_picks weights (random_picks seed count)

-- Which number of workers a word writes.
use Rattle.std.specs.Prelude.{ℕ, if◌then◌else◌, List, Option, None, Some, nat_le, option_and_then}
use Rattle.plant_words.specs.Numbers.{pick_in}
use Rattle.command_line.specs.declared.workers.TheConstants.{MOST_WORKERS}

-- the number of workers that a word writes: digits alone, of a number that a run may have
abbrev pub workers_in : List ℕ → Option ℕ
workers_in word = option_and_then (λ workers. if nat_le workers MOST_WORKERS then Some workers else None) (pick_in word)

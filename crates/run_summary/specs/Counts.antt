-- How often numbers came.
use Rattle.std.specs.Prelude.{ℕ, ◌-◌, ◌^◌, ◌==◌, min, List, length, map, filter}
use Rattle.std.specs.List.{range_with_len}

-- a count as it is kept: one that would be more than 2^64 - 1 stays there
abbrev pub kept : ℕ → ℕ
kept n = min n (2 ^ 64 - 1)

-- how often a number stands in a list, as it is kept
abbrev pub times : ℕ → List ℕ → ℕ
times k numbers = kept (length (filter (λ n. n == k) numbers))

-- the same of each number below a bound
abbrev pub counts_of : ℕ → List ℕ → List ℕ
counts_of bound numbers = map (λ k. times k numbers) (range_with_len 0 bound)

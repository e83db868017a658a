-- How fast a run was.
use Rattle.std.specs.Prelude.{ℕ, ◌*◌, ◌/◌, ◌==◌, if◌then◌else◌}

-- how many steps a second so many in so many nanoseconds are, rounded down; 0 where no time went by
abbrev pub rate_of : ℕ → ℕ → ℕ
rate_of steps nanoseconds = if nanoseconds == 0 then 0 else steps * 1000000000 / nanoseconds

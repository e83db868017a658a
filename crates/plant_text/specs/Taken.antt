-- How much of a reader is taken.
use Rattle.std.specs.Prelude.{ℕ, ◌+◌, ◌≤◌, ◌<◌, List, length, Option, IfSome}
use Rattle.std.specs.Io.KnownBytes.{Consumes}
use Rattle.text_io.specs.declared.reading.TheConstants.{MAX_TEXT}

-- of a reader with more bytes than a text may have, at most one more than a text may have is taken
abbrev pub TakesFew : Option (List ℕ) → Option (List ℕ) → Type 0
TakesFew old new = IfSome old (λ bytes. MAX_TEXT < length bytes → (given : List ℕ) × (length given ≤ MAX_TEXT + 1) × Consumes old new given)

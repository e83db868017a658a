-- What a reader gives of a line, part by part, and how much of it is kept.
use Rattle.std.specs.Prelude.{◌≡◌, ◌≢◌, ◌≤◌, ℕ, Bool, true, false, List, ◌++◌, length, take, All, Option, OnSome}
use Rattle.std.specs.Io.{IsEmptyOrEndsWith, StopsAt}
use Rattle.std.specs.Io.KnownBytes.{Consumes, IsAtEnd}

-- A part of a line is taken, with a line feed (10) at most at its end, and kept as far as there is room for `most` bytes. The line is
-- whole where the part has a line feed, or is the empty one at the end of the text.
pub record TakesPart (most : ℕ) (old new : Option (List ℕ)) (before after : List ℕ) (is_whole : Bool) : Type 0 where
  pub part : List ℕ
  pub taken : Consumes old new part
  pub kept : after ≡ take most (before ++ part)
  pub stops : StopsAt part 10
  pub ended : is_whole ≡ true → IsEmptyOrEndsWith part 10
  pub unended : is_whole ≡ false → All (λ byte. byte ≢ 10) part
  pub more : is_whole ≡ false → 1 ≤ length part
  pub at_end : is_whole ≡ true → length part ≡ 0 → OnSome old (IsAtEnd new)

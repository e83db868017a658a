-- What is seen of texts that are lent.
use Rattle.std.specs.Prelude.{ℕ, List, [], map, slice_get, unwrap_or}
use Rattle.std.specs.Borrow.{Bor}

-- the texts that a list lends
abbrev pub lists_of : List (Bor (List ℕ)) → List (List ℕ)
lists_of lent = map (λ text. text.now) lent

-- the text at a place of a list; empty if there is none
abbrev pub text_in : List (List ℕ) → ℕ → List ℕ
text_in texts place = unwrap_or (slice_get texts place) []

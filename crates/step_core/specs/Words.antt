-- Numbers of interactions, 64 at a time.
use Rattle.std.specs.Prelude.{◌≡◌, ℕ, ◌/◌, ◌%◌, ◌==◌, ◌&&◌, Bool, true, false}
use Rattle.priority_filter.specs.Members.{has_bit}

-- the number is one of the 64 from 64 times the place on, and its bit in the word is set
abbrev pub in_word : ℕ → ℕ → ℕ → Bool
in_word place word n = n / 64 == place && has_bit word (n % 64)

-- what is right at each number that passes a test, and as it was at all others
abbrev pub IsRightIn : {X : Type 0} → (ℕ → Bool) → (ℕ → X → Type 0) → (ℕ → X) → (ℕ → X) → Type 0
IsRightIn test Right old new =
    ((n : ℕ) → test n ≡ true → Right n (new n)) × ((n : ℕ) → test n ≡ false → new n ≡ old n)

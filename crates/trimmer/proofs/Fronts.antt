-- Fronts of a list whose elements all pass a test.
use Rattle.std.proofs.Common.{◌≡◌, ℕ, zero, suc, ◌+◌, ◌≤◌, Bool, true, false, ◌&&◌, cond, refl, arith, List, [], ◌∷◌, length, take}
use Rattle.std.specs.List.{list_all, prefix_len}
use Rattle.std.proofs.lemmas.Bool.{false≢true}

-- a front that all passes is no longer than the longest such front
pub covered_is_short : {X : Type 0} (p : X → Bool) (xs : List X) (k : ℕ) → k ≤ length xs → list_all p (take k xs) ≡ true → k ≤ prefix_len p xs
covered_is_short p xs zero within all = omega arith
covered_is_short p [] (suc k) within all = absurd (omega arith)
covered_is_short p (x ∷ xs) (suc k) within all =
    elim (p x) as (λ b. (b && list_all p (take k xs)) ≡ true → suc k ≤ cond b (1 + prefix_len p xs) 0) [
      | true ↦ λ rest. let shorter : k ≤ prefix_len p xs = covered_is_short p xs k (omega arith) rest in omega (arith, shorter)
      | false ↦ λ none. absurd (false≢true none)
    ] all

-- and each front that is no longer passes
pub short_is_covered : {X : Type 0} (p : X → Bool) (xs : List X) (k : ℕ) → k ≤ prefix_len p xs → list_all p (take k xs) ≡ true
short_is_covered p xs zero within = refl
short_is_covered p [] (suc k) within = absurd (omega arith)
short_is_covered p (x ∷ xs) (suc k) within =
    elim (p x) as (λ b. suc k ≤ cond b (1 + prefix_len p xs) 0 → (b && list_all p (take k xs)) ≡ true) [
      | true ↦ λ below. short_is_covered p xs k (omega (arith, below))
      | false ↦ λ below. absurd (omega (arith, below))
    ] within

use Rattle.std.proofs.Common.{◌≡◌, ◌<◌, ◌/◌, ℕ, true, length}
use Rattle.std.specs.Prelude.{Some, slice_get}
use Rattle.std.specs.FinSet.{contains}
use Rattle.priority_filter.specs.declared.interaction_set.TheConstants.{ROW_WORDS}
use Rattle.plant_model.specs.Ranks.{is_in_parts}
use Rattle.plant_model.specs.declared.ranks.Part.{Part}
use Rattle.plant_model.proofs.ranks.parts_of.Given as goal

-- the parts so far are of the words before the place
abbrev pub invariant-loop-place : goal.invariant-loop-place
invariant-loop-place l =
    ((k : ℕ) (p : Part) → slice_get l.parts.items k ≡ Some p → p.place < ROW_WORDS) ×
    ((m : ℕ) → is_in_parts l.parts.items m ≡ true → contains l.set m ≡ true) ×
    ((m : ℕ) → m / 64 < l.place → contains l.set m ≡ true → is_in_parts l.parts.items m ≡ true) ×
    (0 < length l.parts.items → (m : ℕ) × (contains l.set m ≡ true))

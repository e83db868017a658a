-- What is kept of what is possible, as it was before some of that changed.
use Rattle.std.specs.Prelude.{◌≡◌, ◌≤◌, ◌&&◌, not, ℕ, Bool, true, false, List, length, map}
use Rattle.std.specs.Ordering.{nat_cmp}
use Rattle.std.specs.FinSet.{FinSet, contains}
use Rattle.priority_filter.specs.Active.{AskAlike, active}
use Rattle.priority_filter.specs.Decided.{is_overruled}
use Rattle.priority_filter.specs.Members.{has_bit}
use Rattle.priority_filter.specs.declared.seen.At.{At}
use Rattle.plant_model.specs.Choice.{Interaction, named}
use Rattle.plant_model.specs.ConnectorRows.{is_of_connector}
use Rattle.plant_model.specs.Plant.{PlantDefinition}
use Rattle.step_core.specs.Standing.{is_always_overruled}

-- an interaction is kept of the possible ones where no rival is above it by the rules that count where some places are marked
abbrev pub is_kept_of_possible : PlantDefinition → List Interaction → (At → Bool) → (ℕ → Bool) → (ℕ → Bool) → ℕ → Bool
is_kept_of_possible plant interactions marked possible rivals n =
    possible n && not (is_overruled (active marked plant.rules) (map named interactions) rivals n)

-- what is kept is right for what was possible, and for what were rivals, before. Both are as before at the interactions of each connector that is
-- not affected, and of these what is possible is overruled by the rules without a condition as before. If nothing is seen anew, the same rules
-- counted
pub record IsKeptBehind (plant : PlantDefinition) (interactions : List Interaction) (affected : ℕ) (is_seen_new : Bool) (marked : At → Bool) (possible rivals : ℕ → Bool) (kept : FinSet nat_cmp) : Type 0 where
  pub marked_before : At → Bool
  pub possible_before : ℕ → Bool
  pub rivals_before : ℕ → Bool
  pub seen_alike : is_seen_new ≡ false → AskAlike plant.rules marked marked_before
  pub possible_alike : (n k : ℕ) → is_of_connector interactions k n ≡ true → has_bit affected k ≡ false → possible n ≡ possible_before n
  pub rivals_alike : (n k : ℕ) → is_of_connector interactions k n ≡ true → has_bit affected k ≡ false → rivals n ≡ rivals_before n
  pub over_alike : (n k : ℕ) → is_of_connector interactions k n ≡ true → has_bit affected k ≡ false → possible n ≡ true
      → is_always_overruled plant interactions rivals n ≡ is_always_overruled plant interactions rivals_before n
  pub none_before : (n : ℕ) → length interactions ≤ n → possible_before n ≡ false
  pub were_kept : (n : ℕ) → contains kept n ≡ is_kept_of_possible plant interactions marked_before possible_before rivals_before n

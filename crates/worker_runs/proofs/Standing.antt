-- What was done, printed and left, for the same plant and device by other names.
use Rattle.std.proofs.Common.{◌≡◌, ◌∙◌, sym, subst, ℕ, ◌+◌, true, false, List, ◌++◌, Option}
use Rattle.std.specs.Io.KnownBytes.{Appends, Keeps}
use Rattle.std.proofs.KnownBytes.{Appends-trans}
use Rattle.disk_model.specs.DiskState.{DiskState}
use Rattle.plant_model.specs.Plant.{PlantDefinition}
use Rattle.plant_core.specs.View.{View, fired_number}
use Rattle.plant_core.specs.declared.events.Event.{Event}
use Rattle.script_lines.specs.Answers.{standing_text}
use Rattle.image_commands.specs.Runs.{IsBootedFrom, StandsForAllAcked}
use Rattle.image_commands.proofs.Appending.{appended_and_kept}
use Rattle.worker_runs.specs.Asked.{AreShared}
use Rattle.worker_runs.specs.Printed.{by_line}
use Rattle.worker_runs.specs.Runs.{IsRunByWorkers}

-- a run whose two texts were appended one after the other
pub run-by : (p q r : PlantDefinition) (digest : List ℕ) (s : DiskState) (seats workers : ℕ) (events : List Event) (before after : View) (fired : ℕ) (a b c d : Option (List ℕ)) →
    p ≡ q → r ≡ p → seats ≡ workers → IsBootedFrom q digest s before → AreShared p before seats events after → fired + fired_number before ≡ fired_number after →
    Appends a b (standing_text r after) → Appends b c (by_line fired) → Keeps c d → IsRunByWorkers q digest s workers events after a d
run-by p q r digest s seats workers events before after fired a b c d same own as_many booted shared counted standing line kept = record {
  before = before;
  booted = booted;
  shared = subst (λ n. AreShared q before n events after) as_many (subst (λ plant. AreShared plant before seats events after) same shared);
  fired = fired;
  counted = counted;
  printed = appended_and_kept a c d (standing_text q after ++ by_line fired)
      (Appends-trans a b c (standing_text q after) (by_line fired) (subst (λ plant. Appends a b (standing_text plant after)) (own ∙ same) standing) line) kept;
}

-- the plant that was booted stands, on the device as it is left, for what it acknowledged
pub stands-so : (p q : PlantDefinition) (text digest : List ℕ) (s m image : DiskState) (v : View) → p ≡ q → text ≡ digest → m.keeps ≡ s.keeps → image ≡ m → v.broken ≡ false →
    (m.keeps ≡ true → v.broken ≡ false → StandsForAllAcked p text m v) → s.keeps ≡ true → StandsForAllAcked q digest image v
stands-so p q text digest s m image v same_plant same_text same_kind same_device whole stands keeps =
    subst (λ (d : DiskState). StandsForAllAcked q digest d v) (sym same_device)
    (subst (λ (t : List ℕ). StandsForAllAcked q t m v) same_text
    (subst (λ (plant : PlantDefinition). StandsForAllAcked plant text m v) same_plant (stands (same_kind ∙ keeps) whole)))

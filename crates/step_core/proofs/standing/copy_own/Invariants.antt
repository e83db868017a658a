use Rattle.std.proofs.Common.{◌≡◌, ◌<◌, ◌/◌, ◌||◌, ℕ, true}
use Rattle.std.specs.FinSet.{contains}
use Rattle.plant_model.specs.ConnectorRows.{is_of_connector}
use Rattle.plant_model.specs.System.{interactions_in}
use Rattle.step_core.proofs.Looked.{IsLooked}
use Rattle.step_core.proofs.standing.copy_own.Given as goal

-- of the words so far the set is right at the connector's interactions, and it is told what other connectors see of them
abbrev pub invariant-loop-place : goal.invariant-loop-place
invariant-loop-place l = record {
  own : (n : ℕ) → is_of_connector (interactions_in l.system) l.connector n ≡ true → n / 64 < l.place → contains l.set n ≡ (contains l.one n || contains l.other n);
  others : (n : ℕ) → (is_of_connector (interactions_in l.system) l.connector n ≡ true → n / 64 < l.place → ⊥) → contains l.set n ≡ contains l.fn.set n;
  looked : IsLooked (interactions_in l.system) l.system.ranks l.connector l.place (contains l.fn.set) (λ n. contains l.one n || contains l.other n) l.rivalry;
}

use Rattle.std.proofs.Common.{◌≡◌, ◌<◌, ℕ, true, false}
use Rattle.std.specs.Prelude.{Some, slice_get}
use Rattle.std.specs.FinSet.{contains}
use Rattle.plant_model.specs.Ranks.{is_in_part}
use Rattle.plant_model.specs.declared.ranks.Part.{Part}
use Rattle.step_core.proofs.keeping.Keeping.has_rival_in.Given as goal

-- no interaction in one of the parts so far is a rival
abbrev pub invariant-loop-part : goal.invariant-loop-part
invariant-loop-part l = (k m : ℕ) (p : Part) → k < l.part-index → slice_get l.parts k ≡ Some p → is_in_part m p ≡ true → contains l.self.rivals.now m ≡ false

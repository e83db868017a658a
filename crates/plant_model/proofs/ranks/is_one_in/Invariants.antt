use Rattle.std.proofs.Common.{◌≡◌, ◌<◌, ℕ, true, false}
use Rattle.std.specs.Prelude.{Some, slice_get}
use Rattle.std.specs.FinSet.{contains}
use Rattle.plant_model.specs.Ranks.{is_in_part}
use Rattle.plant_model.specs.declared.ranks.Part.{Part}
use Rattle.plant_model.proofs.ranks.is_one_in.Given as goal

-- none in one of the parts so far is in the set
abbrev pub invariant-loop-part : goal.invariant-loop-part
invariant-loop-part l = (k m : ℕ) (p : Part) → k < l.part-index → slice_get l.parts k ≡ Some p → is_in_part m p ≡ true → contains l.set m ≡ false

-- How the answers of an inspection tell whether the device failed.
use Rattle.std.proofs.Common.{◌≡◌, sym, refl, subst, false, Bool, Result, Ok, Err}
use Rattle.std.specs.Prelude.{IfErr, IsErrAnd}
use Rattle.disk_model.specs.DiskState.{DiskState, Reads}
use Rattle.disk_model.specs.Reading.{reads_then}
use Rattle.image_inspection.specs.Endings.{has_failed, is_disk}
use Rattle.image_inspection.specs.declared.ending.InspectionEnding.{InspectionEnding}

-- an answer of which no ending is a failure of the device
not-failed : {V : Type 0} (r : Result V InspectionEnding) → IfErr r (λ ending. is_disk ending ≡ false) → has_failed r ≡ false
not-failed (Ok value) none = refl
not-failed (Err ending) none = none

-- some reading and then more, after which the device does not fail
pub reads-whole : {V : Type 0} (r : Result V InspectionEnding) (old mid new : DiskState) → Reads false old mid → Reads false mid new → IfErr r (λ ending. is_disk ending ≡ false) → Reads (has_failed r) old new
reads-whole r old mid new first second none = subst (λ (failed : Bool). Reads failed old new) (sym (not-failed r none)) (reads_then {failed = false} old mid new first second)

-- some reading and then more, with which the inspection ends
pub reads-until : {V : Type 0} (r : Result V InspectionEnding) (ending : InspectionEnding) (old mid new : DiskState) → Reads false old mid → Reads (is_disk ending) mid new → IsErrAnd r (λ told. told ≡ ending) → Reads (has_failed r) old new
reads-until (Ok value) ending old mid new first second ends = absurd ends
reads-until (Err told) ending old mid new first second ends = subst (λ (e : InspectionEnding). Reads (is_disk e) old new) (sym ends) (reads_then {failed = is_disk ending} old mid new first second)

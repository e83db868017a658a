-- What a reader has given where reading its text ends with a fault.
use Rattle.std.proofs.Common.{◌≡◌, ℕ, ◌+◌, List, ◌++◌, length, subst, sym, Option, Result, Ok, Err, IfErr, length-append}
use Rattle.std.specs.Result.{IsErrAnd}
use Rattle.std.specs.Io.KnownBytes.{Consumes}
use Rattle.std.proofs.KnownBytes.{Consumes-trans}
use Rattle.text_io.specs.declared.reading.TextFault.{TextFault}
use Rattle.text_io.specs.Reading.{IsReadBefore, GivesUp}

-- the fault comes after these bytes and one more part
pub gives_up_after : (fault : TextFault) (old now new : Option (List ℕ)) (text part : List ℕ) → IsReadBefore fault (length text + length part)
    → Consumes old now text → Consumes now new part → GivesUp fault old new
gives_up_after fault old now new text part count before more =
    (text ++ part, subst (IsReadBefore fault) (sym (length-append text part)) count, Consumes-trans old now new text part before more)

-- what holds of a fault holds of a result that answers it
pub found_fault : {X : Type 0} (result : Result X TextFault) (fault : TextFault) (P : TextFault → Type 0) → IsErrAnd result (λ told. told ≡ fault) → P fault → IfErr result P
found_fault (Ok x) fault P told holds = tt
found_fault (Err e) fault P told holds = subst P (sym told) holds

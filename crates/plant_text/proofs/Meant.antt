-- What a text means, by what its lines write and the system that is made of that.
use Rattle.std.proofs.Common.{◌≡◌, ◌≢◌, ◌∙◌, ap, sym, ℕ, List, Result, Ok, Err}
use Rattle.std.specs.Prelude.{IfOk, IfErr, OnOk}
use Rattle.std.specs.Result.{IsErrAnd}
use Rattle.plant_model.specs.System.{plant_of}
use Rattle.plant_model.specs.declared.system.System.{System}
use Rattle.plant_text.specs.Fault.{of_no_line}
use Rattle.plant_text.specs.Meaning.{meaning, written_in, with_an_order}
use Rattle.plant_words.specs.Reading.{◌>>=◌}
use Rattle.plant_text.specs.Text.{PlantText, text_of}
use Rattle.plant_text.specs.declared.fault.Fault.TheVariants.{Memory}
use Rattle.plant_text.specs.declared.fault.PlantFault.{PlantFault}

-- a system is the one that the text means
pub system_meant : (result : Result System PlantFault) (text : List ℕ) (written : PlantText) → written_in text ≡ Ok written →
    IfOk result (λ system. text_of (plant_of system) ≡ written) → OnOk result (with_an_order written ≡ Ok written) → IfOk result (λ system. meaning text ≡ Ok (text_of (plant_of system)))
system_meant (Err fault) text written is made ordered = tt
system_meant (Ok system) text written is made ordered = ap (λ read. read >>= with_an_order) is ∙ ordered ∙ ap Ok (sym made)

-- a fault of the system is the one that the text means
pub system_refused : (result : Result System PlantFault) (text : List ℕ) (written : PlantText) → written_in text ≡ Ok written →
    IfErr result (λ told. told ≢ of_no_line Memory → with_an_order written ≡ Err told) → IfErr result (λ told. told ≢ of_no_line Memory → meaning text ≡ Err told)
system_refused (Ok system) text written is refused = tt
system_refused (Err told) text written is refused = λ other. ap (λ read. read >>= with_an_order) is ∙ refused other

-- a fault of its lines is the one that the text means
pub lines_refused : {A : Type 0} (result : Result A PlantFault) (text : List ℕ) (fault : PlantFault) → IsErrAnd result (λ told. told ≡ fault) →
    (fault ≢ of_no_line Memory → written_in text ≡ Err fault) → IfErr result (λ told. told ≢ of_no_line Memory → meaning text ≡ Err told)
lines_refused (Ok x) text fault left refused = tt
lines_refused (Err told) text fault left refused = λ other. ap (λ read. read >>= with_an_order) (refused (λ memory. other (left ∙ memory))) ∙ ap Err (sym left)

-- What the steps of reading a transfer gave.
use Rattle.std.proofs.Common.{◌≡◌, codes, List, ℕ, drop, Result, Ok}
use Rattle.petri_atom.specs.Expression.{Tree}
use Rattle.plant_model.specs.Plant.{TransferDefinition}
use Rattle.plant_model.specs.declared.wire.Export.{Export}
use Rattle.plant_words.specs.declared.line_fault.LineFault.{LineFault}
use Rattle.plant_words.specs.Reading.{◌>>=◌, first_keyword}
use Rattle.plant_words.proofs.Steps.{led_on, same_end}
use Rattle.connector_lines.specs.Rows.{Named, whole_expression, target_in, transfer_in}

-- the target, the sign, and the value, which are the transfer
pub record TransferRead (named : Named) (before : List TransferDefinition) (words : List (List ℕ)) (t : TransferDefinition) : Type 0 where
  pub target : Export
  pub targeted : target_in named before words ≡ Ok target
  pub assigns : Unit {0}
  pub assigned : first_keyword (codes ":=") (drop 1 words) ≡ Ok assigns
  pub value : Tree Export
  pub valued : whole_expression named (drop 1 (drop 1 words)) ≡ Ok value
  pub is : record { target = target; value = value } ≡ t

pub transfer_read : (named : Named) (before : List TransferDefinition) (words : List (List ℕ)) (t : TransferDefinition) →
    transfer_in named before words ≡ Ok t → TransferRead named before words t
transfer_read named before words t told =
    let made : Export → Tree Export → Result TransferDefinition LineFault = λ target value. Ok (record { target = target; value = value }) in
    let valued : Export → Unit {0} → Result TransferDefinition LineFault = λ target assigns. whole_expression named (drop 1 (drop 1 words)) >>= made target in
    let assigned : Export → Result TransferDefinition LineFault = λ target. first_keyword (codes ":=") (drop 1 words) >>= valued target in
    let target = led_on (target_in named before words) assigned t told in
    let assigns = led_on (first_keyword (codes ":=") (drop 1 words)) (valued target.0) t target.2 in
    let value = led_on (whole_expression named (drop 1 (drop 1 words))) (made target.0) t assigns.2 in
    record {
      target = target.0;
      targeted = target.1;
      assigns = assigns.0;
      assigned = assigns.1;
      value = value.0;
      valued = value.1;
      is = same_end (record { target = target.0; value = value.0 }) t value.2;
    }

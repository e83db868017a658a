use Rattle.std.proofs.Common.{◌≡◌, ℕ, ◌*◌, ℤ, List, [], ◌∷◌, ◌++◌, drop, FitsSigned, to_z, of_z, w64, sym, ap, ◌∙◌, rules, arith}
use Rattle.std.proofs.lemmas.Int.{to_z-of_z}
use Rattle.std.proofs.lemmas.List.{take_more_set, drop-drop}
use Rattle.record_codec.specs.Bytes.{signed_number, signed_numbers}
use Rattle.record_codec.proofs.Numbers.{signed_numbers_more}
use Rattle.record_codec.proofs.reader.Reader.signed_run.Goals as goal

pub loop-i-preserved : goal.loop-i-preserved
loop-i-preserved c =
    let i = c.loop-i.i in
    let start = c.args.self.now in
    let fits : FitsSigned w64 c.signed.result = search rules in
    let read : to_z w64 (of_z w64 c.signed.result) ≡ signed_number (drop (8 * i) start) = to_z-of_z w64 c.signed.result fits ∙ c.signed.ensures.value ∙ ap signed_number c.loop-i.invariant.rest in
    record {
      rest = c.signed.ensures.rest ∙ ap (drop 8) c.loop-i.invariant.rest ∙ drop-drop 8 (8 * i) start ∙ ap (λ (n : ℕ). drop n start) (omega arith);
      values =
          take_more_set c.loop-i.into i (to_z w64 (of_z w64 c.signed.result)) (omega arith)
          ∙ ap (λ (front : List ℤ). front ++ to_z w64 (of_z w64 c.signed.result) ∷ []) c.loop-i.invariant.values
          ∙ ap (λ (z : ℤ). signed_numbers i start ++ z ∷ []) read
          ∙ sym (signed_numbers_more i start);
    }

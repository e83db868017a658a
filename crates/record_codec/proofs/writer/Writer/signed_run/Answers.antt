use Rattle.std.proofs.Common.{◌++◌, get_or, ℤ, pos, FitsSigned, w64, ap, ◌∙◌, rules, arith}
use Rattle.std.proofs.lemmas.Int.{to_z-of_z}
use Rattle.std.proofs.lemmas.List.Elements.{All-more}
use Rattle.record_codec.specs.Bytes.{signed_bytes}
use Rattle.record_codec.proofs.Written.{run_more}
use Rattle.record_codec.proofs.writer.Writer.signed_run.Goals as goal

pub loop-number-preserved : goal.loop-number-preserved
loop-number-preserved g c =
    let i = c.loop-number.number-index in
    let numbers = c.args.numbers.now in
    let fits : FitsSigned w64 (get_or numbers i (pos 0)) = search rules in
    record {
      written =
          c.signed.ensures.written
          ∙ ap (λ (z : ℤ). c.loop-number.self ++ signed_bytes z) (to_z-of_z w64 (get_or numbers i (pos 0)) fits)
          ∙ run_more signed_bytes c.args.self.now c.loop-number.self numbers i (pos 0) (omega arith) c.loop-number.invariant.written;
      len = omega arith;
      fits = All-more (FitsSigned w64) numbers i (pos 0) (omega arith) c.loop-number.invariant.fits fits;
    }

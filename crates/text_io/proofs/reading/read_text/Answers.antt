use Rattle.std.proofs.Common.{ℕ, arith, length-take}
use Rattle.std.proofs.lemmas.Grind.{common_steps}
use Rattle.text_io.proofs.Fronts.{gives_up_after, found_fault}
use Rattle.text_io.specs.declared.reading.TextFault.TheVariants.{TooLong, Memory}
use Rattle.text_io.proofs.reading.read_text.Goals as goal

pub returns-then-count-len-clause-gave_up : goal.returns-then-count-len-clause-gave_up
returns-then-count-len-clause-gave_up g c =
    gives_up_after TooLong _ _ _ _ _ (omega (arith, length-take {A = ℕ}, c.in_ok-count.ensures.bound.0, c.next_part.auto.part)) c.loop-text.invariant.given c.in_ok-count.ensures.bytes.0

pub returns-in_err-extend_from_slice-clause-gave_up : goal.returns-in_err-extend_from_slice-clause-gave_up
returns-in_err-extend_from_slice-clause-gave_up g c =
    found_fault _ Memory _ c.from_residual-in_err-extend_from_slice.ensures.1
    (gives_up_after Memory _ _ _ _ _ (grind (arith, common_steps)) c.loop-text.invariant.given c.in_ok-count.ensures.bytes.0)

-- How much of a reader is taken, with a text and without one.
use Rattle.std.proofs.Common.{◌≡◌, ap, ℕ, ◌+◌, ◌≤◌, List, length, Option, Some, None, arith}
use Rattle.std.specs.Prelude.{IfSome}
use Rattle.std.specs.Io.KnownBytes.{Consumes}
use Rattle.text_io.specs.Reading.{GivesUp}
use Rattle.text_io.specs.declared.reading.TheConstants.{MAX_TEXT}
use Rattle.text_io.specs.declared.reading.TextFault.{TextFault}
use Rattle.text_io.specs.declared.reading.TextFault.TheVariants.{TooLong, Memory, Read}
use Rattle.plant_text.specs.Taken.{TakesFew}

-- a reader that gave a text had no more than that
pub few_with_a_text : (old new : Option (List ℕ)) (text : List ℕ) → IfSome old (λ bytes. text ≡ bytes) → length text ≤ MAX_TEXT → TakesFew old new
few_with_a_text None new text all fits = tt
few_with_a_text (Some bytes) new text all fits = λ more. absurd (omega (arith, more, ap length all, fits))

-- so much is read before a fault
few_before : (fault : TextFault) (old new : Option (List ℕ)) → GivesUp fault old new → (given : List ℕ) × (length given ≤ MAX_TEXT + 1) × Consumes old new given
few_before TooLong old new (given, count, consumed) = (given, omega (arith, count), consumed)
few_before Memory old new (given, count, consumed) = (given, omega (arith, count), consumed)
few_before Read old new (given, count, consumed) = (given, omega (arith, count), consumed)

-- a reader that gave none
pub few_without_a_text : (fault : TextFault) (old new : Option (List ℕ)) → GivesUp fault old new → TakesFew old new
few_without_a_text fault None new gave = tt
few_without_a_text fault (Some bytes) new gave = λ more. few_before fault (Some bytes) new gave

use Rattle.std.proofs.Common.{◌∙◌, ap, arith, length}
use Rattle.recovery.proofs.laws.an_image_boots_to_what_it_stands_for.Goals as goal

pub returns-clause-acked : goal.returns-clause-acked
returns-clause-acked c = λ plant digest bytes number cells states v stands booted. booted.acked ∙ stands.states_are

pub returns-clause-present : goal.returns-clause-present
returns-clause-present c = λ plant digest bytes number cells states v stands booted. booted.present ∙ booted.acked ∙ stands.states_are

pub returns-clause-number : goal.returns-clause-number
returns-clause-number c = λ plant digest bytes number cells states v stands booted. omega (arith, booted.number, stands.number_is, ap length booted.tail)

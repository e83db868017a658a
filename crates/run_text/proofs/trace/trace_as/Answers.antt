use Rattle.std.proofs.Common.{◌≡◌, ◌^◌, ◌<◌, ◌∙◌, ap, arith, length, subst, sym}
use Rattle.std.specs.Prelude.{Option, Some, Err, IsErrAnd}
use Rattle.std.proofs.lemmas.Option.{none-some}
use Rattle.plant_model.specs.Step.{initial_states}
use Rattle.plant_model.specs.System.{plant_of}
use Rattle.run_text.specs.Ran.{IfRan}
use Rattle.run_text.specs.Runs.{refusal_of}
use Rattle.run_text.specs.declared.fault.TraceFault.{TraceFault}
use Rattle.run_text.specs.declared.fault.TraceFault.TheVariants.{Refused}
use Rattle.run_text.specs.declared.watching.Reached.{Reached}
use Rattle.run_text.proofs.Takes.{counted-not-refused}
use Rattle.run_text.proofs.trace.trace_as.Goals as goal

pub returns-in_err-tell_run-clause-not_refused : goal.returns-in_err-tell_run-clause-not_refused
returns-in_err-tell_run-clause-not_refused g c = λ refusal is.
    let plant = plant_of c.args.system.now in
    let few : length c.args.picks.now < 2 ^ 64 = omega arith in
    let fault = c.in_err-tell_run.field-0.0 in
    let told = subst (λ r. IfRan r (λ found. found ≡ refusal_of plant c.of-given.result)) c.in_err-tell_run.was c.tell_run.ensures.told.refusal in
    let same : Refused refusal ≡ fault = subst (λ r. IsErrAnd r (λ (e : TraceFault). e ≡ fault)) is c.from_residual.ensures.1 in
    let shown : Some refusal ≡ refusal_of plant c.of-given.result =
    subst (λ (f : TraceFault). IfRan {X = Option Reached} (Err f) (λ found. found ≡ refusal_of plant c.of-given.result)) (sym same) told in
    none-some refusal (sym (shown ∙ ap (refusal_of plant) c.of-given.ensures ∙ counted-not-refused plant c.args.picks.now (initial_states plant) 1 1 (omega (arith, few))))

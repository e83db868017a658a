use Rattle.std.proofs.Common.{◌≡◌, ℕ, List, subst, Ok}
use Rattle.std.specs.Prelude.{IfOk}
use Rattle.std.proofs.lemmas.Result.{IfOk-weaker}
use Rattle.plant_model.specs.System.{plant_of}
use Rattle.plant_text.specs.Meaning.{meaning}
use Rattle.plant_text.specs.Text.{text_of}
use Rattle.plant_text.proofs.OnePlant.{one_meaning}
use Rattle.plant_model.specs.declared.system.System.{System}
use Rattle.plant_text.specs.Draft.{drafted}
use Rattle.plant_text.proofs.Meant.{system_meant, system_refused, lines_refused}
use Rattle.plant_text.proofs.read.plant_of_text.Goals as goal

pub returns-clause-digest : goal.returns-clause-digest
returns-clause-digest c =
    subst (λ (digest : List ℕ). IfOk c.system_of.result (λ (system : System). system.digest ≡ digest)) c.digest_of.ensures c.system_of.ensures.digest

pub returns-clause-plant : goal.returns-clause-plant
returns-clause-plant c = system_meant c.system_of.result c.args.text.now (drafted c.in_ok-draft.draft) c.in_ok-draft.ensures.draft c.system_of.ensures.made c.system_of.ensures.ordered

pub returns-clause-only : goal.returns-clause-only
returns-clause-only c =
    let text = c.args.text.now in
    IfOk-weaker c.system_of.result (λ system. meaning text ≡ Ok (text_of (plant_of system))) _ (λ system is plant other. one_meaning text plant (plant_of system) other is)
    (system_meant c.system_of.result text (drafted c.in_ok-draft.draft) c.in_ok-draft.ensures.draft c.system_of.ensures.made c.system_of.ensures.ordered)

pub returns-clause-fault : goal.returns-clause-fault
returns-clause-fault c = system_refused c.system_of.result c.args.text.now (drafted c.in_ok-draft.draft) c.in_ok-draft.ensures.draft c.system_of.ensures.fault

pub returns-in_err-draft-clause-fault : goal.returns-in_err-draft-clause-fault
returns-in_err-draft-clause-fault c = lines_refused c.from_residual.result c.args.text.now c.in_err-draft.field-0.0 c.from_residual.ensures.1 c.in_err-draft.ensures.fault

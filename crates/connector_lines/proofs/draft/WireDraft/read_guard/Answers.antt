use Rattle.std.proofs.Common.{◌≡◌, subst, IfOk, IfErr, Ok}
use Rattle.petri_atom.specs.Expression.{tree_of}
use Rattle.plant_words.specs.LineFaults.{IsFaultOf, IsLast}
use Rattle.connector_lines.specs.Rows.{Named, whole_expression}
use Rattle.connector_lines.proofs.draft.WireDraft.read_guard.Goals as goal

pub returns-clause-guard : goal.returns-clause-guard
returns-clause-guard g c =
    subst (λ (named : Named). IfOk c.read_whole.result (λ guard. whole_expression named c.args.words.now ≡ Ok (tree_of guard)))
    c.variables.ensures c.read_whole.ensures.expression

pub returns-clause-fault : goal.returns-clause-fault
returns-clause-fault g c =
    subst (λ (named : Named). IfErr c.read_whole.result (IsFaultOf (whole_expression named c.args.words.now)))
    c.variables.ensures c.read_whole.ensures.fault

pub returns-clause-memory : goal.returns-clause-memory
returns-clause-memory g c =
    subst (λ (named : Named). IfErr c.read_whole.result (IsLast (whole_expression named c.args.words.now)))
    c.variables.ensures c.read_whole.ensures.memory

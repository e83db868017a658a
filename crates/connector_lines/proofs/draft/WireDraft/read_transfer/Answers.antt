use Rattle.std.proofs.Common.{◌≡◌, map, subst, List, IfOk, IfErr, Ok}
use Rattle.plant_words.specs.LineFaults.{IsFaultOf, IsLast}
use Rattle.plant_model.specs.Wire.{transfer_of}
use Rattle.plant_model.specs.declared.wire.Transfer.{Transfer}
use Rattle.connector_lines.specs.Draft.{drafted}
use Rattle.connector_lines.specs.Rows.{Named, named_on, transfer_in}
use Rattle.connector_lines.proofs.draft.WireDraft.read_transfer.Goals as goal

pub returns-clause-transfer : goal.returns-clause-transfer
returns-clause-transfer g c =
    let variables = named_on (g.N.Exports.atom_named c.args.names.now) (g.N.Exports.export_named c.args.names.now) (drafted c.args.self.now) in
    subst (λ (before : List Transfer). IfOk c.read_transfer.result (λ t. transfer_in variables (map transfer_of before) c.args.words.now ≡ Ok (transfer_of t))) c.deref.ensures.value
    (subst (λ (named : Named). IfOk c.read_transfer.result (λ t. transfer_in named (map transfer_of c.deref.result.now) c.args.words.now ≡ Ok (transfer_of t))) c.variables.ensures
    c.read_transfer.ensures.transfer)

pub returns-clause-fault : goal.returns-clause-fault
returns-clause-fault g c =
    let variables = named_on (g.N.Exports.atom_named c.args.names.now) (g.N.Exports.export_named c.args.names.now) (drafted c.args.self.now) in
    subst (λ (before : List Transfer). IfErr c.read_transfer.result (IsFaultOf (transfer_in variables (map transfer_of before) c.args.words.now))) c.deref.ensures.value
    (subst (λ (named : Named). IfErr c.read_transfer.result (IsFaultOf (transfer_in named (map transfer_of c.deref.result.now) c.args.words.now))) c.variables.ensures
    c.read_transfer.ensures.fault)

pub returns-clause-memory : goal.returns-clause-memory
returns-clause-memory g c =
    let variables = named_on (g.N.Exports.atom_named c.args.names.now) (g.N.Exports.export_named c.args.names.now) (drafted c.args.self.now) in
    subst (λ (before : List Transfer). IfErr c.read_transfer.result (IsLast (transfer_in variables (map transfer_of before) c.args.words.now))) c.deref.ensures.value
    (subst (λ (named : Named). IfErr c.read_transfer.result (IsLast (transfer_in named (map transfer_of c.deref.result.now) c.args.words.now))) c.variables.ensures
    c.read_transfer.ensures.memory)

use Rattle.std.proofs.Common.{map}
use Rattle.std.proofs.lemmas.Result.{on_ok_weaker, IfErr-weaker}
use Rattle.atom_lines.specs.Draft.{drafted}
use Rattle.connector_lines.specs.Draft.{drafted as wire_defined}
use Rattle.plant_text.proofs.Connectors.{guard_made, guard_refused, guard_same_tree, guard_same_name, transfer_made, transfer_refused, transfer_same_tree, transfer_same_name}
use Rattle.plant_text.proofs.listed.change_wire.Goals as goal

pub returns-in-Guard-clause-added : goal.returns-in-Guard-clause-added
returns-in-Guard-clause-added c =
    rw c.in-Guard.is
    (on_ok_weaker c.add_guard.result (guard_made (map drafted c.args.table.now.drafts.now) c.args.words.now (wire_defined c.args.wire.now) (wire_defined c.add_guard.new.self)) c.add_guard.ensures.added)

pub returns-in-Guard-clause-fault : goal.returns-in-Guard-clause-fault
returns-in-Guard-clause-fault c =
    rw c.in-Guard.is
    (IfErr-weaker c.add_guard.result _ _ (λ fault told other. guard_refused (map drafted c.args.table.now.drafts.now) c.args.words.now (wire_defined c.args.wire.now) fault (told other)) c.add_guard.ensures.fault)

pub returns-in-Transfer-clause-added : goal.returns-in-Transfer-clause-added
returns-in-Transfer-clause-added c =
    rw c.in-Transfer.is
    (on_ok_weaker c.add_transfer.result (transfer_made (map drafted c.args.table.now.drafts.now) c.args.words.now (wire_defined c.args.wire.now) (wire_defined c.add_transfer.new.self)) c.add_transfer.ensures.added)

pub returns-in-Transfer-clause-fault : goal.returns-in-Transfer-clause-fault
returns-in-Transfer-clause-fault c =
    rw c.in-Transfer.is
    (IfErr-weaker c.add_transfer.result _ _ (λ fault told other. transfer_refused (map drafted c.args.table.now.drafts.now) c.args.words.now (wire_defined c.args.wire.now) fault (told other)) c.add_transfer.ensures.fault)

pub returns-in-Guard-clause-same_tree : goal.returns-in-Guard-clause-same_tree
returns-in-Guard-clause-same_tree c =
    guard_same_tree (map drafted c.args.table.now.drafts.now) c.args.words.now (wire_defined c.args.wire.now) (wire_defined c.add_guard.new.self) c.add_guard.result c.add_guard.ensures.added c.add_guard.ensures.unchanged

pub returns-in-Transfer-clause-same_tree : goal.returns-in-Transfer-clause-same_tree
returns-in-Transfer-clause-same_tree c =
    transfer_same_tree (map drafted c.args.table.now.drafts.now) c.args.words.now (wire_defined c.args.wire.now) (wire_defined c.add_transfer.new.self) c.add_transfer.result c.add_transfer.ensures.added c.add_transfer.ensures.unchanged

pub returns-in-Guard-clause-same_name : goal.returns-in-Guard-clause-same_name
returns-in-Guard-clause-same_name c =
    guard_same_name (map drafted c.args.table.now.drafts.now) c.args.words.now (wire_defined c.args.wire.now) (wire_defined c.add_guard.new.self) c.add_guard.result c.add_guard.ensures.added c.add_guard.ensures.unchanged

pub returns-in-Transfer-clause-same_name : goal.returns-in-Transfer-clause-same_name
returns-in-Transfer-clause-same_name c =
    transfer_same_name (map drafted c.args.table.now.drafts.now) c.args.words.now (wire_defined c.args.wire.now) (wire_defined c.add_transfer.new.self) c.add_transfer.result c.add_transfer.ensures.added c.add_transfer.ensures.unchanged
